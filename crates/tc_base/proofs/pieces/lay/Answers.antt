use Rattle.std.proofs.Common.{◌≡◌, ◌+◌, ◌++◌, List, length, slice_index_or, sym, ap, ◌∙◌, subst, arith}
use Rattle.tc_base.specs.declared.pieces.Stretch.{Stretch}
use Rattle.tc_base.specs.Pieces.{piece_of, IsWithin, GoesOn}
use Rattle.tc_base.proofs.Stretches.{last_grows, longer_piece}
use Rattle.tc_base.proofs.pieces.lay.Goals as goal

pub returns-in-Some-clause-joined : goal.returns-in-Some-clause-joined
returns-in-Some-clause-joined c lent own within here =
    let items = c.args.stretches.now.items in
    let told : c.deref.result.now ≡ items = grind (arith) in
    let last = c.index_mut.result.now in
    let count : c.in-Some.last + 1 ≡ length items = c.in-Some.ensures.last ∙ ap length told in
    let is : slice_index_or items c.in-Some.last last ≡ last = grind (arith) in
    let goes = subst (λ (s : Stretch). GoesOn s c.args.stretch) is (subst (λ (ss : List Stretch). GoesOn (slice_index_or ss c.in-Some.last last) c.args.stretch) told (c.in-Some.ensures.goes_on last)) in
    let first = subst (IsWithin lent own) is (within c.in-Some.last last (omega arith)) in
    last_grows (piece_of lent own) items c.in-Some.last last _ (piece_of lent own c.args.stretch) count
    (longer_piece lent own last c.args.stretch goes first.order here.order
    ∙ ap (λ (s : Stretch). piece_of lent own s ++ piece_of lent own c.args.stretch) (sym is))
