use Rattle.std.proofs.Common.{◌≡◌, ◌+◌, ◌++◌, List, length, map, arith, sym, ap, ◌∙◌, subst}
use Rattle.tc_base.specs.declared.pieces.Stretch.{Stretch}
use Rattle.tc_base.specs.Pieces.{joined, piece_of, AreWithin}
use Rattle.tc_base.proofs.Stretches.{are_within_more, own_stretch, own_within, more_joined}
use Rattle.tc_base.proofs.pieces.Pieces.push.Goals as goal

pub invariant_of-self-2 : goal.invariant_of-self-2
invariant_of-self-2 c =
    let lent = c.self.inside.lent.now in
    let own = c.self.inside.own.items in
    let bytes = c.args.bytes.now in
    let within = are_within_more lent own bytes c.self.inside.stretches.items c.self.invariant in
    let here = own_within lent own bytes c.len-start.result c.saturating_add-end.result (grind arith) (grind arith) in
    rw (c.in_ok-extend_from_slice.ensures.items)
    (c.lay.ensures.within lent (own ++ bytes) (subst (AreWithin lent (own ++ bytes)) (sym c.in_ok-reserve.ensures.items) within) here)

pub returns-clause-ok : goal.returns-clause-ok
returns-clause-ok c =
    let lent = c.self.inside.lent.now in
    let own = c.self.inside.own.items in
    let bytes = c.args.bytes.now in
    let start : c.len-start.result ≡ length own = grind arith in
    let end : c.saturating_add-end.result ≡ length own + length bytes = grind arith in
    let within = are_within_more lent own bytes c.self.inside.stretches.items c.self.invariant in
    let here = own_within lent own bytes c.len-start.result c.saturating_add-end.result start end in
    let laid = c.lay.ensures.joined lent (own ++ bytes) (subst (AreWithin lent (own ++ bytes)) (sym c.in_ok-reserve.ensures.items) within) here in
    rw (c.in_ok-extend_from_slice.ensures.items, ← c.self.view_is)
    (more_joined lent own bytes c.self.inside.stretches.items c.lay.new.stretches.items c.len-start.result c.saturating_add-end.result start end c.self.invariant
    (laid ∙ ap (λ (ss : List Stretch). joined (map (piece_of lent (own ++ bytes)) ss) ++ piece_of lent (own ++ bytes) (own_stretch c.len-start.result c.saturating_add-end.result)) c.in_ok-reserve.ensures.items))
