use Rattle.std.proofs.Common.{◌≡◌, ◌∙◌, ℕ, ◌+◌, ◌++◌, ◌∷◌, List, [], length, get_or, refl, sym, ap, subst, arith}
use Rattle.visit_room.specs.declared.names.MaskName.{MaskName}
use Rattle.store_history.specs.declared.history.Commit.{Commit}
use Rattle.store_history.specs.History.{root_of}
use Rattle.pin_store.specs.declared.shape.Shape.{Shape}
use Rattle.filter_state.specs.declared.edit.Edit.{Edit}
use Rattle.mask_table.specs.OfMirrors.Linked.{placed, raise_commits}
use Rattle.hook_law.specs.Standing.{IsMaskAt}
use Rattle.hook_store_law.specs.Blocks.{hook_codec}
use Rattle.desk_heads.specs.OfHeadCommits.Raised.{stored_next}
use Rattle.desk_heads.proofs.OfHeadCommits.Raising.{raise_back, raise_other}
use Rattle.desk_actions.specs.declared.ledgers.ledger.Ledger.{Ledger}
use Rattle.desk_actions.specs.OfLedgers.Kept.{commits, base}
use Rattle.desk_parts.specs.Desk.{cells}
use Rattle.desk_heads.specs.OfMoves.Builds.{HoldsBuilt}
use Rattle.shared_hook.specs.OfDeskEdits.OfMoves.Raises.{IsRaising}
use Rattle.shared_hook.proofs.OfDeskEdits.OfMoves.CanLay.{are_given, can_lay}
use Rattle.shared_hook.proofs.OfDeskEdits.OfMoves.Laid.{handed_on, raising}
use Rattle.shared_hook.proofs.desk_edits.moves.laying.lay_mask.Goals as goal

pub build_mask-requires-clause-can : goal.build_mask-requires-clause-can
build_mask-requires-clause-can g c = let was = c.args.parts.now in let y = g.E.EditName.edit in let up = c.requires.raising in let r = up.2 in let took = c.take_for_mask-slot in let told = took.ensures in let m = c.mask_of-mask.ensures in
    let room = told.taken (commits was.ledger) (base was.ledger) r.pools in
    can_lay up.0 was y up.1 r took.new.pools took.result.0 took.result.1.blocks took.result.1.rows room told.free.0 told.free.1 c.mask_of-mask.result (m.rows ∙ c.as_slice.ensures) c.size_for-size.result c.args.count c.args.serial
    c.size_for-size.ensures.power c.size_for-size.ensures.size told.many.1 told.many.0 c.args.filters.now c.requires.count c.requires.filters c.requires.fit m.serial c.requires.few.2 m.size (ap length m.words ∙ m.count) (m.words ∙ sym c.requires.words)

pub build_mask-requires-clause-given : goal.build_mask-requires-clause-given
build_mask-requires-clause-given g c = let was = c.args.parts.now in let y = g.E.EditName.edit in let up = c.requires.raising in let r = up.2 in let took = c.take_for_mask-slot in let told = took.ensures in
    let room = told.taken (commits was.ledger) (base was.ledger) r.pools in
    (let many = told.many.0 in let count = c.requires.count in omega (arith, many, count), are_given up.0 was y up.1 r took.new.pools took.result.0 took.result.1.blocks took.result.1.rows room told.free.0 told.free.1)

pub returns-clause-raising : goal.returns-clause-raising
returns-clause-raising g c = λ start built r.
    let was = c.args.parts.now in let y = g.E.EditName.edit in let took = c.take_for_mask-slot in let got = took.ensures in let m = c.mask_of-mask.ensures in let told = c.build_mask.ensures in
    let h = commits was.ledger in let b = base was.ledger in let room = got.taken h b r.pools in let pools = took.new.pools in let slot = took.result.0 in let blocks = took.result.1.blocks in let rows = took.result.1.rows in
    let mask = c.mask_of-mask.result in let fs = c.args.filters.now in let rows_are = m.rows ∙ c.as_slice.ensures in let masks = c.build_mask.new.masks in
    let can = can_lay start was y built r pools slot blocks rows room got.free.0 got.free.1 mask rows_are c.size_for-size.result c.args.count c.args.serial
    c.size_for-size.ensures.power c.size_for-size.ensures.size got.many.1 got.many.0 fs c.requires.count c.requires.filters c.requires.fit m.serial c.requires.few.2 m.size (ap length m.words ∙ m.count) (m.words ∙ sym c.requires.words) in
    let new : Ledger = record { lists = was.ledger.lists; writer = c.build_mask.new.writer; point = was.ledger.point } in
    let blk : ℕ = get_or blocks (length fs) 0 in
    let shape = sym c.requires.store.shaped ∙ r.shaped in
    let names : List MaskName = built ++ record { serial = mask.serial; slot = slot } ∷ [] in
    let holds = subst (λ (s : Shape). HoldsBuilt masks s (cells new) (commits new) (base new) y names) shape (told.holds built (subst (λ (s : Shape). HoldsBuilt was.masks s (cells was.ledger) h b y built) (sym shape) r.holds)) in
    let filters : stored_next h y mask.serial ≡ fs = ap (stored_next h y) m.serial ∙ c.requires.filters in
    let is_after = told.seen ∙ (λ t. h ++ raise_commits slot mask blk (placed blocks (sym filters t)) (r.point_is t + 1)) in
    let laid = raising start was y built r pools slot blocks rows room got.free.0 got.free.1 got.left.0 got.left.1 (got.pools h b r.pools) got.others mask rows_are can new masks blk (placed blocks fs) refl refl told.seen told.journal told.sheet
    (told.store.shaped ∙ sym c.requires.store.shaped) told.lawful told.ready (told.rests r.rest) holds told.masks told.spare told.tables (told.pools pools (got.pools h b r.pools) (λ block at in_. (room.blocks_taken.each block at).apart in_))
    (told.actions pools (handed_on start was y built r pools slot blocks rows room got.free.0 got.free.1 got.left.0 got.left.1 (got.pools h b r.pools) got.others mask rows_are can))
    (λ n s at. raise_back h b y slot mask blocks blk r.lawful r.ready can n s (subst (λ (z : List (Commit Edit)). IsMaskAt hook_codec z n s) is_after at))
    (λ root ne away. ap (λ (z : List (Commit Edit)). root_of z root) is_after ∙ raise_other h b y slot mask blocks blk r.lawful r.ready can root ne away)
    got.blocks.size got.rows.size got.masks.size refl in
    subst (λ (n : ℕ). IsRaising start (record was { ledger = new; pools = pools; masks = masks }) y (built ++ record { serial = n; slot = slot } ∷ [])) m.serial laid
