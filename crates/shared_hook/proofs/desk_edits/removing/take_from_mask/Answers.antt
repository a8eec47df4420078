use Rattle.std.proofs.Common.{◌≡◌, ◌∙◌, ℕ, ◌+◌, refl, sym, subst}
use Rattle.pin_store.specs.declared.shape.Shape.{Shape}
use Rattle.pin_store.specs.Sheets.{base_of}
use Rattle.pin_store.specs.Calls.{seen_by, sheet_of}
use Rattle.mask_table.proofs.OfMirrors.Keeping.{same_base}
use Rattle.desk_actions.specs.OfLedgers.Kept.{commits, base}
use Rattle.desk_masks.specs.Masks.{HasMasks}
use Rattle.desk_parts.specs.Desk.{hook_shape, cells}
use Rattle.shared_hook.specs.OfDeskEdits.Ahead.{IsUnsettled}
use Rattle.shared_hook.proofs.OfDeskEdits.Left.{may_leave, room_for, others_twice}
use Rattle.shared_hook.proofs.OfDeskEdits.Taken.{are_given, accepted, are_taken, still_sized, one_fewer}
use Rattle.shared_hook.proofs.OfDeskEdits.Rewritten.{IsRewritten, now_after, unsettled, goes_on_aside}
use Rattle.shared_hook.proofs.OfDeskEdits.Settled.{size_before}
use Rattle.desk_masks.specs.OfResizes.Refit.{count_now}
use Rattle.filter_state.specs.declared.edit.Edit.{Edit}
use Rattle.hook_store_law.specs.OfEdits.Premises.{now, next, IsAccepted, Loses}
use Rattle.hook_store_law.proofs.OfEdits.OneMask.{loses_after}
use Rattle.desk_masks.proofs.OfFilterCommits.Locating.{own_serial}
use Rattle.shared_hook.proofs.desk_edits.removing.take_from_mask.Goals as goal

pub remove_filter-requires-clause-given : goal.remove_filter-requires-clause-given
remove_filter-requires-clause-given g c = let was = c.args.parts.now in let y = g.E.EditName.edit in let a = c.requires.ahead.1 in let took = c.taken_blocks-given in
    let h = commits was.ledger in let b = base was.ledger in
    are_given was y c.requires.ahead.0 a took.new.pools took.ensures.others (took.ensures.pools h b a.has.pools) took.result.blocks (took.ensures.taken h b a.has.pools)

pub leave_blocks-requires : goal.leave_blocks-requires
leave_blocks-requires g c = let was = c.args.parts.now in let y = g.E.EditName.edit in let a = c.requires.ahead.1 in let took = c.taken_blocks-given in let told = c.remove_filter.ensures in let new = c.remove_filter.new in
    let h = commits was.ledger in let b = base was.ledger in let k = seen_by new.writer.place in let free = took.ensures.pools h b a.has.pools in
    let after = told.pools took.new.pools (are_taken was y c.requires.ahead.0 a took.new.pools took.ensures.others free took.result.blocks (took.ensures.taken h b a.has.pools)) in
    let may = may_leave took.new.pools k new.masks.left_blocks c.left_blocks.result.now (told.left free.one_root) (λ block at. told.left_apart took.new.pools block free at) c.left_blocks.ensures in
    record { room = room_for took.new.pools k (base_of (sheet_of new.writer.place)) c.left_blocks.result.now after may (took.ensures.counted.size ∙ a.has.sized.0) }

pub returns-clause-unsettled : goal.returns-clause-unsettled
returns-clause-unsettled g c = λ mask at. let was = c.args.parts.now in let y = g.E.EditName.edit in let a = c.requires.ahead.1 in let took = c.taken_blocks-given in let told = c.remove_filter.ensures in let new = c.remove_filter.new in
    let slot = c.args.slot in let h = commits was.ledger in let b = base was.ledger in let k = seen_by new.writer.place in let free = took.ensures.pools h b a.has.pools in
    let after = told.pools took.new.pools (are_taken was y c.requires.ahead.0 a took.new.pools took.ensures.others free took.result.blocks (took.ensures.taken h b a.has.pools)) in
    let may = may_leave took.new.pools k new.masks.left_blocks c.left_blocks.result.now (told.left free.one_root) (λ block at. told.left_apart took.new.pools block free at) c.left_blocks.ensures in
    let left = c.leave_blocks.ensures in let pools = c.leave_blocks.new.self in
    let it = a.has.masks.has mask slot at in let done = told.seen it.kept it.stands in
    let others = others_twice was.pools took.new.pools pools took.ensures.others left.others in
    let parts = record was { ledger = record was.ledger { writer = new.writer; point = was.ledger.point + 1 }; pools = pools; masks = new.masks } in
    let w : IsRewritten was parts.ledger pools new.masks slot y = record {
      kept = it.kept;
      stands = it.stands;
      bucket = done.3.bucket;
      within = done.3.within;
      commit = _;
      root = done.3.is_root;
      stamp = refl;
      carries = refl;
      seen = done.4;
      shaped = told.store.shaped ∙ (sym c.requires.store.shaped ∙ a.has.shaped);
      same_base = same_base (sheet_of was.ledger.writer.place) (sheet_of new.writer.place) told.sheet;
      lists = refl;
      point = refl;
      lawful = told.lawful;
      pools_are = left.pools k (base_of (sheet_of new.writer.place)) after may;
      sized = still_sized was.pools pools others (left.size ∙ took.ensures.counted.size) a.has.sized;
      others = others;
      masks_are = subst (λ (s : Shape). HasMasks new.masks s (cells parts.ledger) (commits parts.ledger)) (sym c.requires.store.shaped ∙ a.has.shaped) told.masks;
      rests_but = told.rests_but it.kept it.stands;
    } in
    subst (λ m. IsUnsettled parts m slot) it.serial (unsettled was parts.ledger pools new.masks slot y c.requires.ahead.0 a w)

pub returns-clause-on : goal.returns-clause-on
returns-clause-on g c = let was = c.args.parts.now in let t = c.requires.there in let it = c.requires.ahead.1.has.masks.has t.4.mask_serial c.args.slot t.8 in
    let done = c.remove_filter.ensures.seen it.kept it.stands in
    goes_on_aside (commits was.ledger) (seen_by c.remove_filter.new.writer.place) _ it.kept.mask done.3.bucket done.3.is_root done.4

pub returns-clause-count : goal.returns-clause-count
returns-clause-count g c = λ mask at. let was = c.args.parts.now in let y = g.E.EditName.edit in let t = c.requires.there in let a = c.requires.ahead.1 in
    let h = commits was.ledger in let it = a.has.masks.has mask c.args.slot at in let k = seen_by c.remove_filter.new.writer.place in let done = c.remove_filter.ensures.seen it.kept it.stands in
    let own : mask ≡ t.4.mask_serial = sym it.serial ∙ own_serial h was.masks hook_shape (cells was.ledger) a.has.masks c.args.slot it.kept it.stands t.4.mask_serial t.8 in
    let accepted = subst (λ (z : Edit). IsAccepted h (base was.ledger) z (next h y) c.requires.ahead.0) t.5 (accepted was y c.requires.ahead.0 a) in
    let loses = subst (λ (z : Edit). Loses t.4.mask_serial c.args.handle (now h) (next h z)) (sym t.5) (loses_after h (base was.ledger) t.0 t.1 t.2 t.3 c.args.handle (next h y) c.requires.ahead.0 t.4 accepted t.6 t.7) in
    subst (λ (m : ℕ). count_now k m + 1 ≡ count_now h m) (sym own) (one_fewer h k y t.4.mask_serial c.args.handle (now_after h k _ (was.ledger.point + 1) y done.4 refl) loses)

pub returns-clause-size : goal.returns-clause-size
returns-clause-size g c = λ mask kept at stands. let was = c.args.parts.now in let a = c.requires.ahead.1 in
    size_before was.masks c.remove_filter.new.masks (cells was.ledger) (commits was.ledger) a.has.masks a.rest mask c.args.slot at c.remove_filter.ensures.masks_same kept stands
