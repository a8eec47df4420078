use Rattle.std.proofs.Common.{◌∙◌, ℕ, ◌+◌, List, Option, None, refl, sym, ap, subst, arith}
use Rattle.std.specs.Prelude.{slice_index_or}
use Rattle.pin_store.specs.declared.shape.Shape.{Shape}
use Rattle.pin_store.specs.Sheets.{base_of}
use Rattle.pin_store.specs.Calls.{seen_by, sheet_of}
use Rattle.hook_law.specs.Records.{StatedFilter}
use Rattle.hook_store_law.specs.Stated.{filters_at}
use Rattle.hook_store_law.specs.OfEdits.Premises.{now, next}
use Rattle.mask_table.specs.Buckets.{bucket_for}
use Rattle.mask_table.specs.declared.mirrors.mirror.KeptMask.{KeptMask}
use Rattle.mask_table.proofs.OfMirrors.Keeping.{same_base}
use Rattle.desk_actions.specs.OfLedgers.Kept.{commits, base}
use Rattle.desk_masks.specs.Masks.{HasMasks}
use Rattle.desk_parts.specs.Desk.{hook_shape, cells}
use Rattle.desk_masks.specs.OfFilterCommits.Edits.{HasLater}
use Rattle.desk_masks.proofs.OfFilterCommits.Locating.{home_less}
use Rattle.shared_hook.proofs.OfDeskEdits.Exchanged.{new_can_be_named, exchanges, fits_still}
use Rattle.shared_hook.proofs.OfDeskEdits.Left.{few_free, may_leave, room_for, others_twice}
use Rattle.shared_hook.proofs.OfDeskEdits.Settled.{size_now, desk_settled}
use Rattle.shared_hook.proofs.OfDeskEdits.Taken.{are_given, are_taken, still_sized}
use Rattle.shared_hook.proofs.OfDeskEdits.Rewritten.{IsRewritten, now_here, unsettled, goes_on_aside}
use Rattle.shared_hook.proofs.desk_edits.exchanging.exchange_in_mask.Goals as goal

pub stored_filter-filter-requires : goal.stored_filter-filter-requires
stored_filter-filter-requires g c = let was = c.args.parts.now in let y = g.E.EditName.edit in let a = c.requires.ahead in let t = c.requires.there in let line = c.args.line.now in
    let h = commits was.ledger in
    record { stands = (h, next h y, t.0, t.1, t.2, t.4, new_can_be_named was y c.args.done.now a line c.requires.edit t.0 t.1 t.2 t.3 t.4 t.5 t.6 t.7) }

pub overflow_add-later : goal.overflow_add-later
overflow_add-later g c = let was = c.args.parts.now in let few = few_free was.pools (commits was.ledger) (base was.ledger) c.requires.ahead.has.pools in let enough = c.requires.enough in omega (arith, few, enough)

pub exchange_filter-requires-clause-exchanges : goal.exchange_filter-requires-clause-exchanges
exchange_filter-requires-clause-exchanges g c = let was = c.args.parts.now in let y = g.E.EditName.edit in let a = c.requires.ahead in let t = c.requires.there in let line = c.args.line.now in
    let h = commits was.ledger in
    let can = new_can_be_named was y c.args.done.now a line c.requires.edit t.0 t.1 t.2 t.3 t.4 t.5 t.6 t.7 in
    exchanges was y c.args.done.now a line c.requires.edit t.0 t.1 t.2 t.3 t.4 t.5 t.6 t.7 c.args.slot c.stored_filter-filter.result t.8 (c.stored_filter-filter.ensures.stored h (next h y) t.0 t.1 t.2 t.4 can)

pub exchange_filter-requires-clause-given : goal.exchange_filter-requires-clause-given
exchange_filter-requires-clause-given g c = let was = c.args.parts.now in let y = g.E.EditName.edit in let a = c.requires.ahead in let took = c.taken_blocks-given in
    let h = commits was.ledger in let b = base was.ledger in
    are_given was y c.args.done.now a took.new.pools took.ensures.others (took.ensures.pools h b a.has.pools) took.result.blocks (took.ensures.taken h b a.has.pools)

pub exchange_filter-requires-clause-many : goal.exchange_filter-requires-clause-many
exchange_filter-requires-clause-many g c = λ kept stands. let was = c.args.parts.now in let y = g.E.EditName.edit in let a = c.requires.ahead in let t = c.requires.there in let line = c.args.line.now in
    let h = commits was.ledger in
    let can = new_can_be_named was y c.args.done.now a line c.requires.edit t.0 t.1 t.2 t.3 t.4 t.5 t.6 t.7 in
    let stored = c.stored_filter-filter.ensures.stored h (next h y) t.0 t.1 t.2 t.4 can in
    (c.args.later, c.taken_blocks-given.ensures.count, subst (λ (n : ℕ). HasLater kept.mask.size n (filters_at (now h) kept.mask.serial) c.args.later) (sym (ap (λ (f : StatedFilter). f.handle) stored.is)) (t.9 kept stands))

pub leave_blocks-requires : goal.leave_blocks-requires
leave_blocks-requires g c = let was = c.args.parts.now in let y = g.E.EditName.edit in let a = c.requires.ahead in let took = c.taken_blocks-given in let told = c.exchange_filter.ensures in let new = c.exchange_filter.new in
    let h = commits was.ledger in let b = base was.ledger in let k = seen_by new.writer.place in let free = took.ensures.pools h b a.has.pools in
    let after = told.pools took.new.pools (are_taken was y c.args.done.now a took.new.pools took.ensures.others free took.result.blocks (took.ensures.taken h b a.has.pools)) in
    let may = may_leave took.new.pools k new.masks.left_blocks c.left_blocks.result.now (told.left free.one_root) (λ block at. told.left_apart took.new.pools block free at) c.left_blocks.ensures in
    record { room = room_for took.new.pools k (base_of (sheet_of new.writer.place)) c.left_blocks.result.now after may (took.ensures.counted.size ∙ a.has.sized.0) }

pub returns-clause-desk : goal.returns-clause-desk
returns-clause-desk g c = let was = c.args.parts.now in let y = g.E.EditName.edit in let a = c.requires.ahead in let took = c.taken_blocks-given in let told = c.exchange_filter.ensures in let new = c.exchange_filter.new in
    let t = c.requires.there in let line = c.args.line.now in let filter = c.stored_filter-filter.result in let slot = c.args.slot in
    let h = commits was.ledger in let b = base was.ledger in let k = seen_by new.writer.place in let free = took.ensures.pools h b a.has.pools in
    let after = told.pools took.new.pools (are_taken was y c.args.done.now a took.new.pools took.ensures.others free took.result.blocks (took.ensures.taken h b a.has.pools)) in
    let may = may_leave took.new.pools k new.masks.left_blocks c.left_blocks.result.now (told.left free.one_root) (λ block at. told.left_apart took.new.pools block free at) c.left_blocks.ensures in
    let left = c.leave_blocks.ensures in let pools = c.leave_blocks.new.self in
    let it = a.has.masks.has t.3.mask_serial slot t.8 in let done = told.seen it.kept it.stands in
    let others = others_twice was.pools took.new.pools pools took.ensures.others left.others in
    let parts = record was { ledger = record was.ledger { writer = new.writer; point = was.ledger.point + 1 }; pools = pools; masks = new.masks } in
    let w : IsRewritten was parts.ledger pools new.masks slot y = record {
      kept = it.kept;
      stands = it.stands;
      bucket = bucket_for it.kept.mask.size filter.key.words;
      within = home_less h was.masks hook_shape (cells was.ledger) a.has.masks slot it.kept it.stands filter.key.words;
      commit = _;
      root = refl;
      stamp = refl;
      carries = refl;
      seen = done.3;
      shaped = told.store.shaped ∙ (sym c.requires.store.shaped ∙ a.has.shaped);
      same_base = same_base (sheet_of was.ledger.writer.place) (sheet_of new.writer.place) told.sheet;
      lists = refl;
      point = refl;
      lawful = told.lawful;
      pools_are = left.pools k (base_of (sheet_of new.writer.place)) after may;
      sized = still_sized was.pools pools others (left.size ∙ took.ensures.counted.size) a.has.sized;
      others = others;
      masks_are = subst (λ (s : Shape). HasMasks new.masks s (cells parts.ledger) (commits parts.ledger)) (sym c.requires.store.shaped ∙ a.has.shaped) told.masks;
      rests_but = told.rests_but it.kept it.stands;
    } in
    desk_settled parts it.kept.mask.serial slot (unsettled was parts.ledger pools new.masks slot y c.args.done.now a w) it.kept
    (ap (λ (l : List (Option KeptMask)). slice_index_or l slot None) told.masks_same ∙ it.stands)
    (fits_still was y c.args.done.now a line c.requires.edit t.0 t.1 t.2 t.3 t.4 t.5 t.6 t.7 it.kept.mask.size it.kept.mask.serial (commits parts.ledger) it.serial
    (now_here was parts.ledger pools new.masks slot y c.args.done.now a w) (size_now was.masks (cells was.ledger) h a.has.masks a.rest slot it.kept it.stands))

pub returns-clause-on : goal.returns-clause-on
returns-clause-on g c = let was = c.args.parts.now in let t = c.requires.there in let it = c.requires.ahead.has.masks.has t.3.mask_serial c.args.slot t.8 in let filter = c.stored_filter-filter.result in
    goes_on_aside (commits was.ledger) (seen_by c.exchange_filter.new.writer.place) _ it.kept.mask (bucket_for it.kept.mask.size filter.key.words) refl (c.exchange_filter.ensures.seen it.kept it.stands).3
