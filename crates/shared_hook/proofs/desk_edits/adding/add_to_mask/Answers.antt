use Rattle.std.proofs.Common.{◌≡◌, ◌∙◌, ℕ, ◌+◌, refl, sym, subst}
use Rattle.pin_store.specs.declared.shape.Shape.{Shape}
use Rattle.pin_store.specs.Calls.{seen_by, sheet_of}
use Rattle.filter_state.specs.declared.refusal.Done.TheVariants as dones
use Rattle.mask_table.specs.Buckets.{bucket_for}
use Rattle.mask_table.proofs.OfMirrors.Keeping.{same_base}
use Rattle.hook_store_law.specs.OfEdits.Premises.{next, filter_of_line}
use Rattle.hook_store_law.proofs.OfEdits.OneMask.{gains_after}
use Rattle.desk_actions.specs.OfLedgers.Kept.{commits, base}
use Rattle.desk_masks.specs.Masks.{HasMasks}
use Rattle.desk_parts.specs.Desk.{hook_shape, cells}
use Rattle.desk_masks.proofs.OfFilterCommits.Locating.{own_serial, home_less}
use Rattle.desk_parts.proofs.OfFilterNames.Answering.{stands_last}
use Rattle.shared_hook.specs.OfDeskEdits.Ahead.{IsUnsettled}
use Rattle.shared_hook.proofs.OfDeskEdits.Taken.{accepted_as, can_be_named, are_given, are_taken, still_sized, one_more}
use Rattle.shared_hook.proofs.OfDeskEdits.Rewritten.{now_after, unsettled, goes_on_aside}
use Rattle.shared_hook.proofs.OfDeskEdits.Settled.{size_before}
use Rattle.desk_masks.specs.OfResizes.Refit.{count_now}
use Rattle.shared_hook.proofs.desk_edits.adding.add_to_mask.Goals as goal

-- src/adding.rt:62:18
pub stored_filter-filter-requires : goal.stored_filter-filter-requires
stored_filter-filter-requires g c = let was = c.args.parts.now in let y = g.E.EditName.edit in let t = c.requires.there in let line = c.args.line.now in
    let h = commits was.ledger in
    let gains = gains_after h (base was.ledger) y (next h y) line t.0 t.1 t.2 (accepted_as was y c.args.done.now c.requires.ahead (dones.Filter t.0 t.1 t.2) t.4) c.requires.add t.3 t.5 in
    record { stands = (h, next h y, t.0, t.1, t.2, t.4, can_be_named was y c.args.done.now c.requires.ahead line t.1 t.2 t.3.mask_serial (stands_last _ _ _ _ gains.filters)) }

-- src/adding.rt:64:5
pub add_filter-requires-clause-adds : goal.add_filter-requires-clause-adds
add_filter-requires-clause-adds g c = let was = c.args.parts.now in let y = g.E.EditName.edit in let t = c.requires.there in let line = c.args.line.now in
    let h = commits was.ledger in let a = c.requires.ahead in
    let accepted = accepted_as was y c.args.done.now a (dones.Filter t.0 t.1 t.2) t.4 in
    let gains = gains_after h (base was.ledger) y (next h y) line t.0 t.1 t.2 accepted c.requires.add t.3 t.5 in
    record {
      state = next h y;
      line = line;
      pref = t.0;
      handle = t.1;
      serials = t.2;
      row = t.3;
      accepted = accepted;
      add = c.requires.add;
      there = t.5;
      rest = a.rest;
      at = t.6;
      stored = c.stored_filter-filter.ensures.stored h (next h y) t.0 t.1 t.2 t.4 (can_be_named was y c.args.done.now a line t.1 t.2 t.3.mask_serial (stands_last _ _ _ _ gains.filters));
      made = a.made;
    }

-- src/adding.rt:64:5
pub add_filter-requires-clause-given : goal.add_filter-requires-clause-given
add_filter-requires-clause-given g c = let was = c.args.parts.now in let y = g.E.EditName.edit in let a = c.requires.ahead in let took = c.taken_blocks-given in
    let h = commits was.ledger in let b = base was.ledger in
    are_given was y c.args.done.now a took.new.pools took.ensures.others (took.ensures.pools h b a.has.pools) took.result.blocks (took.ensures.taken h b a.has.pools)

-- src/adding.rt:26:1
pub returns-clause-unsettled : goal.returns-clause-unsettled
returns-clause-unsettled g c = λ mask at. let was = c.args.parts.now in let y = g.E.EditName.edit in let a = c.requires.ahead in let took = c.taken_blocks-given in let told = c.add_filter.ensures in
    let h = commits was.ledger in let b = base was.ledger in let it = a.has.masks.has mask c.args.slot at in let filter = c.stored_filter-filter.result in
    let parts = record was { ledger = record was.ledger { writer = c.add_filter.new.writer; point = was.ledger.point + 1 }; pools = took.new.pools; masks = c.add_filter.new.masks } in
    subst (λ m. IsUnsettled parts m c.args.slot) it.serial (unsettled was parts.ledger took.new.pools parts.masks c.args.slot y c.args.done.now a (record {
      kept = it.kept;
      stands = it.stands;
      bucket = bucket_for it.kept.mask.size filter.key.words;
      within = home_less h was.masks hook_shape (cells was.ledger) a.has.masks c.args.slot it.kept it.stands filter.key.words;
      commit = _;
      root = refl;
      stamp = refl;
      carries = refl;
      seen = told.seen it.kept it.stands;
      shaped = told.store.shaped ∙ (sym c.requires.store.shaped ∙ a.has.shaped);
      same_base = same_base (sheet_of was.ledger.writer.place) (sheet_of c.add_filter.new.writer.place) told.sheet;
      lists = refl;
      point = refl;
      lawful = told.lawful;
      pools_are = told.pools took.new.pools (are_taken was y c.args.done.now a took.new.pools took.ensures.others (took.ensures.pools h b a.has.pools) took.result.blocks (took.ensures.taken h b a.has.pools));
      sized = still_sized was.pools took.new.pools took.ensures.others took.ensures.counted.size a.has.sized;
      others = took.ensures.others;
      masks_are = subst (λ (s : Shape). HasMasks c.add_filter.new.masks s (cells parts.ledger) (commits parts.ledger)) (sym c.requires.store.shaped ∙ a.has.shaped) told.masks;
      rests_but = told.rests_but it.kept it.stands;
    }))

-- src/adding.rt:26:1
pub returns-clause-on : goal.returns-clause-on
returns-clause-on g c = let was = c.args.parts.now in let t = c.requires.there in let it = c.requires.ahead.has.masks.has t.3.mask_serial c.args.slot t.6 in let filter = c.stored_filter-filter.result in
    goes_on_aside (commits was.ledger) (seen_by c.add_filter.new.writer.place) _ it.kept.mask (bucket_for it.kept.mask.size filter.key.words) refl (c.add_filter.ensures.seen it.kept it.stands)

pub returns-clause-count : goal.returns-clause-count
returns-clause-count g c = λ mask at. let was = c.args.parts.now in let y = g.E.EditName.edit in let t = c.requires.there in let line = c.args.line.now in let a = c.requires.ahead in
    let h = commits was.ledger in let it = a.has.masks.has mask c.args.slot at in let k = seen_by c.add_filter.new.writer.place in
    let own : mask ≡ t.3.mask_serial = sym it.serial ∙ own_serial h was.masks hook_shape (cells was.ledger) a.has.masks c.args.slot it.kept it.stands t.3.mask_serial t.6 in
    let gains = gains_after h (base was.ledger) y (next h y) line t.0 t.1 t.2 (accepted_as was y c.args.done.now a (dones.Filter t.0 t.1 t.2) t.4) c.requires.add t.3 t.5 in
    let here = now_after h k _ (was.ledger.point + 1) y (c.add_filter.ensures.seen it.kept it.stands) refl in
    subst (λ (m : ℕ). count_now k m ≡ count_now h m + 1) (sym own) (one_more h k y t.3.mask_serial (filter_of_line line t.1 t.2) here gains.filters)

pub returns-clause-size : goal.returns-clause-size
returns-clause-size g c = λ mask kept at stands. let was = c.args.parts.now in let a = c.requires.ahead in
    size_before was.masks c.add_filter.new.masks (cells was.ledger) (commits was.ledger) a.has.masks a.rest mask c.args.slot at c.add_filter.ensures.masks_same kept stands
