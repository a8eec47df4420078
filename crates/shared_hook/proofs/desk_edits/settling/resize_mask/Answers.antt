use Rattle.std.proofs.Common.{◌≡◌, ◌∙◌, ℕ, ◌+◌, ◌/◌, length, refl, sym, ap, subst, arith}
use Rattle.pin_store.specs.declared.shape.Shape.{Shape}
use Rattle.pin_store.specs.Calls.{seen_by}
use Rattle.store_history.specs.History.{root_of}
use Rattle.flow_mask.specs.Sizes.{size_of}
use Rattle.block_codec.proofs.Masking.{sized}
use Rattle.mask_writer.proofs.Standing.{mask_storable}
use Rattle.desk_pools.specs.declared.pools.Pools.{Pools}
use Rattle.desk_actions.specs.OfLedgers.Kept.{commits, base}
use Rattle.desk_actions.specs.Effects.{IsCounted}
use Rattle.desk_masks.specs.Masks.{HasMasks}
use Rattle.desk_parts.specs.Desk.{hook_shape, cells}
use Rattle.desk_masks.specs.OfResizes.Refit.{count_now, MayRefit}
use Rattle.shared_hook.proofs.OfDeskEdits.Left.{few_free, counted_on}
use Rattle.shared_hook.proofs.OfDeskEdits.Refitted.{may_refit, are_out, refit_aside, desk_refitted}
use Rattle.shared_hook.proofs.desk_edits.settling.resize_mask.Goals as goal

pub overflow_add-filters : goal.overflow_add-filters
overflow_add-filters g c = let was = c.args.parts.now in let few = few_free was.pools (commits was.ledger) (base was.ledger) c.requires.unsettled.1.has.pools in let enough = c.requires.enough.0 in omega (arith, few, enough)

pub fit-requires-clause-may : goal.fit-requires-clause-may
fit-requires-clause-may g c = let was = c.args.parts.now in let u = c.requires.unsettled in let took = c.taken_numbers-given in let told = took.ensures in
    let h = commits was.ledger in let b = base was.ledger in let size = c.size_for-size.result in
    let sixteen = (sized size c.size_for-size.ensures.power).0 in let rows = told.counts.1 in let blocks = told.counts.0 in let count = u.2 in
    subst (λ (s : Shape). MayRefit was.masks s (cells was.ledger) h b was.ledger.point c.args.slot size took.result.blocks took.result.rows) (sym (sym c.requires.store.shaped ∙ u.1.has.shaped))
    (may_refit was u.0 c.args.slot u.1 took.new.pools told.others size took.result.blocks took.result.rows c.size_for-size.ensures.power (c.size_for-size.ensures.size ∙ ap size_of count)
    (omega (arith, sixteen, rows)) (omega (arith, blocks, count)) (told.blocks h b u.1.has.pools) (told.rows h b u.1.has.pools) told.rows_were)

pub fit-requires-clause-pools : goal.fit-requires-clause-pools
fit-requires-clause-pools g c = let was = c.args.parts.now in c.taken_numbers-given.ensures.pools (commits was.ledger) (base was.ledger) c.requires.unsettled.1.has.pools

pub fit-requires-clause-out : goal.fit-requires-clause-out
fit-requires-clause-out g c = let was = c.args.parts.now in let u = c.requires.unsettled in let took = c.taken_numbers-given in let told = took.ensures in
    let h = commits was.ledger in let b = base was.ledger in let size = c.size_for-size.result in
    let sixteen = (sized size c.size_for-size.ensures.power).0 in let rows = told.counts.1 in let blocks = told.counts.0 in let count = u.2 in
    are_out was u.0 c.args.slot u.1 took.new.pools told.others size took.result.blocks took.result.rows c.size_for-size.ensures.power (c.size_for-size.ensures.size ∙ ap size_of count)
    (omega (arith, sixteen, rows)) (omega (arith, blocks, count)) (told.blocks h b u.1.has.pools) (told.rows h b u.1.has.pools) told.rows_were

pub returns-clause-desk : goal.returns-clause-desk
returns-clause-desk g c = let was = c.args.parts.now in let u = c.requires.unsettled in let took = c.taken_numbers-given in let told = c.fit.ensures in let new = c.fit.new in
    let ledger = record was.ledger { writer = new.writer } in
    desk_refitted was ledger new.pools new.masks u.0 c.args.slot took.result.rows u.1 (record {
      small = u.1.at.small;
      goes_on = told.goes_on;
      kept = told.kept;
      rest = told.rest;
      journal = told.journal;
      lists = refl;
      shaped = told.store.shaped ∙ (sym c.requires.store.shaped ∙ u.1.has.shaped);
      pools_are = told.pools;
      sized = (
        told.sizes.0,
        told.sizes.1,
        ap (λ (q : Pools). q.masks.size) told.others ∙ (ap (λ (q : Pools). q.masks.size) took.ensures.others ∙ u.1.has.sized.2),
        ap (λ (q : Pools). q.actions.size) told.others ∙ (ap (λ (q : Pools). q.actions.size) took.ensures.others ∙ u.1.has.sized.3),
      );
      ingress = ap (λ (q : Pools). q.ingress) told.others ∙ ap (λ (q : Pools). q.ingress) took.ensures.others;
      egress = ap (λ (q : Pools). q.egress) told.others ∙ ap (λ (q : Pools). q.egress) took.ensures.others;
      masks_are = subst (λ (s : Shape). HasMasks new.masks s (cells ledger) (commits ledger)) (sym c.requires.store.shaped ∙ u.1.has.shaped) told.masks;
    })

pub returns-clause-on : goal.returns-clause-on
returns-clause-on g c = let was = c.args.parts.now in
    refit_aside (commits was.ledger) (seen_by c.fit.new.writer.place) c.args.slot c.taken_numbers-given.result.rows c.requires.unsettled.1.at.small c.fit.ensures.goes_on

pub returns-clause-blocks : goal.returns-clause-blocks
returns-clause-blocks g c = let was = c.args.parts.now in let u = c.requires.unsettled in let took = c.taken_numbers-given in let told = c.fit.ensures in let new = c.fit.new in
    let it = u.1.has.masks.has u.0 c.args.slot u.1.at in
    let count : length new.masks.left_blocks ≡ c.args.filters + 1 = told.count it.kept it.stands ∙ ap (λ (n : ℕ). n + 1) (ap (count_now (commits was.ledger)) it.serial ∙ sym u.2) in
    subst (IsCounted was.pools.blocks new.pools.blocks (c.args.filters + 1)) count
    (counted_on was.pools.blocks took.new.pools.blocks new.pools.blocks (c.args.filters + 1) new.masks.left_blocks took.ensures.block_counted told.blocks.0 told.blocks.1 (told.sizes.0 ∙ sym u.1.has.sized.0))

pub returns-clause-rows : goal.returns-clause-rows
returns-clause-rows g c = λ kept stands. let was = c.args.parts.now in let u = c.requires.unsettled in let took = c.taken_numbers-given in let told = c.fit.ensures in let new = c.fit.new in
    let size = c.size_for-size.result in
    let whole = (mask_storable was.masks hook_shape (cells was.ledger) (root_of (commits was.ledger)) u.1.has.masks.named c.args.slot kept stands).rows in
    let count : length new.masks.left_rows ≡ kept.mask.size / 16 = ap length (told.left kept stands).1 ∙ omega (arith, whole) in
    subst (IsCounted was.pools.rows new.pools.rows (size_of c.args.filters / 16)) count
    (subst (λ (n : ℕ). IsCounted was.pools.rows new.pools.rows (n / 16) (length new.masks.left_rows)) c.size_for-size.ensures.size
    (counted_on was.pools.rows took.new.pools.rows new.pools.rows (size / 16) new.masks.left_rows took.ensures.row_counted told.rows.0 told.rows.1 (told.sizes.1 ∙ sym u.1.has.sized.1)))
