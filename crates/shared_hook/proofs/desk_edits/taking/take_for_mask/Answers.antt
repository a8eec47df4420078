use Rattle.std.proofs.Common.{◌∙◌, ℕ, List, sym, ap, subst}
use Rattle.desk_pools.specs.OfNumbers.Numbers.{PoolNumbers}
use Rattle.store_history.specs.declared.places.TheConstants.{ROW_BUCKETS, BUCKET_ROOTS, MASK_ROOTS, MASK_SLOTS, ROWS, POOL_BLOCKS}
use Rattle.pin_store.specs.Calls.{IsUnnamed}
use Rattle.desk_pools.specs.declared.pools.Pools.{Pools}
use Rattle.desk_pools.specs.Pools.{IsFreeAt}
use Rattle.desk_pools.specs.Steps.{IsTaken, AreTaken}
use Rattle.shared_hook.proofs.desk_edits.taking.take_for_mask.Goals as goal

pub returns-clause-pools : goal.returns-clause-pools
returns-clause-pools c = λ h b p. c.take_rows.ensures.pools h b (c.take_blocks.ensures.pools h b (c.take_mask-slot.ensures.pools h b p))

pub returns-clause-taken : goal.returns-clause-taken
returns-clause-taken c = λ h b p. let p1 = c.take_mask-slot.ensures.pools h b p in let p2 = c.take_blocks.ensures.pools h b p1 in
    let blocks_same = ap (λ (q : Pools). q.blocks) c.take_rows.ensures.others in
    let masks_same = ap (λ (q : Pools). q.masks) c.take_rows.ensures.others ∙ ap (λ (q : Pools). q.masks) c.take_blocks.ensures.others in record {
      slot_taken = subst (λ (q : PoolNumbers). IsTaken MASK_SLOTS (IsFreeAt h b MASK_ROOTS 1) q c.take_mask-slot.result) (sym masks_same) (c.take_mask-slot.ensures.taken h b p);
      blocks_taken = subst (λ (q : PoolNumbers). AreTaken POOL_BLOCKS (IsUnnamed b h) q c.from_vec.result) (sym blocks_same)
          (subst (λ (xs : List ℕ). AreTaken POOL_BLOCKS (IsUnnamed b h) c.take_blocks.new.self.blocks xs) (sym c.from_vec.ensures) (c.take_blocks.ensures.taken h b p1));
      rows_taken = subst (λ (xs : List ℕ). AreTaken ROWS (IsFreeAt h b BUCKET_ROOTS ROW_BUCKETS) c.take_rows.new.self.rows xs) (sym c.from_vec-2.ensures) (c.take_rows.ensures.taken h b p2);
    }
