use Rattle.std.proofs.Common.{◌≡◌, ◌∙◌, length, refl, ap}
use Rattle.std.proofs.lemmas.List.FromFn.{length-range_with_len}
use Rattle.store_history.specs.declared.places.TheConstants.{MASK_SLOTS, ACTION_SLOTS, ROWS, POOL_BLOCKS}
use Rattle.desk_pools.proofs.Opening.{pools_open}
use Rattle.desk_pools.proofs.pools.Pools.new.Goals as goal

pub returns-clause-pools : goal.returns-clause-pools
returns-clause-pools c = let blocks = c.in_ok-with_size.ensures in let rows = c.in_ok-with_size-2.ensures in let masks = c.in_ok-with_size-3.ensures in let actions = c.in_ok-with_size-4.ensures in
    pools_open _ (blocks.free, blocks.left) (rows.free, rows.left) (masks.free, masks.left) (actions.free, actions.left) (refl, refl)

pub returns-clause-none : goal.returns-clause-none
returns-clause-none c = record {
  blocks = c.in_ok-with_size.ensures.left;
  rows = c.in_ok-with_size-2.ensures.left;
  masks = c.in_ok-with_size-3.ensures.left;
  actions = c.in_ok-with_size-4.ensures.left;
  ingress = refl;
  egress = refl;
}

pub returns-clause-sizes : goal.returns-clause-sizes
returns-clause-sizes c = (c.in_ok-with_size.ensures.size, c.in_ok-with_size-2.ensures.size, c.in_ok-with_size-3.ensures.size, c.in_ok-with_size-4.ensures.size)

pub returns-clause-all : goal.returns-clause-all
returns-clause-all c = record {
  blocks = ap length c.in_ok-with_size.ensures.free ∙ length-range_with_len 0 POOL_BLOCKS;
  rows = ap length c.in_ok-with_size-2.ensures.free ∙ length-range_with_len 0 ROWS;
  masks = ap length c.in_ok-with_size-3.ensures.free ∙ length-range_with_len 0 MASK_SLOTS;
  actions = ap length c.in_ok-with_size-4.ensures.free ∙ length-range_with_len 0 ACTION_SLOTS;
}
