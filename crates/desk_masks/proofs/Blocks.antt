-- Each block that a root names is one of the store's.
use Rattle.std.proofs.Common.{ℕ, ◌<◌, ◌≤◌, List, arith}
use mathlib.Core.Logic.{dite}
use native.Mathlib.Decide.{dec_le}
use Rattle.tc_base.specs.declared.hook.Hook.{Hook}
use Rattle.tc_base.specs.declared.hook.Hook.TheVariants as hooks
use Rattle.store_history.specs.declared.history.Commit.{Commit}
use Rattle.store_history.specs.declared.places.TheConstants.{POOL_BLOCKS}
use Rattle.block_codec.specs.declared.places.TheConstants.{BLOCKS}
use Rattle.filter_state.specs.declared.edit.Edit.{Edit}
use Rattle.root_pool_laws.specs.Blocks.{HasBlock}
use Rattle.desk_pools.specs.declared.pools.Pools.{Pools}
use Rattle.desk_pools.specs.Pools.{IsHeadBlock, ArePools}

head_low : (hook : Hook) (block : ℕ) → IsHeadBlock hook block → block < BLOCKS
head_low hooks.Ingress block is = let low : block < 16896 = is.below in omega (arith, low)
head_low hooks.Egress block is = let low : block < BLOCKS = is.below in low

pub named_low : (pools : Pools) (h : List (Commit Edit)) (b root block : ℕ) → ArePools pools h b → HasBlock h root block → block < BLOCKS
named_low pools h b root block p has = dite (dec_le POOL_BLOCKS block)
    (λ (high : POOL_BLOCKS ≤ block). let own = p.heads root block high has in head_low own.0 block own.2)
    (λ (less : POOL_BLOCKS ≤ block → ⊥). omega arith)
