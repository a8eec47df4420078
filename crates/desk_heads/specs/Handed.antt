-- What a caller hands to an edit that goes to a head, and what of the pools it must know (this project's
-- own). `h` is all commits before the edit's, b is the base, and y is the edit.
use Rattle.std.specs.Prelude.{ℕ, List}
use Rattle.tc_base.specs.declared.hook.Hook.{Hook}
use Rattle.tc_base.specs.declared.hook.Hook.TheVariants.{Ingress, Egress}
use Rattle.store_history.specs.declared.history.Commit.{Commit}
use Rattle.filter_state.specs.declared.edit.Edit.{Edit}
use Rattle.hook_law.specs.Standing.{IsIn}
use Rattle.hook_law.specs.Numbered.{IsPutAction}
use Rattle.hook_store_law.specs.Stated.{hook_meaning}
use Rattle.hook_store_law.specs.Blocks.{hook_codec}
use Rattle.desk_pools.specs.declared.pools.IdlePlace.{IdlePlace}
use Rattle.desk_pools.specs.declared.pools.Pools.{Pools}
use Rattle.desk_pools.specs.Steps.{IsInPool}

-- the place of a hook that isn't active
abbrev pub idle_of : Hook → Pools → IdlePlace
idle_of Ingress pools = pools.ingress
idle_of Egress pools = pools.egress

-- what was handed in is in no pool: blocks, rows and the slot of a mask
pub record AreHanded (pools : Pools) (blocks rows : List ℕ) (slot : ℕ) : Type 0 where
  pub blocks_apart : (block : ℕ) → IsIn block blocks → IsInPool block pools.blocks → ⊥
  pub rows_apart : (row : ℕ) → IsIn row rows → IsInPool row pools.rows → ⊥
  pub slot_apart : IsInPool slot pools.masks → ⊥

-- nor is the slot of an action that was put for the edit
abbrev pub AreActionsHanded : Pools → List (Commit Edit) → ℕ → Edit → Type 0
AreActionsHanded pools h b y = (action : ℕ) (put : IsPutAction hook_meaning hook_codec b h y action)
    → IsInPool put.slot pools.actions → ⊥
