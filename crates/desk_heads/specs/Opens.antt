-- An edit that makes a mask (this project's own). `h` is all commits before the edit's, b is the base, and y
-- is the edit.
use Rattle.std.specs.Prelude.{◌≡◌, ℕ, List, [], ◌∷◌}
use Rattle.tc_base.specs.declared.hook.Hook.{Hook}
use Rattle.store_history.specs.declared.history.Commit.{Commit}
use Rattle.filter_state.specs.declared.edit.Edit.{Edit}
use Rattle.block_codec.specs.declared.filter.StoredFilter.{StoredFilter}
use Rattle.block_codec.specs.declared.mask.StoredMask.{StoredMask}
use Rattle.hook_store_law.specs.OfEffects.Parts.{Stands}
use Rattle.hook_law.specs.Keeping.{IsAtRest}
use Rattle.hook_store_law.specs.Stated.{hook_meaning}
use Rattle.hook_store_law.specs.Blocks.{hook_codec}
use Rattle.hook_store_law.specs.OfEdits.Premises.{now, next, LeavesOtherHook}
use Rattle.desk_heads.specs.OfHeadCommits.Raised.{stored_next, IsReady, CanRaise}

-- the edit makes the mask, in a table of the hook, with this filter alone, and changes no other mask
pub record OpensMask (h : List (Commit Edit)) (b : ℕ) (y : Edit) (hook : Hook) (slot : ℕ) (mask : StoredMask)
    (filter : StoredFilter) (given : List ℕ) : Type 0 where
  pub ready : IsReady h b y
  pub rest : IsAtRest hook_meaning hook_codec h
  pub can : CanRaise h b y slot mask given
  pub filters : stored_next h y mask.serial ≡ filter ∷ []
  pub leaves : LeavesOtherHook hook (λ other. other ≡ mask.serial) (now h) (next h y)
  pub new : Stands (now h) mask.serial → ⊥
