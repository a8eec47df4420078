-- The tables that an edit gives a hook, in the law's terms (this project's own). `h` is all commits before
-- the head's, b is the base, and y is the edit.
use Rattle.std.specs.Prelude.{◌≡◌, ◌≢◌, ℕ, ◌<◌, ◌≤◌, ◌⊎◌, List, length, map, slice_get, Some, All}
use Rattle.tc_base.specs.declared.hook.Hook.{Hook}
use Rattle.store_history.specs.declared.history.Commit.{Commit}
use Rattle.store_history.specs.History.{root_of}
use Rattle.flow_mask.specs.Sizes.{size_of}
use Rattle.filter_state.specs.declared.edit.Edit.{Edit}
use Rattle.block_codec.specs.declared.table.StoredTable.{StoredTable}
use Rattle.block_codec.specs.declared.places.TheConstants.{TABLES}
use Rattle.miniq_pair.specs.Heads.{hook_number}
use Rattle.hook_law.specs.Places.{hooks, head_root}
use Rattle.hook_law.specs.Standing.{Names, IsMaskAt}
use Rattle.hook_law.specs.Keeping.{IsAtRest}
use Rattle.hook_law.specs.Heads.{IsPrepared}
use Rattle.hook_store_law.specs.Stated.{hook_meaning, tables_at, filters_at}
use Rattle.hook_store_law.specs.Blocks.{hook_codec}
use Rattle.hook_store_law.specs.OfEdits.Premises.{now, next, LeavesOtherHook}
use Rattle.desk_masks.specs.OfHeadChains.Chains.{stated_of, FitsTable, IsNamedIn}

-- The masks that were made or made anew for the edit, each at its slot: they were prepared, with the sizes
-- for their filters, and two at different slots have no row in common.
pub record AreFresh (h : List (Commit Edit)) (b : ℕ) (y : Edit) (IsFresh : ℕ → ℕ → Type 0) : Type 0 where
  pub prepared : (mask slot : ℕ) → IsFresh mask slot → IsPrepared hook_meaning hook_codec b h y mask slot
  pub sized : (mask slot : ℕ) → IsFresh mask slot → (it : IsPrepared hook_meaning hook_codec b h y mask slot)
      → it.record_read.size ≡ size_of (length (filters_at (next h y) mask))
  pub apart : (mask other slot place i j row : ℕ) → IsFresh mask slot → IsFresh other place
      → (one : IsPrepared hook_meaning hook_codec b h y mask slot)
      → (two : IsPrepared hook_meaning hook_codec b h y other place)
      → slice_get one.record_read.rows i ≡ Some row → slice_get two.record_read.rows j ≡ Some row
      → slot ≡ place

-- The tables are those of the hook as the edit leaves it. The edit leaves all masks alone but those that it
-- concerns, which the other hook doesn't have. Each mask that the tables name is fresh, or it had that slot
-- and isn't concerned.
pub record AreGiven (h : List (Commit Edit)) (b : ℕ) (y : Edit) (hook : Hook) (IsConcerned : ℕ → Type 0)
    (IsFresh : ℕ → ℕ → Type 0) (tables : List StoredTable) : Type 0 where
  pub rest : IsAtRest hook_meaning hook_codec h
  pub leaves : LeavesOtherHook hook IsConcerned (now h) (next h y)
  pub elsewhere : (mask slot other : ℕ) → IsConcerned mask → other < hooks → other ≢ hook_number hook
      → Names hook_codec (root_of h (head_root other)).chain mask slot → ⊥
  pub fit : All FitsTable tables
  pub few : length tables ≤ TABLES
  pub are : map stated_of tables ≡ tables_at (next h y) (hook_number hook)
  pub fresh : AreFresh h b y IsFresh
  pub concerned : (mask slot : ℕ) → IsFresh mask slot → IsConcerned mask
  pub named : (mask slot : ℕ) → IsNamedIn tables mask slot
      → IsFresh mask slot ⊎ (IsMaskAt hook_codec h mask slot × (IsConcerned mask → ⊥))
