-- What holds of a desk while an edit of filters is done (this project's own). The lists are edited first, and
-- the commits follow them.
use Rattle.std.specs.Prelude.{◌≡◌, ◌⊎◌, ℕ, ◌+◌, ◌<◌, ◌≤◌, List, ◌++◌, length, Ok}
use Rattle.tc_base.specs.declared.hook.Hook.TheVariants.{Ingress, Egress}
use Rattle.store_history.specs.declared.history.Commit.{Commit}
use Rattle.store_history.specs.History.{root_of, edits_of}
use Rattle.filter_state.specs.declared.edit.Edit.{Edit}
use Rattle.filter_state.specs.declared.refusal.Done.{Done}
use Rattle.filter_state.specs.Lines.{IsLine}
use Rattle.filter_state.specs.Steps.{step}
use Rattle.filter_lists.specs.Spells.{Spells}
use Rattle.store_history.specs.declared.places.TheConstants.{ROW_BUCKETS}
use Rattle.miniq_pair.specs.Pairs.{other_place}
use Rattle.hook_law.specs.Places.{mask_root, bucket_root}
use Rattle.hook_law.specs.Meaning.{point_of, IsLive}
use Rattle.hook_law.specs.Standing.{IsMaskAt}
use Rattle.hook_law.specs.Keeping.{IsAtRest, IsAtRestBut}
use Rattle.hook_law.specs.Numbered.{PutsActions}
use Rattle.hook_store_law.specs.Stated.{hook_meaning}
use Rattle.hook_store_law.specs.Blocks.{hook_codec}
use Rattle.hook_store_law.specs.Kept.{KeepsHook}
use Rattle.hook_store_law.specs.OfEdits.Premises.{now, next}
use Rattle.desk_pools.specs.Pools.{ArePools}
use Rattle.desk_pools.specs.Steps.{IsInPool}
use Rattle.desk_actions.specs.OfLedgers.Kept.{commits, base}
use Rattle.desk_actions.specs.Places.{slot_of, AreHere, AreHereFor}
use Rattle.desk_parts.specs.OfLineActions.Put.{IsPlaced, IsNoSlot, HaveNoSlots}
use Rattle.desk_masks.specs.Masks.{HasMasks}
use Rattle.desk_masks.specs.Tables.{HasTables}
use Rattle.desk_parts.specs.declared.parts.Parts.{Parts}
use Rattle.desk_parts.specs.Desk.{shape_of, hook_shape, cells, AreSized}

-- the commits keep the law, with so many edits
pub record IsLawfulAt (h : List (Commit Edit)) (b point : ℕ) : Type 0 where
  pub low : b ≤ length h
  pub keeps : KeepsHook h b
  pub point_is : point ≡ point_of h

-- what holds of a desk after each commit, whatever its lists are
pub record HasParts (parts : Parts) : Type 0 where
  pub shaped : shape_of parts.ledger.writer.place ≡ hook_shape
  pub kept : IsLawfulAt (commits parts.ledger) (base parts.ledger) parts.ledger.point
  pub pools : ArePools parts.pools (commits parts.ledger) (base parts.ledger)
  pub sized : AreSized parts.pools
  pub masks : HasMasks parts.masks hook_shape (cells parts.ledger) (commits parts.ledger)
  pub ingress : HasTables Ingress parts.ingress (commits parts.ledger)
  pub egress : HasTables Egress parts.egress (commits parts.ledger)
  pub idle_ingress : parts.pools.ingress.place ≡ other_place parts.ingress.pair.active
  pub idle_egress : parts.pools.egress.place ≡ other_place parts.egress.pair.active

-- THE LISTS ARE AHEAD OF THE COMMITS by one accepted edit: each action that it makes is put; each action that
-- is live before it or after it has its place, with a slot that is in no pool; and but for slots of actions,
-- which may have the next edit's, no root has a stamp after the point
pub record IsAhead (parts : Parts) (y : Edit) (done : Done) : Type 0 where
  pub has : HasParts parts
  pub rest : IsAtRest hook_meaning hook_codec (commits parts.ledger)
  pub line : IsLine y
  pub steps : step (now (commits parts.ledger)) y ≡ Ok (next (commits parts.ledger) y, done)
  pub spells : Spells parts.ledger.lists (next (commits parts.ledger) y)
  pub made : PutsActions hook_meaning hook_codec (base parts.ledger) (commits parts.ledger) y
  pub actions : AreHereFor parts.actions (commits parts.ledger) (next (commits parts.ledger) y)
  pub earlier : (action : ℕ) → IsLive hook_meaning (now (commits parts.ledger)) action
      → IsPlaced parts.actions (commits parts.ledger) action
  pub apart : (action : ℕ) → IsLive hook_meaning (now (commits parts.ledger)) action
      ⊎ IsLive hook_meaning (next (commits parts.ledger) y) action
      → IsInPool (slot_of parts.actions action) parts.pools.actions → ⊥
  pub early : (root : ℕ) → IsNoSlot root → (root_of (commits parts.ledger) root).stamp ≤ parts.ledger.point
  pub recent : (root : ℕ) → (root_of (commits parts.ledger) root).stamp ≤ parts.ledger.point + 1

-- THE EDIT IS MADE, and one mask, which stands at the slot, may have another size than its filters need; no
-- root has a stamp after the point, and its own root and those of rows in the pool have older ones
pub record IsUnsettled (parts : Parts) (mask slot : ℕ) : Type 0 where
  pub has : HasParts parts
  pub rest : IsAtRestBut hook_meaning hook_codec (commits parts.ledger) mask
  pub spells : Spells parts.ledger.lists (now (commits parts.ledger))
  pub actions : AreHere parts.actions (commits parts.ledger)
  pub at : IsMaskAt hook_codec (commits parts.ledger) mask slot
  pub early : (root : ℕ) → (root_of (commits parts.ledger) root).stamp ≤ parts.ledger.point
  pub older : (root_of (commits parts.ledger) (mask_root slot)).stamp < parts.ledger.point
  pub older_rows : (row place : ℕ) → IsInPool row parts.pools.rows → place < ROW_BUCKETS
      → (root_of (commits parts.ledger) (bucket_root row place)).stamp < parts.ledger.point

-- commits came, none of them to a slot of actions
pub record GoesOnAside (h k : List (Commit Edit)) : Type 0 where
  pub more : List (Commit Edit)
  pub seen : k ≡ h ++ more
  pub aside : HaveNoSlots more

-- commits came, and no edit with them
pub record GoesOnStill (h k : List (Commit Edit)) : Type 0 where
  pub more : List (Commit Edit)
  pub seen : k ≡ h ++ more
  pub journal : edits_of k ≡ edits_of h
