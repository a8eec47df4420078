-- While masks are laid anew for an edit of a whole desk (this project's own). `y` is the edit.
use Rattle.std.specs.Prelude.{◌≡◌, ℕ, ◌+◌, ◌<◌, ◌≤◌, List, length}
use Rattle.tc_base.specs.declared.hook.Hook.{Hook}
use Rattle.visit_room.specs.declared.names.MaskName.{MaskName}
use Rattle.store_history.specs.declared.history.Commit.{Commit}
use Rattle.store_history.specs.History.{root_of, edits_of}
use Rattle.pin_store.specs.Sheets.{IsSameButCells}
use Rattle.pin_store.specs.Calls.{sheet_of}
use Rattle.filter_state.specs.declared.edit.Edit.{Edit}
use Rattle.filter_state.specs.declared.edit.FilterLine.{FilterLine}
use Rattle.filter_state.specs.declared.refusal.Done.{Done}
use Rattle.filter_lists.specs.Spells.{Spells}
use Rattle.store_history.specs.declared.places.TheConstants.{ROW_BUCKETS}
use Rattle.hook_store_law.specs.OfEffects.Parts.{words_of}
use Rattle.mask_table.specs.declared.mirrors.mirror.KeptMask.{KeptMask}
use Rattle.mask_table.specs.OfMirrors.Forgetting.{bucket_blocks}
use Rattle.mask_writer.specs.Masks.{Masks}
use Rattle.mask_writer.specs.Standing.{StandsAt}
use Rattle.hook_law.specs.Places.{mask_root, bucket_root}
use Rattle.hook_law.specs.Meaning.{point_of}
use Rattle.hook_law.specs.Standing.{IsIn, IsMaskAt}
use Rattle.hook_law.specs.Keeping.{IsAtRest}
use Rattle.hook_store_law.specs.Stated.{hook_meaning}
use Rattle.hook_store_law.specs.Blocks.{hook_codec}
use Rattle.hook_store_law.specs.Kept.{KeepsHook}
use Rattle.hook_store_law.specs.OfEdits.Premises.{now, next}
use Rattle.desk_heads.specs.OfHeadCommits.Raised.{IsReady}
use Rattle.desk_pools.specs.Pools.{ArePools}
use Rattle.desk_actions.specs.OfLedgers.Kept.{commits, base}
use Rattle.desk_actions.specs.Places.{AreHereFor}
use Rattle.desk_needs.specs.Live.{count_of}
use Rattle.desk_masks.specs.declared.hook_tables.HookTables.{HookTables}
use Rattle.desk_masks.specs.Tables.{HasTables}
use Rattle.desk_parts.specs.declared.parts.Parts.{Parts}
use Rattle.desk_parts.specs.Desk.{shape_of, hook_shape, cells, AreSized}
use Rattle.desk_heads.specs.Handed.{AreActionsHanded}
use Rattle.desk_heads.specs.OfMoves.Builds.{HoldsBuilt, AreBuiltHanded}
use Rattle.shared_hook.specs.OfDeskEdits.Ahead.{GoesOnAside}
use Rattle.shared_hook.specs.OfDeskEdits.OfMoves.Tells.{IsAnsweredMask}

-- each mask that a head names has a block for each of its filters
abbrev pub HaveTheirBlocks : Masks → List (Commit Edit) → Type 0
HaveTheirBlocks masks h = (mask slot : ℕ) (kept : KeptMask) → IsMaskAt hook_codec h mask slot
    → StandsAt masks slot kept
    → length (bucket_blocks (root_of h) kept.mask kept.mask.size) ≡ count_of (now h) mask

-- nothing at roots of free slots and rows was stamped after the point
pub record AreEarly (parts : Parts) : Type 0 where
  pub slots : (slot : ℕ) → IsIn slot parts.pools.masks.free
      → (root_of (commits parts.ledger) (mask_root slot)).stamp ≤ parts.ledger.point
  pub rows : (row place : ℕ) → IsIn row parts.pools.rows.free → place < ROW_BUCKETS
      → (root_of (commits parts.ledger) (bucket_root row place)).stamp ≤ parts.ledger.point

-- MASKS ARE LAID: since the lists went ahead of the commits, on the desk `start`, these masks were built, and
-- nothing else was done. The hooks have the tables that they had.
pub record IsRaising (start parts : Parts) (y : Edit) (built : List MaskName) : Type 0 where
  pub aside : GoesOnAside (commits start.ledger) (commits parts.ledger)
  pub journal : edits_of (commits parts.ledger) ≡ edits_of (commits start.ledger)
  pub sheet : IsSameButCells (sheet_of start.ledger.writer.place) (sheet_of parts.ledger.writer.place)
  pub shaped : shape_of parts.ledger.writer.place ≡ hook_shape
  pub lawful : KeepsHook (commits parts.ledger) (base parts.ledger)
  pub point_is : parts.ledger.point ≡ point_of (commits parts.ledger)
  pub ready : IsReady (commits parts.ledger) (base parts.ledger) y
  pub rest : IsAtRest hook_meaning hook_codec (commits parts.ledger)
  pub spells : Spells parts.ledger.lists (next (commits parts.ledger) y)
  pub recent : (root : ℕ) → (root_of (commits parts.ledger) root).stamp ≤ parts.ledger.point + 1
  pub early : AreEarly parts
  pub pools : ArePools parts.pools (commits parts.ledger) (base parts.ledger)
  pub sized : AreSized parts.pools
  pub holds : HoldsBuilt parts.masks hook_shape (cells parts.ledger) (commits parts.ledger)
      (base parts.ledger) y built
  pub handed : AreBuiltHanded parts.pools parts.masks built
  pub actions : AreActionsHanded parts.pools (commits parts.ledger) (base parts.ledger) y
  pub here : AreHereFor parts.actions (commits parts.ledger) (next (commits parts.ledger) y)
  pub blocks : HaveTheirBlocks parts.masks (commits parts.ledger)
  pub tables : (hook : Hook) (kept : HookTables) → HasTables hook kept (commits start.ledger)
      → HasTables hook kept (commits parts.ledger)
  pub stays : parts ≡ record start {
    ledger = record start.ledger { writer = parts.ledger.writer };
    pools = record start.pools {
      blocks = parts.pools.blocks;
      rows = parts.pools.rows;
      masks = parts.pools.masks;
    };
    masks = parts.masks;
  }

-- the mask has these words, and so many filters, as the edit leaves it; it is that of the line's chain and of
-- the pref that was answered
pub record IsToLay (h : List (Commit Edit)) (y : Edit) (line : FilterLine) (done : Done) (words : List ℕ)
    (count serial : ℕ) : Type 0 where
  pub mask : IsAnsweredMask (next h y) line done words serial
  pub words_are : words_of (next h y) serial ≡ words
  pub counted : count ≡ count_of (next h y) serial
  pub some : 0 < count
