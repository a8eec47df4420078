-- What a change asks of the tables of its hook, and what it makes of them (this project's own).
use Rattle.std.specs.Prelude.{◌≡◌, ℕ, ◌<◌, false, List, [], find, option_map, length, Some}
use Rattle.std.specs.List.{list_any}
use Rattle.filter_index.specs.Listed as listed
use Rattle.filter_tables.specs.Plain.{PlainMask, PlainTable}
use Rattle.filter_tables.specs.Places.{item_at, place_where, change_at}
use Rattle.filter_tables.specs.Changes.{has_handle_in, other_actions, moved, moved_out, in_masks}
use Rattle.filter_tables.specs.Room.{Spare, TableRoom, masks_spare, filters_spare}
use Rattle.filter_tables.specs.Rows.{BothHooks}
use Rattle.hook_lists.specs.declared.kept.Kept.{Kept}
use Rattle.hook_lists.specs.States.{both_of}
use Rattle.filter_lists.specs.declared.replacing.replacement.Change.{Change}
use Rattle.filter_lists.specs.declared.replacing.replacement.Change.TheVariants as changes
use Rattle.filter_lists.specs.declared.replacing.replacement.Old.{Old}

-- the filter that comes has the handle of the old one, its mask has no other filter of its key, and there is
-- room
abbrev pub FitsIn : List Spare → Old → PlainTable → Change → Type 0
FitsIn spares old t (changes.Stays actions) = Unit {0}
FitsIn spares old t (changes.Moves to a) =
    (a.filter.handle ≡ old.handle) × (to < length t.masks) × (0 < filters_spare spares old.table to)
    × ((m : PlainMask) → item_at t.masks to ≡ Some m
    → list_any (listed.has_key a.filter.key.words) (listed.without a.filter.handle m.filters) ≡ false)
FitsIn spares old t (changes.MovesOut filters a) = (a.filter.handle ≡ old.handle)
    × (0 < masks_spare spares old.table) × (filters.filters ≡ []) × (0 < filters.spare)

-- the old filter stands where it is said to, and the change can be made
pub record CanChange (room : TableRoom) (old : Old) (change : Change) : Type 0 where
  pub within : old.table < length room.tables
  pub stands : (t : PlainTable) → item_at room.tables old.table ≡ Some t
      → place_where (has_handle_in old.handle) t.masks ≡ Some old.mask
  pub fits : (t : PlainTable) → item_at room.tables old.table ≡ Some t → FitsIn room.spares old t change

-- the actions are those of the old filter
abbrev pub WereThere : List PlainTable → Old → List ℕ → Type 0
WereThere tables old gone =
    (t : PlainTable) → item_at tables old.table ≡ Some t → (m : PlainMask) → item_at t.masks old.mask ≡ Some m
    → option_map (λ f. f.actions) (find (listed.has_handle old.handle) m.filters) ≡ Some gone

-- the tables after a change, and how many masks were made then
abbrev pub tables_changed : Old → Change → List PlainTable → List PlainTable
tables_changed old (changes.Stays actions) =
    change_at old.table (in_masks (change_at old.mask (other_actions old.handle actions)))
tables_changed old (changes.Moves to a) = change_at old.table (in_masks (moved old.mask to a.filter))
tables_changed old (changes.MovesOut filters a) =
    change_at old.table (in_masks (moved_out old.mask a.mask_serial a.mask.words a.filter))

abbrev pub masks_after : Change → ℕ → ℕ
masks_after (changes.Stays actions) made = made
masks_after (changes.Moves to a) made = made
masks_after (changes.MovesOut filters a) made = a.mask_serial

-- the tables are those, so many masks were made, and all else is as before
pub record HasChanged (both : BothHooks) (masks : ℕ) (old new : Kept) : Type 0 where
  pub tables : both_of new ≡ both
  pub masks_made : new.masks_made ≡ masks
  pub hooked : new.hooked ≡ old.hooked
  pub actions : new.actions ≡ old.actions
  pub tables_made : new.tables_made ≡ old.tables_made
  pub filters : new.filters ≡ old.filters
