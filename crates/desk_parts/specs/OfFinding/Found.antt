-- What is found of a mask or a filter, against the state of the journal (this project's own). `h` is all
-- commits.
use Rattle.std.specs.Prelude.{◌≡◌, ℕ, List, length, Some}
use Rattle.tc_base.specs.declared.hook.Hook.{Hook}
use Rattle.store_history.specs.declared.history.Commit.{Commit}
use Rattle.filter_state.specs.declared.edit.Edit.{Edit}
use Rattle.filter_state.specs.States.{Row}
use Rattle.filter_state.specs.Tables.{mask_row, filter_row}
use Rattle.hook_law.specs.Standing.{IsMaskAt}
use Rattle.hook_store_law.specs.Stated.{filters_at}
use Rattle.hook_store_law.specs.Blocks.{hook_codec}
use Rattle.hook_store_law.specs.OfEdits.Premises.{now}
use Rattle.desk_parts.specs.declared.finding.masks.FoundMask.{FoundMask}
use Rattle.desk_parts.specs.declared.finding.filters.FoundFilter.{FoundFilter}

-- the mask with this serial stands at the slot, and has so many filters
pub record IsStanding (h : List (Commit Edit)) (serial : ℕ) (found : FoundMask) : Type 0 where
  pub same : found.serial ≡ serial
  pub at : IsMaskAt hook_codec h serial found.slot
  pub count : found.count ≡ length (filters_at (now h) serial)

-- the table has the mask with these words
pub record IsMaskOf (h : List (Commit Edit)) (hook : Hook) (chain pref : ℕ) (words : List ℕ)
    (found : FoundMask) : Type 0 where
  pub row : Row
  pub there : mask_row hook chain pref words (now h).rows ≡ Some row
  pub stands : IsStanding h row.mask_serial found

-- the table has the filter with this handle
pub record IsFilterOf (h : List (Commit Edit)) (hook : Hook) (chain pref handle : ℕ)
    (found : FoundFilter) : Type 0 where
  pub row : Row
  pub there : filter_row hook chain pref handle (now h).rows ≡ Some row
  pub stands : IsStanding h row.mask_serial found.mask
  pub words : found.words.now.words ≡ row.mask
  pub key : found.filter.now.key.words ≡ row.key
  pub actions : found.filter.now.actions ≡ row.actions
