-- Accepted edits of one filter of a mask that stands (this project's own). `h` is all commits before the
-- edit's own, b is the base, y is the edit, and the mask is at the slot.
use Rattle.std.specs.Prelude.{◌≡◌, ℕ, ◌%◌, List, ◌∷◌, ◌++◌, length, Option, Some}
use Rattle.tc_base.specs.declared.hook.Hook.{Hook}
use Rattle.tc_base.specs.declared.hook.Proto.{Proto}
use Rattle.store_history.specs.declared.history.Commit.{Commit}
use Rattle.flow_mask.specs.Hashes.{hash_of}
use Rattle.filter_state.specs.declared.edit.Edit.{Edit}
use Rattle.filter_state.specs.declared.edit.Edit.TheVariants as edits
use Rattle.filter_state.specs.declared.edit.FilterLine.{FilterLine}
use Rattle.filter_state.specs.declared.refusal.Done.{Done}
use Rattle.filter_state.specs.declared.refusal.Done.TheVariants as dones
use Rattle.filter_state.specs.States.{Row, State}
use Rattle.filter_state.specs.Tables.{mask_row, filter_row}
use Rattle.hook_store_law.specs.OfEffects.Parts.{Stands}
use Rattle.block_codec.specs.declared.filter.StoredFilter.{StoredFilter}
use Rattle.mask_order.specs.Fitting.{FitsBlock}
use Rattle.hook_law.specs.Records.{Slotted, StatedFilter, stated_filter}
use Rattle.hook_law.specs.Chains.{bucket_of}
use Rattle.hook_law.specs.Standing.{IsIn, IsMaskAt, IsSlotOf}
use Rattle.hook_law.specs.Keeping.{IsAtRest}
use Rattle.hook_law.specs.Numbered.{PutsActions}
use Rattle.hook_store_law.specs.Stated.{hook_meaning}
use Rattle.hook_store_law.specs.Blocks.{filter_record, hook_codec}
use Rattle.hook_store_law.specs.OfEdits.Premises.{now, IsAccepted, IsAddOf, named_row, filter_of_line}

-- the filter can be stored, and it is that of the line, with its actions at the slots to which commits put
-- them
pub record IsOfLine (h : List (Commit Edit)) (line : FilterLine) (handle : ℕ) (serials : List ℕ)
    (filter : StoredFilter) : Type 0 where
  pub fit : FitsBlock filter
  pub is : stated_filter (filter_record filter) ≡ filter_of_line line handle serials
  pub names : (x : Slotted) → IsIn x (filter_record filter).actions → IsSlotOf hook_codec h x.serial x.slot

-- the edit adds the filter to a mask that stands; the actions that it makes were put before
pub record AddsFilter (h : List (Commit Edit)) (b : ℕ) (y : Edit) (slot : ℕ) (filter : StoredFilter)
    : Type 0 where
  pub state : State
  pub line : FilterLine
  pub pref : ℕ
  pub handle : ℕ
  pub serials : List ℕ
  pub row : Row
  pub accepted : IsAccepted h b y state (dones.Filter pref handle serials)
  pub add : IsAddOf (now h) line y
  pub there : mask_row line.hook line.chain pref line.mask.words (now h).rows ≡ Some row
  pub rest : IsAtRest hook_meaning hook_codec h
  pub at : IsMaskAt hook_codec h row.mask_serial slot
  pub stored : IsOfLine h line handle serials filter
  pub made : PutsActions hook_meaning hook_codec b h y

-- the edit puts the filter in the place of the one with its handle, mask and key
pub record ExchangesFilter (h : List (Commit Edit)) (b : ℕ) (y : Edit) (slot : ℕ) (filter : StoredFilter)
    : Type 0 where
  pub state : State
  pub line : FilterLine
  pub pref : ℕ
  pub handle : ℕ
  pub serials : List ℕ
  pub row : Row
  pub is : y ≡ edits.FilterReplace line
  pub accepted : IsAccepted h b y state (dones.Filter pref handle serials)
  pub there : named_row (now h) line ≡ Some row
  pub same_mask : row.mask ≡ line.mask.words
  pub same_key : row.key ≡ line.key.words
  pub rest : IsAtRest hook_meaning hook_codec h
  pub at : IsMaskAt hook_codec h row.mask_serial slot
  pub stored : IsOfLine h line handle serials filter
  pub made : PutsActions hook_meaning hook_codec b h y

-- the edit deletes the filter with the handle, and the mask has others
pub record RemovesFilter (h : List (Commit Edit)) (b : ℕ) (y : Edit) (slot handle : ℕ) : Type 0 where
  pub state : State
  pub done : Done
  pub hook : Hook
  pub protocol : Option Proto
  pub chain : ℕ
  pub pref : ℕ
  pub row : Row
  pub is : y ≡ edits.FilterDel hook protocol chain pref (Some handle)
  pub accepted : IsAccepted h b y state done
  pub there : filter_row hook chain pref handle (now h).rows ≡ Some row
  pub stays : Stands state row.mask_serial
  pub rest : IsAtRest hook_meaning hook_codec h
  pub at : IsMaskAt hook_codec h row.mask_serial slot

-- ---- how many blocks such an edit fills
-- of so many buckets, that of the filter with the handle has so many later ones
pub record HasLater (size handle : ℕ) (filters : List StatedFilter) (count : ℕ) : Type 0 where
  pub earlier : List StatedFilter
  pub filter : StatedFilter
  pub later : List StatedFilter
  pub whole : filters ≡ earlier ++ filter ∷ later
  pub named : filter.handle ≡ handle
  pub count_is : count ≡ length (bucket_of hash_of size (hash_of filter.key % size) later)
