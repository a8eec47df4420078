-- What is kept of records that were read before (this project's own). `h` is what a reader has seen.
use Rattle.std.specs.Prelude.{◌≡◌, ℕ, List, true, Option, Some}
use mathlib.Core.List.{IsPrefix}
use Rattle.store_history.specs.declared.history.Commit.{Commit}
use Rattle.store_history.specs.declared.history.Link.{Link}
use Rattle.store_history.specs.History.{root_of}
use Rattle.store_history.specs.Reads.{read_all, read_first}
use Rattle.filter_state.specs.declared.edit.Edit.{Edit}
use Rattle.block_codec.specs.declared.filter.StoredFilter.{StoredFilter}
use Rattle.block_codec.specs.OfReadings.Read.{filter_in, mask_of_words, action_of_words}
use Rattle.mask_table.specs.Buckets.{IsAnswer}
use Rattle.kept_records.specs.declared.things.kept.Kept.{Kept}
use Rattle.kept_records.specs.OfThings.Places.{AllKept}
use Rattle.kept_records.specs.declared.known_filter.KnownFilter.{KnownFilter}
use Rattle.kept_records.specs.declared.records.HookRecords.{HookRecords}

-- it was so of the chain that its root named after some of the commits, with the stamp that the root then had
pub record WasRead {T : Type 0} (is : List Link → T → Type 0) (h : List (Commit Edit))
    (kept : Kept T) : Type 0 where
  pub then : List (Commit Edit)
  pub seen : IsPrefix then h
  pub stamp : kept.stamp ≡ (root_of then kept.number).stamp
  pub thing : is (root_of then kept.number).chain kept.thing

-- the first block of the chain is read as the record
abbrev pub IsRead : {T : Type 0} → (List ℕ → Option T) → List Link → T → Type 0
IsRead read chain thing = read_first read chain ≡ Some thing

-- a search of the bucket's chain for that key answers those actions
abbrev pub IsKnown : List Link → KnownFilter → Type 0
IsKnown chain known = (there : List StoredFilter) → read_all filter_in chain ≡ Some there
    → IsAnswer there known.key.words true known.actions

-- all records that are kept were right
pub record KeepsRecords (h : List (Commit Edit)) (records : HookRecords) : Type 0 where
  pub masks : AllKept (WasRead (IsRead mask_of_words) h) records.masks
  pub filters : AllKept (WasRead IsKnown h) records.filters
  pub actions : AllKept (WasRead (IsRead action_of_words) h) records.actions
