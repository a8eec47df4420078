-- The filters of a mask, told off the lists (this project's own). `h` is all commits, and s is a state that
-- the lists spell.
use Rattle.std.specs.Prelude.{◌≡◌, ℕ, ◌≤◌, List, length, map, Some, All}
use Rattle.act_registry.specs.declared.limits.TheConstants.{MADE_MAX}
use Rattle.tc_base.specs.declared.hook.Hook.{Hook}
use Rattle.visit_room.specs.declared.limits.TheConstants.{HIT_ACTIONS}
use Rattle.store_history.specs.declared.history.Commit.{Commit}
use Rattle.filter_state.specs.declared.edit.Edit.{Edit}
use Rattle.filter_state.specs.declared.edit.FilterLine.{FilterLine}
use Rattle.filter_state.specs.declared.refusal.Done.{Done}
use Rattle.filter_state.specs.declared.refusal.Done.TheVariants as dones
use Rattle.filter_state.specs.States.{Row, State}
use Rattle.filter_state.specs.Sound.{Sound}
use Rattle.filter_state.specs.Tables.{mask_row}
use Rattle.filter_index.specs.declared.filter.Filter.{Filter}
use Rattle.filter_tables.specs.Plain.{PlainMask}
use Rattle.hook_lists.specs.declared.kept.Kept.{Kept}
use Rattle.filter_lists.specs.Spells.{Spells}
use Rattle.block_codec.specs.declared.filter.StoredFilter.{StoredFilter}
use Rattle.miniq_pair.specs.Heads.{hook_number}
use Rattle.hook_law.specs.Records.{StatedFilter}
use Rattle.hook_law.specs.Meaning.{IsLive}
use Rattle.hook_law.specs.Standing.{IsSlotOf}
use Rattle.hook_law.specs.Keeping.{Keeps}
use Rattle.hook_store_law.specs.Stated.{hook_meaning, tables_at, filters_at}
use Rattle.hook_store_law.specs.Blocks.{hook_codec}
use Rattle.desk_heads.specs.OfHeadCommits.Listed.{HasSerial}
use Rattle.desk_actions.specs.Places.{Placed, slot_of}
use Rattle.desk_parts.specs.OfFilterNames.Named.{named}

-- a filter of the lists in the law's terms, and as it is stored, with its actions at these places
abbrev pub stated : Filter → StatedFilter
stated f = record { handle = f.handle; key = f.key.words; actions = f.actions }

abbrev pub stored_at : Placed → Filter → StoredFilter
stored_at placed f = record { handle = f.handle; key = f.key; actions = named placed f.actions }

-- a filter has as many actions as can be stored, with serials that may be given
pub record CanBeTold (f : Filter) : Type 0 where
  pub few : length f.actions ≤ HIT_ACTIONS
  pub made : All (λ serial. serial ≤ MADE_MAX) f.actions

-- the table of the line's chain that has the pref has a mask with these words; this is its serial
pub record IsMaskIn (s : State) (line : FilterLine) (pref : ℕ) (words : List ℕ) (serial : ℕ) : Type 0 where
  pub row : Row
  pub there : mask_row line.hook line.chain pref words s.rows ≡ Some row
  pub serial_is : row.mask_serial ≡ serial

-- so it is with the pref that was answered
pub record IsAnsweredMask (s : State) (line : FilterLine) (done : Done) (words : List ℕ) (serial : ℕ)
    : Type 0 where
  pub pref : ℕ
  pub handle : ℕ
  pub serials : List ℕ
  pub answered : done ≡ dones.Filter pref handle serials
  pub mask : IsMaskIn s line pref words serial

-- the mask of the lists is the one with the serial, which is among the tables of the hook
pub record IsListOf (s : State) (hook : Hook) (serial : ℕ) (m : PlainMask) : Type 0 where
  pub serial_is : m.serial ≡ serial
  pub filters : map stated m.filters ≡ filters_at s serial
  pub here : HasSerial (tables_at s (hook_number hook)) serial

-- the lists spell the state, which is sound, and each action that is live in it has its slot by commits
pub record CanTell (lists : Kept) (placed : Placed) (h : List (Commit Edit)) (s : State) : Type 0 where
  pub base : ℕ
  pub low : base ≤ length h
  pub keeps : Keeps hook_meaning hook_codec h base
  pub sound : Sound s
  pub spells : Spells lists s
  pub slots : (action : ℕ) → IsLive hook_meaning s action
      → IsSlotOf hook_codec h action (slot_of placed action)
