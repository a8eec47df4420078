-- How a replacement is planned: what the line may do to the filter that was found, and what looking at it
-- tells.
use Rattle.std.specs.Prelude.{◌≡◌, ℕ, ◌&&◌, Bool, false, List, Option, Some, None, Result, Ok, Err}
use Rattle.std.specs.Str.{bytes_eq}
use Rattle.tc_base.specs.declared.hook.Hook.{Hook}
use Rattle.filter_state.specs.declared.edit.FilterLine.{FilterLine}
use Rattle.filter_state.specs.declared.refusal.Refusal.{Refusal}
use Rattle.filter_state.specs.States.{Row, State}
use Rattle.filter_state.specs.Actions.{Resolved}
use Rattle.filter_state.specs.Refusals.{or_else, no_hook, protocol_clash, exists_but, masks_full}
use Rattle.filter_state.specs.Refusals.{actions_full, counters_full}
use Rattle.filter_state.specs.Steps.{with_replaced, filter_replaced, replace_at}
use Rattle.filter_index.specs.declared.filter.Filter.{Filter}
use Rattle.filter_tables.specs.Plain.{PlainMask, PlainTable}
use Rattle.filter_tables.specs.Places.{place_where}
use Rattle.filter_tables.specs.Changes.{has_words}
use Rattle.filter_tables.specs.Rows.{row_of}
use Rattle.action_plan.specs.declared.planned.PlannedAction.{PlannedAction}
use Rattle.action_plan.specs.Plans.{made_of, carried, serials_of, AreFit}
use Rattle.filter_lists.specs.declared.adding.arrival.Arrival.{Arrival}
use Rattle.hook_lists.specs.declared.kept.Kept.{Kept}
use Rattle.hook_lists.specs.States.{state_of}
use Rattle.filter_lists.specs.declared.replacing.replacement.Change.{Change}
use Rattle.filter_lists.specs.declared.replacing.replacement.Old.{Old}
use Rattle.filter_lists.specs.OfReplacing.Replacements.{IsOld, IsPlace, changed, old_row}

-- ---- looking
-- what is refused before the actions are resolved, and after
abbrev pub refused_before : State → FilterLine → Hook → ℕ → ℕ → ℕ → Option Refusal
refused_before s line hook chain pref handle =
    or_else (no_hook s)
    (or_else (protocol_clash s hook chain pref line.protocol)
    (exists_but s hook chain pref (Some handle) line.mask.words line.key.words))

abbrev pub refused_after : State → FilterLine → Hook → ℕ → ℕ → Resolved → Option Refusal
refused_after s line hook chain pref r = or_else (masks_full s hook chain pref line.mask.words)
    (or_else (actions_full r.so_far) (counters_full r.so_far))

-- what a plan resolves the actions of a line to
abbrev pub resolved_to : Kept → List PlannedAction → Resolved
resolved_to kept plan = record { so_far = carried (made_of kept.actions) plan; serials = serials_of plan }

-- the filter stands where it is said to, and nothing but want of memory keeps the line's filter from its
-- place
pub record IsAllowed (kept : Kept) (line : FilterLine) (old : Old) (table : PlainTable) (mask : PlainMask)
    (filter : Filter) : Type 0 where
  pub stands : IsOld kept old table mask filter
  pub row : old_row (state_of kept) line ≡ Some (row_of old.hook table mask filter)
  pub hook : old.hook ≡ line.hook
  pub chain : old.chain ≡ line.chain
  pub protocol : table.protocol ≡ line.protocol
  pub alone : exists_but (state_of kept) old.hook old.chain old.pref
      (Some old.handle) line.mask.words line.key.words ≡ None

-- the plan fits, and passes no limit
pub record IsWithin (kept : Kept) (plan : List PlannedAction) : Type 0 where
  pub fit : AreFit (made_of kept.actions) plan
  pub full : or_else (actions_full (carried (made_of kept.actions) plan))
      (counters_full (carried (made_of kept.actions) plan)) ≡ None

-- a line is refused for the step's reason, or is allowed, and the step then replaces the filter
abbrev pub IsLooked : Kept → FilterLine → Old → Result (List PlannedAction) Refusal → Type 0
IsLooked kept line old (Err refusal) = (row : Row) → old_row (state_of kept) line ≡ Some row
    → replace_at (state_of kept) line row ≡ Err refusal
IsLooked kept line old (Ok plan) =
    (table : PlainTable) × (mask : PlainMask) × (filter : Filter) × IsAllowed kept line old table mask filter
    × IsWithin kept plan
    × (replace_at (state_of kept) line (row_of old.hook table mask filter)
    ≡ filter_replaced (state_of kept) line (row_of old.hook table mask filter) (resolved_to kept plan))

-- ---- where the filter goes
-- the filter has the line's mask and key
abbrev pub is_same : FilterLine → PlainMask → Filter → Bool
is_same line mask filter = bytes_eq mask.mask line.mask.words && bytes_eq filter.key.words line.key.words

-- the filter leaves its place, for the mask at that place or for a new one
abbrev pub Leaves : Kept → FilterLine → Old → Option ℕ → Type 0
Leaves kept line old to =
    (table : PlainTable) × (mask : PlainMask) × (filter : Filter) × IsAllowed kept line old table mask filter
    × (is_same line mask filter ≡ false)
    × (place_where (has_words line.mask.words) table.masks ≡ to)

-- the line's filter under the table and handle of the old one
abbrev pub arrival_of : FilterLine → Old → PlainTable → ℕ → List ℕ → Arrival
arrival_of line old table mask_serial actions = record {
  hook = old.hook;
  chain = table.chain;
  pref = table.pref;
  protocol = table.protocol;
  table_serial = table.serial;
  mask_serial = mask_serial;
  mask = line.mask;
  filter = record { handle = old.handle; key = line.key; actions = actions };
}

-- the change can be done, and leads to the rows that the step leads to
pub record IsChange (start now : Kept) (line : FilterLine) (old : Old) (serials : List ℕ) (table : PlainTable)
    (mask : PlainMask) (filter : Filter) (change : Change) : Type 0 where
  pub allowed : IsAllowed start line old table mask filter
  pub place : IsPlace now old table change
  pub rows : changed (state_of start) (row_of old.hook table mask filter) change
      ≡ with_replaced (state_of start) line (row_of old.hook table mask filter) serials

abbrev pub HasChange : Kept → Kept → FilterLine → Old → List ℕ → Change → Type 0
HasChange start now line old serials change = (table : PlainTable) × (mask : PlainMask) × (filter : Filter)
    × IsChange start now line old serials table mask filter change
