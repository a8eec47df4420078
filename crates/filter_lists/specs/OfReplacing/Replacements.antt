-- What a replacement comes to, and when it can be done.
use Rattle.std.specs.Prelude.{◌≡◌, ℕ, ◌<◌, ◌+◌, false, List, find, Option, Some, None, unwrap_or, Result, Ok}
use Rattle.std.specs.Prelude.{Err}
use Rattle.std.specs.List.{list_any}
use Rattle.filter_state.specs.declared.edit.FilterLine.{FilterLine}
use Rattle.filter_state.specs.declared.refusal.Done.{Done}
use Rattle.filter_state.specs.declared.refusal.Done.TheVariants as dones
use Rattle.filter_state.specs.declared.refusal.Refusal.{Refusal}
use Rattle.filter_state.specs.declared.refusal.Refusal.TheVariants as refusals
use Rattle.filter_state.specs.States.{Row, State}
use Rattle.filter_state.specs.Actions.{Made, all_unbound}
use Rattle.filter_state.specs.Tables.{filter_row}
use Rattle.filter_state.specs.Steps.{Stepped, made_of, with_actions, with_row, with_new_actions, without_row}
use Rattle.filter_index.specs.declared.filter.Filter.{Filter}
use Rattle.filter_index.specs.Listed as listed
use Rattle.filter_tables.specs.Plain.{PlainMask, PlainTable}
use Rattle.filter_tables.specs.Places.{item_at, place_where}
use Rattle.filter_tables.specs.Changes.{has_handle_in}
use Rattle.filter_tables.specs.Room.{masks_spare, filters_spare}
use Rattle.filter_tables.specs.Rows.{row_of, tables_on}
use Rattle.action_plan.specs.declared.planned.PlannedAction.{PlannedAction}
use Rattle.action_plan.specs.Plans.{carried}
use Rattle.hook_lists.specs.declared.kept.Kept.{Kept}
use Rattle.hook_lists.specs.States.{both_of, room_on, state_of}
use Rattle.hook_lists.specs.Steps.{PlanFits}
use Rattle.filter_lists.specs.declared.adding.arrival.Arrival.{Arrival}
use Rattle.filter_lists.specs.OfAdding.Arrivals.{row_of_arrival, IsEmptyRoom}
use Rattle.filter_lists.specs.declared.replacing.replacement.Change.{Change}
use Rattle.filter_lists.specs.declared.replacing.replacement.Change.TheVariants as changes
use Rattle.filter_lists.specs.declared.replacing.replacement.Old.{Old}
use Rattle.filter_lists.specs.declared.replacing.replacement.Replacement.{Replacement}
use Rattle.tc_base.specs.Memory.{no_memory}

-- the rows after a change of the old one
abbrev pub changed : State → Row → Change → State
changed s old (changes.Stays actions) = record s { rows = with_new_actions old actions s.rows }
changed s old (changes.Moves to arrival) =
    with_row (record s { rows = without_row old s.rows }) (row_of_arrival arrival)
changed s old (changes.MovesOut filters arrival) =
    with_row (record s { rows = without_row old s.rows }) (row_of_arrival arrival)

-- the new actions are bound or made, and then the old ones are let go
abbrev pub exchanged : Made → List ℕ → Made
exchanged next gone = record next { actions = all_unbound gone next.actions }

-- the replacement by a change whose actions stand in a plan
abbrev pub replacement_of : Old → Change → List PlannedAction → List ℕ → Replacement
replacement_of old change plan serials =
    record { old = old; change = change; actions = plan; serials = serials }

-- the state that a replacement of that row leads to, and its answer
abbrev pub state_after : State → Row → Replacement → State
state_after s old r =
    with_actions (changed s old r.change) (exchanged (carried (made_of s) r.actions) old.actions)

abbrev pub answer_of : Replacement → Done
answer_of r = dones.Filter r.old.pref r.old.handle r.serials

-- the filter stands where it is said to
pub record IsOld (kept : Kept) (old : Old) (table : PlainTable) (mask : PlainMask)
    (filter : Filter) : Type 0 where
  pub table_stands : item_at (tables_on old.hook (both_of kept)) old.table ≡ Some table
  pub chain : table.chain ≡ old.chain
  pub pref : table.pref ≡ old.pref
  pub mask_place : place_where (has_handle_in old.handle) table.masks ≡ Some old.mask
  pub mask_stands : item_at table.masks old.mask ≡ Some mask
  pub filter_stands : find (listed.has_handle old.handle) mask.filters ≡ Some filter

-- the filter that comes stands under the table and the handle of the old one
pub record IsArrival (old : Old) (table : PlainTable) (a : Arrival) : Type 0 where
  pub hook : a.hook ≡ old.hook
  pub chain : a.chain ≡ table.chain
  pub pref : a.pref ≡ table.pref
  pub protocol : a.protocol ≡ table.protocol
  pub serial : a.table_serial ≡ table.serial
  pub handle : a.filter.handle ≡ old.handle

-- the mask that it goes to is there and has no other filter of its key, or is made with the next serial
abbrev pub IsPlace : Kept → Old → PlainTable → Change → Type 0
IsPlace kept old table (changes.Stays actions) = Unit {0}
IsPlace kept old table (changes.Moves to a) =
    (other : PlainMask) × IsArrival old table a × (item_at table.masks to ≡ Some other)
    × (other.serial ≡ a.mask_serial) × (other.mask ≡ a.mask.words)
    × (list_any (listed.has_key a.filter.key.words) (listed.without old.handle other.filters) ≡ false)
    × (0 < filters_spare (room_on old.hook kept).spares old.table to)
IsPlace kept old table (changes.MovesOut filters a) =
    IsArrival old table a × (a.mask_serial ≡ kept.masks_made + 1) × IsEmptyRoom filters
    × (0 < masks_spare (room_on old.hook kept).spares old.table)

pub record IsReady (kept : Kept) (r : Replacement) (table : PlainTable) (mask : PlainMask)
    (filter : Filter) : Type 0 where
  pub old : IsOld kept r.old table mask filter
  pub place : IsPlace kept r.old table r.change
  pub actions : PlanFits kept r.actions
  pub masks : kept.masks_made + 1 < 4294967296

-- the row that a line is to replace, where it is there
abbrev pub old_row : State → FilterLine → Option Row
old_row s line = filter_row line.hook line.chain (unwrap_or line.pref 0) (unwrap_or line.handle 0) s.rows

-- the filter that a line is to replace was found, or isn't there
abbrev pub IsFound : Kept → FilterLine → Option Old → Type 0
IsFound kept line None = old_row (state_of kept) line ≡ None
IsFound kept line (Some old) =
    (table : PlainTable) × (mask : PlainMask) × (filter : Filter) × IsOld kept old table mask filter
    × (old.hook ≡ line.hook)
    × (old_row (state_of kept) line ≡ Some (row_of old.hook table mask filter))

-- A replacement is planned where the filter is there and the step accepts the edit, and leads where the step
-- does; it is refused for the step's reason, or, where the step accepts the edit, for want of memory.
abbrev pub IsPlanned : Kept → Result Replacement Refusal → Stepped → Type 0
IsPlanned kept (Ok r) (Ok (next, said)) =
    (table : PlainTable) × (mask : PlainMask) × (filter : Filter) × IsReady kept r table mask filter
    × (state_after (state_of kept) (row_of r.old.hook table mask filter) r ≡ next) × (answer_of r ≡ said)
IsPlanned kept (Err refusal) (Err said) = refusal ≡ said
IsPlanned kept (Err refusal) (Ok next) = refusal ≡ refusals.NoMemory no_memory
IsPlanned kept planned stepped = ⊥
