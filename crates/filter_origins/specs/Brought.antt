-- WHICH EDIT BROUGHT a filter or an action that answers at a point of a journal (this project's own). Edits
-- are numbered from 1, as they were accepted.
use Rattle.std.specs.Prelude.{ℕ, zero, suc, Bool, false, ◌&&◌, ◌||◌, ◌==◌, nat_lt, nat_le, List, slice_get}
use Rattle.std.specs.Prelude.{Option, Some, None, Ok, Err, if◌then◌else◌}
use Rattle.std.specs.Option.{option_and_then, unwrap_or}
use Rattle.filter_state.specs.declared.edit.Edit.{Edit}
use Rattle.filter_state.specs.declared.edit.Edit.TheVariants as edits
use Rattle.filter_state.specs.declared.edit.FilterLine.{FilterLine}
use Rattle.filter_state.specs.declared.refusal.Done.{Done}
use Rattle.filter_state.specs.declared.refusal.Done.TheVariants as dones
use Rattle.filter_state.specs.States.{Row, State}
use Rattle.filter_state.specs.Steps.{Stepped, step}
use Rattle.filter_state.specs.Journals.{state_at, state_after}
use Rattle.filter_state.specs.Tables.{filter_row}
use Rattle.state_past_laws.specs.OfChanges.Going.{line_in}
use Rattle.state_past_laws.specs.OfChanges.Serials.{serial_named}
use Rattle.state_past_laws.specs.Slots.{is_slot}

-- ---- filters
-- the row of a line that was accepted with that answer, in the state behind it
abbrev pub row_with : Option FilterLine → Done → State → Option Row
row_with (Some line) (dones.Filter pref handle serials) next =
    filter_row line.hook line.chain pref handle next.rows
row_with line done next = None

abbrev pub row_put : Edit → Stepped → Option Row
row_put edit (Ok (next, done)) = row_with (line_in edit) done next
row_put edit (Err refusal) = None

-- the row that the edit behind so many others put, where it put one
abbrev pub row_after : List Edit → ℕ → Option Row
row_after journal place =
    option_and_then (λ edit. row_put edit (step (state_at place journal) edit)) (slice_get journal place)

abbrev pub puts : ℕ → List ℕ → Option Row → Bool
puts mask key None = false
puts mask key (Some row) = is_slot mask key row

-- THE EDIT THAT BROUGHT THE FILTER of a mask and a key: the last up to a point that put a row with both
abbrev pub brought_filter : List Edit → ℕ → ℕ → List ℕ → Option ℕ
brought_filter journal zero mask key = None
brought_filter journal (suc place) mask key =
    if puts mask key (row_after journal place) then Some (suc place)
    else brought_filter journal place mask key

-- ---- actions
-- it made the action of that serial
abbrev pub makes : State → State → ℕ → Bool
makes s next serial = nat_lt s.actions_made serial && nat_le serial next.actions_made

abbrev pub is_serial : ℕ → Option ℕ → Bool
is_serial serial None = false
is_serial serial (Some other) = other == serial

-- it changed the action, which was live
abbrev pub changes : State → Edit → ℕ → Bool
changes s (edits.ActionChange line) serial =
    is_serial serial (serial_named s line.kind (unwrap_or line.index 0))
changes s edit serial = false

abbrev pub sets : State → Edit → ℕ → Bool
sets s edit serial = makes s (state_after s (step s edit)) serial || changes s edit serial

abbrev pub sets_after : List Edit → ℕ → ℕ → Option Edit → Bool
sets_after journal place serial None = false
sets_after journal place serial (Some edit) = sets (state_at place journal) edit serial

-- THE EDIT THAT BROUGHT AN ACTION as it is: the last up to a point that made it, or changed it
abbrev pub brought_action : List Edit → ℕ → ℕ → Option ℕ
brought_action journal zero serial = None
brought_action journal (suc place) serial =
    if sets_after journal place serial (slice_get journal place) then Some (suc place)
    else brought_action journal place serial
