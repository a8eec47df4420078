-- Which actions an edit may take away or change (this project's own).
use Rattle.std.specs.Prelude.{ℕ, List, Option, option_map}
use Rattle.std.specs.List.{flat_map}
use Rattle.std.specs.Option.{unwrap_or}
use Rattle.act_kinds.specs.declared.params.Kind.{Kind}
use Rattle.filter_state.specs.declared.edit.Edit.{Edit}
use Rattle.filter_state.specs.declared.edit.Edit.TheVariants as edits
use Rattle.filter_state.specs.States.{Row, Action, State}
use Rattle.filter_state.specs.Actions.{is_named}
use Rattle.filter_state.specs.Tables.{first_where}
use Rattle.state_past_laws.specs.OfChanges.Among.{listed}
use Rattle.state_past_laws.specs.OfChanges.Going.{rows_going}

-- the serial of the action of that kind and index
abbrev pub serial_named : State → Kind → ℕ → Option ℕ
serial_named s kind index =
    option_map (λ (action : Action). action.serial) (first_where (is_named kind index) s.actions)

-- the serials of all actions that an edit may take away or change
abbrev pub serials_going : State → Edit → List ℕ
serials_going s (edits.ActionChange line) = listed (serial_named s line.kind (unwrap_or line.index 0))
serials_going s (edits.ActionDel kind index) = listed (serial_named s kind index)
serials_going s edit = flat_map (λ (row : Row). row.actions) (rows_going s edit)
