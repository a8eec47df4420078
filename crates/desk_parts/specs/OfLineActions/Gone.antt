-- The actions that may go with an edit of filters (this project's own). `s` is the state before it.
use Rattle.std.specs.Prelude.{ℕ, ◌&&◌, List, [], Option, Some, None, filter}
use Rattle.std.specs.List.{flat_map}
use Rattle.std.specs.Option.{unwrap_or}
use Rattle.filter_state.specs.declared.edit.Edit.{Edit}
use Rattle.filter_state.specs.declared.edit.Edit.TheVariants as edits
use Rattle.filter_state.specs.States.{Row, State}
use Rattle.filter_state.specs.Tables.{in_table, has_handle, filter_row}
use Rattle.hook_law.specs.Standing.{IsIn}

-- the serials that a filter names, where it is there
abbrev pub named_by : Option Row → List ℕ
named_by None = []
named_by (Some row) = row.actions

-- those that the filters name which the edit takes away or replaces, one for each place
abbrev pub serials_gone : State → Edit → List ℕ
serials_gone s (edits.FilterReplace line) =
    named_by (filter_row line.hook line.chain (unwrap_or line.pref 0) (unwrap_or line.handle 0) s.rows)
serials_gone s (edits.FilterDel hook protocol chain pref (Some handle)) =
    flat_map (λ (row : Row). row.actions)
    (filter (λ row. in_table hook chain pref row && has_handle handle row) s.rows)
serials_gone s (edits.FilterDel hook protocol chain pref None) =
    flat_map (λ (row : Row). row.actions) (filter (in_table hook chain pref) s.rows)
serials_gone s edit = []

-- in any order, each as often as may be, the serials of actions that the filters name which the edit takes away
-- or replaces
pub record NamesGone (s : State) (y : Edit) (serials : List ℕ) : Type 0 where
  pub each : (action : ℕ) → IsIn action serials → IsIn action (serials_gone s y)
  pub all : (action : ℕ) → IsIn action (serials_gone s y) → IsIn action serials
