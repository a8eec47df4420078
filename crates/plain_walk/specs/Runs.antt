-- An action and a list that ran (this project's own).
use Rattle.std.specs.Prelude.{◌≡◌, ℕ, List, Option, Some, None}
use Rattle.act_kinds.specs.declared.params.Control.{Control}
use Rattle.act_kinds.specs.Acts.{control_given}
use Rattle.act_list.specs.declared.run.Ending.{Ending}
use Rattle.filter_state.specs.States.{Action, State}
use Rattle.filter_state.specs.Actions.{has_serial}
use Rattle.filter_state.specs.Tables.{first_where}
use Rattle.walk_rules.specs.Plain.{Carried, carried_on, ListEnd, list_over, spent}
use Rattle.plain_walk.specs.declared.course.Course.{Course}
use Rattle.plain_walk.specs.Courses.{frame_from, carried_from}

-- the state's action of that serial ran
pub record HasRun (s : State) (serial : ℕ) (came : List ℕ) (old new : Course)
    (control : Control) : Type 0 where
  pub action : Action
  pub live : first_where (has_serial serial) s.actions ≡ Some action
  pub gave : control ≡ control_given action.params (frame_from came old)
  pub carried : carried_from came new ≡ carried_on (carried_from came old) serial action.params

-- the list has ended, or the visits were spent
abbrev pub list_end : Option Ending → ℕ → Carried → ListEnd
list_end (Some ending) left carried = list_over ending left carried
list_end None left carried = spent carried
