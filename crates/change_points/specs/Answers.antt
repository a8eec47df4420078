-- What is answered for the states of a change (this project's own).
use Rattle.std.specs.Prelude.{ℕ, ◌&&◌, nat_le, List, Option, None, if◌then◌else◌}
use Rattle.tc_base.specs.declared.hook.Hook.{Hook}
use Rattle.filter_state.specs.declared.edit.Edit.{Edit}
use Rattle.filter_state.specs.States.{State}
use Rattle.filter_state.specs.Journals.{state_at}
use Rattle.filter_state.specs.Tables.{hook_eq}
use Rattle.walk_rules.specs.Questions.{Question, Answer, heads_of, filter_of, params_of}
use Rattle.walk_rules.specs.Answers.{answer_of}

-- a journal, a hook, and the point before the change
pub record HookChange : Type 0 where
  pub journal : List Edit
  pub hook : Hook
  pub before : ℕ

-- the state of each point
abbrev pub states_of : HookChange → ℕ → State
states_of change point = state_at point change.journal

-- THE ANSWER at a point: that of the state there; none of the tables of the other hook, or of those before
abbrev pub answer_in : HookChange → ℕ → Question → Option Answer
answer_in change point (heads_of hook) =
    if hook_eq hook change.hook && nat_le change.before point
    then answer_of (states_of change point) (heads_of hook) else None
answer_in change point (filter_of table mask values) =
    answer_of (states_of change point) (filter_of table mask values)
answer_in change point (params_of serial) = answer_of (states_of change point) (params_of serial)
