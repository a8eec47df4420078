-- What a plain state answers (this project's own).
use Rattle.std.specs.Prelude.{ℕ, Bool, List, Option, Some, None, ◌&&◌, if◌then◌else◌}
use Rattle.std.specs.List.{list_any}
use Rattle.flow_fields.specs.Values.{values_of}
use Rattle.flow_mask.specs.Masks.{is_match}
use Rattle.filter_state.specs.States.{Row, Action, State}
use Rattle.filter_state.specs.Actions.{has_serial}
use Rattle.filter_state.specs.Tables.{first_where}
use Rattle.filter_state.specs.Order.{of_mask}
use Rattle.walk_rules.specs.Questions.{Question, heads_of, filter_of, params_of, Answer, told_heads}
use Rattle.walk_rules.specs.Questions.{told_no_filter, told_actions, told_params}
use Rattle.walk_rules.specs.Heads.{heads_on}

-- tc-flower(8): in every field the frame's value AND the mask's is the key's
abbrev pub meets : List ℕ → Row → Bool
meets values row = is_match values (values_of row.mask) (values_of row.key)

abbrev pub actions_or_none : Option Row → Answer
actions_or_none (Some row) = told_actions row.actions
actions_or_none None = told_no_filter

-- a mask answers while it has a filter
abbrev pub filter_answer : ℕ → List ℕ → List Row → Option Answer
filter_answer mask values rows =
    if list_any (of_mask mask) rows
    then Some (actions_or_none (first_where (λ row. of_mask mask row && meets values row) rows)) else None

abbrev pub params_answer : Option Action → Option Answer
params_answer (Some action) = Some (told_params action.params)
params_answer None = None

-- WHAT A STATE ANSWERS; nothing, where the mask or the action doesn't stand
abbrev pub answer_of : State → Question → Option Answer
answer_of s (heads_of hook) = Some (told_heads (heads_on hook s))
answer_of s (filter_of table mask values) = filter_answer mask values s.rows
answer_of s (params_of serial) = params_answer (first_where (has_serial serial) s.actions)
