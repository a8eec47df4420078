-- The actions that a batch makes, by their names.
use Rattle.std.specs.Prelude.{ℕ, Bool, nat_lt, List, map, filter}
use Rattle.act_kinds.specs.Params.{kind_of}
use Rattle.filter_state.specs.States.{Action, State}
use Rattle.batch_run.specs.declared.made_action.MadeAction.{MadeAction}

abbrev pub name_of : Action → MadeAction
name_of action = record { serial = action.serial; kind = kind_of action.params; index = action.index }

-- the action was made when that many had been made already
abbrev pub is_later : ℕ → Action → Bool
is_later made action = nat_lt made action.serial

-- the names of such actions
abbrev pub later_names : ℕ → List Action → List MadeAction
later_names made actions = map name_of (filter (is_later made) actions)

-- what an edit made, between the states before and after it. It makes no action that is gone again after it,
-- so none is missed (`made_in_order`).
abbrev pub made_since : State → State → List MadeAction
made_since s next = later_names s.actions_made next.actions
