-- What becomes of a state when commands are applied in order, up to the first that is refused.
use Rattle.std.specs.Prelude.{◌≡◌, ℕ, ◌+◌, ◌⊎◌, List, [], ◌∷◌, ◌++◌, Option, Some, None, Ok, Err}
use Rattle.filter_state.specs.declared.edit.Edit.{Edit}
use Rattle.filter_state.specs.States.{State}
use Rattle.filter_state.specs.Steps.{Stepped, step}
use Rattle.tc_batch.specs.Grammar.{Gives}
use Rattle.tc_batch.specs.FirstBad.{IsFirstBad}
use Rattle.batch_run.specs.declared.made_action.MadeAction.{MadeAction}
use Rattle.batch_run.specs.declared.stop.Stop.{Stop}
use Rattle.batch_run.specs.declared.stop.Stop.TheVariants as stops
use Rattle.batch_run.specs.Commands.{Command}
use Rattle.batch_run.specs.Made.{made_since}

-- how many edits were accepted so far, and the actions that they made, in order, also those that are gone
pub record SoFar : Type 0 where
  pub accepted : ℕ
  pub made : List MadeAction

-- the state that is left, how many edits were accepted, the actions that they made, and the refused line,
-- where there is one
pub record Ran : Type 0 where
  pub state : State
  pub accepted : ℕ
  pub made : List MadeAction
  pub stop : Option Stop

-- the accepted edit between two states, counted
abbrev pub one_more : SoFar → State → State → SoFar
one_more so_far s next = record { accepted = so_far.accepted + 1; made = so_far.made ++ made_since s next }

-- a run that ends here
abbrev pub ended : State → SoFar → Option Stop → Ran
ended s so_far stop = record { state = s; accepted = so_far.accepted; made = so_far.made; stop = stop }

-- after an accepted edit it goes on; a refused one ends it, and the state stays
abbrev pub IsAfter : (State → SoFar → Type 0) → State → SoFar → ℕ → Stepped → Ran → Type 0
IsAfter more s so_far line (Ok (next, done)) ran = more next (one_more so_far s next)
IsAfter more s so_far line (Err refusal) ran = ran ≡ ended s so_far (Some (stops.Refused line refusal))

-- each command gives an edit, which is applied, or has a first bad word, which ends it
abbrev pub IsRunFrom : State → SoFar → List Command → Ran → Type 0
IsRunFrom s so_far [] ran = ran ≡ ended s so_far None
IsRunFrom s so_far (command ∷ commands) ran =
    ((edit : Edit) × Gives command.words edit
    × IsAfter (λ next more. IsRunFrom next more commands ran) s so_far command.line (step s edit) ran)
    ⊎ ((word : ℕ) × IsFirstBad command.words word
    × (ran ≡ ended s so_far (Some (stops.Syntax command.line word))))

-- a run from a state on, before which so many edits were accepted; what those made isn't told
abbrev pub IsRun : State → ℕ → List Command → Ran → Type 0
IsRun s accepted commands ran = IsRunFrom s (record { accepted = accepted; made = [] }) commands ran
