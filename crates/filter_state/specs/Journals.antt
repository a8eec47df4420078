-- Lists of edits, one on the other.
use Rattle.std.specs.Prelude.{ℕ, List, [], ◌∷◌, take, Ok, Err}
use Rattle.filter_state.specs.declared.edit.Edit.{Edit}
use Rattle.filter_state.specs.Lines.{IsLine}
use Rattle.filter_state.specs.States.{State, no_state}
use Rattle.filter_state.specs.Steps.{Stepped, step}

-- the state after a step; a refused edit changes nothing
abbrev pub state_after : State → Stepped → State
state_after s (Ok (next, done)) = next
state_after s (Err refusal) = s

-- the state after edits, from a state on
abbrev pub state_from : State → List Edit → State
state_from s [] = s
state_from s (edit ∷ edits) = state_from (state_after s (step s edit)) edits

-- the state at a point of a journal: after so many of its edits
abbrev pub state_at : ℕ → List Edit → State
state_at point journal = state_from no_state (take point journal)

-- each edit is one that a line can say, and the state before it accepts it
abbrev pub Accepts : State → Edit → Stepped → Type 0
Accepts s edit (Ok next) = Unit {0}
Accepts s edit (Err refusal) = ⊥

abbrev pub IsLawfulFrom : State → List Edit → Type 0
IsLawfulFrom s [] = Unit {0}
IsLawfulFrom s (edit ∷ edits) = IsLine edit × Accepts s edit (step s edit)
    × IsLawfulFrom (state_after s (step s edit)) edits

abbrev pub IsLawful : List Edit → Type 0
IsLawful journal = IsLawfulFrom no_state journal
