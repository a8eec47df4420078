-- What the command of one line does.
use Rattle.std.specs.Prelude.{◌≡◌, ℕ, List, Option, Some, None, Ok, Err}
use Rattle.filter_state.specs.declared.edit.Edit.{Edit}
use Rattle.filter_state.specs.declared.refusal.Done.{Done}
use Rattle.filter_state.specs.States.{State}
use Rattle.filter_state.specs.Steps.{step}
use Rattle.filter_lists.specs.Passed.{Kept}
use Rattle.filter_lists.specs.Spells.{Spells}
use Rattle.tc_batch.specs.Grammar.{Gives}
use Rattle.tc_batch.specs.FirstBad.{IsFirstBad}
use Rattle.batch_run.specs.declared.stop.Stop.{Stop}
use Rattle.batch_run.specs.declared.stop.Stop.TheVariants as stops

-- the lists then spell the step's next state, where the batch goes on, and else still the state
abbrev pub IsApplied : State → Kept → List (List ℕ) → ℕ → Option Stop → Type 0
IsApplied s new words line None = (edit : Edit) × Gives words edit × (next : State) × (done : Done)
    × (step s edit ≡ Ok (next, done)) × Spells new next
IsApplied s new words line (Some (stops.Refused at refusal)) = (edit : Edit) × Gives words edit
    × (step s edit ≡ Err refusal) × (at ≡ line) × Spells new s
IsApplied s new words line (Some (stops.Syntax at word)) = IsFirstBad words word × (at ≡ line) × Spells new s
