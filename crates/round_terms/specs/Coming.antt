-- How far a control of a round has come (this project's own).
use Rattle.std.specs.Prelude.{◌≡◌, ℕ, Bool, true, false, ◌||◌, List, [], ◌∷◌, slice_get, Some}
use Rattle.batch_run.specs.Commands.{Command, commands_of}
use Rattle.run_report.specs.declared.events.Event.{Event}
use Rattle.run_report.specs.Counts.{is_accepted}
use Rattle.lawful_runs.specs.Events.{IsThrough, events_of}
use Rattle.round_terms.specs.Files.{RoundFile}

-- a batch goes on after an accepted line, and where it is forced after any; behind any other no event comes
-- and no command is left
abbrev pub ComesOn : Bool → Type 0 → List Event → List Command → Type 0
ComesOn true more events left = more
ComesOn false more events left = (events ≡ []) × (left ≡ [])

-- these events are the first commands of a batch, each once and in order, and those commands are left to be
-- met
abbrev pub HasCome : Bool → List Command → List Event → List Command → Type 0
HasCome force commands [] left = left ≡ commands
HasCome force [] (event ∷ events) left = ⊥
HasCome force (command ∷ commands) (event ∷ events) left =
    (event.line ≡ command.line)
    × ComesOn (force || is_accepted event.kind) (HasCome force commands events left) events left

-- a control has met all that it has to meet, as a lawful run asks; one without a batch has nothing to meet
abbrev pub IsThroughAll : List RoundFile → ℕ → List Event → Type 0
IsThroughAll files control events =
    (at : ℕ) (file : RoundFile) → slice_get files at ≡ Some file → file.control ≡ control
    → IsThrough file.force (commands_of file.bytes) (events_of control events)
