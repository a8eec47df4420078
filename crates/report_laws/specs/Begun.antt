-- Which events a round can have had so far, before all its lines are told (this project's own).
use Rattle.std.specs.Prelude.{◌≡◌, Bool, ◌||◌, List, [], ◌∷◌}
use Rattle.batch_run.specs.Commands.{Command}
use Rattle.run_report.specs.declared.events.Event.{Event}
use Rattle.run_report.specs.Counts.{is_accepted}
use Rattle.lawful_runs.specs.Given.{GivenBatch}
use Rattle.lawful_runs.specs.Events.{IsAmong, GoesOn, events_of}

-- these events are the first commands of a batch, each once and in order, and none is behind the one at which
-- the batch stops
abbrev pub IsBegun : Bool → List Command → List Event → Type 0
IsBegun force commands [] = Unit {0}
IsBegun force [] (event ∷ events) = ⊥
IsBegun force (command ∷ commands) (event ∷ events) =
    (event.line ≡ command.line)
    × GoesOn (force || is_accepted event.kind) (IsBegun force commands events) events

-- so it is for each control that has a batch
abbrev pub AreBegun : List GivenBatch → List Event → Type 0
AreBegun batches events =
    (batch : GivenBatch) → IsAmong batch batches
    → IsBegun batch.force batch.commands (events_of batch.control events)
