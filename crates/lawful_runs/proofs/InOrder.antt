-- The events of a round are in order where each control's are.
use Rattle.std.proofs.Common.{List}
use Rattle.filter_state.specs.Sound.{Each}
use Rattle.run_report.specs.declared.events.Event.{Event}
use Rattle.lawful_runs.specs.Given.{GivenBatch}
use Rattle.lawful_runs.specs.Events.{IsThrough, events_of, AreInOrder}
use Rattle.filter_state.proofs.Places.{each_at}

-- the events of a batch's control are the batch's
abbrev pub IsGoneThrough : List Event → GivenBatch → Type 0
IsGoneThrough events batch = IsThrough batch.force batch.commands (events_of batch.control events)

pub in_order : (batches : List GivenBatch) (events : List Event) → Each (IsGoneThrough events) batches → AreInOrder batches events
in_order batches events each = λ batch among. each_at (IsGoneThrough events) batches among.0 batch each among.1
