-- Where the accepted edits were read (this project's own).
use Rattle.std.specs.Prelude.{List, map, filter}
use Rattle.std.specs.List.{flat_map}
use Rattle.edit_lines.specs.declared.line.LinePlace.{LinePlace}
use Rattle.run_report.specs.declared.events.Event.{Event}
use Rattle.run_report.specs.declared.rounds.RoundRecord.{RoundRecord}
use Rattle.run_report.specs.Counts.{is_accepted}

abbrev pub place_of : Event → LinePlace
place_of event = record { control = event.control; line = event.line }

-- by the accepted ones of these events, in order
abbrev pub places_of : List Event → List LinePlace
places_of events = map place_of (filter (λ (event : Event). is_accepted event.kind) events)

-- and of those of rounds
abbrev pub places_in : List RoundRecord → List LinePlace
places_in rounds = flat_map (λ (round : RoundRecord). places_of round.events) rounds
