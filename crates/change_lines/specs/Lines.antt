-- What becomes of the lines of a change, in numbers and lines (this project's own).
use Rattle.std.specs.Prelude.{ℕ, ◌+◌, Bool, not, List, ◌++◌, map, filter, count_by}
use Rattle.edit_lines.specs.declared.line.LinePlace.{LinePlace}
use Rattle.journal_replay.specs.Passed.{Event}
use Rattle.journal_replay.specs.Passed.{is_accepted}
use Rattle.journal_replay.specs.Passed.{event_line, event_lines}
use Rattle.journal_replay.specs.Placed.{places_of}
use Rattle.change_fate_laws.specs.Changes.{Changed, first_point}

-- the line has no meaning, or its edit is refused
abbrev pub is_refused : Event → Bool
is_refused event = not (is_accepted event.kind)

abbrev pub refused_count : List Event → ℕ
refused_count events = count_by is_refused events

-- HOW MANY LINES WERE REFUSED, of the batch and of the change
abbrev pub refused_in : Changed → ℕ
refused_in it = refused_count it.opening + refused_count it.events

-- where each edit of both was read
abbrev pub places_in : Changed → List LinePlace
places_in it = places_of it.opening ++ places_of it.events

-- the line of the report that tells where a batch stopped, behind so many edits; none, where it didn't
abbrev pub stops_at : ℕ → List Event → List (List ℕ)
stops_at before events = map (event_line before) (filter is_refused events)

abbrev pub stop_lines : Changed → List (List ℕ)
stop_lines it = stops_at (first_point it) it.opening

-- a line for each line of the change that was met, as a report has it
abbrev pub change_lines : Changed → List (List ℕ)
change_lines it = event_lines (first_point it) it.events
