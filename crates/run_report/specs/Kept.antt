-- How the outcomes of a round lie in buffers and in lists (this project's own).
use Rattle.std.specs.Prelude.{◌≡◌, ℕ, zero, suc, ◌≤◌, List, [], ◌∷◌, length, slice_get, slice_range, Option}
use Rattle.std.specs.Prelude.{option_and_then, filter_map}
use Rattle.std.specs.Option.{IsSome}
use Rattle.run_report.specs.declared.outcomes.Outcome.{Outcome}
use Rattle.run_report.specs.declared.outcomes.OutcomePlace.{OutcomePlace}
use Rattle.run_report.specs.declared.outcomes.OutcomeView.{OutcomeView}
use Rattle.run_report.specs.declared.outcome_list.Row.{Row}
use Rattle.run_report.specs.declared.outcome_list.Ends.{Ends}

-- where the first packet's parts begin
abbrev pub first_ends : Ends
first_ends = record { bytes = 0; points = 0; executed = 0 }

-- where the buffers end
abbrev pub ends_of : List ℕ → List ℕ → List (ℕ × ℕ) → Ends
ends_of bytes points executed =
    record { bytes = length bytes; points = length points; executed = length executed }

-- where a packet's parts begin and end
abbrev pub AreParts : Ends → Ends → Type 0
AreParts start end = (start.bytes ≤ end.bytes) × (start.points ≤ end.points) × (start.executed ≤ end.executed)

-- the parts of the first row's packet begin there, those of each other where the ones before end, and the last
-- ones end with the buffers
abbrev pub AreRowsUpTo : Ends → Ends → List Row → Type 0
AreRowsUpTo last start [] = start ≡ last
AreRowsUpTo last start (row ∷ rows) = AreParts start row.ends × AreRowsUpTo last row.ends rows

-- where the parts of the packet in a row begin, from 0
abbrev pub start_of : Ends → List Row → ℕ → Ends
start_of start rows zero = start
start_of start [] (suc k) = start
start_of start (row ∷ rows) (suc k) = start_of row.ends rows k

-- the outcome whose lists are the parts from there up to the row's ends
abbrev pub outcome_in : List ℕ → List ℕ → List (ℕ × ℕ) → Ends → Row → Outcome
outcome_in bytes points executed start row = record {
  worker = row.worker;
  verdict = row.verdict;
  bytes = slice_range bytes start.bytes row.ends.bytes;
  meta = record { priority = row.priority; mark = row.mark; queue = row.queue };
  points = slice_range points start.points row.ends.points;
  executed = slice_range executed start.executed row.ends.executed;
}

abbrev pub outcomes_in : List ℕ → List ℕ → List (ℕ × ℕ) → Ends → List Row → List Outcome
outcomes_in bytes points executed start [] = []
outcomes_in bytes points executed start (row ∷ rows) =
    outcome_in bytes points executed start row ∷ outcomes_in bytes points executed row.ends rows

-- the outcome that is lent
abbrev pub outcome_seen : OutcomeView → Outcome
outcome_seen view = record {
  worker = view.worker;
  verdict = view.verdict;
  bytes = view.bytes.now;
  meta = view.meta;
  points = view.points.now;
  executed = view.executed.now;
}

-- the outcome in a row of one of these lists
abbrev pub outcome_there : List (List Outcome) → OutcomePlace → Option Outcome
outcome_there lists place =
    option_and_then (λ (rows : List Outcome). slice_get rows place.row) (slice_get lists place.list)

abbrev pub IsThere : List (List Outcome) → OutcomePlace → Type 0
IsThere lists place = IsSome (outcome_there lists place)

-- the outcomes at these places, in order
abbrev pub outcomes_there : List (List Outcome) → List OutcomePlace → List Outcome
outcomes_there lists places = filter_map (outcome_there lists) places
