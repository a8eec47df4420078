-- What becomes of the packets of a round (this project's own).
use Rattle.std.specs.Prelude.{◌≡◌, ℕ, ◌≤◌, max, List, [], ◌∷◌, ◌++◌, length, map, take, slice_get, Some}
use Rattle.pcap_io.specs.declared.capture.Packet.{Packet}
use Rattle.filter_state.specs.declared.edit.Edit.{Edit}
use Rattle.filter_state.specs.Journals.{state_at}
use Rattle.walk_rules.specs.Steps.{Execution, begun}
use Rattle.walk_rules.specs.Walks.{Outcome as WalkOutcome, IsWalk}
use Rattle.walk_ends.specs.Passing.{regrown, passed_by}
use Rattle.run_report.specs.declared.outcomes.Outcome.{Outcome}
use Rattle.lawful_runs.specs.Given.{Arrival}
use Rattle.walk_rules.specs.OfPoints.Points.{Visit, IsVisited, AreLawfulPoints}
use Rattle.lawful_runs.specs.Points.{seen_by}

-- the record has a walk's verdict, frame, metadata and executions
pub record IsRecordOf (outcome : Outcome) (walk : WalkOutcome) : Type 0 where
  pub verdict : outcome.verdict ≡ walk.verdict
  pub bytes : outcome.bytes ≡ walk.frame.bytes
  pub meta : outcome.meta ≡ walk.frame.meta
  pub executed : outcome.executed ≡ map (λ (e : Execution). (e.serial, e.length)) walk.executed

-- THE WALK OF A PACKET over the states of a journal, a visit at each point of its record, and the points are
-- lawful
pub record IsWalked (journal : List Edit) (floor ceiling : ℕ) (arrival : Arrival)
    (outcome : Outcome) : Type 0 where
  pub walk : WalkOutcome
  pub visits : List Visit
  pub walks : IsWalk (IsVisited (λ point. state_at point journal)) []
      (begun arrival.hook arrival.packet.bytes) outcome.points visits walk
  pub recorded : IsRecordOf outcome walk
  pub points : AreLawfulPoints floor ceiling visits

-- One record for each packet. A worker's floor is the number of edits accepted before the round, or what it
-- saw in earlier walks, of this round and of those before, where that is more.
pub record AreWalked (workers : ℕ) (journal : List Edit) (before ceiling : ℕ) (earlier : List Outcome)
    (arrivals : List Arrival) (outcomes : List Outcome) : Type 0 where
  pub one_each : length outcomes ≡ length arrivals
  pub worker : (place : ℕ) (outcome : Outcome) → slice_get outcomes place ≡ Some outcome
      → (1 ≤ outcome.worker) × (outcome.worker ≤ workers)
  pub walked : (place : ℕ) (arrival : Arrival) (outcome : Outcome) → slice_get arrivals place ≡ Some arrival
      → slice_get outcomes place ≡ Some outcome
      → IsWalked journal (max before (seen_by outcome.worker (earlier ++ take place outcomes))) ceiling
      arrival outcome

-- ---- the packets that pass
-- a packet as its walk left it
abbrev pub left_packet : Packet → Outcome → Packet
left_packet packet outcome = record {
  seconds = packet.seconds;
  fraction = packet.fraction;
  original = regrown packet.original (length packet.bytes) (length outcome.bytes);
  bytes = outcome.bytes;
}

-- those that pass, in order
abbrev pub passed_of : List Arrival → List Outcome → List Packet
passed_of (arrival ∷ arrivals) (outcome ∷ outcomes) =
    passed_by outcome.verdict (left_packet arrival.packet outcome) ++ passed_of arrivals outcomes
passed_of [] outcomes = []
passed_of (arrival ∷ arrivals) [] = []
