-- A packet's walk at given points, as a function of them (this project's own).
use Rattle.std.specs.Prelude.{◌≡◌, ℕ, ◌≤◌, max, List, ◌++◌, length, map, Some, None, slice_get}
use Rattle.tc_base.specs.declared.hook.Hook.{Hook}
use Rattle.filter_state.specs.declared.edit.Edit.{Edit}
use Rattle.filter_state.specs.Journals.{state_at}
use Rattle.walk_rules.specs.Questions.{heads_of, filter_of, params_of}
use Rattle.walk_rules.specs.Answers.{answer_of}
use Rattle.walk_rules.specs.Steps.{Standing, Execution, begun, question_of}
use Rattle.walk_rules.specs.Walks.{Outcome as WalkOutcome, outcome_of}
use Rattle.run_report.specs.declared.outcomes.Outcome.{Outcome}
use Rattle.run_report.specs.declared.rounds.RoundRecord.{RoundRecord}
use Rattle.lawful_runs.specs.Given.{Arrival, GivenRound}
use Rattle.lawful_runs.specs.Lawful.{outcomes_in}
use Rattle.walk_rules.specs.OfPoints.Points.{AreLawfulPoints}
use Rattle.lawful_runs.specs.Points.{seen_by}
use Rattle.point_walks.specs.Over.{Answering, stands_after}
use Rattle.point_walks.specs.Visits.{visits_over}

-- the states of a journal answer
abbrev pub answers_of : List Edit → Answering
answers_of journal point question = answer_of (state_at point journal) question

-- the record of a walk by a worker
abbrev pub recorded_by : ℕ → List ℕ → WalkOutcome → Outcome
recorded_by worker points walk = record {
  worker = worker;
  verdict = walk.verdict;
  bytes = walk.frame.bytes;
  meta = walk.frame.meta;
  points = points;
  executed = map (λ (e : Execution). (e.serial, e.length)) walk.executed;
}

-- THE WALK AT THESE POINTS over a journal's states: it comes to an end with the last of them, and they are
-- lawful
pub record WalksAt (journal : List Edit) (floor ceiling : ℕ) (arrival : Arrival) (points : List ℕ)
    (walk : WalkOutcome) : Type 0 where
  pub end : Standing
  pub stands : stands_after (answers_of journal) (begun arrival.hook arrival.packet.bytes) points ≡ Some end
  pub over : question_of end ≡ None
  pub outcome : outcome_of end ≡ Some walk
  pub lawful : AreLawfulPoints floor ceiling
      (visits_over (answers_of journal) (begun arrival.hook arrival.packet.bytes) points)

-- ---- the next packet of a round
-- the floor of a worker's next walk: the edits before the round, or what it saw, where that is more
abbrev pub floor_for : List RoundRecord → List Edit → RoundRecord → ℕ → ℕ
floor_for its before it worker = max (length before) (seen_by worker (outcomes_in its ++ it.outcomes))

-- a worker can have walked the next packet at these points
pub record IsNextWalk (workers : ℕ) (round : GivenRound) (its : List RoundRecord) (before : List Edit)
    (it : RoundRecord) (edits : List Edit) (worker : ℕ) (arrival : Arrival) (points : List ℕ)
    (walk : WalkOutcome) : Type 0 where
  pub there : slice_get round.arrivals (length it.outcomes) ≡ Some arrival
  pub least : 1 ≤ worker
  pub most : worker ≤ workers
  pub walks : WalksAt (before ++ edits) (floor_for its before it worker) (length (before ++ edits)) arrival
      points walk

-- answers that are a journal's: for masks and actions at each point, for the tables of one hook at one point
-- alone
pub record AgreesFrom (answers : Answering) (journal : List Edit) (hook : Hook) (first : ℕ) : Type 0 where
  pub head : answers first (heads_of hook) ≡ answers_of journal first (heads_of hook)
  pub filters : (point table mask : ℕ) (values : List ℕ)
      → answers point (filter_of table mask values) ≡ answers_of journal point (filter_of table mask values)
  pub params : (point serial : ℕ)
      → answers point (params_of serial) ≡ answers_of journal point (params_of serial)
