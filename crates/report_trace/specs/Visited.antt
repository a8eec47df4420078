-- THE VISITS THAT ARE TOLD of a packet of a lawful run (this project's own).
use Rattle.std.specs.Prelude.{◌≡◌, ℕ, List, Some}
use Rattle.filter_state.specs.declared.edit.Edit.{Edit}
use Rattle.walk_rules.specs.Steps.{begun}
use Rattle.walk_rules.specs.Walks.{outcome_of}
use Rattle.run_report.specs.declared.outcomes.Outcome.{Outcome}
use Rattle.lawful_runs.specs.Given.{Arrival}
use Rattle.lawful_runs.specs.Outcomes.{IsWalked}
use Rattle.batch_trace.specs.Passed.{Entry}
use Rattle.walk_trace.specs.Traces.{stands_behind}
use Rattle.walk_trace.specs.Visited.{AreVisits}
use Rattle.report_trace.specs.Traced.{steps_in}

-- a walk makes its record lawful; the steps that are told are the visits of that walk, in order, and end as it
-- does
pub record IsToldAsWalked (entries : List Entry) (journal : List Edit) (floor ceiling : ℕ) (arrival : Arrival)
    (outcome : Outcome) : Type 0 where
  pub walked : IsWalked journal floor ceiling arrival outcome
  pub visits : AreVisits (steps_in entries arrival outcome) walked.visits
  pub ends : outcome_of (stands_behind (begun arrival.hook arrival.packet.bytes)
      (steps_in entries arrival outcome)) ≡ Some walked.walk
