-- The counters of a run (this project's own).
use Rattle.walk_ends.specs.declared.limits.TheConstants.{PACKETS_MAX}
use Rattle.std.specs.Prelude.{◌≡◌, ℕ, ◌≤◌, List, length, map}
use Rattle.filter_state.specs.Sound.{Each}
use Rattle.walk_ends.specs.declared.counts.Count.{Count}
use Rattle.walk_steps.specs.Told.{IsShortRun}
use Rattle.batch_run.specs.declared.made_action.MadeAction.{MadeAction}
use Rattle.run_report.specs.declared.counters.CounterLine.{CounterLine}
use Rattle.run_report.specs.declared.outcomes.Outcome.{Outcome}
use Rattle.lawful_runs.specs.Lawful.{executed_in}
use Rattle.run_counts.specs.Counting.{count_of, counted_in}

-- what these packets ran was counted
abbrev pub AreCounted : List Outcome → List Count → Type 0
AreCounted outcomes counts = (serial : ℕ) → count_of counts serial ≡ counted_in (executed_in outcomes) serial

-- packets of one run: no more than it may have, each with what one walk can run
pub record AreOfRun (outcomes : List Outcome) : Type 0 where
  pub few : length outcomes ≤ PACKETS_MAX
  pub short : Each (λ (outcome : Outcome). IsShortRun outcome.executed) outcomes

-- the counter of an action
abbrev pub line_of : List Count → MadeAction → CounterLine
line_of counts made = record {
  serial = made.serial;
  kind = made.kind;
  index = made.index;
  packets = (count_of counts made.serial).packets;
  bytes = (count_of counts made.serial).bytes;
}

abbrev pub lines_of : List Count → List MadeAction → List CounterLine
lines_of counts made = map (line_of counts) made
