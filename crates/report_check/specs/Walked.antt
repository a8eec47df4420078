-- What is kept of the packets that were walked (this project's own).
use Rattle.std.specs.Prelude.{◌≡◌, ℕ, ◌+◌, ◌≤◌, List, length, slice_get, Some}
use Rattle.filter_state.specs.declared.edit.Edit.{Edit}
use Rattle.filter_state.specs.Sound.{Each}
use Rattle.filter_state.specs.Journals.{state_at}
use Rattle.filter_lists.specs.Spells.{Spells}
use Rattle.walk_steps.specs.Told.{IsShortRun}
use Rattle.run_report.specs.declared.outcomes.Outcome.{Outcome}
use Rattle.run_report.specs.Counts.{passed_count}
use Rattle.lawful_runs.specs.Points.{seen_by}
use Rattle.lawful_runs.specs.Lawful.{executed_in}
use Rattle.report_check.specs.declared.walker.Walker.{Walker}
use Rattle.report_check.specs.declared.walkers.Walkers.{Walkers}
use Rattle.run_counts.specs.Counting.{count_of, counted_in}

-- a worker has seen what its walks among these saw, and its lists are those of a point no later than that
pub record IsWalker (journal : List Edit) (outcomes : List Outcome) (number : ℕ) (walker : Walker)
    : Type 0 where
  pub seen : walker.seen ≡ seen_by number outcomes
  pub early : walker.at ≤ walker.seen
  pub within : walker.at ≤ length journal
  pub spells : Spells walker.lists (state_at walker.at journal)

-- THE WALKERS behind these packets: one for each worker, and how often each action ran
pub record AreWalkers (workers : ℕ) (journal : List Edit) (outcomes : List Outcome) (walkers : Walkers)
    : Type 0 where
  pub many : length walkers.each.items ≡ workers
  pub stand : (index : ℕ) (walker : Walker) → slice_get walkers.each.items index ≡ Some walker
      → IsWalker journal outcomes (index + 1) walker
  pub counts : (serial : ℕ) → count_of walkers.counts serial ≡ counted_in (executed_in outcomes) serial
  pub short : Each (λ (outcome : Outcome). IsShortRun outcome.executed) outcomes
  pub passed : walkers.passed ≡ passed_count outcomes
  pub all : walkers.passed + walkers.dropped ≡ length outcomes
