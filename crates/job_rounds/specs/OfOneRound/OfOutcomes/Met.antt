-- What a desk that met the readers of workers knows of what they brought back (this project's own).
use Rattle.std.specs.Prelude.{◌≡◌, ℕ, ◌+◌, ◌≤◌, List, slice_get, Some}
use mathlib.Core.List.{IsPrefix}
use Rattle.pin_store.specs.Calls.{seen_by, sheet_of}
use Rattle.filter_state.specs.declared.edit.Edit.{Edit}
use Rattle.run_report.specs.declared.outcomes.Outcome.{Outcome}
use Rattle.lawful_runs.specs.Given.{Arrival}
use Rattle.lawful_runs.specs.OfLogs.Logs.{LogRow, ArePointsTo}
use Rattle.worker_rounds.specs.OfWalks.Walked.{journal_of}
use Rattle.worker_rounds.specs.declared.worker.Worker.{Worker}
use Rattle.worker_rounds.specs.Worked.{IsWorked}
use Rattle.job_rounds.specs.OfRoundState.Views.{DeskView}

-- a desk but for its place in the store's table; it has seen the same commits
pub record IsSameDesk (old new : DeskView) : Type 0 where
  pub seen : seen_by new.place ≡ seen_by old.place
  pub sheet : sheet_of new.place ≡ sheet_of old.place
  pub rest : new ≡ record old { place = new.place }

-- a worker but for its reader's place in the store's table; the reader knows the same there
pub record IsSameWorker (old new : Worker) : Type 0 where
  pub me : new.reader.place.me ≡ old.reader.place.me
  pub rest : new ≡ record old { reader = record old.reader { place = new.reader.place } }

-- A WORKER'S ROWS, whose reader the desk has met: what that has seen in the end begins the journal. At first
-- it had seen as much as the edits before the round, and all points of the worker's earlier outcomes.
pub record IsBack (number : ℕ) (journal : List Edit) (before : ℕ) (earlier : List Outcome)
    (arrivals : List Arrival) (rows : List LogRow) : Type 0 where
  pub first : Worker
  pub last : Worker
  pub worked : IsWorked number arrivals first.reader last.reader rows
  pub met : IsPrefix (journal_of last.reader) journal
  pub late : before ≤ first.reader.latest
  pub seen : (place : ℕ) (outcome : Outcome) → slice_get earlier place ≡ Some outcome
      → outcome.worker ≡ number → ArePointsTo first.reader.latest outcome.points

-- the rows of all workers, who are numbered from 1
abbrev pub AreBack : List Edit → ℕ → List Outcome → List Arrival → List (List LogRow) → Type 0
AreBack journal before earlier arrivals logs = (index : ℕ) (rows : List LogRow)
    → slice_get logs index ≡ Some rows → IsBack (index + 1) journal before earlier arrivals rows
