-- WHICH RUNS OF A JOB ARE LAWFUL (this project's own). Whatever the interleaving of controls and workers was,
-- a run has one journal of accepted edits, and each packet's walk is one over the states of that journal.
use Rattle.std.specs.Prelude.{◌≡◌, ℕ, ◌==◌, List, [], ◌∷◌, ◌++◌, length, map, count_by, sum_by, if◌then◌else◌}
use Rattle.std.specs.List.{flat_map}
use Rattle.filter_state.specs.declared.edit.Edit.{Edit}
use Rattle.filter_state.specs.States.{State, no_state}
use Rattle.filter_state.specs.Steps.{step}
use Rattle.filter_state.specs.Journals.{state_after, state_from}
use Rattle.batch_run.specs.declared.made_action.MadeAction.{MadeAction}
use Rattle.batch_run.specs.Made.{made_since}
use Rattle.run_report.specs.declared.counters.CounterLine.{CounterLine}
use Rattle.run_report.specs.declared.outcomes.Outcome.{Outcome}
use Rattle.run_report.specs.declared.rounds.RoundRecord.{RoundRecord}
use Rattle.run_report.specs.declared.record.RunRecord.{RunRecord}
use Rattle.run_report.specs.Reports.{report_text}
use Rattle.lawful_runs.specs.declared.loaded.LoadedJob.{LoadedJob}
use Rattle.lawful_runs.specs.Given.{GivenRound, given_rounds}
use Rattle.lawful_runs.specs.Events.{AreInOrder, AreResults}
use Rattle.lawful_runs.specs.Outcomes.{AreWalked}

-- ---- rounds
-- a round behind the edits and the walks of the rounds before it, which accepts these edits
pub record IsRound (workers : ℕ) (round : GivenRound) (before : List Edit) (earlier : List Outcome)
    (it : RoundRecord) (edits : List Edit) : Type 0 where
  pub order : AreInOrder round.batches it.events
  pub results : AreResults round.batches (state_from no_state before) it.events edits
  pub walked : AreWalked workers (before ++ edits) (length before)
      (length (before ++ edits)) earlier round.arrivals it.outcomes

-- rounds one after the other; the journal has the edits of all
abbrev pub AreRounds : ℕ → List GivenRound → List Edit → List Outcome → List RoundRecord → List Edit → Type 0
AreRounds workers [] before earlier [] journal = journal ≡ before
AreRounds workers [] before earlier (it ∷ its) journal = ⊥
AreRounds workers (round ∷ rounds) before earlier [] journal = ⊥
AreRounds workers (round ∷ rounds) before earlier (it ∷ its) journal =
    (edits : List Edit) × IsRound workers round before earlier it edits
    × AreRounds workers rounds (before ++ edits) (earlier ++ it.outcomes) its journal

-- ---- counters
-- the actions that edits ever make, from a state on, in order
abbrev pub made_by : State → List Edit → List MadeAction
made_by s [] = []
made_by s (edit ∷ edits) = made_since s (state_after s (step s edit))
    ++ made_by (state_after s (step s edit)) edits

abbrev pub executed_in : List Outcome → List (ℕ × ℕ)
executed_in outcomes = flat_map (λ (outcome : Outcome). outcome.executed) outcomes

-- how often an action ran, and on how many bytes
abbrev pub counter_of : List (ℕ × ℕ) → MadeAction → CounterLine
counter_of executed made = record {
  serial = made.serial;
  kind = made.kind;
  index = made.index;
  packets = count_by (λ (e : ℕ × ℕ). e.0 == made.serial) executed;
  bytes = sum_by (λ (e : ℕ × ℕ). if e.0 == made.serial then e.1 else 0) executed;
}

abbrev pub outcomes_in : List RoundRecord → List Outcome
outcomes_in rounds = flat_map (λ (round : RoundRecord). round.outcomes) rounds

abbrev pub counters_of : List Edit → List RoundRecord → List CounterLine
counters_of journal rounds = map (counter_of (executed_in (outcomes_in rounds))) (made_by no_state journal)

-- ---- runs and reports
-- a run of the job with this journal
pub record IsRunWith (loaded : LoadedJob) (run : RunRecord) (journal : List Edit) : Type 0 where
  pub rounds : AreRounds loaded.job.workers (given_rounds loaded) [] [] run.rounds journal
  pub counters : run.counters ≡ counters_of journal run.rounds

abbrev pub IsLawfulRun : LoadedJob → RunRecord → Type 0
IsLawfulRun loaded run = (journal : List Edit) × IsRunWith loaded run journal

-- THE TEXT OF A LAWFUL RUN
abbrev pub IsLawfulReport : LoadedJob → List ℕ → Type 0
IsLawfulReport loaded bytes = (run : RunRecord) × IsLawfulRun loaded run × (bytes ≡ report_text run)
