-- What is kept of a lawful report (this project's own).
use Rattle.std.specs.Prelude.{◌≡◌, ◌≤◌, ℕ, List, length}
use Rattle.batch_run.specs.declared.limit.TheConstants.{COMMANDS_MAX}
use Rattle.run_report.specs.declared.record.RunRecord.{RunRecord}
use Rattle.run_report.specs.Reports.{report_text}
use Rattle.lawful_runs.specs.declared.loaded.LoadedJob.{LoadedJob}
use Rattle.lawful_runs.specs.Lawful.{IsRunWith}
use Rattle.report_laws.specs.OfWholePaths.FirstBadLines.{IsFirstBadLine}
use Rattle.journal_replay.specs.declared.replay.Replay.{Replay}
use Rattle.report_check.specs.declared.rechecking.Replayed.{Replayed}
use Rattle.report_check.specs.declared.rechecking.Replayed.TheVariants as replayed
use Rattle.report_check.specs.Reasons.{IsReasonAt}
use Rattle.journal_replay.specs.Placed.{places_in}
use Rattle.journal_replay.specs.Replays.{IsKept}

-- THE JOURNAL OF THE RUN that the report is of, where its edits were read, and what it leads to
pub record IsReplayOf (loaded : LoadedJob) (report : List ℕ) (replay : Replay) : Type 0 where
  pub kept : IsKept replay
  pub few : length replay.journal.items ≤ COMMANDS_MAX
  pub run : RunRecord
  pub lawful : IsRunWith loaded run replay.journal.items
  pub reported : report ≡ report_text run
  pub placed : replay.places.items ≡ places_in run.rounds

-- of any bytes: they are a lawful report with this replay, or this is the first line with which none goes on,
-- and why
abbrev pub IsReplayedOf : LoadedJob → List ℕ → Replayed → Type 0
IsReplayedOf loaded report (replayed.Lawful replay) = IsReplayOf loaded report replay
IsReplayedOf loaded report (replayed.Unlawful line reason) =
    IsFirstBadLine loaded report line × IsReasonAt loaded report line reason
