-- What comes of a job that is run (this project's own). Which lines are refused can depend on how the threads of
-- a run interleave, so the files alone don't say how it ends: a lawful run does.
use Rattle.std.specs.Prelude.{◌≡◌, ◌⊎◌, ℕ, List, Option}
use Rattle.tc_base.specs.Outside.{Held, Appended, AppendsUpTo}
use Rattle.run_report.specs.declared.record.RunRecord.{RunRecord}
use Rattle.run_report.specs.Counts.{summary_of}
use Rattle.run_report.specs.Reports.{report_text}
use Rattle.lawful_runs.specs.declared.loaded.LoadedJob.{LoadedJob}
use Rattle.lawful_runs.specs.Lawful.{IsLawfulRun}
use Rattle.tool_words.specs.declared.status.Status.{Status}
use Rattle.tool_words.specs.Ends.{status_of_refused}
use Rattle.job_files.specs.Holdings.{HasJob}
use Rattle.tool_run.specs.OfOutputs.Outputs.{outputs_of}
use Rattle.tool_run.specs.OfOutputs.Puts.{ArePut, ArePutUpTo}

-- THE JOB UNDER THE NAME, and a lawful run of it
pub record IsRunOfHeld (told : Option Held) (name : List ℕ) (loaded : LoadedJob) (run : RunRecord) : Type 0 where
  pub held : HasJob told name loaded
  pub lawful : IsLawfulRun loaded run

-- a run ends with how many of its lines were refused
abbrev pub status_of_run : RunRecord → Status
status_of_run run = status_of_refused (summary_of run.rounds).refused

-- some lawful run of the held job ends with this status
abbrev pub JobEnds : Option Held → List ℕ → Status → Type 0
JobEnds told name status =
    (loaded : LoadedJob) × (run : RunRecord) × IsRunOfHeld told name loaded run × (status ≡ status_of_run run)

-- the job is held, and each lawful run of it ends with this status
abbrev pub JobEndsOnly : Option Held → List ℕ → Status → Type 0
JobEndsOnly told name status =
    (loaded : LoadedJob) × HasJob told name loaded
    × ((run : RunRecord) → IsLawfulRun loaded run → status ≡ status_of_run run)

-- A LAWFUL RUN OF THE HELD JOB: its captures were put one after the other, and its report was written, whole
pub record RanJob (held_old held_new : Option Held) (written_old written_new : Option (List ℕ)) (name : List ℕ)
    (status : Status) : Type 0 where
  pub loaded : LoadedJob
  pub run : RunRecord
  pub runs : IsRunOfHeld held_old name loaded run
  pub ended : status ≡ status_of_run run
  pub put : ArePut held_old held_new (outputs_of loaded run)
  pub wrote : Appended written_old written_new (report_text run)

-- how far such a run's captures and report came: nothing of the report is written before all captures stand
pub record RanFront (held_old held_new : Option Held) (written_old written_new : Option (List ℕ)) (name : List ℕ)
    : Type 0 where
  pub loaded : LoadedJob
  pub run : RunRecord
  pub runs : IsRunOfHeld held_old name loaded run
  pub put : ArePutUpTo held_old held_new (outputs_of loaded run)
  pub front : (written_new ≡ written_old)
      ⊎ (ArePut held_old held_new (outputs_of loaded run) × AppendsUpTo written_old written_new (report_text run))

-- how far a run came, however it ended
abbrev pub RanSoFar : Option Held → Option Held → Option (List ℕ) → Option (List ℕ) → List ℕ → Type 0
RanSoFar held_old held_new written_old written_new name =
    ((held_new ≡ held_old) × (written_new ≡ written_old))
    ⊎ RanFront held_old held_new written_old written_new name
