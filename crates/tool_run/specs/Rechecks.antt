-- How a report is judged, and what is answered and written of it (this project's own).
use Rattle.std.specs.Prelude.{◌≡◌, ◌⊎◌, ℕ, List, ◌++◌, Option, codes}
use Rattle.tc_base.specs.Outside.{Held}
use Rattle.walk_texts.specs.Texts.{counted}
use Rattle.lawful_runs.specs.declared.loaded.LoadedJob.{LoadedJob}
use Rattle.tool_words.specs.declared.status.Status.{Status}
use Rattle.tool_words.specs.declared.status.Status.TheVariants as statuses
use Rattle.job_files.specs.OfInputs.Holdings.{Holds}
use Rattle.job_files.specs.OfInputs.Failures.{ReadFails}
use Rattle.job_files.specs.Holdings.{HasJob}
use Rattle.job_files.specs.Faults.{JobBreaks, JobReads}
use Rattle.report_trace.specs.Passed.{Check, IsCheckOf}
use Rattle.report_trace.specs.Passed.checks

abbrev pub status_of_check : Check → Status
status_of_check checks.Lawful = statuses.Done
status_of_check (checks.Unlawful line reason) = statuses.NotLawful line reason

-- `lawful`, or `unlawful L` with the first line with which no lawful report goes on
abbrev pub check_text : Check → List ℕ
check_text checks.Lawful = codes "lawful\n"
check_text (checks.Unlawful line reason) = counted (codes "unlawful ") line ++ codes "\n"

-- THE JOB under the one name, the report under the other, and what is answered of that report for that job
pub record Judges (told : Option Held) (job report : List ℕ) (check : Check) : Type 0 where
  pub loaded : LoadedJob
  pub bytes : List ℕ
  pub job_held : HasJob told job loaded
  pub report_held : Holds told report bytes
  pub is : IsCheckOf loaded bytes check

-- what is answered of that report ends a run with this status
abbrev pub JudgmentEnds : Option Held → List ℕ → List ℕ → Status → Type 0
JudgmentEnds told job report status =
    (check : Check) × Judges told job report check × (status ≡ status_of_check check)

-- a file that is read: one of the job's, and the report once these are held and well formed
abbrev pub RecheckReads : Option Held → List ℕ → List ℕ → List ℕ → Type 0
RecheckReads told job report name =
    JobReads told job name ⊎ ((name ≡ report) × ((loaded : LoadedJob) × HasJob told job loaded))

-- why no report was judged
abbrev pub JudgingFails : {S : Type 0} → (S → Option Held) → (S → ℕ) → (S → Option (List ℕ)) → S → S → List ℕ
    → List ℕ → Status → Type 0
JudgingFails held read_faults failed_name old new job report (statuses.ReadFault name) =
    RecheckReads (held old) job report name × ReadFails held read_faults failed_name old new name
JudgingFails held read_faults failed_name old new job report (statuses.BadInput name place kind) =
    JobBreaks (held old) job name place kind
JudgingFails held read_faults failed_name old new job report (statuses.NoMemory memory) = Unit {0}
JudgingFails held read_faults failed_name old new job report status = ⊥
