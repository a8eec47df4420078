-- The answer that the files of a job call for.
use Rattle.std.specs.Prelude.{ℕ, List, Option, Result, Ok, Err}
use Rattle.tc_base.specs.Outside.{Held, Rose}
use Rattle.tool_words.specs.declared.status.Status.{Status}
use Rattle.tool_words.specs.declared.status.Status.TheVariants as statuses
use Rattle.lawful_runs.specs.declared.loaded.LoadedJob.{LoadedJob}
use Rattle.job_files.specs.Holdings.{HasJob}
use Rattle.job_files.specs.Faults.{JobBreaks}

-- a failure that the files call for
abbrev pub CallsForFailure : Option Held → List ℕ → Status → Type 0
CallsForFailure told job (statuses.BadInput name place kind) = JobBreaks told job name place kind
CallsForFailure told job status = ⊥

-- THE ANSWER THAT IS DUE, where no read fails and memory is there
abbrev pub CallsFor : Option Held → List ℕ → Result LoadedJob Status → Type 0
CallsFor told job (Ok loaded) = HasJob told job loaded
CallsFor told job (Err status) = CallsForFailure told job status

-- a failure to which what is due yields: a read failed, or memory ran out
abbrev pub IsOutside : {S : Type 0} → (S → ℕ) → S → S → Status → Type 0
IsOutside read_faults old new (statuses.ReadFault name) = Rose (read_faults old) (read_faults new)
IsOutside read_faults old new (statuses.NoMemory memory) = Unit {0}
IsOutside read_faults old new status = ⊥

abbrev pub FailedOutside : {S : Type 0} → (S → ℕ) → S → S → Result LoadedJob Status → Type 0
FailedOutside read_faults old new (Ok loaded) = ⊥
FailedOutside read_faults old new (Err status) = IsOutside read_faults old new status
