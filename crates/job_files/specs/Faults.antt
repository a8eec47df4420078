-- Why a job wasn't loaded. A file counts where those before it are held, well formed and within the limits.
use Rattle.walk_ends.specs.declared.limits.TheConstants.{PACKETS_MAX}
use Rattle.batch_run.specs.declared.limit.TheConstants.{COMMANDS_MAX}
use Rattle.std.specs.Prelude.{◌≡◌, ◌⊎◌, ℕ, ◌-◌, List, ◌∷◌, ◌++◌, Option}
use Rattle.tc_base.specs.Outside.{Held}
use Rattle.pcap_io.specs.declared.capture.Capture.{Capture}
use Rattle.job_lines.specs.declared.fault.JobKind.{JobKind}
use Rattle.job_lines.specs.declared.fault.JobKind.TheVariants as job_kinds
use Rattle.job_lines.specs.declared.job.Job.{Job}
use Rattle.job_lines.specs.Files.{IsFormFault}
use Rattle.lawful_runs.specs.Given.{command_count, packet_count}
use Rattle.tool_words.specs.declared.status.InputKind.{InputKind}
use Rattle.tool_words.specs.declared.status.InputKind.TheVariants as kinds
use Rattle.tool_words.specs.declared.status.Status.{Status}
use Rattle.tool_words.specs.declared.status.Status.TheVariants as statuses
use Rattle.job_files.specs.OfInputs.Holdings.{Holds, HasTooManyLines, HasBreak}
use Rattle.job_files.specs.OfInputs.Failures.{ReadFails, LoadFails}
use Rattle.job_files.specs.Named.{JobFile, name_of, files_of}
use Rattle.job_files.specs.Holdings.{HasFiles, HasJobFile}
use Rattle.tc_base.specs.Memory.{no_memory}

-- ---- the job's own file
abbrev pub kind_of : JobKind → InputKind
kind_of job_kinds.JobSyntax = kinds.JobSyntax
kind_of job_kinds.TooManyRounds = kinds.TooManyRounds

-- the job file under the name has its first fault at this line
pub record HasFormFault (told : Option Held) (name : List ℕ) (place : ℕ) (kind : InputKind) : Type 0 where
  pub bytes : List ℕ
  pub what : JobKind
  pub held : Holds told name bytes
  pub is : IsFormFault bytes place what
  pub told_as : kind ≡ kind_of what

-- why the job file gave no job
abbrev pub JobFileFails : {S : Type 0} → (S → Option Held) → (S → ℕ) → (S → Option (List ℕ)) → S → S → List ℕ
    → Status → Type 0
JobFileFails held read_faults failed_name old new name (statuses.BadInput file place kind) =
    (file ≡ name) × HasFormFault (held old) name place kind
JobFileFails held read_faults failed_name old new name status =
    LoadFails held read_faults failed_name old new name status

-- ---- the files that it names
-- how many commands and packets a run has room for behind these batches and captures
abbrev pub command_room : List (List ℕ) → ℕ
command_room batches = COMMANDS_MAX - command_count batches

abbrev pub packet_room : List Capture → ℕ
packet_room captures = PACKETS_MAX - packet_count captures

-- THE FILE BREAKS its form, or passes a limit, behind these batches and captures: first at this place
abbrev pub FileBreaks : Option Held → List (List ℕ) → List Capture → JobFile → List ℕ → ℕ → InputKind → Type 0
FileBreaks told batches captures (JobFile.Batch file) name place kind =
    (name ≡ file) × HasTooManyLines told (command_room batches) file place × (kind ≡ kinds.TooManyLines)
FileBreaks told batches captures (JobFile.Capture file) name place kind =
    (name ≡ file) × HasBreak told (packet_room captures) file place kind

-- a file among these, where those before it are held and give these batches and captures
pub record IsReached (told : Option Held) (files : List JobFile) (batches : List (List ℕ))
    (captures : List Capture) (file : JobFile) : Type 0 where
  pub before : List JobFile
  pub after : List JobFile
  pub order : files ≡ before ++ (file ∷ after)
  pub good : HasFiles told before batches captures

-- the first file of these that isn't good breaks so
pub record FilesBreak (told : Option Held) (files : List JobFile) (name : List ℕ) (place : ℕ)
    (kind : InputKind) : Type 0 where
  pub batches : List (List ℕ)
  pub captures : List Capture
  pub file : JobFile
  pub reached : IsReached told files batches captures file
  pub breaks : FileBreaks told batches captures file name place kind

-- a file among these comes to be read under this name
pub record FilesRead (told : Option Held) (files : List JobFile) (name : List ℕ) : Type 0 where
  pub batches : List (List ℕ)
  pub captures : List Capture
  pub file : JobFile
  pub reached : IsReached told files batches captures file
  pub named : name ≡ name_of file

-- ---- the whole job
-- an input file of the job breaks, first at this place
abbrev pub JobBreaks : Option Held → List ℕ → List ℕ → ℕ → InputKind → Type 0
JobBreaks told job name place kind =
    ((name ≡ job) × HasFormFault told job place kind)
    ⊎ ((said : Job) × HasJobFile told job said × FilesBreak told (files_of said) name place kind)

-- an input file of the job comes to be read
abbrev pub JobReads : Option Held → List ℕ → List ℕ → Type 0
JobReads told job name =
    (name ≡ job) ⊎ ((said : Job) × HasJobFile told job said × FilesRead told (files_of said) name)

-- EVERY FAILURE HAS ITS CAUSE, of which want of memory is free
abbrev pub JobFails : {S : Type 0} → (S → Option Held) → (S → ℕ) → (S → Option (List ℕ)) → S → S → List ℕ
    → Status → Type 0
JobFails held read_faults failed_name old new job (statuses.ReadFault name) =
    JobReads (held old) job name × ReadFails held read_faults failed_name old new name
JobFails held read_faults failed_name old new job (statuses.BadInput name place kind) =
    JobBreaks (held old) job name place kind
JobFails held read_faults failed_name old new job (statuses.NoMemory memory) = Unit {0}
JobFails held read_faults failed_name old new job status = ⊥
