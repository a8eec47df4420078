-- The input of a request that is held and well formed, within the limits.
use Rattle.batch_run.specs.declared.limit.TheConstants.{COMMANDS_MAX}
use Rattle.walk_ends.specs.declared.limits.TheConstants.{PACKETS_MAX}
use Rattle.std.specs.Prelude.{◌≡◌, ℕ, List, Option, Some, IsSome}
use Rattle.tc_base.specs.Outside.{Held}
use Rattle.pcap_io.specs.declared.capture.Capture.{Capture}
use Rattle.lawful_runs.specs.declared.loaded.LoadedJob.{LoadedJob}
use Rattle.tool_words.specs.Command.{ChangeFiles, Request, Walk, Show, Run, Recheck, Gen, Trace, TraceReport, Foresee}
use Rattle.job_files.specs.OfInputs.Holdings.{Holds, HasBatch, HasCapture}
use Rattle.job_files.specs.Holdings.{HasJob}
use Rattle.job_files.specs.declared.inputs.changes.LoadedChange.{LoadedChange}
use Rattle.job_files.specs.Changes.{HasChange}

-- the shelf tells what it holds, and the batch stands
pub record ShowReady (told : Option Held) (name : List ℕ) : Type 0 where
  pub held : Held
  pub tells : told ≡ Some held
  pub bytes : List ℕ
  pub batch : HasBatch told COMMANDS_MAX name bytes

-- the shelf tells what it holds, both files stand, and the capture is well formed
pub record WalkReady (told : Option Held) (batch capture : List ℕ) : Type 0 where
  pub held : Held
  pub tells : told ≡ Some held
  pub bytes : List ℕ
  pub batch_stands : HasBatch told COMMANDS_MAX batch bytes
  pub packets : Capture
  pub capture_stands : HasCapture told PACKETS_MAX capture packets

-- the shelf tells what it holds, and the job stands with its files
pub record RunReady (told : Option Held) (job : List ℕ) : Type 0 where
  pub held : Held
  pub tells : told ≡ Some held
  pub loaded : LoadedJob
  pub job_stands : HasJob told job loaded

-- the same, and the report stands too, whatever it says
pub record RecheckReady (told : Option Held) (job report : List ℕ) : Type 0 where
  pub held : Held
  pub tells : told ≡ Some held
  pub loaded : LoadedJob
  pub job_stands : HasJob told job loaded
  pub bytes : List ℕ
  pub report_stands : Holds told report bytes

-- the same of the files of a change
pub record ChangeReady (told : Option Held) (names : ChangeFiles) : Type 0 where
  pub held : Held
  pub tells : told ≡ Some held
  pub files : LoadedChange
  pub files_stand : HasChange told names files

-- `gen` has no input: there it is enough that the shelf tells what it holds
abbrev pub IsReady : Option Held → Request → Type 0
IsReady told (Show b) = ShowReady told b
IsReady told (Walk hook b c o) = WalkReady told b c
IsReady told (Trace hook b c) = WalkReady told b c
IsReady told (Run job) = RunReady told job
IsReady told (Recheck job report) = RecheckReady told job report
IsReady told (TraceReport job report) = RecheckReady told job report
IsReady told (Foresee hook names force) = ChangeReady told names
IsReady told (Gen count front) = IsSome told
