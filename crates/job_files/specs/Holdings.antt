-- What the shelf holds of a job: its own file, and the files that it names (this project's own).
use Rattle.walk_ends.specs.declared.limits.TheConstants.{PACKETS_MAX}
use Rattle.batch_run.specs.declared.limit.TheConstants.{COMMANDS_MAX}
use Rattle.std.specs.Prelude.{ℕ, ◌≤◌, List, Option}
use Rattle.std.specs.List.{AllZip}
use Rattle.tc_base.specs.Outside.{Held}
use Rattle.pcap_io.specs.declared.capture.Capture.{Capture}
use Rattle.pcap_io.specs.Captures.{IsCapture}
use Rattle.job_lines.specs.declared.job.Job.{Job}
use Rattle.job_lines.specs.Files.{IsJobOf}
use Rattle.lawful_runs.specs.declared.loaded.LoadedJob.{LoadedJob}
use Rattle.lawful_runs.specs.Given.{command_count, packet_count}
use Rattle.job_files.specs.OfInputs.Holdings.{Holds}
use Rattle.job_files.specs.Named.{JobFile, batches_in, captures_in, files_of}

-- the bytes under the name are this capture
abbrev pub HoldsCapture : Option Held → List ℕ → Capture → Type 0
HoldsCapture told name capture = (bytes : List ℕ) × Holds told name bytes × IsCapture bytes capture

-- THE FILES ARE HELD: each batch's name holds the bytes at its place, each capture's name the capture at its
-- place, and all together they are within the limits of a run
pub record HasFiles (told : Option Held) (files : List JobFile) (batches : List (List ℕ))
    (captures : List Capture) : Type 0 where
  pub batches_held : AllZip (Holds told) (batches_in files) batches
  pub captures_held : AllZip (HoldsCapture told) (captures_in files) captures
  pub few_commands : command_count batches ≤ COMMANDS_MAX
  pub few_packets : packet_count captures ≤ PACKETS_MAX

-- the bytes under the name say this job
pub record HasJobFile (told : Option Held) (name : List ℕ) (job : Job) : Type 0 where
  pub bytes : List ℕ
  pub held : Holds told name bytes
  pub is : IsJobOf bytes job

-- THE JOB UNDER THE NAME, with what the files that it names hold
pub record HasJob (told : Option Held) (name : List ℕ) (loaded : LoadedJob) : Type 0 where
  pub job : HasJobFile told name loaded.job
  pub files : HasFiles told (files_of loaded.job) loaded.batches loaded.captures
