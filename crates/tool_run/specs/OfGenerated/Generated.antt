-- What `gen` makes for a number of filters and the front of the files' names (this project's own).
use Rattle.std.specs.Prelude.{◌≡◌, ℕ, List, [], ◌∷◌, ◌++◌, is_some, codes, false}
use Rattle.tc_base.specs.declared.hook.Hook.TheVariants.{Ingress}
use Rattle.pcap_io.specs.declared.capture.Capture.{Capture}
use Rattle.pcap_io.specs.declared.capture.Packet.{Packet}
use Rattle.pcap_io.specs.Written.{capture_bytes}
use Rattle.filter_state.specs.States.{no_state}
use Rattle.gen_files.specs.Generated.{batch_text, packets_of, job_text}
use Rattle.batch_run.specs.Commands.{commands_of}
use Rattle.batch_run.specs.Runs.{Ran, IsRun}
use Rattle.batch_walk.specs.Walked.{closing_text}
use Rattle.capture_walk.specs.Captures.{output_of}
use Rattle.tool_run.specs.declared.generated.workload.Generated.{Generated}

-- a capture of packets: the lowest byte first, and microseconds
abbrev pub plain_capture : List Packet → Capture
plain_capture packets = record { big = false; nanos = false; packets = packets }

-- the capture that is made
abbrev pub capture_of : ℕ → Capture
capture_of filters = plain_capture (packets_of filters)

-- what the generated batch comes to
abbrev pub IsRunOf : ℕ → Ran → Type 0
IsRunOf filters ran = IsRun no_state 0 (commands_of (batch_text filters)) ran

-- the packets that pass the state that the batch leaves
abbrev pub output_bytes : ℕ → Ran → List ℕ
output_bytes filters ran = capture_bytes (output_of ran.state Ingress (capture_of filters))

-- a file's name and bytes
pub record MadeFile : Type 0 where
  pub name : List ℕ
  pub bytes : List ℕ

-- a batch, a capture, a job and its output as files, in this order, whose names begin with a front
abbrev pub files_of : List ℕ → List ℕ → List ℕ → List ℕ → List ℕ → List MadeFile
files_of front batch capture job output =
    record { name = front ++ codes ".tc"; bytes = batch }
    ∷ record { name = front ++ codes ".pcap"; bytes = capture }
    ∷ record { name = front ++ codes ".job"; bytes = job }
    ∷ record { name = front ++ codes ".out.pcap"; bytes = output }
    ∷ []

-- THE FILES THAT ARE MADE: the batch, the capture, the job, and what the job's run puts
abbrev pub made_files : ℕ → List ℕ → Ran → List MadeFile
made_files filters front ran = files_of front (batch_text filters) (capture_bytes (capture_of filters))
    (job_text front) (output_bytes filters ran)

-- THE TEXT: the counters of the job's run, the summary, `end`
abbrev pub made_text : ℕ → Ran → List ℕ
made_text filters ran = closing_text ran Ingress (packets_of filters)

-- what was made is what the generated batch and capture give
pub record IsGenerated (filters : ℕ) (front : List ℕ) (ran : Ran) (made : Generated) : Type 0 where
  pub batch : made.batch.items ≡ batch_text filters
  pub capture : made.capture.items ≡ capture_bytes (capture_of filters)
  pub job : made.job.items ≡ job_text front
  pub output : made.output.items ≡ output_bytes filters ran
  pub text : made.text.items ≡ made_text filters ran
  pub refused : made.refused ≡ is_some ran.stop
