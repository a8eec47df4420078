-- What the shelf holds under the names of a request, and what follows from it.
use Rattle.batch_run.specs.declared.limit.TheConstants.{COMMANDS_MAX}
use Rattle.std.specs.Prelude.{◌≡◌, ℕ, List, Option, is_some}
use Rattle.tc_base.specs.Outside.{Held}
use Rattle.tc_base.specs.declared.hook.Hook.{Hook}
use Rattle.pcap_io.specs.declared.capture.Capture.{Capture}
use Rattle.pcap_io.specs.Written.{capture_bytes}
use Rattle.filter_state.specs.States.{no_state}
use Rattle.batch_run.specs.Commands.{commands_of}
use Rattle.batch_run.specs.Runs.{Ran, IsRun}
use Rattle.batch_walk.specs.Walked.{walk_text}
use Rattle.report_trace.specs.Passed.{IsBatchTraceOf}
use Rattle.tool_words.specs.declared.status.Status.{Status}
use Rattle.tool_words.specs.Requests.{Names}
use Rattle.walk_ends.specs.declared.limits.TheConstants.{PACKETS_MAX}
use Rattle.job_files.specs.OfInputs.Holdings.{HasBatch, HasCapture}
use Rattle.tool_words.specs.Ends.{status_after}
use Rattle.capture_walk.specs.Captures.{output_of}

-- what comes of the batch under the name, applied where nothing stands
pub record HasRun (told : Option Held) (name : List ℕ) (ran : Ran) : Type 0 where
  pub bytes : List ℕ
  pub batch : HasBatch told COMMANDS_MAX name bytes
  pub runs : IsRun no_state 0 (commands_of bytes) ran

-- a batch stands under the name, within the limit of commands
abbrev pub HasCommands : Option Held → List ℕ → Type 0
HasCommands told name = (bytes : List ℕ) × HasBatch told COMMANDS_MAX name bytes

-- what is held gives a walk at the hook these output bytes, this text and this end
pub record Gives (told : Option Held) (hook : Hook) (names : Names) (output text : List ℕ) (status : Status)
    : Type 0 where
  pub ran : Ran
  pub capture : Capture
  pub batch : HasRun told names.batch ran
  pub packets : HasCapture told PACKETS_MAX names.capture capture
  pub output_is : output ≡ capture_bytes (output_of ran.state hook capture)
  pub text_is : text ≡ walk_text ran hook capture.packets
  pub status_is : status ≡ status_after (is_some ran.stop)

-- what is held gives a trace at the hook this text and this end
pub record GivesTrace (told : Option Held) (hook : Hook) (batch capture text : List ℕ) (status : Status)
    : Type 0 where
  pub bytes : List ℕ
  pub batch_held : HasBatch told COMMANDS_MAX batch bytes
  pub packets : Capture
  pub capture_held : HasCapture told PACKETS_MAX capture packets
  pub ran : Ran
  pub runs : IsRun no_state 0 (commands_of bytes) ran
  pub trace : IsBatchTraceOf (commands_of bytes) ran hook packets.packets text
  pub status_is : status ≡ status_after (is_some ran.stop)
