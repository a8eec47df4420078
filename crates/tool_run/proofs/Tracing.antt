-- What the input of a trace gives.
use Rattle.std.proofs.Common.{◌≡◌, ℕ, Bool, true, false, List, Option, ap, subst}
use Rattle.batch_run.specs.declared.limit.TheConstants.{COMMANDS_MAX}
use Rattle.walk_ends.specs.declared.limits.TheConstants.{PACKETS_MAX}
use Rattle.tc_base.specs.Outside.{Held}
use Rattle.tc_base.specs.declared.hook.Hook.{Hook}
use Rattle.tc_base.specs.declared.outside.Put.{Put}
use Rattle.tc_base.specs.declared.outside.Put.TheVariants as puts
use Rattle.pcap_io.specs.declared.capture.Capture.{Capture}
use Rattle.filter_state.specs.States.{no_state}
use Rattle.batch_run.specs.Commands.{Command, commands_of}
use Rattle.batch_run.specs.Runs.{Ran, IsRun}
use Rattle.batch_walk.specs.declared.walk.BatchWalk.{BatchWalk}
use Rattle.batch_walk.specs.Walked.{IsWalked}
use Rattle.report_trace.specs.Passed.{IsBatchTraceOf}
use Rattle.tool_words.specs.Command.{Trace}
use Rattle.tool_words.specs.declared.status.Status.{Status}
use Rattle.tool_words.specs.Ends.{status_of, status_after, IsAllDone}
use Rattle.job_files.specs.OfInputs.Holdings.{HasBatch, HasCapture}
use Rattle.tool_run.specs.Holdings.{HasRun, GivesTrace}
use Rattle.tool_run.specs.Work.{Ends}
use Rattle.tool_run.specs.Causes.{CausedTo}
use Rattle.tool_run.specs.Delivered.{LeavesAllUnlessRun}

-- a batch and a capture that stand, and the walk of the one through the other, give the trace of that walk
pub trace_gives : (told : Option Held) (hook : Hook) (batch other bytes : List ℕ) (commands : List Command)
    (capture : Capture) (walk : BatchWalk) (text : List ℕ) → HasBatch told COMMANDS_MAX batch bytes
    → commands ≡ commands_of bytes → HasCapture told PACKETS_MAX other capture
    → ((ran : Ran) × IsRun no_state 0 commands ran × IsWalked ran hook capture walk)
    → ((ran : Ran) → IsWalked ran hook capture walk → IsBatchTraceOf commands ran hook capture.packets text)
    → GivesTrace told hook batch other text (status_after walk.refused)
trace_gives told hook batch other bytes commands capture walk text held are stands walked traced = record {
  bytes = bytes;
  batch_held = held;
  packets = capture;
  capture_held = stands;
  ran = walked.0;
  runs = subst (λ (cs : List Command). IsRun no_state 0 cs walked.0) are walked.1;
  trace = subst (λ (cs : List Command). IsBatchTraceOf cs walked.0 hook capture.packets text) are
      (traced walked.0 walked.2);
  status_is = ap status_after walked.2.refused;
}

-- and a trace may end as that says
pub trace_ends : (told : Option Held) (hook : Hook) (batch capture text : List ℕ) (status : Status)
    → GivesTrace told hook batch capture text status → Ends told (Trace hook batch capture) status
trace_ends told hook batch capture text status gives =
    let ran : HasRun told batch gives.ran =
    record { bytes = gives.bytes; batch = gives.batch_held; runs = gives.runs } in
    ((gives.ran, ran, gives.status_is), (gives.packets, gives.capture_held))

pub traced_caused : {S O : Type 0} (held : S → Option Held) (read_faults : S → ℕ)
    (failed_name : S → Option (List ℕ)) (write_faults : S → ℕ) (faults : O → ℕ) (old new : S)
    (sink_old sink_new : O) (hook : Hook) (batch capture text : List ℕ) (refused : Bool)
    → GivesTrace (held old) hook batch capture text (status_after refused)
    → CausedTo held read_faults failed_name write_faults faults old new sink_old sink_new
    (Trace hook batch capture) (status_after refused)
traced_caused held read_faults failed_name write_faults faults old new a b hook batch capture text false gives =
    trace_ends (held old) hook batch capture text (status_after false) gives
traced_caused held read_faults failed_name write_faults faults old new a b hook batch capture text true gives =
    trace_ends (held old) hook batch capture text (status_after true) gives

-- where a trace could not be written, not all was done, and some of it may have been
pub put_is_not_done : (put : Put) → IsAllDone (status_of put) → ⊥
put_is_not_done puts.Failed done = done
put_is_not_done (puts.NoMemory memory) done = done

pub put_may_leave : (held_old held_new : Option Held) (written_old written_new : Option (List ℕ)) (put : Put)
    → LeavesAllUnlessRun held_old held_new written_old written_new (status_of put)
put_may_leave held_old held_new written_old written_new puts.Failed = tt
put_may_leave held_old held_new written_old written_new (puts.NoMemory memory) = tt
