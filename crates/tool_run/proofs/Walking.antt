-- What the input of a walk gives, and how far the walk comes with that.
use Rattle.std.proofs.Common.{◌≡◌, ◌⊎◌, inl, inr, ℕ, List, Option, ap, subst}
use Rattle.batch_run.specs.declared.limit.TheConstants.{COMMANDS_MAX}
use Rattle.walk_ends.specs.declared.limits.TheConstants.{PACKETS_MAX}
use Rattle.tc_base.specs.Outside.{Held, AppendsUpTo, OthersStay, Stands}
use Rattle.tc_base.specs.Pieces.{joined}
use Rattle.tc_base.specs.declared.hook.Hook.{Hook}
use Rattle.pcap_io.specs.declared.capture.Capture.{Capture}
use Rattle.filter_state.specs.States.{no_state}
use Rattle.batch_run.specs.Commands.{Command, commands_of}
use Rattle.batch_run.specs.Runs.{Ran, IsRun}
use Rattle.batch_walk.specs.declared.walk.BatchWalk.{BatchWalk}
use Rattle.batch_walk.specs.Walked.{IsWalked, told_text}
use Rattle.tool_words.specs.Requests.{Names}
use Rattle.tool_words.specs.declared.status.Status.{Status}
use Rattle.tool_words.specs.Ends.{status_after}
use Rattle.job_files.specs.OfInputs.Holdings.{HasBatch, HasCapture}
use Rattle.tool_run.specs.Holdings.{Gives}
use Rattle.tool_run.specs.Delivered.{WalkedSoFar}

-- a batch and a capture that stand give what the walk of the one through the other comes to
pub walk_gives : (told : Option Held) (hook : Hook) (names : Names) (bytes : List ℕ)
    (commands : List Command) (capture : Capture) (walk : BatchWalk) → HasBatch told COMMANDS_MAX names.batch bytes
    → commands ≡ commands_of bytes → HasCapture told PACKETS_MAX names.capture capture
    → ((ran : Ran) × IsRun no_state 0 commands ran × IsWalked ran hook capture walk)
    → Gives told hook names (joined walk.output.pieces) (told_text walk.text) (status_after walk.refused)
walk_gives told hook names bytes commands capture walk batch are stands walked = record {
  ran = walked.0;
  capture = capture;
  batch = record {
    bytes = bytes;
    batch = batch;
    runs = subst (λ (cs : List Command). IsRun no_state 0 cs walked.0) are walked.1;
  };
  packets = stands;
  output_is = walked.2.output;
  text_is = walked.2.text;
  status_is = ap status_after walked.2.refused;
}

-- what was put and written of that is as far as the walk came
pub walked_so_far : (told between held_new : Option Held) (written_old written_new : Option (List ℕ))
    (hook : Hook) (names : Names) (output text : List ℕ) (status : Status)
    → Gives told hook names output text status → between ≡ told → OthersStay between held_new names.output
    → ((written_new ≡ written_old)
    ⊎ (Stands held_new names.output output × AppendsUpTo written_old written_new text))
    → WalkedSoFar told held_new written_old written_new hook names
walked_so_far told between held_new written_old written_new hook names output text status gives same others
    (inl none) =
    record {
      others = subst (λ (held : Option Held). OthersStay held held_new names.output) same others;
      front = inl none;
    }
walked_so_far told between held_new written_old written_new hook names output text status gives same others
    (inr put) =
    record {
      others = subst (λ (held : Option Held). OthersStay held held_new names.output) same others;
      front = inr (record { output = output; text = text; status = status; gives = gives; put = put.0; wrote = put.1 });
    }
