-- What `walk` writes for a batch and the packets of a capture (this project's own).
use Rattle.std.specs.Prelude.{◌≡◌, ℕ, ◌-◌, Bool, List, length, map, count_by, ◌++◌, is_some}
use Rattle.std.specs.Prelude.{if◌then◌else◌}
use Rattle.tc_base.specs.declared.hook.Hook.{Hook}
use Rattle.tc_base.specs.Pieces.{joined as joined_pieces}
use Rattle.pcap_io.specs.declared.capture.Packet.{Packet}
use Rattle.pcap_io.specs.declared.capture.Capture.{Capture}
use Rattle.pcap_io.specs.Written.{capture_bytes}
use Rattle.walk_rules.specs.Walks.{Outcome}
use Rattle.batch_run.specs.Runs.{Ran}
use Rattle.tc_report.specs.OfShownBatches.Shown.{stop_shown}
use Rattle.walk_ends.specs.Passing.{is_pass}
use Rattle.walk_texts.specs.declared.summary.Summary.{Summary}
use Rattle.walk_texts.specs.Texts.{joined}
use Rattle.capture_walk.specs.declared.ends.PacketEnd.{PacketEnd}
use Rattle.capture_walk.specs.Captures.{outcomes_of, end_of, output_of, counts_of, executed_in}
use Rattle.batch_walk.specs.declared.walk.BatchWalk.{BatchWalk}
use Rattle.batch_walk.specs.declared.walk.WalkText.{WalkText}
use Rattle.batch_walk.specs.Texts.{packet_lines, closing_lines}

abbrev pub passed_count : List PacketEnd → ℕ
passed_count ends = count_by (λ (end : PacketEnd). is_pass end.verdict) ends

-- a batch stops at its first refused line
abbrev pub refused_count : Bool → ℕ
refused_count refused = if refused then 1 else 0

abbrev pub summary_of : ℕ → Bool → List PacketEnd → Summary
summary_of accepted refused ends = record {
  edits = accepted;
  refused = refused_count refused;
  passed = passed_count ends;
  dropped = length ends - passed_count ends;
}

-- the lines behind the packets' lines
abbrev pub closing_after : Ran → List Outcome → List ℕ
closing_after ran outcomes =
    joined (closing_lines ran.made (counts_of ran.state.actions_made (executed_in outcomes))
    (summary_of ran.accepted (is_some ran.stop) (map end_of outcomes)))

-- the refused line, if there is one, the packets' lines, and the closing ones
abbrev pub text_after : Ran → List Outcome → List ℕ
text_after ran outcomes = stop_shown ran.accepted ran.stop ++ joined (packet_lines 1 (map end_of outcomes))
    ++ closing_after ran outcomes

-- THE TEXT OF A WALK: each packet by the plain walk of the state that the batch leaves
unfoldable pub walk_text : Ran → Hook → List Packet → List ℕ
walk_text ran hook packets = text_after ran (outcomes_of ran.state hook packets)

-- what such a walk counts alone
unfoldable pub closing_text : Ran → Hook → List Packet → List ℕ
closing_text ran hook packets = closing_after ran (outcomes_of ran.state hook packets)

-- the text of these parts
abbrev pub told_text : WalkText → List ℕ
told_text text = text.stop.items ++ joined (packet_lines 1 text.ends) ++ text.closing.items

-- what is put and written is what the batch that ran gives
pub record IsWalked (ran : Ran) (hook : Hook) (capture : Capture) (walk : BatchWalk) : Type 0 where
  pub output : joined_pieces walk.output.pieces ≡ capture_bytes (output_of ran.state hook capture)
  pub stop : walk.text.stop.items ≡ stop_shown ran.accepted ran.stop
  pub ends : walk.text.ends ≡ map end_of (outcomes_of ran.state hook capture.packets)
  pub text : told_text walk.text ≡ walk_text ran hook capture.packets
  pub closing : walk.text.closing.items ≡ closing_text ran hook capture.packets
  pub refused : walk.refused ≡ is_some ran.stop
