use Rattle.std.proofs.Common.{◌∙◌}
use Rattle.gen_files.proofs.Growing.{pushed, still_short}
use Rattle.gen_files.proofs.packets.gen_packets.Goals as goal

pub loop-number-preserved : goal.loop-number-preserved
loop-number-preserved c = record {
  packets = pushed c.args.filters c.loop-number.number _ c.push.new.self c.deref.result.now c.in_ok-push.ensures.ok (c.deref.ensures.value ∙ c.in_ok-make_frame.ensures) c.loop-number.invariant.packets;
  short = still_short _ c.loop-number.packets c.push.new.self _ c.in_ok-push.ensures.ok (c.deref.ensures.value ∙ c.in_ok-make_frame.ensures) c.loop-number.invariant.short;
}
