use Rattle.std.proofs.Common.{◌∙◌, sym, arith}
use Rattle.std.proofs.lemmas.Result.{on_ok_weaker}
use Rattle.pcap_io.specs.Places.{packet_of}
use Rattle.run_report.specs.Kept.{outcome_seen}
use Rattle.tool_run.proofs.OfOutputs.Passed.{same_bytes, kept_as_left}
use Rattle.tool_run.proofs.outputs.passing.keep.Goals as goal

pub returns-then-eq-clause-kept : goal.returns-then-eq-clause-kept
returns-then-eq-clause-kept c =
    let same = same_bytes c.args.outcome.bytes.now c.args.packet.bytes.now (sym c.eq.ensures ∙ c.if-eq.true) in
    on_ok_weaker c.keep.result
    (kept_as_left c.args.output.now.of.big (packet_of c.args.packet) (outcome_seen c.args.outcome)
    c.args.output.now.bytes c.keep.new.self.bytes (omega arith) c.in_default.is same)
    (c.keep.ensures.bytes (packet_of c.args.packet) c.requires.place)
