use Rattle.std.proofs.Common.{◌≡◌, ◌∙◌, Some, sym, ap, subst}
use Rattle.std.specs.List.{slice_get}
use Rattle.pcap_io.specs.declared.capture.Capture.{Capture}
use Rattle.pcap_io.specs.Places.{packet_of}
use Rattle.run_report.specs.Kept.{outcome_seen}
use Rattle.tool_run.proofs.OfOutputs.Passed.{with_rest, passed_more, passed_all}
use Rattle.tool_run.proofs.outputs.passing.passed_of.Goals as goal

pub loop-index-init : goal.loop-index-init
loop-index-init c = record {
  of = c.in_ok-output.ensures.of;
  bytes = λ hook. ap (with_rest hook c.args.capture.now c.args.outcomes.now 0) c.in_ok-output.ensures.bytes;
}

pub keep-requires-clause-place : goal.keep-requires-clause-place
keep-requires-clause-place c =
    subst (λ (of : Capture). slice_get of.packets c.loop-index.index ≡ Some (packet_of c.get-packet.result))
    (sym c.loop-index.invariant.of) c.get-packet.ensures

pub loop-index-preserved : goal.loop-index-preserved
loop-index-preserved c = record {
  of = c.in_ok-keep.ensures.of ∙ c.loop-index.invariant.of;
  bytes = λ hook.
      passed_more hook c.args.capture.now c.loop-index.output.of c.args.outcomes.now c.loop-index.index
      (packet_of c.get-packet.result) (outcome_seen c.at.result) c.loop-index.output.bytes c.keep.new.output.bytes
      _ c.get-packet.ensures c.at.ensures c.loop-index.invariant.of c.in_ok-keep.ensures.kept
      (c.loop-index.invariant.bytes hook);
}

pub returns : goal.returns
returns c = λ hook.
    c.into_pieces.ensures
    ∙ passed_all hook c.args.capture.now c.args.outcomes.now c.loop-index.index c.len-index-end.result _ _
    c.len-index-end.ensures c.loop-index-test.false (c.loop-index.invariant.bytes hook)
