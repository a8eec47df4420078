use Rattle.std.proofs.Common.{◌≡◌}
use Rattle.tc_base.specs.declared.hook.Hook.{Hook}
use Rattle.pcap_io.specs.Written.{capture_bytes}
use Rattle.tool_run.specs.OfOutputs.Outputs.{passed_capture}
use Rattle.tool_run.proofs.OfOutputs.Passed.{with_rest}
use Rattle.tool_run.proofs.outputs.passing.passed_of.Given as goal

abbrev pub invariant-loop-index : goal.invariant-loop-index
invariant-loop-index l = record {
  of : l.output.of ≡ l.capture;
  bytes : (hook : Hook) → with_rest hook l.capture l.outcomes l.index l.output.bytes ≡ capture_bytes (passed_capture hook l.capture l.outcomes);
}
