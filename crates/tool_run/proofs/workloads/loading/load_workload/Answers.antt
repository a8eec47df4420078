use Rattle.std.proofs.Common.{◌≡◌, ap, subst, arith}
use Rattle.pcap_io.specs.declared.capture.Capture.{Capture}
use Rattle.pcap_io.specs.Captures.{AreShort}
use Rattle.lawful_runs.specs.declared.loaded.LoadedJob.{LoadedJob}
use Rattle.tool_run.specs.Workloads.{workload_of}
use Rattle.tool_run.proofs.Loading.{loaded_can_run}
use Rattle.tool_run.proofs.workloads.loading.load_workload.Goals as goal

pub returns-clause-loaded : goal.returns-clause-loaded
returns-clause-loaded c =
    let loaded : LoadedJob = record { job = c.in_ok-made_job.field-0; batches = c.from_vec-batches.result; captures = c.from_vec-captures.result } in
    let is : loaded ≡ workload_of c.args.filters = grind (arith, c.in_ok-made_job.ensures, c.from_vec-batches.ensures, c.from_vec-captures.ensures, c.in_ok-from_array.ensures, c.in_ok-from_array-2.ensures, c.in_ok-capture.ensures.is, c.in_ok-gen_batch.ensures, c.from_vec-batch.ensures) in
    loaded_can_run c.args.filters loaded c.requires.few is
    (subst AreShort (ap (λ (capture : Capture). capture.packets) c.in_ok-capture.ensures.is) c.in_ok-capture.ensures.short)
