-- The job of a workload can be run.
use Rattle.std.proofs.Common.{◌≡◌, ◌*◌, ◌≤◌, ℕ, [], length, refl, sym, subst, arith}
use Rattle.std.proofs.lemmas.List.Elements.{All-nil, All-cons}
use Rattle.std.proofs.lemmas.List.FromFn.{length-map-range_with_len}
use Rattle.pcap_io.specs.declared.capture.Capture.{Capture}
use Rattle.pcap_io.specs.Captures.{AreShort}
use Rattle.job_lines.specs.Jobs.{IsBatch, IsRound, IsJob}
use Rattle.lawful_runs.specs.declared.loaded.LoadedJob.{LoadedJob}
use Rattle.lawful_runs.specs.Given.{IsLoaded}
use Rattle.gen_files.specs.Generated.{packet_of, packets_of}
use Rattle.tool_run.specs.OfGenerated.Generated.{capture_of}
use Rattle.tool_run.specs.Workloads.{batch_name, batch_round, capture_round, made_job, workload_of}
use Rattle.tool_run.proofs.OfGenerated.LineFeeds.{few}

-- ---- the job
is_batch : IsBatch 1 batch_name
is_batch = (omega arith, omega arith, (omega arith, refl))

first_round : IsRound 1 batch_round
first_round = ((is_batch, tt), (tt, tt), tt)

second_round : IsRound 1 capture_round
second_round = (tt, tt, ((omega arith, refl), (omega arith, refl)))

pub is_job : IsJob made_job
is_job = (omega arith, omega arith, omega arith, omega arith, (first_round, (second_round, tt)))

-- ---- and what it names
pub can_run : (filters : ℕ) → filters ≤ 4096 → AreShort (packets_of filters) → IsLoaded (workload_of filters)
can_run filters most short =
    let commands = few filters most in
    let many : length (packets_of filters) ≡ 24 * filters = length-map-range_with_len (λ (j : ℕ). packet_of filters j) 0 (24 * filters) in
    record {
      job = is_job;
      rounds = omega arith;
      batches = omega arith;
      captures = omega arith;
      commands = omega (arith, commands);
      packets = omega (arith, many, most);
      frames = All-cons (λ (capture : Capture). AreShort capture.packets) (capture_of filters) [] short (All-nil (λ (capture : Capture). AreShort capture.packets));
    }

-- so can the one that was loaded
pub loaded_can_run : (filters : ℕ) (loaded : LoadedJob) → filters ≤ 4096 → loaded ≡ workload_of filters → AreShort (packets_of filters) → IsLoaded loaded
loaded_can_run filters loaded most is short = subst IsLoaded (sym is) (can_run filters most short)
