-- What a lawful run of a workload's job comes to is what is made.
use Rattle.std.proofs.Common.{◌≡◌, ◌∙◌, ◌*◌, ◌≤◌, ℕ, Bool, true, false, List, [], ◌∷◌, length, get_or, refl, ap, subst, arith}
use Rattle.std.specs.Prelude.{nat_lt}
use Rattle.std.proofs.lemmas.List.FromFn.{length-map-range_with_len}
use Rattle.tc_base.specs.declared.hook.Hook.TheVariants.{Ingress}
use Rattle.pcap_io.specs.declared.capture.Packet.{Packet}
use Rattle.pcap_io.specs.declared.capture.Capture.{Capture}
use Rattle.pcap_io.specs.Written.{capture_bytes}
use Rattle.batch_run.specs.Commands.{commands_of}
use Rattle.batch_run.specs.Runs.{Ran}
use Rattle.capture_walk.specs.Captures.{passed, output_of}
use Rattle.batch_walk.specs.Walked.{refused_count}
use Rattle.run_report.specs.declared.outcomes.Outcome.{Outcome}
use Rattle.run_report.specs.declared.rounds.RoundRecord.{RoundRecord}
use Rattle.run_report.specs.declared.record.RunRecord.{RunRecord}
use Rattle.run_report.specs.Counts.{events_in, packets_in}
use Rattle.lawful_runs.specs.declared.loaded.LoadedJob.{LoadedJob}
use Rattle.lawful_runs.specs.Given.{IsLoaded, arrivals_at}
use Rattle.lawful_runs.specs.Outcomes.{passed_of}
use Rattle.lawful_runs.specs.Lawful.{IsLawfulRun}
use Rattle.gen_files.specs.Generated.{batch_text, packet_of, packets_of}
use Rattle.tool_run.specs.OfGenerated.Generated.{IsRunOf, capture_of}
use Rattle.tool_run.specs.Workloads.{workload_of}
use Rattle.tool_run.proofs.OfGenerated.LineFeeds.{few}
use Rattle.tool_run.proofs.Loading.{is_job}
use Rattle.tool_run.specs.OfQuietJobs.Ends.{ComesToWalk}
use Rattle.tool_run.proofs.OfQuietJobs.QuietRuns.{quiet_runs, few_in_run}
use Rattle.tool_run.specs.OfOutputs.Outputs.{passed_capture}
use Rattle.tool_run.specs.OfOutputs.Ready.{AreWalks, AreReady}
use Rattle.tool_run.proofs.OfOutputs.Finished.{finished_ready}

pub comes_to : (count : ℕ) (loaded : LoadedJob) (run : RunRecord) → loaded ≡ workload_of count → IsLawfulRun loaded run → (ran : Ran) × IsRunOf count ran × ComesToWalk ran Ingress (capture_of count) run
comes_to count loaded run is lawful =
    quiet_runs (workload_of count) run 1 (commands_of (batch_text count)) Ingress (capture_of count) is_job refl (subst (λ (job : LoadedJob). IsLawfulRun job run) is lawful)

-- it has few events and few packets
pub few_in : (count : ℕ) (loaded : LoadedJob) (run : RunRecord) → count ≤ 4096 → loaded ≡ workload_of count → IsLawfulRun loaded run → (events_in run.rounds ≤ 262144) × (packets_in run.rounds ≤ 98304)
few_in count loaded run most is lawful =
    let in_run = few_in_run (workload_of count) run 1 (commands_of (batch_text count)) Ingress (capture_of count) is_job refl (subst (λ (job : LoadedJob). IsLawfulRun job run) is lawful) in
    let commands = few count most in
    let many : length (packets_of count) ≡ 24 * count = length-map-range_with_len (λ (j : ℕ). packet_of count j) 0 (24 * count) in
    let events = in_run.0 in
    let packets = in_run.1 in
    (omega (arith, events, commands), omega (arith, packets, many, most))

-- ---- what can be put
-- its one capture
pub only_capture : (count : ℕ) (loaded : LoadedJob) (captures : List Capture) (first : Capture) → loaded ≡ workload_of count → captures ≡ loaded.captures → first ≡ get_or captures 0 first → first ≡ capture_of count
only_capture count loaded captures first is are at = at ∙ ap (λ (cs : List Capture). get_or cs 0 first) (are ∙ ap (λ (l : LoadedJob). l.captures) is)

-- the packets of the second round are walked one by one
pub walks_of : (count : ℕ) (loaded : LoadedJob) (run : RunRecord) (first second : RoundRecord) → loaded ≡ workload_of count → IsLoaded loaded → IsLawfulRun loaded run → run.rounds ≡ first ∷ second ∷ []
    → AreWalks (capture_of count) second.outcomes
walks_of count loaded run first second is load lawful rounds =
    let ready : AreReady loaded.job.rounds loaded.captures run.rounds = finished_ready loaded run load lawful in
    let made : AreReady (workload_of count).job.rounds (workload_of count).captures run.rounds = subst (λ (l : LoadedJob). AreReady l.job.rounds l.captures run.rounds) is ready in
    let told : AreReady (workload_of count).job.rounds (workload_of count).captures (first ∷ second ∷ []) = subst (AreReady (workload_of count).job.rounds (workload_of count).captures) rounds made in
    told.1.0.1

-- ---- what was made
-- the packets that passed
pub same_output : (ran : Ran) (capture : Capture) (outcomes : List Outcome) → passed_of (arrivals_at Ingress capture) outcomes ≡ passed ran.state Ingress capture.packets
    → capture_bytes (passed_capture Ingress capture outcomes) ≡ capture_bytes (output_of ran.state Ingress capture)
same_output ran capture outcomes same =
    let with_packets : List Packet → Capture = λ packets. record { big = capture.big; nanos = capture.nanos; packets = packets } in
    ap (λ (packets : List Packet). capture_bytes (with_packets packets)) same

-- a line was refused where any was
pub any_refused : (refused : Bool) (count : ℕ) → count ≡ refused_count refused → nat_lt 0 count ≡ refused
any_refused true count is = ap (nat_lt 0) is
any_refused false count is = ap (nat_lt 0) is
