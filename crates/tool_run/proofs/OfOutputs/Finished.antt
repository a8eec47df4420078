-- The outputs of a lawful run can be put.
use Rattle.std.proofs.Common.{◌≡◌, ◌∙◌, ℕ, ◌+◌, ◌<◌, List, [], ◌∷◌, ◌++◌, length, drop, max, take, get_or, Option, Some, None, ap, arith}
use Rattle.std.specs.List.{All, AllByRecursion, slice_get}
use Rattle.std.specs.Option.{option_map}
use Rattle.std.proofs.lemmas.List.{length-map, length-drop}
use Rattle.std.proofs.lemmas.List.Elements.{All-drop}
use Rattle.std.proofs.lemmas.List.Sums.{sum_by-cons}
use Rattle.std.proofs.lemmas.Option.{slice_get-get_or, slice_get-map}
use Rattle.tc_base.specs.declared.hook.Hook.{Hook}
use Rattle.pcap_io.specs.declared.capture.Packet.{Packet}
use Rattle.pcap_io.specs.declared.capture.Capture.{Capture}
use Rattle.pcap_io.specs.Captures.{AreShort}
use Rattle.filter_state.specs.declared.edit.Edit.{Edit}
use Rattle.job_lines.specs.declared.job.CaptureName.{CaptureName}
use Rattle.job_lines.specs.declared.job.Round.{Round}
use Rattle.job_lines.specs.Jobs.{IsCapture, IsRound}
use Rattle.run_report.specs.declared.outcomes.Outcome.{Outcome}
use Rattle.run_report.specs.declared.rounds.RoundRecord.{RoundRecord}
use Rattle.run_report.specs.declared.record.RunRecord.{RunRecord}
use Rattle.lawful_runs.specs.declared.loaded.LoadedJob.{LoadedJob}
use Rattle.lawful_runs.specs.Given.{Arrival, IsLoaded, arrivals_at, given_arrivals, rounds_from, capture_count, captures_named}
use Rattle.lawful_runs.specs.Outcomes.{AreWalked}
use Rattle.lawful_runs.specs.Points.{seen_by}
use Rattle.lawful_runs.specs.Lawful.{AreRounds, IsLawfulRun}
use Rattle.report_trace.proofs.Passed.{frame_short}
use Rattle.tool_run.specs.OfOutputs.Ready.{AreWalks, IsReady, AreReady}

-- ---- the walks of one round
no_packet : Packet
no_packet = record { seconds = 0; fraction = 0; original = 0; bytes = [] }

-- the packet at a place, as it came
abbrev arrival_at : Hook → Capture → ℕ → Arrival
arrival_at hook capture at = record { hook = hook; packet = get_or capture.packets at no_packet }

came_at : (hook : Hook) (capture : Capture) (at : ℕ) → at < length capture.packets
    → slice_get (arrivals_at hook capture) at ≡ Some (arrival_at hook capture at)
came_at hook capture at within =
    let come : Packet → Arrival = λ packet. record { hook = hook; packet = packet } in
    slice_get-map come capture.packets at
    ∙ ap (option_map come) (slice_get-get_or capture.packets at no_packet within)

are_walks : (workers : ℕ) (journal : List Edit) (floor ceiling : ℕ) (earlier : List Outcome) (hook : Hook)
    (capture : Capture) (outcomes : List Outcome) → AreShort capture.packets
    → AreWalked workers journal floor ceiling earlier (arrivals_at hook capture) outcomes
    → AreWalks capture outcomes
are_walks workers journal floor ceiling earlier hook capture outcomes short walked =
    let come : Packet → Arrival = λ packet. record { hook = hook; packet = packet } in
    let long : length outcomes ≡ length capture.packets = walked.one_each ∙ length-map capture.packets come in
    record {
      one_each = long;
      came = short;
      left = λ at none within.
          let came : at < length capture.packets = omega (arith, within, long) in
          let arrival = arrival_at hook capture at in
          let outcome = get_or outcomes at none in
          let seen = seen_by outcome.worker (earlier ++ take at outcomes) in
          let walk = walked.walked at arrival outcome (came_at hook capture at came) (slice_get-get_or outcomes at none within) in
          frame_short journal (max floor seen) ceiling arrival outcome walk (short at no_packet came);
    }

ready_round : (workers : ℕ) (journal : List Edit) (floor ceiling : ℕ) (earlier : List Outcome)
    (name : Option CaptureName) (captures : List Capture) (it : RoundRecord) (more : ℕ) → IsCapture name
    → length captures ≡ capture_count name + more
    → All (λ (capture : Capture). AreShort capture.packets) captures
    → AreWalked workers journal floor ceiling earlier (given_arrivals name captures) it.outcomes
    → IsReady name captures it
ready_round workers journal floor ceiling earlier None captures it more form count short walked = tt
ready_round workers journal floor ceiling earlier (Some name) [] it more form count short walked =
    omega (arith, count)
ready_round workers journal floor ceiling earlier (Some name) (capture ∷ captures) it more form count short
    walked = (
      form.1,
      are_walks workers journal floor ceiling earlier name.hook capture it.outcomes
          (short 0 capture (omega arith)) walked,
    )

-- ---- all rounds
ready_from : (workers controls : ℕ) (rounds : List Round) (files : List (List ℕ)) (captures : List Capture)
    (before : List Edit) (earlier : List Outcome) (its : List RoundRecord) (journal : List Edit)
    → AllByRecursion (IsRound controls) rounds → length captures ≡ captures_named rounds
    → All (λ (capture : Capture). AreShort capture.packets) captures
    → AreRounds workers (rounds_from rounds files captures) before earlier its journal
    → AreReady rounds captures its
ready_from workers controls [] files captures before earlier [] journal form count short run = tt
ready_from workers controls [] files captures before earlier (it ∷ its) journal form count short run =
    absurd run
ready_from workers controls (round ∷ rounds) files captures before earlier [] journal form count short run =
    absurd run
ready_from workers controls (round ∷ rounds) files captures before earlier (it ∷ its) journal form count short
    run =
    let many : length captures ≡ capture_count round.capture + captures_named rounds =
    count ∙ sum_by-cons (λ (r : Round). capture_count r.capture) round rounds in
    let dropped = length-drop (capture_count round.capture) captures in (
      ready_round workers _ _ _ earlier round.capture captures it (captures_named rounds) form.0.2 many short
          run.1.walked,
      ready_from workers controls rounds (drop (length round.batches) files)
          (drop (capture_count round.capture) captures) (before ++ run.0) (earlier ++ it.outcomes) its journal form.1
          (omega (arith, many, dropped))
          (All-drop (λ (capture : Capture). AreShort capture.packets) (capture_count round.capture) captures short)
          run.2,
    )

-- WHAT A LAWFUL RUN PUTS can be put
pub finished_ready : (loaded : LoadedJob) (run : RunRecord) → IsLoaded loaded → IsLawfulRun loaded run
    → AreReady loaded.job.rounds loaded.captures run.rounds
finished_ready loaded run is lawful =
    ready_from loaded.job.workers loaded.job.controls loaded.job.rounds loaded.batches loaded.captures [] []
    run.rounds lawful.0 is.job.4 is.captures is.frames lawful.1.rounds
