-- A run has no more events than its job has commands, and no more outcomes than it has packets.
use Rattle.std.proofs.Common.{◌≡◌, ◌∙◌, ℕ, ◌+◌, ◌≤◌, List, [], ◌∷◌, ◌++◌, length, map, drop, Option, Some, None, arith}
use Rattle.std.specs.Prelude.{sum_by}
use Rattle.std.proofs.lemmas.List.{length-map}
use Rattle.std.proofs.lemmas.List.Sums.{sum_by-cons}
use Rattle.filter_state.specs.declared.edit.Edit.{Edit}
use Rattle.filter_state.specs.States.{no_state}
use Rattle.filter_state.specs.Journals.{state_from}
use Rattle.pcap_io.specs.declared.capture.Packet.{Packet}
use Rattle.pcap_io.specs.declared.capture.Capture.{Capture}
use Rattle.job_lines.specs.declared.job.CaptureName.{CaptureName}
use Rattle.job_lines.specs.declared.job.Round.{Round}
use Rattle.run_report.specs.declared.outcomes.Outcome.{Outcome}
use Rattle.run_report.specs.declared.rounds.RoundRecord.{RoundRecord}
use Rattle.run_report.specs.declared.record.RunRecord.{RunRecord}
use Rattle.run_report.specs.Counts.{events_in, packets_in}
use Rattle.lawful_runs.specs.declared.loaded.LoadedJob.{LoadedJob}
use Rattle.lawful_runs.specs.Given.{Arrival, GivenRound, IsLoaded, given_batches, given_arrivals, given_rounds, rounds_from, arrivals_at, capture_count, command_count, packet_count}
use Rattle.lawful_runs.specs.Lawful.{AreRounds, IsLawfulRun}
use Rattle.report_laws.proofs.ShortJournals.{round_commands, events_short, files_short}

abbrev events_of_round : RoundRecord → ℕ
events_of_round it = length it.events

abbrev outcomes_of_round : RoundRecord → ℕ
outcomes_of_round it = length it.outcomes

abbrev round_arrivals : GivenRound → ℕ
round_arrivals round = length round.arrivals

-- ---- events
events_bound : (workers : ℕ) (rounds : List GivenRound) (before : List Edit) (earlier : List Outcome) (its : List RoundRecord) (journal : List Edit) → AreRounds workers rounds before earlier its journal
    → events_in its ≤ sum_by round_commands rounds
events_bound workers [] before earlier [] journal are = omega arith
events_bound workers [] before earlier (it ∷ its) journal are = absurd are
events_bound workers (round ∷ rounds) before earlier [] journal are = absurd are
events_bound workers (round ∷ rounds) before earlier (it ∷ its) journal (edits, one, more) =
    let rest = events_bound workers rounds (before ++ edits) (earlier ++ it.outcomes) its journal more in
    let here = events_short round.batches (state_from no_state before) it.events edits one.order one.results in
    let all = sum_by-cons round_commands round rounds in
    let told = sum_by-cons events_of_round it its in
    omega (arith, rest, here, all, told)

-- THE EVENTS OF A RUN ARE FEW
pub events_few : (loaded : LoadedJob) (run : RunRecord) → IsLoaded loaded → IsLawfulRun loaded run → events_in run.rounds ≤ 262144
events_few loaded run is (journal, ran) =
    let most = events_bound loaded.job.workers (given_rounds loaded) [] [] run.rounds journal ran.rounds in
    let all = files_short loaded.job.rounds loaded.batches loaded.captures in
    let few : command_count loaded.batches ≤ 262144 = is.commands in
    omega (arith, most, all, few)

-- ---- packets
packets_bound : (workers : ℕ) (rounds : List GivenRound) (before : List Edit) (earlier : List Outcome) (its : List RoundRecord) (journal : List Edit) → AreRounds workers rounds before earlier its journal
    → packets_in its ≡ sum_by round_arrivals rounds
packets_bound workers [] before earlier [] journal are = omega arith
packets_bound workers [] before earlier (it ∷ its) journal are = absurd are
packets_bound workers (round ∷ rounds) before earlier [] journal are = absurd are
packets_bound workers (round ∷ rounds) before earlier (it ∷ its) journal (edits, one, more) =
    let rest = packets_bound workers rounds (before ++ edits) (earlier ++ it.outcomes) its journal more in
    let here : length it.outcomes ≡ length round.arrivals = one.walked.one_each in
    let all = sum_by-cons round_arrivals round rounds in
    let told = sum_by-cons outcomes_of_round it its in
    omega (arith, rest, here, all, told)

-- a round's arrivals are those of its capture
arrivals_short : (name : Option CaptureName) (captures : List Capture) → length (given_arrivals name captures) + packet_count (drop (capture_count name) captures) ≤ packet_count captures
arrivals_short None captures = omega arith
arrivals_short (Some name) [] = omega arith
arrivals_short (Some name) (capture ∷ captures) =
    let own : length (arrivals_at name.hook capture) ≡ length capture.packets = length-map capture.packets (λ (packet : Packet). record { hook = name.hook; packet = packet }) in
    let sum = sum_by-cons (λ (c : Capture). length c.packets) capture captures in
    omega (arith, own, sum)

captures_short : (rounds : List Round) (files : List (List ℕ)) (captures : List Capture) → sum_by round_arrivals (rounds_from rounds files captures) ≤ packet_count captures
captures_short [] files captures = omega arith
captures_short (round ∷ rounds) files captures =
    let left : List Capture = drop (capture_count round.capture) captures in
    let others : List GivenRound = rounds_from rounds (drop (length round.batches) files) left in
    let own : GivenRound = record { batches = given_batches round.batches files; arrivals = given_arrivals round.capture captures } in
    let rest = captures_short rounds (drop (length round.batches) files) left in
    let here = arrivals_short round.capture captures in
    let sum : sum_by round_arrivals (own ∷ others) ≡ length (given_arrivals round.capture captures) + sum_by round_arrivals others =
    sum_by-cons round_arrivals own others in
    omega (arith, rest, here, sum)

-- THE PACKETS OF A RUN ARE FEW
pub packets_few : (loaded : LoadedJob) (run : RunRecord) → IsLoaded loaded → IsLawfulRun loaded run → packets_in run.rounds ≤ 1048576
packets_few loaded run is (journal, ran) =
    let most = packets_bound loaded.job.workers (given_rounds loaded) [] [] run.rounds journal ran.rounds in
    let all = captures_short loaded.job.rounds loaded.batches loaded.captures in
    let few : packet_count loaded.captures ≤ 1048576 = is.packets in
    omega (arith, most, all, few)
