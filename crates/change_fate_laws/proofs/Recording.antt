-- Each fate that a packet can have is recorded by a run of one worker.
use Rattle.std.proofs.Common.{◌≡◌, ◌∙◌, ℕ, zero, suc, ◌≤◌, Bool, List, [], ◌∷◌, ◌++◌, map, Some, refl, arith}
use Rattle.std.specs.Prelude.{max, fold}
use Rattle.std.specs.List.{slice_get}
use Rattle.std.proofs.lemmas.List.{length-append}
use Rattle.tc_base.specs.declared.hook.Hook.{Hook}
use Rattle.pcap_io.specs.declared.capture.Packet.{Packet}
use Rattle.pcap_io.specs.declared.capture.Capture.{Capture}
use Rattle.filter_state.specs.Sound.{Each}
use Rattle.filter_state.proofs.Pairs.{each_append, each_weaker}
use Rattle.state_laws.proofs.Steps.{journal_sound}
use Rattle.walk_rules.specs.Steps.{Execution}
use Rattle.batch_run.specs.Commands.{commands_of}
use Rattle.run_report.specs.declared.outcomes.Outcome.{Outcome}
use Rattle.run_report.specs.declared.record.RunRecord.{RunRecord}
use Rattle.lawful_runs.specs.declared.loaded.LoadedJob.{LoadedJob}
use Rattle.lawful_runs.specs.Given.{Arrival, arrivals_at}
use Rattle.lawful_runs.specs.Points.{seen_by}
use Rattle.lawful_runs.specs.Outcomes.{IsWalked}
use Rattle.lawful_runs.specs.Lawful.{IsLawfulRun}
use Rattle.lawful_runs.proofs.Rounds.{IsUpTo}
use Rattle.lawful_runs.proofs.WalkedEach.{AreWalkedFrom, walked_from}
use Rattle.report_laws.proofs.OfWholePaths.Standing.{seen_le}
use Rattle.walk_fate_laws.specs.Fates.{Fate, fate_of}
use Rattle.walk_fate_laws.specs.Meeting.{IsMet, CanHave}
use Rattle.walk_fate_laws.specs.Rounds.{Walked, greatest, AreMet}
use Rattle.walk_fate_laws.proofs.Rounding.{lower, alone}
use Rattle.change_fate_laws.specs.Changes.{Changed, IsChanged, journal_of, first_point, last_point, states_of}
use Rattle.change_fate_laws.specs.Jobs.{IsJobOf, IsRecorded, fate_recorded}
use Rattle.change_fate_laws.proofs.OneChange.{change_lawful}
use Rattle.change_fate_laws.proofs.Runs.{run_with, is_run, map_at, record_fate}

-- ---- a walk as it is recorded
abbrev pub recorded : ℕ → Walked → Outcome
recorded worker walk = record {
  worker = worker;
  verdict = walk.outcome.verdict;
  bytes = walk.outcome.frame.bytes;
  meta = walk.outcome.frame.meta;
  points = walk.points;
  executed = map (λ (e : Execution). (e.serial, e.length)) walk.outcome.executed;
}

abbrev pub arrival_at : Hook → Packet → Arrival
arrival_at hook packet = record { hook = hook; packet = packet }

abbrev pub is_walked : (it : Changed) (floor worker : ℕ) (hook : Hook) (packet : Packet) (walk : Walked)
    → IsMet (states_of it) floor (last_point it) hook packet.bytes walk.points walk.outcome
    → IsWalked (journal_of it) floor (last_point it) (arrival_at hook packet) (recorded worker walk)
is_walked it floor worker hook packet walk met = record {
  walk = walk.outcome;
  visits = met.visits;
  walks = met.walks;
  recorded = record { verdict = refl; bytes = refl; meta = refl; executed = refl };
  points = met.lawful;
}

pub fate_kept : (it : Changed) (floor worker : ℕ) (hook : Hook) (packet : Packet) (walk : Walked) (fate : Fate)
    → (met : IsMet (states_of it) floor (last_point it) hook packet.bytes walk.points walk.outcome)
    → fate_of walk.outcome ≡ fate → fate_recorded (recorded worker walk) ≡ fate
fate_kept it floor worker hook packet walk fate met has =
    record_fate (recorded worker walk) (journal_of it) floor (last_point it) (arrival_at hook packet)
    (is_walked it floor worker hook packet walk met) ∙ has

-- ---- no point is past the greatest
start_within : (from : ℕ) (points : List ℕ) → from ≤ fold max from points
start_within from [] = omega arith
start_within from (point ∷ points) = let rest = start_within (max from point) points in omega (arith, rest)

in_greatest : (from : ℕ) (points : List ℕ) (visit point : ℕ) → slice_get points visit ≡ Some point → point ≤ fold max from points
in_greatest from [] visit point is = absurd (cc is)
in_greatest from (first ∷ points) zero point is =
    let same : first ≡ point = cc is in
    let rest = start_within (max from first) points in
    omega (arith, same, rest)
in_greatest from (first ∷ points) (suc visit) point is = in_greatest (max from first) points visit point is

higher : (low high : ℕ) (outcome : Outcome) → low ≤ high → IsUpTo low outcome → IsUpTo high outcome
higher low high outcome less up_to visit point is = let own = up_to visit point is in omega (arith, own, less)

-- ---- the packets of one worker
module _ (it : Changed) (workers : ℕ) (hook : Hook) (some : 1 ≤ workers) where
  by_one : (seen : ℕ) (earlier : List Outcome) (packets : List Packet) (walks : List Walked) → Each (IsUpTo seen) earlier
      → AreMet (states_of it) (first_point it) (last_point it) hook seen (map (λ (p : Packet). p.bytes) packets) walks
      → AreWalkedFrom workers (journal_of it) (first_point it) (last_point it) earlier
      (map (λ (p : Packet). arrival_at hook p) packets) (map (recorded 1) walks)
  by_one seen earlier [] [] up_to are = tt
  by_one seen earlier [] (walk ∷ walks) up_to are = absurd are
  by_one seen earlier (packet ∷ packets) [] up_to are = absurd are
  by_one seen earlier (packet ∷ packets) (walk ∷ walks) up_to are =
      let floor : ℕ = max (first_point it) (seen_by 1 earlier) in
      let saw = seen_le 1 seen earlier up_to in
      let own = lower (states_of it) (last_point it) hook (max (first_point it) seen) floor packet.bytes walk.points walk.outcome
      (omega (arith, saw)) are.0 in
      let next : ℕ = max seen (greatest walk.points) in (
        omega arith,
        some,
        is_walked it floor 1 hook packet walk own,
        by_one next (earlier ++ recorded 1 walk ∷ []) packets walks
            (each_append (IsUpTo next) earlier (recorded 1 walk ∷ [])
            (each_weaker (IsUpTo seen) (IsUpTo next) (λ outcome is. higher seen next outcome (omega arith) is) earlier up_to)
            ((λ visit point is. let low = in_greatest 0 walk.points visit point is in omega (arith, low)), tt)) are.1,
      )

-- ---- the run
pub longer : (it : Changed) → first_point it ≤ last_point it
longer it = let sum = length-append it.before it.edits in omega (arith, sum)

abbrev pub IsRecordedBy : LoadedJob → ℕ → Fate → Type 0
IsRecordedBy loaded place fate = (run : RunRecord) × (outcome : Outcome) × IsLawfulRun loaded run
    × IsRecorded run place outcome × (fate_recorded outcome ≡ fate)

pub run_records : (batch change : List ℕ) (force : Bool) (hook : Hook) (capture : Capture) (loaded : LoadedJob)
    (it : Changed) (place : ℕ) (packet : Packet) (fate : Fate) → IsJobOf batch change force hook capture loaded
    → IsChanged (commands_of batch) (commands_of change) force it
    → slice_get capture.packets place ≡ Some packet
    → CanHave (states_of it) (first_point it) (last_point it) hook packet.bytes fate → IsRecordedBy loaded place fate
run_records batch change force hook capture loaded it place packet fate job is came had =
    let walk : Walked = record { points = had.points; outcome = had.outcome } in
    let lawful = change_lawful (commands_of batch) (commands_of change) force it is in
    let solo = alone (states_of it) (last_point it) hook (λ point. journal_sound (journal_of it) point lawful)
    (first_point it) (longer it) (map (λ (p : Packet). p.bytes) capture.packets) place packet.bytes walk
    (map_at (λ (p : Packet). p.bytes) capture.packets place packet came) had.met in
    let outcomes : List Outcome = map (recorded 1) solo.0 in
    let each = by_one it loaded.job.workers hook job.job.0 (first_point it) [] capture.packets solo.0 tt solo.1 in
    let walked = walked_from loaded.job.workers (journal_of it) (first_point it) (last_point it) []
    (arrivals_at hook capture) outcomes each in (
      run_with it outcomes,
      recorded 1 walk,
      is_run batch change force hook capture loaded it outcomes job is walked,
      record {
        round = record { events = it.events; outcomes = outcomes };
        second = refl;
        there = map_at (recorded 1) solo.0 place walk solo.2;
      },
      fate_kept it (first_point it) 1 hook packet walk fate had.met had.has,
    )
