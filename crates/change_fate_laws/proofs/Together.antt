-- With as many workers as packets each choice of fates is recorded by one run.
use Rattle.std.proofs.Common.{◌≡◌, ◌∙◌, ℕ, zero, suc, ◌+◌, ◌≤◌, ◌<◌, Bool, true, false, List, [], ◌∷◌, ◌++◌, length, map, Some, refl, ap, arith}
use Rattle.std.specs.Prelude.{max, fold, filter, if◌then◌else◌}
use Rattle.std.specs.List.{slice_get, flat_map}
use Rattle.std.proofs.lemmas.Bool.Decides.{nat_tests}
use Rattle.tc_base.specs.declared.hook.Hook.{Hook}
use Rattle.pcap_io.specs.declared.capture.Packet.{Packet}
use Rattle.pcap_io.specs.declared.capture.Capture.{Capture}
use Rattle.filter_state.specs.Sound.{Each}
use Rattle.filter_state.proofs.Pairs.{each_append, each_weaker}
use Rattle.batch_run.specs.Commands.{commands_of}
use Rattle.run_report.specs.declared.outcomes.Outcome.{Outcome}
use Rattle.run_report.specs.declared.record.RunRecord.{RunRecord}
use Rattle.lawful_runs.specs.declared.loaded.LoadedJob.{LoadedJob}
use Rattle.lawful_runs.specs.Given.{arrivals_at}
use Rattle.lawful_runs.specs.Points.{is_by, seen_by}
use Rattle.lawful_runs.specs.Lawful.{IsLawfulRun}
use Rattle.lawful_runs.proofs.WalkedEach.{AreWalkedFrom, walked_from}
use Rattle.walk_fate_laws.specs.Fates.{Fate}
use Rattle.walk_fate_laws.specs.Meeting.{CanHave}
use Rattle.walk_fate_laws.specs.Rounds.{Walked}
use Rattle.walk_fate_laws.proofs.Rounding.{lower}
use Rattle.change_fate_laws.specs.Changes.{Changed, IsChanged, journal_of, first_point, last_point, states_of}
use Rattle.change_fate_laws.specs.Jobs.{IsJobOf, IsRecorded, fate_recorded}
use Rattle.change_fate_laws.proofs.Runs.{run_with, is_run}
use Rattle.change_fate_laws.proofs.Recording.{recorded, arrival_at, is_walked, fate_kept}

-- ---- a worker that has walked nothing has seen nothing
abbrev IsBelow : ℕ → Outcome → Type 0
IsBelow worker outcome = outcome.worker < worker

left_if : (b : Bool) (outcome : Outcome) (rest : List Outcome) → b ≡ false → rest ≡ [] → (if b then outcome ∷ rest else rest) ≡ []
left_if true outcome rest is none = absurd (cc is)
left_if false outcome rest is none = none

anothers : (worker : ℕ) (outcome : Outcome) → outcome.worker < worker → is_by worker outcome ≡ false
anothers worker outcome less = grind (arith, nat_tests, less)

none_by : (worker : ℕ) (outcomes : List Outcome) → Each (IsBelow worker) outcomes → filter (is_by worker) outcomes ≡ []
none_by worker [] each = refl
none_by worker (outcome ∷ outcomes) each =
    left_if (is_by worker outcome) outcome (filter (is_by worker) outcomes) (anothers worker outcome each.0) (none_by worker outcomes each.1)

none_seen : (worker : ℕ) (outcomes : List Outcome) → Each (IsBelow worker) outcomes → seen_by worker outcomes ≡ 0
none_seen worker outcomes each =
    ap (λ (own : List Outcome). fold max 0 (flat_map (λ (outcome : Outcome). outcome.points) own)) (none_by worker outcomes each)

module _ (it : Changed) (workers : ℕ) (hook : Hook) where
  abbrev Can : Packet → Fate → Type 0
  Can packet fate = CanHave (states_of it) (first_point it) (last_point it) hook packet.bytes fate

  abbrev CanEach : List Packet → List Fate → Type 0
  CanEach packets fates = (place : ℕ) (packet : Packet) (fate : Fate) → slice_get packets place ≡ Some packet
      → slice_get fates place ≡ Some fate → Can packet fate

  record AreChosen (earlier : List Outcome) (packets : List Packet) (fates : List Fate) : Type 0 where
    pub outcomes : List Outcome
    pub walked : AreWalkedFrom workers (journal_of it) (first_point it) (last_point it) earlier
        (map (λ (p : Packet). arrival_at hook p) packets) outcomes
    pub chosen : (place : ℕ) (fate : Fate) → slice_get fates place ≡ Some fate
        → (outcome : Outcome) × (slice_get outcomes place ≡ Some outcome) × (fate_recorded outcome ≡ fate)

  chooses : (number : ℕ) (earlier : List Outcome) (packets : List Packet) (fates : List Fate)
      → 1 ≤ number → number + length packets ≤ workers + 1 → Each (IsBelow number) earlier
      → length fates ≡ length packets → CanEach packets fates → AreChosen earlier packets fates
  chooses number earlier [] [] some most below as_many can = record {
    outcomes = [];
    walked = tt;
    chosen = λ place fate is. absurd (cc is);
  }
  chooses number earlier [] (fate ∷ fates) some most below as_many can = absurd (omega (arith, as_many))
  chooses number earlier (packet ∷ packets) [] some most below as_many can = absurd (omega (arith, as_many))
  chooses number earlier (packet ∷ packets) (fate ∷ fates) some most below as_many can =
      let had = can 0 packet fate refl refl in
      let walk : Walked = record { points = had.points; outcome = had.outcome } in
      let one : Outcome = recorded number walk in
      let none = none_seen number earlier below in
      let floor : ℕ = max (first_point it) (seen_by number earlier) in
      let met = lower (states_of it) (last_point it) hook (first_point it) floor packet.bytes walk.points walk.outcome
      (omega (arith, none)) had.met in
      let rest = chooses (number + 1) (earlier ++ one ∷ []) packets fates (omega arith) (omega (arith, most))
      (each_append (IsBelow (number + 1)) earlier (one ∷ [])
      (each_weaker (IsBelow number) (IsBelow (number + 1)) (λ outcome less. omega (arith, less)) earlier below) (omega arith, tt))
      (omega (arith, as_many)) (λ place packet' fate' came is. can (suc place) packet' fate' came is) in
      all one rest (some, within, is_walked it floor number hook packet walk met, rest.walked)
      (fate_kept it (first_point it) number hook packet walk fate had.met had.has)
    where
      within : number ≤ workers
      within = omega (arith, most)

      all : (one : Outcome) (rest : AreChosen (earlier ++ one ∷ []) packets fates)
          → AreWalkedFrom workers (journal_of it) (first_point it) (last_point it) earlier
          (map (λ (p : Packet). arrival_at hook p) (packet ∷ packets)) (one ∷ rest.outcomes)
          → fate_recorded one ≡ fate → AreChosen earlier (packet ∷ packets) (fate ∷ fates)
      all one rest walked has = record { outcomes = one ∷ rest.outcomes; walked = walked; chosen = chosen }
        where
          chosen : (place : ℕ) (wanted : Fate) → slice_get (fate ∷ fates) place ≡ Some wanted
              → (outcome : Outcome) × (slice_get (one ∷ rest.outcomes) place ≡ Some outcome) × (fate_recorded outcome ≡ wanted)
          chosen zero wanted is = let same : fate ≡ wanted = cc is in (one, refl, has ∙ same)
          chosen (suc place) wanted is = rest.chosen place wanted is

pub run_together : (batch change : List ℕ) (force : Bool) (hook : Hook) (capture : Capture) (loaded : LoadedJob)
    (it : Changed) (fates : List Fate) → IsJobOf batch change force hook capture loaded
    → IsChanged (commands_of batch) (commands_of change) force it
    → length capture.packets ≤ loaded.job.workers → length fates ≡ length capture.packets
    → ((place : ℕ) (packet : Packet) (fate : Fate) → slice_get capture.packets place ≡ Some packet
    → slice_get fates place ≡ Some fate
    → CanHave (states_of it) (first_point it) (last_point it) hook packet.bytes fate)
    → (run : RunRecord) × IsLawfulRun loaded run × ((place : ℕ) (fate : Fate)
    → slice_get fates place ≡ Some fate → (outcome : Outcome) × IsRecorded run place outcome
    × (fate_recorded outcome ≡ fate))
run_together batch change force hook capture loaded it fates job is few as_many can =
    let it_all = chooses it loaded.job.workers hook 1 [] capture.packets fates (omega arith) (omega (arith, few)) tt as_many can in
    let walked = walked_from loaded.job.workers (journal_of it) (first_point it) (last_point it) []
    (arrivals_at hook capture) it_all.outcomes it_all.walked in (
      run_with it it_all.outcomes,
      is_run batch change force hook capture loaded it it_all.outcomes job is walked,
      λ place fate wanted. let own = it_all.chosen place fate wanted in
          (own.0, record { round = record { events = it.events; outcomes = it_all.outcomes }; second = refl; there = own.1 }, own.2),
    )
