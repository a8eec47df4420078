-- The packets of a round are walked where each is, one after the other.
use Rattle.std.proofs.Common.{◌≡◌, ℕ, zero, suc, ◌≤◌, List, [], ◌∷◌, ◌++◌, length, take, Some, refl, sym, ap, subst, append_assoc, append-nil}
use Rattle.std.specs.Prelude.{max}
use Rattle.std.specs.List.{slice_get}
use Rattle.filter_state.specs.declared.edit.Edit.{Edit}
use Rattle.run_report.specs.declared.outcomes.Outcome.{Outcome}
use Rattle.lawful_runs.specs.Given.{Arrival}
use Rattle.lawful_runs.specs.Points.{seen_by}
use Rattle.lawful_runs.specs.Outcomes.{IsWalked, AreWalked}

module _ (workers : ℕ) (journal : List Edit) (before ceiling : ℕ) where
  -- the walk of a packet, behind these
  abbrev pub IsWalkedBehind : List Outcome → Arrival → Outcome → Type 0
  IsWalkedBehind earlier arrival outcome = IsWalked journal (max before (seen_by outcome.worker earlier)) ceiling arrival outcome

  -- packet by packet: each stands behind those before it
  abbrev pub AreWalkedFrom : List Outcome → List Arrival → List Outcome → Type 0
  AreWalkedFrom earlier [] [] = Unit {0}
  AreWalkedFrom earlier (arrival ∷ arrivals) [] = ⊥
  AreWalkedFrom earlier [] (outcome ∷ outcomes) = ⊥
  AreWalkedFrom earlier (arrival ∷ arrivals) (outcome ∷ outcomes) =
      (1 ≤ outcome.worker) × (outcome.worker ≤ workers) × IsWalkedBehind earlier arrival outcome × AreWalkedFrom (earlier ++ (outcome ∷ [])) arrivals outcomes

  one_each : (earlier : List Outcome) (arrivals : List Arrival) (outcomes : List Outcome) → AreWalkedFrom earlier arrivals outcomes → length outcomes ≡ length arrivals
  one_each earlier [] [] each = refl
  one_each earlier (arrival ∷ arrivals) [] each = absurd each
  one_each earlier [] (outcome ∷ outcomes) each = absurd each
  one_each earlier (arrival ∷ arrivals) (outcome ∷ outcomes) each = ap suc (one_each (earlier ++ (outcome ∷ [])) arrivals outcomes each.3)

  its_worker : (earlier : List Outcome) (arrivals : List Arrival) (outcomes : List Outcome) → AreWalkedFrom earlier arrivals outcomes
      → (place : ℕ) (outcome : Outcome) → slice_get outcomes place ≡ Some outcome → (1 ≤ outcome.worker) × (outcome.worker ≤ workers)
  its_worker earlier arrivals [] each place outcome is = absurd (cc is)
  its_worker earlier [] (first ∷ outcomes) each place outcome is = absurd each
  its_worker earlier (arrival ∷ arrivals) (first ∷ outcomes) each zero outcome is =
      let same : first ≡ outcome = cc in subst (λ (o : Outcome). (1 ≤ o.worker) × (o.worker ≤ workers)) same (each.0, each.1)
  its_worker earlier (arrival ∷ arrivals) (first ∷ outcomes) each (suc place) outcome is = its_worker (earlier ++ (first ∷ [])) arrivals outcomes each.3 place outcome is

  its_walk : (earlier : List Outcome) (arrivals : List Arrival) (outcomes : List Outcome) → AreWalkedFrom earlier arrivals outcomes
      → (place : ℕ) (arrival : Arrival) (outcome : Outcome) → slice_get arrivals place ≡ Some arrival → slice_get outcomes place ≡ Some outcome → IsWalkedBehind (earlier ++ take place outcomes) arrival outcome
  its_walk earlier arrivals [] each place arrival outcome there is = absurd (cc is)
  its_walk earlier [] (first ∷ outcomes) each place arrival outcome there is = absurd each
  its_walk earlier (packet ∷ arrivals) (first ∷ outcomes) each zero arrival outcome there is =
      let came : packet ≡ arrival = cc in
      let same : first ≡ outcome = cc in
      subst (λ (a : Arrival). IsWalkedBehind (earlier ++ []) a outcome) came (subst (IsWalkedBehind (earlier ++ []) packet) same
      (subst (λ (seen : List Outcome). IsWalkedBehind seen packet first) (sym (append-nil earlier)) each.2))
  its_walk earlier (packet ∷ arrivals) (first ∷ outcomes) each (suc place) arrival outcome there is =
      subst (λ (seen : List Outcome). IsWalkedBehind seen arrival outcome) (append_assoc earlier (first ∷ []) (take place outcomes))
      (its_walk (earlier ++ (first ∷ [])) arrivals outcomes each.3 place arrival outcome there is)

  pub walked_from : (earlier : List Outcome) (arrivals : List Arrival) (outcomes : List Outcome) → AreWalkedFrom earlier arrivals outcomes → AreWalked workers journal before ceiling earlier arrivals outcomes
  walked_from earlier arrivals outcomes each = record {
    one_each = one_each earlier arrivals outcomes each;
    worker = its_worker earlier arrivals outcomes each;
    walked = its_walk earlier arrivals outcomes each;
  }
