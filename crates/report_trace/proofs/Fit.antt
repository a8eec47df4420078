-- Each packet of a lawful run is fit: its worker is one of the job's, and its points are among the journal's.
use Rattle.std.proofs.Common.{◌≡◌, ℕ, zero, suc, ◌<◌, ◌≤◌, ◌^◌, List, [], ◌∷◌, ◌++◌, length, Some, refl, ap, arith}
use Rattle.std.specs.Prelude.{slice_get}
use Rattle.std.proofs.lemmas.List.{length-append}
use Rattle.filter_state.specs.declared.edit.Edit.{Edit}
use Rattle.filter_state.specs.Sound.{Each}
use Rattle.run_report.specs.declared.outcomes.Outcome.{Outcome}
use Rattle.run_report.specs.declared.rounds.RoundRecord.{RoundRecord}
use Rattle.lawful_runs.specs.Given.{Arrival, GivenRound}
use Rattle.lawful_runs.specs.Lawful.{AreRounds}
use Rattle.lawful_runs.specs.Outcomes.{AreWalked}
use Rattle.lawful_runs.proofs.Places.{each_from}
use Rattle.lawful_runs.proofs.Walks.{point_within}
use Rattle.report_trace.specs.Writing.{IsFit}
use Rattle.report_trace.specs.Rounds.{AreFit}

got_at : {X : Type 0} (xs : List X) (k : ℕ) → k < length xs → (x : X) × (slice_get xs k ≡ Some x)
got_at [] k less = absurd (omega (arith, less))
got_at (x ∷ xs) zero less = (x, refl)
got_at (x ∷ xs) (suc k) less = got_at xs k (omega (arith, less))

got_within : {X : Type 0} (xs : List X) (n : ℕ) (x : X) → slice_get xs n ≡ Some x → n < length xs
got_within [] n x is = absurd (cc is)
got_within (first ∷ xs) zero x is = omega arith
got_within (first ∷ xs) (suc n) x is = let rest = got_within xs n x is in omega (arith, rest)

module _ (workers edits : ℕ) (few : workers < 2 ^ 32) (short : edits < 2 ^ 32) where
  fit_packets : (journal : List Edit) (before : ℕ) (earlier : List Outcome) (arrivals : List Arrival) (outcomes : List Outcome) → length journal ≤ edits → AreWalked workers journal before (length journal) earlier arrivals outcomes
      → Each (IsFit workers edits) outcomes
  fit_packets journal before earlier arrivals outcomes within are = each_from (IsFit workers edits) outcomes one
    where
      one : (place : ℕ) (outcome : Outcome) → slice_get outcomes place ≡ Some outcome → IsFit workers edits outcome
      one place outcome is =
          let low = got_within outcomes place outcome is in
          let each = are.one_each in
          let arrival = got_at arrivals place (omega (arith, low, each)) in
          let walked = are.walked place arrival.0 outcome arrival.1 is in
          let by = are.worker place outcome is in
          let at : (k point : ℕ) → slice_get outcome.points k ≡ Some point → point ≤ edits = λ k point there. (let most = (point_within journal _ (length journal) arrival.0 outcome walked k point there).1 in omega (arith, most, within)) in
          record {
            least = by.0;
            most = by.1;
            points = each_from (λ (point : ℕ). point ≤ edits) outcome.points at;
            small = record {
              worker = (let most = by.1 in omega (arith, most, few));
              points = each_from (λ (point : ℕ). point < 2 ^ 32) outcome.points (λ k point there. (let most = at k point there in omega (arith, most, short)));
            };
          }

  journal_grows : (rounds : List GivenRound) (before : List Edit) (earlier : List Outcome) (its : List RoundRecord) (journal : List Edit) → AreRounds workers rounds before earlier its journal → length before ≤ length journal
  journal_grows [] before earlier [] journal are = let same = ap length are in omega (arith, same)
  journal_grows [] before earlier (it ∷ its) journal are = absurd are
  journal_grows (round ∷ rounds) before earlier [] journal are = absurd are
  journal_grows (round ∷ rounds) before earlier (it ∷ its) journal (own, one, more) =
      let rest = journal_grows rounds (before ++ own) (earlier ++ it.outcomes) its journal more in
      let both = length-append before own in
      omega (arith, rest, both)

  pub fit_rounds : (rounds : List GivenRound) (before : List Edit) (earlier : List Outcome) (its : List RoundRecord) (journal : List Edit) → length journal ≤ edits → AreRounds workers rounds before earlier its journal → AreFit workers edits rounds its
  fit_rounds [] before earlier [] journal within are = tt
  fit_rounds [] before earlier (it ∷ its) journal within are = absurd are
  fit_rounds (round ∷ rounds) before earlier [] journal within are = absurd are
  fit_rounds (round ∷ rounds) before earlier (it ∷ its) journal within (own, one, more) =
      let grown = journal_grows rounds (before ++ own) (earlier ++ it.outcomes) its journal more in (
        one.walked.one_each,
        fit_packets (before ++ own) (length before) earlier round.arrivals it.outcomes (omega (arith, grown, within)) one.walked,
        fit_rounds rounds (before ++ own) (earlier ++ it.outcomes) its journal within more,
      )
