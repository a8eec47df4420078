-- The first events and the first packets of a round that was gone through.
use Rattle.std.proofs.Common.{◌≡◌, ℕ, suc, ◌≤◌, Bool, true, false, List, [], ◌∷◌, ◌++◌, length, take, Some, refl, sym, subst, append_assoc, append-nil, arith}
use Rattle.std.specs.Prelude.{◌||◌}
use Rattle.std.specs.List.{slice_get}
use Rattle.filter_state.specs.declared.edit.Edit.{Edit}
use Rattle.batch_run.specs.Commands.{Command}
use Rattle.run_report.specs.declared.events.Event.{Event}
use Rattle.run_report.specs.declared.outcomes.Outcome.{Outcome}
use Rattle.run_report.specs.Counts.{is_accepted}
use Rattle.lawful_runs.specs.Given.{GivenBatch, Arrival}
use Rattle.lawful_runs.specs.Outcomes.{AreWalked}
use Rattle.lawful_runs.specs.Events.{GoesOn, IsThrough, AreInOrder, events_of}
use Rattle.lawful_runs.proofs.WalkedEach.{IsWalkedBehind, AreWalkedFrom}
use Rattle.report_laws.specs.Begun.{IsBegun, AreBegun}
use Rattle.report_laws.proofs.OneControl.{events_of-append}

-- ---- events
front_by : (force b : Bool) (commands : List Command) (xs ys : List Event) → (IsThrough force commands (xs ++ ys) → IsBegun force commands xs)
    → GoesOn b (IsThrough force commands (xs ++ ys)) (xs ++ ys) → GoesOn b (IsBegun force commands xs) xs
front_by force true commands xs ys rest goes = rest goes
front_by force false commands [] ys rest goes = refl
front_by force false commands (x ∷ xs) ys rest goes = absurd (cc goes)

front_begun : (force : Bool) (commands : List Command) (xs ys : List Event) → IsThrough force commands (xs ++ ys) → IsBegun force commands xs
front_begun force commands [] ys is = tt
front_begun force [] (x ∷ xs) ys is = absurd (cc is)
front_begun force (command ∷ commands) (x ∷ xs) ys is =
    (is.0, front_by force (force || is_accepted x.kind) commands xs ys (λ more. front_begun force commands xs ys more) is.1)

pub begun_front : (batches : List GivenBatch) (xs ys : List Event) → AreInOrder batches (xs ++ ys) → AreBegun batches xs
begun_front batches xs ys order = λ batch among.
    front_begun batch.force batch.commands (events_of batch.control xs) (events_of batch.control ys)
    (subst (IsThrough batch.force batch.commands) (events_of-append batch.control xs ys) (order batch among))

-- ---- packets
module _ (workers : ℕ) (journal : List Edit) (before ceiling : ℕ) where
  abbrev Walks : List Outcome → List Arrival → List Outcome → Type 0
  Walks earlier arrivals outcomes = AreWalkedFrom workers journal before ceiling earlier arrivals outcomes

  from_places : (earlier : List Outcome) (arrivals : List Arrival) (outcomes : List Outcome) → length outcomes ≡ length arrivals
      → ((place : ℕ) (outcome : Outcome) → slice_get outcomes place ≡ Some outcome → (1 ≤ outcome.worker) × (outcome.worker ≤ workers))
      → ((place : ℕ) (arrival : Arrival) (outcome : Outcome) → slice_get arrivals place ≡ Some arrival → slice_get outcomes place ≡ Some outcome
      → IsWalkedBehind workers journal before ceiling (earlier ++ take place outcomes) arrival outcome)
      → Walks earlier arrivals outcomes
  from_places earlier [] [] count worker walked = tt
  from_places earlier [] (outcome ∷ outcomes) count worker walked = absurd (omega (arith, count))
  from_places earlier (arrival ∷ arrivals) [] count worker walked = absurd (omega (arith, count))
  from_places earlier (arrival ∷ arrivals) (outcome ∷ outcomes) count worker walked =
      let own = worker 0 outcome refl in (
        own.0,
        own.1,
        subst (λ (seen : List Outcome). IsWalkedBehind workers journal before ceiling seen arrival outcome) (append-nil earlier) (walked 0 arrival outcome refl refl),
        from_places (earlier ++ (outcome ∷ [])) arrivals outcomes (omega (arith, count)) (λ place o is. worker (suc place) o is)
            (λ place a o came is. subst (λ (seen : List Outcome). IsWalkedBehind workers journal before ceiling seen a o) (sym (append_assoc earlier (outcome ∷ []) (take place outcomes)))
            (walked (suc place) a o came is)),
      )

  pub walks_from : (earlier : List Outcome) (arrivals : List Arrival) (outcomes : List Outcome) → AreWalked workers journal before ceiling earlier arrivals outcomes → Walks earlier arrivals outcomes
  walks_from earlier arrivals outcomes are = from_places earlier arrivals outcomes are.one_each are.worker are.walked
