-- The packets of a round that was begun, and those behind them.
use Rattle.std.proofs.Common.{◌≡◌, ℕ, suc, ◌≤◌, List, [], ◌∷◌, ◌++◌, length, refl, sym, ap, subst, append_assoc, append-nil}
use Rattle.filter_state.specs.declared.edit.Edit.{Edit}
use Rattle.run_report.specs.declared.outcomes.Outcome.{Outcome}
use Rattle.lawful_runs.specs.Given.{Arrival}
use Rattle.lawful_runs.proofs.WalkedEach.{IsWalkedBehind, AreWalkedFrom}

module _ (workers : ℕ) (journal : List Edit) (before ceiling : ℕ) where
  abbrev Walks : List Outcome → List Arrival → List Outcome → Type 0
  Walks earlier arrivals outcomes = AreWalkedFrom workers journal before ceiling earlier arrivals outcomes

  pub walks_push : (earlier : List Outcome) (arrivals : List Arrival) (outcomes : List Outcome) (arrival : Arrival) (outcome : Outcome) → Walks earlier arrivals outcomes
      → 1 ≤ outcome.worker → outcome.worker ≤ workers → IsWalkedBehind workers journal before ceiling (earlier ++ outcomes) arrival outcome
      → Walks earlier (arrivals ++ (arrival ∷ [])) (outcomes ++ (outcome ∷ []))
  walks_push earlier [] [] arrival outcome are least most walked =
      (least, most, subst (λ (seen : List Outcome). IsWalkedBehind workers journal before ceiling seen arrival outcome) (append-nil earlier) walked, tt)
  walks_push earlier [] (o ∷ outcomes) arrival outcome are least most walked = absurd are
  walks_push earlier (a ∷ arrivals) [] arrival outcome are least most walked = absurd are
  walks_push earlier (a ∷ arrivals) (o ∷ outcomes) arrival outcome (first, last, one, rest) least most walked = (
    first,
    last,
    one,
    walks_push (earlier ++ (o ∷ [])) arrivals outcomes arrival outcome rest least most
        (subst (λ (seen : List Outcome). IsWalkedBehind workers journal before ceiling seen arrival outcome) (sym (append_assoc earlier (o ∷ []) outcomes)) walked),
  )

  pub walks_append : (earlier : List Outcome) (came left : List Arrival) (xs ys : List Outcome) → Walks earlier came xs → Walks (earlier ++ xs) left ys → Walks earlier (came ++ left) (xs ++ ys)
  walks_append earlier [] left [] ys first second = subst (λ (seen : List Outcome). Walks seen left ys) (append-nil earlier) second
  walks_append earlier [] left (x ∷ xs) ys first second = absurd first
  walks_append earlier (a ∷ came) left [] ys first second = absurd first
  walks_append earlier (a ∷ came) left (x ∷ xs) ys (least, most, one, rest) second = (
    least,
    most,
    one,
    walks_append (earlier ++ (x ∷ [])) came left xs ys rest
        (subst (λ (seen : List Outcome). Walks seen left ys) (sym (append_assoc earlier (x ∷ []) xs)) second),
  )

  pub as_many : (earlier : List Outcome) (arrivals : List Arrival) (outcomes : List Outcome) → Walks earlier arrivals outcomes → length outcomes ≡ length arrivals
  as_many earlier [] [] are = refl
  as_many earlier (a ∷ arrivals) [] are = absurd are
  as_many earlier [] (o ∷ outcomes) are = absurd are
  as_many earlier (a ∷ arrivals) (o ∷ outcomes) are = ap suc (as_many (earlier ++ (o ∷ [])) arrivals outcomes are.3)
