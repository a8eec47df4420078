-- Pasts that are brought up to a point.
use Rattle.std.proofs.Common.{◌≡◌, ◌∙◌, ℕ, ◌+◌, ◌≤◌, List, [], ◌∷◌, ◌++◌, length, Option, Some, refl, sym, ap, arith, inl, inr}
use Rattle.std.proofs.lemmas.Bool.{cases_lt}
use Rattle.std.proofs.lemmas.List.{length-append, take-append-le, take_all}
use Rattle.std.proofs.lemmas.List.Elements.{All-append, All-cons, All-nil}
use Rattle.filter_state.specs.declared.edit.Edit.{Edit}
use Rattle.filter_state.specs.States.{State, no_state}
use Rattle.filter_state.specs.Journals.{state_from}
use Rattle.slot_pasts.specs.declared.past.Change.{Change}
use Rattle.slot_pasts.specs.Pasts.{value_at, UpTo}
use Rattle.state_past_laws.specs.Telling.{Tells}
use Rattle.state_past_laws.proofs.Longer.{before_it, from_it}
use Rattle.state_past_laws.specs.OfChanges.Moving.{GrowsFrom}

module _ {V : Type 0} where
  pub up_to_more : (most more : ℕ) (past : List (Change V)) → most ≤ more → UpTo most past → UpTo more past
  up_to_more most more past least up = λ k d less. let own = up k d less in omega (arith, own, least)

  pub grows_itself : (from : ℕ) (past : List (Change V)) → UpTo from past → GrowsFrom from past past
  grows_itself from past up = record { before = λ point less. refl; up_to = up }

  pub grows_put : (from : ℕ) (value : V) (past after : List (Change V)) → GrowsFrom from past after → GrowsFrom from past (after ++ (record { from = from; value = value } ∷ []))
  grows_put from value past after grows =
      let IsUp : Change V → Type 0 = λ (change : Change V). change.from ≤ from in record {
        before = λ point less. before_it point from value after less ∙ grows.before point less;
        up_to = All-append IsUp after (record { from = from; value = value } ∷ []) grows.up_to (All-cons IsUp (record { from = from; value = value }) [] (omega arith) (All-nil IsUp));
      }

  pub has_put : (from : ℕ) (value : V) (after : List (Change V)) → value_at from (after ++ (record { from = from; value = value } ∷ [])) ≡ Some value
  has_put from value after = from_it from from value after (omega arith)

-- ---- one edit more
pub told_on : (V W : Type 0) (has : State → W) (read : Option V → W) (past after : List (Change V)) (journal : List Edit) (edit : Edit) → Tells has read past journal → GrowsFrom (length journal + 1) past after
    → read (value_at (length journal + 1) after) ≡ has (state_from no_state (journal ++ (edit ∷ []))) → Tells has read after (journal ++ (edit ∷ []))
told_on V W has read past after journal edit tells grows now =
    let count : length (journal ++ (edit ∷ [])) ≡ length journal + 1 = length-append journal (edit ∷ []) in record {
      told = λ point within. elim (cases_lt point (length journal + 1)) [
        | inl less ↦ ap (λ (js : List Edit). has (state_from no_state js)) (take-append-le point journal (edit ∷ []) (omega (arith, less))) ∙ tells.told point (omega (arith, less)) ∙ ap read (sym (grows.before point less))
        | inr most ↦ let same : point ≡ length journal + 1 = omega (arith, most, within, count) in
            ap (λ (js : List Edit). has (state_from no_state js)) (take_all point (journal ++ (edit ∷ [])) (omega (arith, same, count))) ∙ sym now ∙ ap (λ (n : ℕ). read (value_at n after)) (sym same)
      ];
      up_to = up_to_more (length journal + 1) (length (journal ++ (edit ∷ []))) after (omega (arith, count)) grows.up_to;
    }
