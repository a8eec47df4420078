-- What is told of something changes where it does.
use Rattle.std.proofs.Common.{◌≡◌, ◌∙◌, ℕ, Option, Some, None, sym, ap}
use Rattle.state_past.specs.NextChange.{IsNextChange}

-- where it can be told from that
pub change_told : {A B : Type 0} (at : ℕ → A) (told : ℕ → B) (tell : A → B) (point : ℕ) (next : Option ℕ)
    → ((a b : A) → tell a ≡ tell b → a ≡ b) → ((p : ℕ) → told p ≡ tell (at p)) → IsNextChange at point next
    → IsNextChange told point next
change_told at told tell point None apart is change = record {
  other = tt;
  steady = λ later from before. is later ∙ ap tell (change.steady later from before) ∙ sym (is point);
}
change_told at told tell point (Some next) apart is change = record {
  other = (
    change.other.0,
    λ same. change.other.1 (apart (at next) (at point) (sym (is next) ∙ same ∙ is point)),
  );
  steady = λ later from before. is later ∙ ap tell (change.steady later from before) ∙ sym (is point);
}
