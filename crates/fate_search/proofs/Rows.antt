-- Tests over numbers in a row.
use Rattle.std.proofs.Common.{◌≡◌, ◌∙◌, ℕ, zero, suc, ◌+◌, ◌<◌, ◌≤◌, Bool, true, false, ◌||◌, inl, inr, refl}
use Rattle.std.proofs.Common.{ap, arith}
use Rattle.std.proofs.lemmas.Bool.{cases_lt}
use Rattle.std.specs.List.{list_any, range_with_len}

pub or_left : (a b : Bool) → a ≡ true → (a || b) ≡ true
or_left true b is = refl
or_left false b is = absurd (cc is)

pub or_right : (a b : Bool) → b ≡ true → (a || b) ≡ true
or_right true b is = refl
or_right false b is = is

pub or_neither : (a b : Bool) → a ≡ false → b ≡ false → (a || b) ≡ false
or_neither true b one other = absurd (cc one)
or_neither false b one other = other

pub or_false : (a : Bool) → (a || false) ≡ a
or_false true = refl
or_false false = refl

pub or_swap : (a b : Bool) → (a || b) ≡ (b || a)
or_swap true true = refl
or_swap true false = refl
or_swap false true = refl
or_swap false false = refl

or_group : (a b c : Bool) → (a || (b || c)) ≡ ((a || b) || c)
or_group true b c = refl
or_group false b c = refl

module _ (f : ℕ → Bool) where
  pub any_there : (low count at : ℕ) → low ≤ at → at < low + count → f at ≡ true
      → list_any f (range_with_len low count) ≡ true
  any_there low zero at above below is = absurd (omega (arith, above, below))
  any_there low (suc count) at above below is = elim (cases_lt low at) [
    | inl later ↦ or_right (f low) (list_any f (range_with_len (low + 1) count))
        (any_there (low + 1) count at (omega (arith, later)) (omega (arith, below)) is)
    | inr here ↦ (let same : low ≡ at = omega (arith, here, above) in
        or_left (f low) (list_any f (range_with_len (low + 1) count)) (ap f same ∙ is))
  ]

  pub none_there : (low count : ℕ) → ((at : ℕ) → low ≤ at → at < low + count → f at ≡ false)
      → list_any f (range_with_len low count) ≡ false
  none_there low zero none = refl
  none_there low (suc count) none =
      or_neither (f low) (list_any f (range_with_len (low + 1) count)) (none low (omega arith) (omega arith))
      (none_there (low + 1) count (λ at above below. none at (omega (arith, above)) (omega (arith, below))))

  pub any_more : (low count : ℕ) → list_any f (range_with_len low (suc count))
      ≡ (list_any f (range_with_len low count) || f (low + count))
  any_more low zero = let same : low ≡ low + 0 = omega arith in or_false (f low) ∙ ap f same
  any_more low (suc count) =
      let same : (low + 1) + count ≡ low + suc count = omega arith in
      ap (λ (b : Bool). f low || b) (any_more (low + 1) count)
      ∙ or_group (f low) (list_any f (range_with_len (low + 1) count)) (f ((low + 1) + count))
      ∙ ap (λ (n : ℕ). (f low || list_any f (range_with_len (low + 1) count)) || f n) same
