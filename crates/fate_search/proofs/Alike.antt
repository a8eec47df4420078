-- Lists whose elements are the same, place by place.
use Rattle.std.proofs.Common.{◌≡◌, ℕ, zero, suc, ◌<◌, Bool, true, false, ◌&&◌, List, [], ◌∷◌, map, length}
use Rattle.std.proofs.Common.{get_or, refl, sym, subst, arith}
use Rattle.std.specs.Prelude.{nat_eq}
use Rattle.std.specs.Bool.{Decides}
use Rattle.std.proofs.lemmas.Bool.Decides.{nat_tests}
use Rattle.std.specs.Cmp.Lexicographic.{pointwise}
use Rattle.act_kinds.specs.declared.params.Params.{Params}
use Rattle.walk_rules.specs.Questions.{told_params}
use Rattle.walk_fate_laws.specs.Walks.{same_params}
use Rattle.walk_fate_laws.proofs.Same.{answer_exact, answer_itself}

and_none : (a b : Bool) → b ≡ false → (a && b) ≡ false
and_none true b is = is
and_none false b is = refl

and_both : (a b : Bool) → a ≡ true → b ≡ true → (a && b) ≡ true
and_both true b one other = other
and_both false b one other = absurd (cc one)

no_one : (a b : Bool) → a ≡ false → (a && b) ≡ false
no_one true b is = absurd (cc is)
no_one false b is = refl

module _ {X Y : Type 0} (same : Y → Y → Bool) (f : X → Y) where
  pub all_same : (xs ys : List X) → length xs ≡ length ys
      → ((k : ℕ) (d : X) → k < length xs → same (f (get_or xs k d)) (f (get_or ys k d)) ≡ true)
      → pointwise same (map f xs) (map f ys) ≡ true
  all_same [] [] long are = refl
  all_same [] (y ∷ ys) long are = absurd (omega (arith, long))
  all_same (x ∷ xs) [] long are = absurd (omega (arith, long))
  all_same (x ∷ xs) (y ∷ ys) long are =
      and_both (same (f x) (f y)) (pointwise same (map f xs) (map f ys)) (are 0 x (omega arith))
      (all_same xs ys (omega (arith, long)) (λ k d less. are (suc k) d (omega (arith, less))))

  pub one_differs : (xs ys : List X) (k : ℕ) (d e : X) → k < length xs → k < length ys
      → same (f (get_or xs k d)) (f (get_or ys k e)) ≡ false → pointwise same (map f xs) (map f ys) ≡ false
  one_differs [] ys k d e less within is = absurd (omega (arith, less))
  one_differs (x ∷ xs) [] k d e less within is = absurd (omega (arith, within))
  one_differs (x ∷ xs) (y ∷ ys) zero d e less within is =
      no_one (same (f x) (f y)) (pointwise same (map f xs) (map f ys)) is
  one_differs (x ∷ xs) (y ∷ ys) (suc k) d e less within is =
      and_none (same (f x) (f y)) (pointwise same (map f xs) (map f ys))
      (one_differs xs ys k d e (omega (arith, less)) (omega (arith, within)) is)

-- ---- numbers
pub differ : (n m : ℕ) → (n ≡ m → ⊥) → nat_eq n m ≡ false
differ n m other = by_test (nat_eq n m) refl
  where
    by_test : (b : Bool) → nat_eq n m ≡ b → b ≡ false
    by_test false tests = refl
    by_test true tests = absurd (other (grind (arith, nat_tests, tests)))

-- ---- parameters
pub decided : (b : Bool) (one other : Params) → Decides b (one ≡ other) → b ≡ same_params one other
decided true one other is =
    sym (subst (λ (p : Params). same_params one p ≡ true) (is.0 refl) (answer_itself (told_params one)))
decided false one other is = by_test (same_params one other) refl
  where
    by_test : (t : Bool) → same_params one other ≡ t → false ≡ t
    by_test false tests = refl
    by_test true tests =
        let same = answer_exact (told_params one) (told_params other) tests in
        let params : one ≡ other = cc same in absurd (cc (is.1 params))
