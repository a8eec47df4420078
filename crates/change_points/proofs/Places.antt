-- Lists that are the same place by place.
use Rattle.std.proofs.Common.{◌≡◌, ◌∙◌, ℕ, zero, suc, ◌<◌, ◌≤◌, List, [], ◌∷◌, map, length, get_or, take}
use Rattle.std.proofs.Common.{refl, sym, ap, arith}
use Rattle.std.proofs.lemmas.List.{length-map}

pub few_taken : {X : Type 0} (n : ℕ) (xs : List X) → length (take n xs) ≤ length xs
few_taken zero xs = omega arith
few_taken (suc n) [] = omega arith
few_taken (suc n) (x ∷ xs) = let rest = few_taken n xs in omega (arith, rest)

module _ {X Y Z : Type 0} (f : Y → X) (g : Z → Y) where
  pub as_long : (xs : List X) (zs : List Z) → xs ≡ map f (map g zs) → length xs ≡ length zs
  as_long xs zs is = ap length is ∙ length-map (map g zs) f ∙ length-map zs g

  there : (zs : List Z) (place : ℕ) (x : X) (z : Z) → place < length zs
      → get_or (map f (map g zs)) place x ≡ f (g (get_or zs place z))
  there [] place x z within = absurd (omega (arith, within))
  there (first ∷ zs) zero x z within = refl
  there (first ∷ zs) (suc place) x z within = there zs place x z (omega (arith, within))

  -- so whatever stands in one place of both is the same
  pub at_place : (xs : List X) (zs : List Z) (place : ℕ) (x : X) (z : Z) → xs ≡ map f (map g zs)
      → place < length zs → z ≡ get_or zs place z → get_or xs place x ≡ f (g z)
  at_place xs zs place x z is within at = ap (λ (ys : List X). get_or ys place x) is
      ∙ there zs place x z within ∙ ap (λ (it : Z). f (g it)) (sym at)
