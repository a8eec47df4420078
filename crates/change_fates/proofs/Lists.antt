-- Lists by places, and lines put together.
use Rattle.std.proofs.Common.{◌≡◌, ◌∙◌, ℕ, zero, suc, ◌+◌, ◌<◌, List, [], ◌∷◌, ◌++◌, length, Option, Some, None, refl, ap, arith}
use Rattle.std.specs.Prelude.{map, drop}
use Rattle.std.specs.List.{slice_get, flat_map}
use Rattle.std.proofs.lemmas.Grind.{flat_map-append}
use Rattle.walk_texts.specs.Texts.{joined}

-- what stands at a place, and what stands behind it
pub record IsThere {X : Type 0} (xs : List X) (place : ℕ) : Type 0 where
  pub x : X
  pub at : slice_get xs place ≡ Some x
  pub left : drop place xs ≡ x ∷ drop (place + 1) xs

pub is_there : {X : Type 0} (xs : List X) (place : ℕ) → place < length xs → IsThere xs place
is_there [] place within = absurd (omega (arith, within))
is_there (x ∷ xs) zero within = record { x = x; at = refl; left = refl }
is_there (x ∷ xs) (suc place) within =
    let it = is_there xs place (omega (arith, within)) in
    let next : suc (place + 1) ≡ suc place + 1 = omega arith in
    record { x = it.x; at = it.at; left = it.left ∙ ap (λ (n : ℕ). it.x ∷ drop n (x ∷ xs)) next }

pub joined_append : (ones others : List (List ℕ)) → joined (ones ++ others) ≡ joined ones ++ joined others
joined_append ones others = flat_map-append (λ (line : List ℕ). line) ones others
