-- Places in lists that are put together.
use Rattle.std.proofs.Common.{◌≡◌, ◌∙◌, ℕ, List, [], ◌∷◌, ◌++◌, length, Some, refl, ap}
use Rattle.std.specs.List.{slice_get}

-- behind a front stands what comes next
pub there : {X : Type 0} (front back : List X) (x : X) (n : ℕ) → n ≡ length front → slice_get (front ++ (x ∷ back)) n ≡ Some x
there [] back x n is = ap (slice_get (x ∷ back)) is
there (y ∷ front) back x n is = ap (slice_get ((y ∷ front) ++ (x ∷ back))) is ∙ there front back x (length front) refl
