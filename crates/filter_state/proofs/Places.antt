-- What holds of each element of a list, and of each pair, holds at their places.
use Rattle.std.proofs.Common.{◌≡◌, ℕ, zero, suc, ◌<◌, List, [], ◌∷◌, Some, subst, arith}
use Rattle.std.specs.List.{slice_get}
use Rattle.filter_state.specs.Sound.{Each, EachPair}

pub each_at : {X : Type 0} (P : X → Type 0) (xs : List X) (place : ℕ) (x : X) → Each P xs → slice_get xs place ≡ Some x → P x
each_at P [] place x each is = absurd (cc is)
each_at P (first ∷ xs) zero x each is = let same : first ≡ x = cc in subst P same each.0
each_at P (first ∷ xs) (suc place) x each is = each_at P xs place x each.1 is

pub pair_at : {X : Type 0} (R : X → X → Type 0) (xs : List X) → EachPair R xs → (early late : ℕ) (one other : X) → early < late
    → slice_get xs early ≡ Some one → slice_get xs late ≡ Some other → R one other
pair_at R [] pairs early late one other order is at = absurd (cc is)
pair_at R (x ∷ xs) pairs zero zero one other order is at = absurd (omega (arith, order))
pair_at R (x ∷ xs) pairs zero (suc late) one other order is at =
    let same : x ≡ one = cc in subst (λ y. R y other) same (each_at (R x) xs late other pairs.0 at)
pair_at R (x ∷ xs) pairs (suc early) zero one other order is at = absurd (omega (arith, order))
pair_at R (x ∷ xs) pairs (suc early) (suc late) one other order is at =
    pair_at R xs pairs.1 early late one other (omega (arith, order)) is at
