-- The last change up to a point, found by halving.
use Rattle.std.proofs.Common.{◌≡◌, ◌∙◌, ℕ, zero, suc, ◌<◌, ◌≤◌, Bool, true, false, leb, List, [], ◌∷◌, length, get_or, Option, Some, None, refl, ap, arith}
use Rattle.std.specs.Prelude.{nat_le, if◌then◌else◌}
use Rattle.slot_pasts.specs.declared.past.Change.{Change}
use Rattle.slot_pasts.specs.Pasts.{or_earlier, value_at}

abbrev pub IsEarly : {V : Type 0} → ℕ → Change V → Type 0
IsEarly point change = leb change.from point ≡ true

abbrev pub IsLate : {V : Type 0} → ℕ → Change V → Type 0
IsLate point change = leb change.from point ≡ false

early_is : {V : Type 0} (point : ℕ) (change : Change V) → IsEarly point change → (if nat_le change.from point then Some change.value else None) ≡ Some change.value
early_is point change is = let b : nat_le change.from point ≡ true = is in ap (λ (b : Bool). if b then Some change.value else None) b

late_is : {V : Type 0} (point : ℕ) (change : Change V) → IsLate point change → (if nat_le change.from point then Some change.value else None) ≡ None
late_is point change is = let b : nat_le change.from point ≡ false = is in ap (λ (b : Bool). if b then Some change.value else None) b

pub all_late : {V : Type 0} (point : ℕ) (changes : List (Change V)) → ((i : ℕ) (d : Change V) → i < length changes → IsLate point (get_or changes i d)) → value_at point changes ≡ None
all_late point [] late = refl
all_late point (change ∷ changes) late =
    ap (λ (o : Option _). or_earlier o (if nat_le change.from point then Some change.value else None)) (all_late point changes (λ i d less. late (suc i) d (omega (arith, less))))
    ∙ late_is point change (late 0 change (omega arith))

pub last_early : {V : Type 0} (point k : ℕ) (changes : List (Change V)) (d : Change V) → k < length changes
    → ((i : ℕ) (d : Change V) → i ≤ k → IsEarly point (get_or changes i d)) → ((i : ℕ) (d : Change V) → k < i → i < length changes → IsLate point (get_or changes i d))
    → value_at point changes ≡ Some (get_or changes k d).value
last_early point k [] d within early late = absurd (omega (arith, within))
last_early point zero (change ∷ changes) d within early late =
    ap (λ (o : Option _). or_earlier o (if nat_le change.from point then Some change.value else None))
    (all_late point changes (λ i e less. late (suc i) e (omega arith) (omega (arith, less))))
    ∙ early_is point change (early 0 change (omega arith))
last_early point (suc k) (change ∷ changes) d within early late =
    ap (λ (o : Option _). or_earlier o (if nat_le change.from point then Some change.value else None))
    (last_early point k changes d (omega (arith, within)) (λ i e less. early (suc i) e (omega (arith, less))) (λ i e more less. late (suc i) e (omega (arith, more)) (omega (arith, less))))
