-- Serials are gathered one element after the other.
use Rattle.std.proofs.Common.{◌≡◌, ◌∙◌, ℕ, zero, suc, ◌+◌, ◌<◌, ◌≤◌, List, [], ◌∷◌, ◌++◌, length, take, get_or, Option, Some, None, refl, sym, ap, arith, append_assoc, append-nil}
use Rattle.std.specs.List.{flat_map}
use Rattle.std.proofs.lemmas.Grind.{flat_map-append}
use Rattle.filter_index.specs.declared.filter.Filter.{Filter}
use Rattle.filter_index.specs.Listed.{those_there}
use Rattle.desk_parts.specs.OfGoneSerials.Same.{serials_at, serials_in}

take_more : {X : Type 0} (xs : List X) (k : ℕ) (d : X) → k < length xs → take (k + 1) xs ≡ take k xs ++ (get_or xs k d ∷ [])
take_more [] k d within = absurd (omega arith)
take_more (x ∷ xs) zero d within = refl
take_more (x ∷ xs) (suc k) d within =
    let next : suc k + 1 ≡ suc (k + 1) = omega arith in
    ap (λ n. take n (x ∷ xs)) next ∙ ap (λ ys. x ∷ ys) (take_more xs k d (omega arith))

take_whole : {X : Type 0} (xs : List X) (k : ℕ) → length xs ≤ k → take k xs ≡ xs
take_whole [] zero all = refl
take_whole [] (suc k) all = refl
take_whole (x ∷ xs) zero all = absurd (omega arith)
take_whole (x ∷ xs) (suc k) all = ap (λ ys. x ∷ ys) (take_whole xs k (omega arith))

-- one element more
pub one_more : {X : Type 0} (f : X → List ℕ) (old before after : List ℕ) (xs : List X) (k : ℕ) (x : X) → k < length xs → get_or xs k x ≡ x
    → before ≡ old ++ flat_map f (take k xs) → after ≡ before ++ f x → after ≡ old ++ flat_map f (take (k + 1) xs)
one_more f old before after xs k x within is first last =
    last ∙ (ap (λ t. t ++ f x) first ∙ (append_assoc old (flat_map f (take k xs)) (f x)
    ∙ ap (λ t. old ++ t) (ap (λ y. flat_map f (take k xs) ++ f y) (sym is) ∙ sym more)))
  where
    more : flat_map f (take (k + 1) xs) ≡ flat_map f (take k xs) ++ f (get_or xs k x)
    more = ap (flat_map f) (take_more xs k x within) ∙ (flat_map-append f (take k xs) (get_or xs k x ∷ []) ∙ ap (λ ys. flat_map f (take k xs) ++ ys) (append-nil (f (get_or xs k x))))

-- all of them
pub all_of : {X : Type 0} (f : X → List ℕ) (xs : List X) (k : ℕ) → length xs ≤ k → flat_map f (take k xs) ≡ flat_map f xs
all_of f xs k all = ap (flat_map f) (take_whole xs k all)

-- slots that are empty have none
pub slots_have : (slots : List (Option Filter)) → flat_map serials_at slots ≡ serials_in (those_there slots)
slots_have [] = refl
slots_have (Some x ∷ slots) = ap (λ (t : List ℕ). x.actions ++ t) (slots_have slots)
slots_have (None ∷ slots) = slots_have slots
