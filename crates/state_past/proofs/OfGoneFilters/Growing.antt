-- Marks are gathered one element after the other.
use Rattle.std.proofs.Common.{◌≡◌, ◌∙◌, ℕ, zero, suc, ◌+◌, ◌<◌, ◌≤◌, List, [], ◌∷◌, ◌++◌, length, take, map, get_or, Option, Some, None, refl, sym, ap, arith, append_assoc, append-nil}
use Rattle.std.specs.List.{flat_map}
use Rattle.std.proofs.lemmas.Grind.{flat_map-append}
use Rattle.std.proofs.lemmas.List.{map-append}
use Rattle.tc_base.specs.declared.hook.Hook.{Hook}
use Rattle.filter_index.specs.declared.filter.Filter.{Filter}
use Rattle.filter_index.specs.Listed.{those_there}
use Rattle.filter_tables.specs.Plain.{PlainMask, PlainTable}
use Rattle.filter_tables.specs.Rows.{row_of, rows_of_mask}
use Rattle.state_past.specs.OfGoneFilters.Marks.{Mark, mark_of, marks_at, marks_in}

take_more : {X : Type 0} (xs : List X) (k : ℕ) (d : X) → k < length xs → take (k + 1) xs ≡ take k xs ++ (get_or xs k d ∷ [])
take_more [] k d within = absurd (omega arith)
take_more (x ∷ xs) zero d within = refl
take_more (x ∷ xs) (suc k) d within =
    let next : suc k + 1 ≡ suc (k + 1) = omega arith in
    ap (λ n. take n (x ∷ xs)) next ∙ ap (λ ys. x ∷ ys) (take_more xs k d (omega arith))

take_whole : {X : Type 0} (xs : List X) (k : ℕ) → length xs ≤ k → take k xs ≡ xs
take_whole [] zero all = refl
take_whole [] (suc k) all = refl
take_whole (x ∷ xs) zero all = absurd (omega arith)
take_whole (x ∷ xs) (suc k) all = ap (λ ys. x ∷ ys) (take_whole xs k (omega arith))

-- one element more
pub one_more : {X Y : Type 0} (f : X → List Y) (old before after : List Y) (xs : List X) (k : ℕ) (x : X) → k < length xs → get_or xs k x ≡ x
    → before ≡ old ++ flat_map f (take k xs) → after ≡ before ++ f x → after ≡ old ++ flat_map f (take (k + 1) xs)
one_more f old before after xs k x within is first last =
    last ∙ (ap (λ t. t ++ f x) first ∙ (append_assoc old (flat_map f (take k xs)) (f x)
    ∙ ap (λ t. old ++ t) (ap (λ y. flat_map f (take k xs) ++ f y) (sym is) ∙ sym more)))
  where
    more : flat_map f (take (k + 1) xs) ≡ flat_map f (take k xs) ++ f (get_or xs k x)
    more = ap (flat_map f) (take_more xs k x within) ∙ (flat_map-append f (take k xs) (get_or xs k x ∷ []) ∙ ap (λ ys. flat_map f (take k xs) ++ ys) (append-nil (f (get_or xs k x))))

-- all of them
pub all_of : {X Y : Type 0} (f : X → List Y) (xs : List X) (k : ℕ) → length xs ≤ k → flat_map f (take k xs) ≡ flat_map f xs
all_of f xs k all = ap (flat_map f) (take_whole xs k all)

-- slots that are empty have none
pub slots_have : (hook : Hook) (t : PlainTable) (m : PlainMask) (slots : List (Option Filter)) → flat_map (marks_at hook t m) slots ≡ map mark_of (map (row_of hook t m) (those_there slots))
slots_have hook t m [] = refl
slots_have hook t m (Some x ∷ slots) = ap (λ (ms : List Mark). mark_of (row_of hook t m x) ∷ ms) (slots_have hook t m slots)
slots_have hook t m (None ∷ slots) = slots_have hook t m slots

-- a table has those of its masks
pub masks_have : (hook : Hook) (t : PlainTable) (masks : List PlainMask) → flat_map (marks_in hook t) masks ≡ map mark_of (flat_map (rows_of_mask hook t) masks)
masks_have hook t [] = refl
masks_have hook t (m ∷ masks) = ap (λ (ms : List Mark). marks_in hook t m ++ ms) (masks_have hook t masks) ∙ sym (map-append mark_of (rows_of_mask hook t m) (flat_map (rows_of_mask hook t) masks))

pub lent_masks : {X Y Z : Type 0} (f : Y → List Z) (g : X → Y) (xs : List X) → flat_map (λ x. f (g x)) xs ≡ flat_map f (map g xs)
lent_masks f g [] = refl
lent_masks f g (x ∷ xs) = ap (λ zs. f (g x) ++ zs) (lent_masks f g xs)
