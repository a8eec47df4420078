-- Masks once one that is left empty has gone, and whether a filter is found.
use Rattle.std.proofs.Common.{◌≡◌, ℕ, zero, suc, ◌<◌, ◌==◌, Bool, true, false, cond, ◌||◌, List, [], ◌∷◌, length, get_or, Option, Some, None, Bor, refl, sym, ap, ◌∙◌, arith}
use Rattle.std.specs.Prelude.{map, find, is_some}
use Rattle.std.specs.Option.{option_copied}
use Rattle.std.specs.List.{list_any, remove}
use Rattle.std.proofs.lemmas.Bool.Decides.{nat_tests}
use Rattle.filter_tables.specs.Plain.{PlainMask}
use Rattle.filter_tables.specs.Changes.{is_none_left, swept}

pub none_left_is : {X : Type 0} (xs : List X) (b : Bool) → (length xs == 0) ≡ b → is_none_left xs ≡ b
none_left_is [] b e = e
none_left_is (x ∷ xs) b e = let some : (length (x ∷ xs) == 0) ≡ false = grind (arith, nat_tests) in sym some ∙ e

pub swept_gone : {X : Type 0} (f : X → PlainMask) (xs : List X) (at : ℕ) (was : X) → at < length xs → was ≡ get_or xs at was →
    (length (f was).filters == 0) ≡ true → map f (remove xs at) ≡ swept at (map f xs)
swept_gone f [] at was within read none = absurd (omega arith)
swept_gone f (x ∷ xs) zero was within read none =
    let left : is_none_left (f x).filters ≡ true = none_left_is (f x).filters true (ap (λ z. length (f z).filters == 0) (sym read) ∙ none) in
    rw left refl
swept_gone f (x ∷ xs) (suc at) was within read none = ap (λ rest. f x ∷ rest) (swept_gone f xs at was (omega arith) read none)

pub swept_kept : {X : Type 0} (f : X → PlainMask) (xs : List X) (at : ℕ) (was : X) → at < length xs → was ≡ get_or xs at was →
    (length (f was).filters == 0) ≡ false → map f xs ≡ swept at (map f xs)
swept_kept f [] at was within read some = absurd (omega arith)
swept_kept f (x ∷ xs) zero was within read some =
    let left : is_none_left (f x).filters ≡ false = none_left_is (f x).filters false (ap (λ z. length (f z).filters == 0) (sym read) ∙ some) in
    rw left refl
swept_kept f (x ∷ xs) (suc at) was within read some = ap (λ rest. f x ∷ rest) (swept_kept f xs at was (omega arith) read some)

-- ---- whether a search found one
some_step : {X : Type 0} (b : Bool) (x : X) (found : Option X) (any : Bool) → is_some found ≡ any → is_some (cond b (Some x) found) ≡ (b || any)
some_step true x found any e = refl
some_step false x found any e = e

pub found_any : {X : Type 0} (test : X → Bool) (xs : List X) → is_some (find test xs) ≡ list_any test xs
found_any test [] = refl
found_any test (x ∷ xs) = some_step (test x) x (find test xs) (list_any test xs) (found_any test xs)

pub copied_some : {X : Type 0} (found : Option (Bor X)) → is_some (option_copied found) ≡ is_some found
copied_some None = refl
copied_some (Some x) = refl
