-- The elements of a list that pass a test, where others are taken out, put at the end or changed.
use Rattle.std.proofs.Common.{◌≡◌, Bool, true, false, not, cond, List, [], ◌∷◌, ◌++◌, map, refl, sym, ◌∙◌, ap, append-nil}
use Rattle.std.specs.Prelude.{filter}
use Rattle.std.proofs.lemmas.Bool.{false≢true, false_from_ne_true, not_from_false}
use Rattle.std.proofs.lemmas.List.Elements.{filter-append}
use Rattle.filter_state.specs.Sound.{Each}
use Rattle.filter_state.proofs.Pairs.{each_weaker}

-- ---- one at the end
pub last_left : {X : Type 0} (test : X → Bool) (xs : List X) (x : X) → test x ≡ false → filter test (xs ++ x ∷ []) ≡ filter test xs
last_left test xs x is = filter-append test xs (x ∷ []) ∙ ap (λ b. filter test xs ++ cond b (x ∷ []) []) is ∙ append-nil (filter test xs)

pub last_kept : {X : Type 0} (test : X → Bool) (xs : List X) (x : X) → test x ≡ true → filter test (xs ++ x ∷ []) ≡ filter test xs ++ x ∷ []
last_kept test xs x is = filter-append test xs (x ∷ []) ∙ ap (λ b. filter test xs ++ cond b (x ∷ []) []) is

-- ---- two tests, in either order
both_step : {X : Type 0} (p q : X → Bool) (b c : Bool) (x : X) (ys zs : List X) → p x ≡ b → q x ≡ c → filter p ys ≡ filter q zs →
    filter p (cond c (x ∷ ys) ys) ≡ filter q (cond b (x ∷ zs) zs)
both_step p q true true x ys zs here there e =
    ap (λ d. cond d (x ∷ filter p ys) (filter p ys)) here ∙ ap (λ rest. x ∷ rest) e ∙ sym (ap (λ d. cond d (x ∷ filter q zs) (filter q zs)) there)
both_step p q true false x ys zs here there e = e ∙ sym (ap (λ d. cond d (x ∷ filter q zs) (filter q zs)) there)
both_step p q false true x ys zs here there e = ap (λ d. cond d (x ∷ filter p ys) (filter p ys)) here ∙ e
both_step p q false false x ys zs here there e = e

pub either_order : {X : Type 0} (p q : X → Bool) (xs : List X) → filter p (filter q xs) ≡ filter q (filter p xs)
either_order p q [] = refl
either_order p q (x ∷ xs) = both_step p q (p x) (q x) x (filter q xs) (filter p xs) refl refl (either_order p q xs)

-- ---- none of those that are kept is taken out
unharmed_step : {X : Type 0} (p q : X → Bool) (b c : Bool) (x : X) (ys zs : List X) → p x ≡ b → (b ≡ true → c ≡ true) → filter p ys ≡ zs →
    filter p (cond c (x ∷ ys) ys) ≡ cond b (x ∷ zs) zs
unharmed_step p q true true x ys zs here stays e = ap (λ d. cond d (x ∷ filter p ys) (filter p ys)) here ∙ ap (λ rest. x ∷ rest) e
unharmed_step p q true false x ys zs here stays e = absurd (false≢true (stays refl))
unharmed_step p q false true x ys zs here stays e = ap (λ d. cond d (x ∷ filter p ys) (filter p ys)) here ∙ e
unharmed_step p q false false x ys zs here stays e = e

pub unharmed : {X : Type 0} (p q : X → Bool) (xs : List X) → Each (λ x. p x ≡ true → q x ≡ true) xs → filter p (filter q xs) ≡ filter p xs
unharmed p q [] all = refl
unharmed p q (x ∷ xs) all = unharmed_step p q (p x) (q x) x (filter q xs) (filter p xs) refl all.0 (unharmed p q xs all.1)

-- where what is taken out doesn't pass
pub spared : {X : Type 0} (p gone : X → Bool) (xs : List X) → Each (λ x. gone x ≡ true → p x ≡ false) xs → filter p (filter (λ x. not (gone x)) xs) ≡ filter p xs
spared p gone xs all =
    unharmed p (λ x. not (gone x)) xs
    (each_weaker (λ x. gone x ≡ true → p x ≡ false) (λ x. p x ≡ true → not (gone x) ≡ true)
    (λ x fails passes. not_from_false (gone x) (false_from_ne_true (gone x) (λ is. false≢true (sym (fails is) ∙ passes)))) xs all)

-- ---- elements that are changed
pub kept_of_mapped : {X Y : Type 0} (p : Y → Bool) (f : X → Y) (xs : List X) → filter p (map f xs) ≡ map f (filter (λ x. p (f x)) xs)
kept_of_mapped p f [] = refl
kept_of_mapped p f (x ∷ xs) = step (p (f x)) (kept_of_mapped p f xs)
  where
    step : (b : Bool) → filter p (map f xs) ≡ map f (filter (λ y. p (f y)) xs) →
        cond b (f x ∷ filter p (map f xs)) (filter p (map f xs)) ≡ map f (cond b (x ∷ filter (λ y. p (f y)) xs) (filter (λ y. p (f y)) xs))
    step true e = ap (λ ys. f x ∷ ys) e
    step false e = e
