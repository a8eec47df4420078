-- Slots, of which some are empty, one after the other.
use Rattle.std.proofs.Common.{◌≡◌, ◌∙◌, ℕ, zero, suc, ◌+◌, ◌<◌, List, [], ◌∷◌, ◌++◌, length, map, take, get_or, slice_get, Option, Some, None, refl, sym, ap, subst, arith}
use Rattle.std.specs.List.{AllByRecursion}
use Rattle.std.proofs.lemmas.List.{take_more, map-append}
use Rattle.std.proofs.lemmas.Option.{slice_get-get_or}
use Rattle.filter_index.specs.Listed.{those_there}

there_append : {X : Type 0} (xs ys : List (Option X)) → those_there (xs ++ ys) ≡ those_there xs ++ those_there ys
there_append [] ys = refl
there_append (Some x ∷ xs) ys = ap (λ l. x ∷ l) (there_append xs ys)
there_append (None ∷ xs) ys = there_append xs ys

-- the one at a place
pub item_there : {X : Type 0} (xs : List (Option X)) (n : ℕ) (item : Option X) (x : X) → n < length xs → item ≡ get_or xs n item → item ≡ Some x → slice_get xs n ≡ Some (Some x)
item_there xs n item x less is some = slice_get-get_or xs n item less ∙ ap Some (sym is ∙ some)

pub all_there : {X : Type 0} (P : X → Type 0) (xs : List (Option X)) (n : ℕ) (x : X) → AllByRecursion P (those_there xs) → slice_get xs n ≡ Some (Some x) → P x
all_there P [] n x all e = absurd (cc e)
all_there P (Some z ∷ xs) zero x all e = let same : z ≡ x = cc e in subst P same all.0
all_there P (Some z ∷ xs) (suc n) x all e = all_there P xs n x all.1 e
all_there P (None ∷ xs) zero x all e = absurd (cc e)
all_there P (None ∷ xs) (suc n) x all e = all_there P xs n x all e

-- there is one more than before it
pub fewer_there : {X : Type 0} (xs : List (Option X)) (n : ℕ) (x : X) → slice_get xs n ≡ Some (Some x) → length (those_there (take n xs)) < length (those_there xs)
fewer_there [] n x e = absurd (cc e)
fewer_there (Some z ∷ xs) zero x e = omega arith
fewer_there (Some z ∷ xs) (suc n) x e = let rest = fewer_there xs n x e in omega (arith, rest)
fewer_there (None ∷ xs) zero x e = absurd (cc e)
fewer_there (None ∷ xs) (suc n) x e = fewer_there xs n x e

module _ {X Y : Type 0} (f : X → Y) (xs : List (Option X)) (n : ℕ) (item : Option X) (less : n < length xs) (is : item ≡ get_or xs n item) where
  more : take (n + 1) xs ≡ take n xs ++ item ∷ []
  more = take_more xs n item less ∙ ap (λ (o : Option X). take n xs ++ o ∷ []) (sym is)

  pub one_told : (x : X) → item ≡ Some x → map f (those_there (take (n + 1) xs)) ≡ map f (those_there (take n xs)) ++ f x ∷ []
  one_told x some = ap (λ (os : List (Option X)). map f (those_there os)) (more ∙ ap (λ (o : Option X). take n xs ++ o ∷ []) some)
      ∙ (ap (map f) (there_append (take n xs) (Some x ∷ [])) ∙ map-append f (those_there (take n xs)) (x ∷ []))

  pub none_told : item ≡ None → map f (those_there (take (n + 1) xs)) ≡ map f (those_there (take n xs))
  none_told none = ap (λ (os : List (Option X)). map f (those_there os)) (more ∙ ap (λ (o : Option X). take n xs ++ o ∷ []) none)
      ∙ (ap (map f) (there_append (take n xs) (None ∷ [])) ∙ map-append f (those_there (take n xs)) [] ∙ nil_right (map f (those_there (take n xs))))
    where
      nil_right : (ys : List Y) → ys ++ [] ≡ ys
      nil_right [] = refl
      nil_right (y ∷ ys) = ap (λ (l : List Y). y ∷ l) (nil_right ys)
