-- What holds of elements and pairs of a list where one is changed or taken out, and a list cut at a place.
use Rattle.std.proofs.Common.{◌≡◌, ℕ, zero, suc, List, [], ◌∷◌, ◌++◌, Some, refl, ap, sym, subst}
use Rattle.std.proofs.lemmas.Option.{none-some, same_Some}
use Rattle.filter_state.specs.Sound.{Each, EachPair}
use Rattle.filter_tables.specs.Places.{item_at, change_at, without_at}
use Rattle.filter_state.proofs.Pairs.{each_weaker, each_front, each_back}
use Rattle.filter_tables.proofs.TableOrder.{each_without}

-- ---- the element at a place
pub each_item : {X : Type 0} (P : X → Type 0) (xs : List X) (place : ℕ) (x : X) → item_at xs place ≡ Some x → Each P xs → P x
each_item P [] place x is all = absurd (none-some x is)
each_item P (y ∷ xs) zero x is all = subst P (same_Some y x is) all.0
each_item P (y ∷ xs) (suc place) x is all = each_item P xs place x is all.1

-- ---- each pair
pub pairs_back : {X : Type 0} (R : X → X → Type 0) (xs ys : List X) → EachPair R (xs ++ ys) → EachPair R ys
pairs_back R [] ys pairs = pairs
pairs_back R (x ∷ xs) ys pairs = pairs_back R xs ys pairs.1

pub pairs_front : {X : Type 0} (R : X → X → Type 0) (xs ys : List X) → EachPair R (xs ++ ys) → EachPair R xs
pairs_front R [] ys pairs = tt
pairs_front R (x ∷ xs) ys pairs = (each_front (R x) xs ys pairs.0, pairs_front R xs ys pairs.1)

pub pairs_across : {X : Type 0} (R : X → X → Type 0) (xs ys : List X) → EachPair R (xs ++ ys) → Each (λ x. Each (R x) ys) xs
pairs_across R [] ys pairs = tt
pairs_across R (x ∷ xs) ys pairs = (each_back (R x) xs ys pairs.0, pairs_across R xs ys pairs.1)

-- ---- an element changed
pub each_changed : {X : Type 0} (P Q : X → Type 0) (change : X → X) → ((x : X) → P x → Q x) → ((x : X) → P x → Q (change x)) → (place : ℕ) (xs : List X) → Each P xs →
    Each Q (change_at place change xs)
each_changed P Q change keep turn place [] all = tt
each_changed P Q change keep turn zero (x ∷ xs) all = (turn x all.0, each_weaker P Q keep xs all.1)
each_changed P Q change keep turn (suc place) (x ∷ xs) all = (keep x all.0, each_changed P Q change keep turn place xs all.1)

pub each_changed_at : {X : Type 0} (P : X → Type 0) (change : X → X) (place : ℕ) (xs : List X) (x : X) → item_at xs place ≡ Some x → P (change x) → Each P xs →
    Each P (change_at place change xs)
each_changed_at P change place [] x is turned all = tt
each_changed_at P change zero (y ∷ xs) x is turned all = (subst (λ z. P (change z)) (sym (same_Some y x is)) turned, all.1)
each_changed_at P change (suc place) (y ∷ xs) x is turned all = (all.0, each_changed_at P change place xs x is turned all.1)

pub pairs_changed : {X : Type 0} (R : X → X → Type 0) (change : X → X) → ((x y : X) → R x y → R (change x) y) → ((x y : X) → R x y → R x (change y)) → (place : ℕ) (xs : List X) →
    EachPair R xs → EachPair R (change_at place change xs)
pairs_changed R change left right place [] pairs = tt
pairs_changed R change left right zero (x ∷ xs) pairs = (each_weaker (R x) (R (change x)) (left x) xs pairs.0, pairs.1)
pairs_changed R change left right (suc place) (x ∷ xs) pairs =
    (each_changed (R x) (R x) change (λ y r. r) (right x) place xs pairs.0, pairs_changed R change left right place xs pairs.1)

-- ---- an element taken out
pub pairs_without : {X : Type 0} (R : X → X → Type 0) (place : ℕ) (xs : List X) → EachPair R xs → EachPair R (without_at place xs)
pairs_without R place [] pairs = tt
pairs_without R zero (x ∷ xs) pairs = pairs.1
pairs_without R (suc place) (x ∷ xs) pairs = (each_without (R x) place xs pairs.0, pairs_without R place xs pairs.1)

-- ---- a list cut at a place
pub record CutAt {X : Type 0} (xs : List X) (place : ℕ) (x : X) : Type 0 where
  pub front : List X
  pub back : List X
  pub whole : xs ≡ front ++ (x ∷ back)
  pub changed : (change : X → X) → change_at place change xs ≡ front ++ (change x ∷ back)
  pub gone : without_at place xs ≡ front ++ back

pub cut_at : {X : Type 0} (xs : List X) (place : ℕ) (x : X) → item_at xs place ≡ Some x → CutAt xs place x
cut_at [] place x is = absurd (none-some x is)
cut_at (y ∷ xs) zero x is = record {
  front = [];
  back = xs;
  whole = ap (λ z. z ∷ xs) (same_Some y x is);
  changed = λ change. ap (λ z. change z ∷ xs) (same_Some y x is);
  gone = refl;
}
cut_at (y ∷ xs) (suc place) x is =
    let cut : CutAt xs place x = cut_at xs place x is in
    record {
      front = y ∷ cut.front;
      back = cut.back;
      whole = ap (λ zs. y ∷ zs) cut.whole;
      changed = λ change. ap (λ zs. y ∷ zs) (cut.changed change);
      gone = ap (λ zs. y ∷ zs) cut.gone;
    }
