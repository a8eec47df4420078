-- What holds of each element of a list, of each pair, and of the first element that passes a test.
use Rattle.std.proofs.Common.{◌≡◌, Bool, true, false, cond, ◌||◌, List, [], ◌∷◌, ◌++◌, map, Option, Some, None, refl, sym, ◌∙◌, ap, subst}
use Rattle.std.specs.Prelude.{filter}
use Rattle.std.specs.List.{list_any, flat_map}
use Rattle.std.proofs.lemmas.Bool.{false≢true, or_parts}
use Rattle.std.proofs.lemmas.Option.{none-some, same_Some}
use Rattle.filter_state.specs.Tables.{first_where}
use Rattle.filter_state.specs.Sound.{Each, EachPair}

-- ---- each element
pub each_of : {X : Type 0} (P : X → Type 0) → ((x : X) → P x) → (xs : List X) → Each P xs
each_of P one [] = tt
each_of P one (x ∷ xs) = (one x, each_of P one xs)

pub each_weaker : {X : Type 0} (P Q : X → Type 0) → ((x : X) → P x → Q x) → (xs : List X) → Each P xs → Each Q xs
each_weaker P Q f [] all = tt
each_weaker P Q f (x ∷ xs) all = (f x all.0, each_weaker P Q f xs all.1)

pub each_both : {X : Type 0} (P Q S : X → Type 0) → ((x : X) → P x → Q x → S x) → (xs : List X) → Each P xs → Each Q xs → Each S xs
each_both P Q S f [] all more = tt
each_both P Q S f (x ∷ xs) all more = (f x all.0 more.0, each_both P Q S f xs all.1 more.1)

pub each_append : {X : Type 0} (P : X → Type 0) (xs ys : List X) → Each P xs → Each P ys → Each P (xs ++ ys)
each_append P [] ys all more = more
each_append P (x ∷ xs) ys all more = (all.0, each_append P xs ys all.1 more)

pub each_front : {X : Type 0} (P : X → Type 0) (xs ys : List X) → Each P (xs ++ ys) → Each P xs
each_front P [] ys all = tt
each_front P (x ∷ xs) ys all = (all.0, each_front P xs ys all.1)

pub each_back : {X : Type 0} (P : X → Type 0) (xs ys : List X) → Each P (xs ++ ys) → Each P ys
each_back P [] ys all = all
each_back P (x ∷ xs) ys all = each_back P xs ys all.1

pub each_map : {X Y : Type 0} (P : Y → Type 0) (f : X → Y) (xs : List X) → Each (λ x. P (f x)) xs → Each P (map f xs)
each_map P f [] all = tt
each_map P f (x ∷ xs) all = (all.0, each_map P f xs all.1)

pub each_flat_map : {X Y : Type 0} (P : Y → Type 0) (f : X → List Y) (xs : List X) → Each (λ x. Each P (f x)) xs → Each P (flat_map f xs)
each_flat_map P f [] all = tt
each_flat_map P f (x ∷ xs) all = each_append P (f x) (flat_map f xs) all.0 (each_flat_map P f xs all.1)

each_kept : {X : Type 0} (P : X → Type 0) (b : Bool) (x : X) (ys : List X) → P x → Each P ys → Each P (cond b (x ∷ ys) ys)
each_kept P true x ys one all = (one, all)
each_kept P false x ys one all = all

pub each_filter : {X : Type 0} (P : X → Type 0) (test : X → Bool) (xs : List X) → Each P xs → Each P (filter test xs)
each_filter P test [] all = tt
each_filter P test (x ∷ xs) all = each_kept P (test x) x (filter test xs) all.0 (each_filter P test xs all.1)

passing_kept : {X : Type 0} (test : X → Bool) (b : Bool) (x : X) (ys : List X) → test x ≡ b → Each (λ y. test y ≡ true) ys → Each (λ y. test y ≡ true) (cond b (x ∷ ys) ys)
passing_kept test true x ys is all = (is, all)
passing_kept test false x ys is all = all

pub each_passing : {X : Type 0} (test : X → Bool) (xs : List X) → Each (λ x. test x ≡ true) (filter test xs)
each_passing test [] = tt
each_passing test (x ∷ xs) = passing_kept test (test x) x (filter test xs) refl (each_passing test xs)

-- ---- each pair
pub pairs_push : {X : Type 0} (R : X → X → Type 0) (xs : List X) (y : X) → EachPair R xs → Each (λ x. R x y) xs → EachPair R (xs ++ y ∷ [])
pairs_push R [] y pairs all = (tt, tt)
pairs_push R (x ∷ xs) y pairs all = (each_append (R x) xs (y ∷ []) pairs.0 (all.0, tt), pairs_push R xs y pairs.1 all.1)

pairs_kept : {X : Type 0} (R : X → X → Type 0) (b : Bool) (x : X) (ys : List X) → Each (R x) ys → EachPair R ys → EachPair R (cond b (x ∷ ys) ys)
pairs_kept R true x ys one pairs = (one, pairs)
pairs_kept R false x ys one pairs = pairs

pub pairs_filter : {X : Type 0} (R : X → X → Type 0) (test : X → Bool) (xs : List X) → EachPair R xs → EachPair R (filter test xs)
pairs_filter R test [] pairs = tt
pairs_filter R test (x ∷ xs) pairs = pairs_kept R (test x) x (filter test xs) (each_filter (R x) test xs pairs.0) (pairs_filter R test xs pairs.1)

pub pairs_map : {X : Type 0} (R : X → X → Type 0) (f : X → X) → ((x y : X) → R x y → R (f x) (f y)) → (xs : List X) → EachPair R xs → EachPair R (map f xs)
pairs_map R f step [] pairs = tt
pairs_map R f step (x ∷ xs) pairs =
    (each_map (R (f x)) f xs (each_weaker (R x) (λ y. R (f x) (f y)) (λ y. step x y) xs pairs.0), pairs_map R f step xs pairs.1)

-- a relation that holds both ways, and of an element and itself, holds of all elements
pub pairs_all : {X : Type 0} (R : X → X → Type 0) → ((x : X) → R x x) → ((x y : X) → R x y → R y x) → (xs : List X) → EachPair R xs → Each (λ x. Each (R x) xs) xs
pairs_all R self turn [] pairs = tt
pairs_all R self turn (x ∷ xs) pairs =
    ((self x, pairs.0), each_both (R x) (λ y. Each (R y) xs) (λ y. Each (R y) (x ∷ xs)) (λ y one all. (turn x y one, all)) xs pairs.0 (pairs_all R self turn xs pairs.1))

pub pairs_weaker : {X : Type 0} (R S : X → X → Type 0) → ((x y : X) → R x y → S x y) → (xs : List X) → EachPair R xs → EachPair S xs
pairs_weaker R S f [] pairs = tt
pairs_weaker R S f (x ∷ xs) pairs = (each_weaker (R x) (S x) (f x) xs pairs.0, pairs_weaker R S f xs pairs.1)

-- ---- the first that passes
found_step : {X : Type 0} (P : X → Type 0) (test : X → Bool) (b : Bool) (x y : X) (rest : Option X) → test x ≡ b → P x
    → (rest ≡ Some y → P y × (test y ≡ true)) → cond b (Some x) rest ≡ Some y → P y × (test y ≡ true)
found_step P test true x y rest is one more e = subst (λ z. P z × (test z ≡ true)) (same_Some x y e) (one, is)
found_step P test false x y rest is one more e = more e

pub found : {X : Type 0} (P : X → Type 0) (test : X → Bool) (xs : List X) (y : X) → Each P xs → first_where test xs ≡ Some y → P y × (test y ≡ true)
found P test [] y all e = absurd (none-some y e)
found P test (x ∷ xs) y all e = found_step P test (test x) x y (first_where test xs) refl all.0 (found P test xs y all.1) e

none_step : {X : Type 0} (test : X → Bool) (b : Bool) (x : X) (xs : List X) (rest : Option X) → test x ≡ b
    → (rest ≡ None → Each (λ x. test x ≡ false) xs) → cond b (Some x) rest ≡ None → Each (λ x. test x ≡ false) (x ∷ xs)
none_step test true x xs rest is more e = absurd (none-some x (sym e))
none_step test false x xs rest is more e = (is, more e)

pub none_passes : {X : Type 0} (test : X → Bool) (xs : List X) → first_where test xs ≡ None → Each (λ x. test x ≡ false) xs
none_passes test [] e = tt
none_passes test (x ∷ xs) e = none_step test (test x) x xs (first_where test xs) refl (none_passes test xs) e

-- ---- whether any passes
pub none_any : {X : Type 0} (test : X → Bool) (xs : List X) → list_any test xs ≡ false → Each (λ x. test x ≡ false) xs
none_any test [] e = tt
none_any test (x ∷ xs) e = let parts = or_parts (test x) (list_any test xs) e in (parts.0, none_any test xs parts.1)

pub any_none : {X : Type 0} (test : X → Bool) (xs : List X) → Each (λ x. test x ≡ false) xs → list_any test xs ≡ false
any_none test [] all = refl
any_none test (x ∷ xs) all = ap (λ b. b || list_any test xs) all.0 ∙ any_none test xs all.1

-- where one passes, there is a first
first_step : {X : Type 0} (b : Bool) (x : X) (rest : Option X) (any : Bool) → (any ≡ true → (y : X) × (rest ≡ Some y)) → (b || any) ≡ true → (y : X) × (cond b (Some x) rest ≡ Some y)
first_step true x rest any more e = (x, refl)
first_step false x rest any more e = more e

pub any_first : {X : Type 0} (test : X → Bool) (xs : List X) → list_any test xs ≡ true → (y : X) × (first_where test xs ≡ Some y)
any_first test [] e = absurd (false≢true e)
any_first test (x ∷ xs) e = first_step (test x) x (first_where test xs) (list_any test xs) (any_first test xs) e

-- tests that agree on each element find the same
pub any_same : {X : Type 0} (p q : X → Bool) (xs : List X) → Each (λ x. p x ≡ q x) xs → list_any p xs ≡ list_any q xs
any_same p q [] all = refl
any_same p q (x ∷ xs) all = ap (λ b. b || list_any p xs) all.0 ∙ ap (λ b. q x || b) (any_same p q xs all.1)

pub any_map : {X Y : Type 0} (test : Y → Bool) (f : X → Y) (xs : List X) → list_any test (map f xs) ≡ list_any (λ x. test (f x)) xs
any_map test f [] = refl
any_map test f (x ∷ xs) = ap (λ b. test (f x) || b) (any_map test f xs)

-- one that passes is among those that a filter keeps, where the filter keeps it
kept_any : {X : Type 0} (test keep : X → Bool) (b c : Bool) (x : X) (xs : List X) → test x ≡ b → keep x ≡ c → (test x ≡ true → keep x ≡ true)
    → (list_any test xs ≡ true → list_any test (filter keep xs) ≡ true) → (b || list_any test xs) ≡ true → list_any test (cond c (x ∷ filter keep xs) (filter keep xs)) ≡ true
kept_any test keep true true x xs is stays one more e = ap (λ b. b || list_any test (filter keep xs)) is
kept_any test keep true false x xs is stays one more e = absurd (false≢true (sym stays ∙ one is))
kept_any test keep false true x xs is stays one more e = ap (λ b. b || list_any test (filter keep xs)) is ∙ more e
kept_any test keep false false x xs is stays one more e = more e

pub any_filter : {X : Type 0} (test keep : X → Bool) (xs : List X) → Each (λ x. test x ≡ true → keep x ≡ true) xs → list_any test xs ≡ true → list_any test (filter keep xs) ≡ true
any_filter test keep [] all e = absurd (false≢true e)
any_filter test keep (x ∷ xs) all e = kept_any test keep (test x) (keep x) x xs refl refl all.0 (any_filter test keep xs all.1) e
