-- An element that is in a list, and that is all that a filter keeps where no two elements pass.
use Rattle.std.proofs.Common.{◌≡◌, ◌⊎◌, inl, inr, ℕ, zero, suc, Bool, true, false, cond, List, [], ◌∷◌, ◌++◌, map, Option, Some, refl, sym, ◌∙◌, ap, subst}
use Rattle.std.specs.Prelude.{filter, find}
use Rattle.std.specs.List.{flat_map}
use Rattle.std.proofs.lemmas.Bool.{false_from_ne_true}
use Rattle.std.proofs.lemmas.Option.{none-some, same_Some}
use Rattle.filter_state.specs.Sound.{Each, EachPair}
use Rattle.filter_tables.specs.Places.{item_at}
use Rattle.row_laws.proofs.OfLookups.Heads.{filter_none}
use Rattle.filter_state.proofs.Pairs.{each_weaker}

abbrev pub Among : {X : Type 0} → X → List X → Type 0
Among x [] = ⊥
Among x (y ∷ ys) = (x ≡ y) ⊎ Among x ys

-- ---- where it comes from
pub among_at : {X : Type 0} (xs : List X) (place : ℕ) (x : X) → item_at xs place ≡ Some x → Among x xs
among_at [] place x at = absurd (none-some x at)
among_at (y ∷ ys) zero x at = inl (sym (same_Some y x at))
among_at (y ∷ ys) (suc place) x at = inr (among_at ys place x at)

found_step : {X : Type 0} (test : X → Bool) (b : Bool) (x y : X) (xs : List X) (rest : Option X) → test x ≡ b
    → (rest ≡ Some y → Among y xs × (test y ≡ true)) → cond b (Some x) rest ≡ Some y → Among y (x ∷ xs) × (test y ≡ true)
found_step test true x y xs rest is more e = let same = same_Some x y e in (inl (sym same), subst (λ z. test z ≡ true) same is)
found_step test false x y xs rest is more e = let later = more e in (inr later.0, later.1)

pub among_found : {X : Type 0} (test : X → Bool) (xs : List X) (y : X) → find test xs ≡ Some y → Among y xs × (test y ≡ true)
among_found test [] y e = absurd (none-some y e)
among_found test (x ∷ xs) y e = found_step test (test x) x y xs (find test xs) refl (among_found test xs y) e

pub among_map : {X Y : Type 0} (f : X → Y) (x : X) (xs : List X) → Among x xs → Among (f x) (map f xs)
among_map f x [] among = absurd among
among_map f x (y ∷ ys) (inl e) = inl (ap f e)
among_map f x (y ∷ ys) (inr more) = inr (among_map f x ys more)

among_front : {X : Type 0} (x : X) (xs ys : List X) → Among x xs → Among x (xs ++ ys)
among_front x [] ys among = absurd among
among_front x (y ∷ xs) ys (inl e) = inl e
among_front x (y ∷ xs) ys (inr more) = inr (among_front x xs ys more)

among_back : {X : Type 0} (x : X) (xs ys : List X) → Among x ys → Among x (xs ++ ys)
among_back x [] ys among = among
among_back x (y ∷ xs) ys among = inr (among_back x xs ys among)

pub among_blocks : {X Y : Type 0} (f : X → List Y) (x : X) (y : Y) (xs : List X) → Among x xs → Among y (f x) → Among y (flat_map f xs)
among_blocks f x y [] among inner = absurd among
among_blocks f x y (z ∷ xs) (inl e) inner = among_front y (f z) (flat_map f xs) (subst (λ u. Among y (f u)) e inner)
among_blocks f x y (z ∷ xs) (inr more) inner = among_back y (f z) (flat_map f xs) (among_blocks f x y xs more inner)

-- ---- what it is
among_each : {X : Type 0} (P : X → Type 0) (x : X) (xs : List X) → Among x xs → Each P xs → P x
among_each P x [] among all = absurd among
among_each P x (y ∷ ys) (inl e) all = subst P (sym e) all.0
among_each P x (y ∷ ys) (inr more) all = among_each P x ys more all.1

-- two elements don't both pass
abbrev pub NotBoth : {X : Type 0} → (X → Bool) → X → X → Type 0
NotBoth test x y = test x ≡ true → test y ≡ true → ⊥

pub one_kept : {X : Type 0} (test : X → Bool) (x : X) (xs : List X) → Among x xs → test x ≡ true → EachPair (NotBoth test) xs → filter test xs ≡ x ∷ []
one_kept test x [] among passes apart = absurd among
one_kept test x (y ∷ ys) (inl e) passes apart =
    let here = subst (λ z. test z ≡ true) e passes in
    ap (λ b. cond b (y ∷ filter test ys) (filter test ys)) here
    ∙ ap (λ zs. y ∷ zs) (filter_none test ys (each_weaker (NotBoth test y) (λ z. test z ≡ false) (λ z differ. false_from_ne_true (test z) (differ here)) ys apart.0))
    ∙ ap (λ z. z ∷ []) (sym e)
one_kept test x (y ∷ ys) (inr more) passes apart =
    ap (λ b. cond b (y ∷ filter test ys) (filter test ys)) (false_from_ne_true (test y) (λ here. among_each (NotBoth test y) x ys more apart.0 here passes))
    ∙ one_kept test x ys more passes apart.1
