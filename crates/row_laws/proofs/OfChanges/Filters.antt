-- Rows that pass a test, and rows changed where they pass one, among rows around them.
use Rattle.std.proofs.Common.{◌≡◌, ◌+◌, Bool, true, false, not, cond, List, [], ◌∷◌, ◌++◌, length, map, filter, find, Option, Some, refl, ◌∙◌, ap, subst, arith}
use Rattle.std.proofs.lemmas.List.{append-nil, map-append}
use Rattle.std.proofs.lemmas.List.Elements.{filter-append}
use Rattle.std.proofs.lemmas.Option.{none-some, same_Some}
use Rattle.filter_state.specs.Sound.{Each}
use Rattle.filter_state.specs.Actions.{change_where}

-- ---- elements that pass a test
abbrev pub Fails : {X : Type 0} → (X → Bool) → X → Type 0
Fails q x = q x ≡ false

abbrev pub Passes : {X : Type 0} → (X → Bool) → X → Type 0
Passes q x = q x ≡ true

pub none_pass : {X : Type 0} (q : X → Bool) (xs : List X) → Each (Fails q) xs → filter q xs ≡ []
none_pass q [] all = refl
none_pass q (x ∷ xs) all = rw all.0 (none_pass q xs all.1)

all_left : {X : Type 0} (q : X → Bool) (xs : List X) → Each (Fails q) xs → filter (λ x. not (q x)) xs ≡ xs
all_left q [] all = refl
all_left q (x ∷ xs) all = rw all.0 (ap (λ rest. x ∷ rest) (all_left q xs all.1))

pub all_pass : {X : Type 0} (q : X → Bool) (xs : List X) → Each (Passes q) xs → filter q xs ≡ xs
all_pass q [] all = refl
all_pass q (x ∷ xs) all = rw all.0 (ap (λ rest. x ∷ rest) (all_pass q xs all.1))

pub none_left : {X : Type 0} (q : X → Bool) (xs : List X) → Each (Passes q) xs → filter (λ x. not (q x)) xs ≡ []
none_left q [] all = refl
none_left q (x ∷ xs) all = rw all.0 (none_left q xs all.1)

filter_parts : {X : Type 0} (q : X → Bool) (a b c : List X) → filter q (a ++ (b ++ c)) ≡ filter q a ++ (filter q b ++ filter q c)
filter_parts q a b c = filter-append q a (b ++ c) ∙ ap (λ rest. filter q a ++ rest) (filter-append q b c)

-- those around are left as they are, or none of them passes
pub left_around : {X : Type 0} (q : X → Bool) (a b c : List X) → Each (Fails q) a → Each (Fails q) c → filter (λ x. not (q x)) (a ++ (b ++ c)) ≡ a ++ (filter (λ x. not (q x)) b ++ c)
left_around q a b c ahead behind =
    filter_parts (λ x. not (q x)) a b c
    ∙ ap (λ xs. xs ++ (filter (λ x. not (q x)) b ++ filter (λ x. not (q x)) c)) (all_left q a ahead)
    ∙ ap (λ xs. a ++ (filter (λ x. not (q x)) b ++ xs)) (all_left q c behind)

pub pass_between : {X : Type 0} (q : X → Bool) (a b c : List X) → Each (Fails q) a → Each (Fails q) c → filter q (a ++ (b ++ c)) ≡ filter q b
pass_between q a b c ahead behind =
    filter_parts q a b c
    ∙ ap (λ xs. xs ++ (filter q b ++ filter q c)) (none_pass q a ahead)
    ∙ ap (λ xs. filter q b ++ xs) (none_pass q c behind)
    ∙ append-nil (filter q b)

-- those that pass and those that don't are all
split_step : {X : Type 0} (b : Bool) (x : X) (in_ out xs : List X) → length in_ + length out ≡ length xs → length (cond b (x ∷ in_) in_) + length (cond (not b) (x ∷ out) out) ≡ length (x ∷ xs)
split_step true x in_ out xs more = omega (arith, more)
split_step false x in_ out xs more = omega (arith, more)

pub split_count : {X : Type 0} (test : X → Bool) (xs : List X) → length (filter test xs) + length (filter (λ x. not (test x)) xs) ≡ length xs
split_count test [] = refl
split_count test (x ∷ xs) = split_step (test x) x (filter test xs) (filter (λ y. not (test y)) xs) xs (split_count test xs)

-- the elements of a list made from another
kept_of : {X Y : Type 0} (f : X → Y) (b : Bool) (x : X) (xs : List X) (ys : List Y) → ys ≡ map f xs → cond b (f x ∷ ys) ys ≡ map f (cond b (x ∷ xs) xs)
kept_of f true x xs ys is = ap (λ zs. f x ∷ zs) is
kept_of f false x xs ys is = is

pub filter_map : {X Y : Type 0} (f : X → Y) (p : Y → Bool) (q : X → Bool) → ((x : X) → p (f x) ≡ q x) → (xs : List X) → filter p (map f xs) ≡ map f (filter q xs)
filter_map f p q same [] = refl
filter_map f p q same (x ∷ xs) = rw (same x) (kept_of f (q x) x (filter q xs) (filter p (map f xs)) (filter_map f p q same xs))

-- ---- elements changed where they pass a test
unchanged : {X : Type 0} (q : X → Bool) (change : X → X) (xs : List X) → Each (Fails q) xs → change_where q change xs ≡ xs
unchanged q change [] all = refl
unchanged q change (x ∷ xs) all = rw all.0 (ap (λ rest. x ∷ rest) (unchanged q change xs all.1))

pub changed_between : {X : Type 0} (q : X → Bool) (change : X → X) (a b c : List X) → Each (Fails q) a → Each (Fails q) c →
    change_where q change (a ++ (b ++ c)) ≡ a ++ (change_where q change b ++ c)
changed_between q change a b c ahead behind =
    map-append (λ x. cond (q x) (change x) x) a (b ++ c)
    ∙ ap (λ xs. xs ++ change_where q change (b ++ c)) (unchanged q change a ahead)
    ∙ ap (λ xs. a ++ xs) (map-append (λ x. cond (q x) (change x) x) b c)
    ∙ ap (λ xs. a ++ (change_where q change b ++ xs)) (unchanged q change c behind)

pub map_map : {X Y : Type 0} (f : X → Y) (g : Y → Y) (h : X → X) → ((x : X) → g (f x) ≡ f (h x)) → (xs : List X) → map g (map f xs) ≡ map f (map h xs)
map_map f g h same [] = refl
map_map f g h same (x ∷ xs) = rw (same x) (ap (λ ys. f (h x) ∷ ys) (map_map f g h same xs))

-- ---- the element that is found
found_step : {X : Type 0} (P : X → Type 0) (test : X → Bool) (b : Bool) (y x : X) (rest : Option X) → cond b (Some y) rest ≡ Some x → P y → (rest ≡ Some x → P x) → P x
found_step P test true y x rest is here later = subst P (same_Some y x is) here
found_step P test false y x rest is here later = later is

pub each_found : {X Y : Type 0} (P : Y → Type 0) (f : X → Y) (test : X → Bool) (xs : List X) (x : X) → find test xs ≡ Some x → Each P (map f xs) → P (f x)
each_found P f test [] x is all = absurd (none-some x is)
each_found P f test (y ∷ xs) x is all = found_step (λ z. P (f z)) test (test y) y x (find test xs) is all.0 (λ later. each_found P f test xs x later all.1)

passing_step : {X : Type 0} (test : X → Bool) (b : Bool) (y x : X) (rest : Option X) → test y ≡ b → cond b (Some y) rest ≡ Some x → (rest ≡ Some x → test x ≡ true) → test x ≡ true
passing_step test true y x rest passes is later = subst (λ z. test z ≡ true) (same_Some y x is) passes
passing_step test false y x rest passes is later = later is

pub found_passes : {X : Type 0} (test : X → Bool) (xs : List X) (x : X) → find test xs ≡ Some x → test x ≡ true
found_passes test [] x is = absurd (none-some x is)
found_passes test (y ∷ xs) x is = passing_step test (test y) y x (find test xs) refl is (found_passes test xs x)
