-- How many elements pass a test, and whether one does.
use Rattle.std.proofs.Common.{◌≡◌, ℕ, ◌+◌, suc, ◌<◌, ◌≤◌, Bool, true, false, cond, List, [], ◌∷◌, length, get_or, refl, sym, ap, ◌∙◌, inl, inr, arith}
use Rattle.std.specs.Prelude.{map}
use Rattle.std.specs.List.{count_by}
use Rattle.std.proofs.lemmas.Bool.{cases_Bool}
use Rattle.std.proofs.lemmas.List.Elements.{All-head, All-tail}
use Rattle.std.proofs.lemmas.List.Sums.{sum_by-cons, get_or-le-sum_by}
use Rattle.act_registry.specs.OnePlace.{NoPlace}

pub count-cons : {X : Type 0} (test : X → Bool) (x : X) (xs : List X) → count_by test (x ∷ xs) ≡ cond (test x) 1 0 + count_by test xs
count-cons test x xs = sum_by-cons (λ y. cond (test y) 1 0) x xs

pub count-none : {X : Type 0} (test : X → Bool) (xs : List X) → NoPlace test xs → count_by test xs ≡ 0
count-none test [] none = refl
count-none test (x ∷ xs) none =
    let first : test x ≡ false = All-head (λ y. test y ≡ false) x xs none in
    let rest = count-none test xs (All-tail (λ y. test y ≡ false) x xs none) in
    count-cons test x xs ∙ rw first (omega (arith, rest))

cond_one : (b : Bool) → cond b 1 0 ≤ 0 → b ≡ false
cond_one true few = absurd (omega arith)
cond_one false few = refl

pub none-count : {X : Type 0} (test : X → Bool) (xs : List X) → count_by test xs ≡ 0 → NoPlace test xs
none-count test xs none = λ k d within.
    let part = get_or-le-sum_by (λ y. cond (test y) 1 0) xs k d within in
    cond_one (test (get_or xs k d)) (omega (arith, part, none))

pub count-some : {X : Type 0} (test : X → Bool) (xs : List X) (k : ℕ) (d : X) → k < length xs → test (get_or xs k d) ≡ true → 0 < count_by test xs
count-some test xs k d within passes =
    let part = get_or-le-sum_by (λ y. cond (test y) 1 0) xs k d within in
    let one : ◌≡◌ {A = ℕ} (cond (test (get_or xs k d)) 1 0) 1 = rw passes refl in
    omega (arith, part, one)

-- a place that passes
abbrev pub Somewhere : {X : Type 0} → (X → Bool) → List X → Type 0
Somewhere {X} test xs = (k : ℕ) × (k < length xs) × ((d : X) → test (get_or xs k d) ≡ true)

pub some-count : {X : Type 0} (test : X → Bool) (xs : List X) → 0 < count_by test xs → Somewhere test xs
some-count test [] some = absurd (omega arith)
some-count test (x ∷ xs) some = elim (cases_Bool (test x)) [
  | inl passes ↦ (0, omega arith, λ d. passes)
  | inr fails ↦
      let e : count_by test (x ∷ xs) ≡ count_by test xs = count-cons test x xs ∙ rw fails (omega arith) in
      let rest = some-count test xs (omega (arith, e, some)) in
      (suc rest.0, omega (arith, rest.1), λ d. rest.2 d)
]

pub count-all : {X : Type 0} (xs : List X) → count_by (λ x. true) xs ≡ length xs
count-all [] = refl
count-all (x ∷ xs) = count-cons (λ y. true) x xs ∙ omega (arith, count-all xs)

pub count-map : {X Y : Type 0} (test : Y → Bool) (f : X → Y) (xs : List X) → count_by test (map f xs) ≡ count_by (λ x. test (f x)) xs
count-map test f [] = refl
count-map test f (x ∷ xs) =
    count-cons test (f x) (map f xs) ∙ ap (λ n. cond (test (f x)) 1 0 + n) (count-map test f xs) ∙ sym (count-cons (λ y. test (f y)) x xs)
