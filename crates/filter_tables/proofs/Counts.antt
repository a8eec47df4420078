-- How many elements pass a test, and whether one does.
use Rattle.std.proofs.Common.{◌≡◌, ℕ, ◌+◌, suc, ◌<◌, ◌≤◌, Bool, true, false, cond, ◌||◌, List, [], ◌∷◌, length, get_or, refl, ◌∙◌, inl, inr, arith}
use Rattle.std.specs.List.{All, count_by, list_any}
use Rattle.std.proofs.lemmas.Bool.{cases_Bool}
use Rattle.std.proofs.lemmas.List.Sums.{sum_by-cons, get_or-le-sum_by}

pub count_cons : {X : Type 0} (test : X → Bool) (x : X) (xs : List X) → count_by test (x ∷ xs) ≡ cond (test x) 1 0 + count_by test xs
count_cons test x xs = sum_by-cons (λ y. cond (test y) 1 0) x xs

pub cond_one : (b : Bool) → cond b 1 0 ≤ 0 → b ≡ false
cond_one true few = absurd (omega arith)
cond_one false few = refl

pub none_count : {X : Type 0} (test : X → Bool) (xs : List X) → count_by test xs ≡ 0 → All (λ x. test x ≡ false) xs
none_count test xs none = λ k d within.
    let part = get_or-le-sum_by (λ y. cond (test y) 1 0) xs k d within in
    cond_one (test (get_or xs k d)) (omega (arith, part, none))

pub count_some : {X : Type 0} (test : X → Bool) (xs : List X) (k : ℕ) (d : X) → k < length xs → test (get_or xs k d) ≡ true → 0 < count_by test xs
count_some test xs k d within passes =
    let part = get_or-le-sum_by (λ y. cond (test y) 1 0) xs k d within in
    let one : ◌≡◌ {A = ℕ} (cond (test (get_or xs k d)) 1 0) 1 = rw passes refl in
    omega (arith, part, one)

-- a place that passes
abbrev pub Somewhere : {X : Type 0} → (X → Bool) → List X → Type 0
Somewhere {X} test xs = (k : ℕ) × (k < length xs) × ((d : X) → test (get_or xs k d) ≡ true)

pub some_count : {X : Type 0} (test : X → Bool) (xs : List X) → 0 < count_by test xs → Somewhere test xs
some_count test [] some = absurd (omega arith)
some_count test (x ∷ xs) some = elim (cases_Bool (test x)) [
  | inl passes ↦ (0, omega arith, λ d. passes)
  | inr fails ↦
      let e : count_by test (x ∷ xs) ≡ count_by test xs = count_cons test x xs ∙ rw fails (omega arith) in
      let rest = some_count test xs (omega (arith, e, some)) in
      (suc rest.0, omega (arith, rest.1), λ d. rest.2 d)
]

pub count_all : {X : Type 0} (xs : List X) → count_by (λ x. true) xs ≡ length xs
count_all [] = refl
count_all (x ∷ xs) = count_cons (λ y. true) x xs ∙ omega (arith, count_all xs)

-- ---- a count against whether there is one
any_step : (first : Bool) (rest : Bool) (count : ℕ) → (rest ≡ true → 0 < count) → (first || rest) ≡ true → 0 < cond first 1 0 + count
any_step true rest count some e = omega arith
any_step false rest count some e = let more = some e in omega arith

pub any_count : {X : Type 0} (test : X → Bool) (xs : List X) → list_any test xs ≡ true → 0 < count_by test xs
any_count test [] e = cc
any_count test (x ∷ xs) e =
    let more = any_step (test x) (list_any test xs) (count_by test xs) (λ some. any_count test xs some) e in
    omega (arith, more, count_cons test x xs)

none_step : (first : Bool) (rest : Bool) (count : ℕ) → (rest ≡ false → count ≡ 0) → (first || rest) ≡ false → cond first 1 0 + count ≡ 0
none_step true rest count none e = cc
none_step false rest count none e = let no = none e in omega arith

pub any_none : {X : Type 0} (test : X → Bool) (xs : List X) → list_any test xs ≡ false → count_by test xs ≡ 0
any_none test [] e = refl
any_none test (x ∷ xs) e = count_cons test x xs ∙ none_step (test x) (list_any test xs) (count_by test xs) (λ no. any_none test xs no) e

-- and back
pub count_tells : (any : Bool) (count : ℕ) → (any ≡ true → 0 < count) → count ≡ 0 → any ≡ false
count_tells true count some none = let more = some refl in absurd (omega arith)
count_tells false count some none = refl

pub count_shows : (any : Bool) (count : ℕ) → (any ≡ false → count ≡ 0) → 0 < count → any ≡ true
count_shows true count none some = refl
count_shows false count none some = let no = none refl in absurd (omega arith)
