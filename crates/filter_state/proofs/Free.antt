-- The first number that isn't used isn't used, where as many are looked at as are used.
use Rattle.std.proofs.Common.{◌≡◌, ℕ, zero, suc, ◌+◌, ◌<◌, ◌≤◌, ◌==◌, Bool, true, false, not, cond, ◌||◌, List, [], ◌∷◌, length, refl, arith, eqb-true}
use Rattle.std.specs.Prelude.{filter}
use Rattle.std.specs.List.{list_any}
use Rattle.std.proofs.lemmas.Bool.{false≢true, false_from_ne_true, ne_eqb, not_from_false}
use Rattle.filter_state.specs.Actions.{first_free}
use Rattle.filter_state.proofs.Pairs.{each_of, any_filter}

-- ---- lengths under a filter
length_kept : {X : Type 0} (b : Bool) (x : X) (ys : List X) (n : ℕ) → length ys ≤ n → length (cond b (x ∷ ys) ys) ≤ n + 1
length_kept true x ys n short = omega arith
length_kept false x ys n short = omega arith

pub length_filter_le : {X : Type 0} (keep : X → Bool) (xs : List X) → length (filter keep xs) ≤ length xs
length_filter_le keep [] = omega arith
length_filter_le keep (x ∷ xs) = let bound = length_kept (keep x) x (filter keep xs) (length xs) (length_filter_le keep xs) in omega arith

-- one that passes is left out
shorter_step : {X : Type 0} (b any : Bool) (x : X) (ys : List X) (n : ℕ) → length ys ≤ n → (any ≡ true → length ys < n) → (b || any) ≡ true → length (cond (not b) (x ∷ ys) ys) < n + 1
shorter_step true any x ys n short more e = omega arith
shorter_step false any x ys n short more e = let less = more e in omega arith

pub shorter : {X : Type 0} (test : X → Bool) (xs : List X) → list_any test xs ≡ true → length (filter (λ x. not (test x)) xs) < length xs
shorter test [] e = absurd (false≢true e)
shorter test (x ∷ xs) e =
    let step = shorter_step (test x) (list_any test xs) x (filter (λ x. not (test x)) xs) (length xs) (length_filter_le (λ x. not (test x)) xs) (shorter test xs) e in
    omega arith

-- ---- the pigeonhole
other : (x least m : ℕ) → least + 1 ≤ m → (x == m) ≡ true → not (x == least) ≡ true
other x least m far is = let same = eqb-true x m is in not_from_false (x == least) (ne_eqb x least (λ e. absurd (omega arith)))

free_step : (used : ℕ → Bool) (n : ℕ) (xs : List ℕ) (least : ℕ) → length xs ≤ n + 1 → ((m : ℕ) → least ≤ m → used m ≡ true → list_any (λ x. x == m) xs ≡ true)
    → ((xs : List ℕ) → length xs ≤ n → ((m : ℕ) → least + 1 ≤ m → used m ≡ true → list_any (λ x. x == m) xs ≡ true) → used (first_free used n (least + 1)) ≡ false)
    → (b : Bool) → used least ≡ b → used (cond b (first_free used n (least + 1)) least) ≡ false
free_step used n xs least short covers rest true is =
    let less = shorter (λ x. x == least) xs (covers least (omega arith) is) in
    rest (filter (λ x. not (x == least)) xs) (omega arith)
    (λ m far here. any_filter (λ x. x == m) (λ x. not (x == least)) xs (each_of (λ x. (x == m) ≡ true → not (x == least) ≡ true) (λ x. other x least m far) xs) (covers m (omega arith) here))
free_step used n xs least short covers rest false is = is

empty_unused : (used : ℕ → Bool) (xs : List ℕ) (least : ℕ) → length xs ≤ 0 → ((m : ℕ) → least ≤ m → used m ≡ true → list_any (λ x. x == m) xs ≡ true) → used least ≡ false
empty_unused used [] least short covers = false_from_ne_true (used least) (λ is. false≢true (covers least (omega arith) is))
empty_unused used (x ∷ xs) least short covers = absurd (omega arith)

pub free_unused : (used : ℕ → Bool) (n : ℕ) (xs : List ℕ) (least : ℕ) → length xs ≤ n → ((m : ℕ) → least ≤ m → used m ≡ true → list_any (λ x. x == m) xs ≡ true)
    → used (first_free used n least) ≡ false
free_unused used zero xs least short covers = empty_unused used xs least short covers
free_unused used (suc n) xs least short covers =
    free_step used n xs least (omega arith) covers (λ ys few more. free_unused used n ys (least + 1) few more) (used least) refl

-- it lies within those that are looked at
within_step : (b : Bool) (a least n : ℕ) → (least + 1 ≤ a) × (a ≤ least + 1 + n) → (least ≤ cond b a least) × (cond b a least ≤ least + (n + 1))
within_step true a least n (low, high) = (omega arith, omega arith)
within_step false a least n (low, high) = (omega arith, omega arith)

pub free_within : (used : ℕ → Bool) (n least : ℕ) → (least ≤ first_free used n least) × (first_free used n least ≤ least + n)
free_within used zero least = (omega arith, omega arith)
free_within used (suc n) least = let step = within_step (used least) (first_free used n (least + 1)) least n (free_within used n (least + 1)) in (omega arith, omega arith)
