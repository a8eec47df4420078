-- How often a number stands in a list, and in the places of filters.
use Rattle.std.proofs.Common.{◌≡◌, ℕ, ◌+◌, ◌<◌, ◌==◌, Bool, true, false, not, cond, List, [], ◌∷◌, ◌++◌, refl, sym, ◌∙◌, ap, arith, subst, eq-eqb, eqb-true}
use Rattle.std.specs.Prelude.{filter}
use Rattle.std.specs.List.{count_by}
use Rattle.std.proofs.lemmas.List.Sums.{sum_by-cons, sum_by-append}
use Rattle.std.proofs.lemmas.List.Concat.{flat_map-append}
use Rattle.filter_state.specs.States.{Row}
use Rattle.filter_state.specs.Sound.{Each, places}

abbrev pub times : ℕ → List ℕ → ℕ
times n ns = count_by (λ serial. serial == n) ns

abbrev pub one_if : Bool → ℕ
one_if b = cond b 1 0

pub times_cons : (n m : ℕ) (ns : List ℕ) → times n (m ∷ ns) ≡ one_if (m == n) + times n ns
times_cons n m ns = sum_by-cons (λ serial. one_if (serial == n)) m ns

pub times_append : (n : ℕ) (ms ns : List ℕ) → times n (ms ++ ns) ≡ times n ms + times n ns
times_append n ms ns = sum_by-append (λ serial. one_if (serial == n)) ms ns

pub times_push : (n : ℕ) (ns : List ℕ) (m : ℕ) → times n (ns ++ m ∷ []) ≡ times n ns + one_if (m == n)
times_push n ns m = let one = times_cons n m [] in times_append n ns (m ∷ []) ∙ ap (λ k. times n ns + k) one ∙ (let none : times n [] ≡ 0 = refl in omega arith)

-- a number that stands there stands there once at least
pub times_self : (n : ℕ) (ns : List ℕ) → 0 < times n (n ∷ ns)
times_self n ns = let one = times_cons n n ns ∙ ap (λ b. one_if b + times n ns) (eq-eqb n n refl) in omega arith

pub times_each : (P : ℕ → Type 0) (ns : List ℕ) → ((n : ℕ) → 0 < times n ns → P n) → Each P ns
times_each P [] all = tt
times_each P (n ∷ ns) all = (all n (times_self n ns), times_each P ns (λ m more. all m (let more-one = times_cons m n ns in omega arith)))

times_step : (P : ℕ → Type 0) (n m : ℕ) (rest : ℕ) (b : Bool) → (m == n) ≡ b → P m → (0 < rest → P n) → 0 < one_if b + rest → P n
times_step P n m rest true is one more some = subst P (eqb-true m n is) one
times_step P n m rest false is one more some = more (omega arith)

pub each_times : (P : ℕ → Type 0) (ns : List ℕ) → Each P ns → (n : ℕ) → 0 < times n ns → P n
each_times P [] all n some = absurd (let none : times n [] ≡ 0 = refl in omega arith)
each_times P (m ∷ ns) all n some =
    times_step P n m (times n ns) (m == n) refl all.0 (each_times P ns all.1 n) (let e = times_cons n m ns in omega arith)

-- ---- places
pub places_push : (n : ℕ) (rows : List Row) (row : Row) → times n (places (rows ++ row ∷ [])) ≡ times n (places rows) + times n row.actions
places_push n rows row =
    ap (λ ns. times n ns) (flat_map-append (λ (r : Row). r.actions) rows (row ∷ []))
    ∙ times_append n (places rows) (row.actions ++ [])
    ∙ ap (λ k. times n (places rows) + k) (times_append n row.actions [] ∙ (let none : times n [] ≡ 0 = refl in omega arith))

split_step : (n : ℕ) (b : Bool) (row : Row) (kept gone : List Row) (all : ℕ) → times n (places kept) + times n (places gone) ≡ all
    → times n (places (cond (not b) (row ∷ kept) kept)) + times n (places (cond b (row ∷ gone) gone)) ≡ times n row.actions + all
split_step n true row kept gone all e = let more = times_append n row.actions (places gone) in omega arith
split_step n false row kept gone all e = let more = times_append n row.actions (places kept) in omega arith

-- those of the rows that stay, and of those that go
pub places_split : (n : ℕ) (test : Row → Bool) (rows : List Row) → times n (places (filter (λ row. not (test row)) rows)) + times n (places (filter test rows)) ≡ times n (places rows)
places_split n test [] = refl
places_split n test (row ∷ rows) =
    split_step n (test row) row (filter (λ row. not (test row)) rows) (filter test rows) (times n (places rows)) (places_split n test rows)
    ∙ sym (times_append n row.actions (places rows))
