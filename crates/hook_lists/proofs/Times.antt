-- How often a serial stands in a list, and in the places of filters.
use Rattle.std.proofs.Common.{◌≡◌, ℕ, zero, suc, ◌+◌, ◌<◌, ◌≤◌, Bool, List, [], ◌∷◌, ◌∙◌, refl, ap, arith, eq-eqb}
use Rattle.std.specs.Prelude.{filter}
use Rattle.filter_state.specs.States.{Row}
use Rattle.filter_state.specs.Sound.{Each, places}
use Rattle.filter_state.proofs.Times.{times, one_if, times_cons, times_append, each_times, places_split}

pub times_self : (n m : ℕ) (ns : List ℕ) → m ≡ n → times n (m ∷ ns) ≡ 1 + times n ns
times_self n m ns same = times_cons n m ns ∙ ap (λ b. one_if b + times n ns) (eq-eqb m n same)

-- ---- a serial that stands in a place is one of those of which all holds
one_of_two : (P : Type 0) (a b : ℕ) → (0 < a → P) → (0 < b → P) → 0 < a + b → P
one_of_two P zero b first rest some = rest (omega arith)
one_of_two P (suc a) b first rest some = first (omega arith)

pub each_place : (P : ℕ → Type 0) (rows : List Row) → Each (λ (row : Row). Each P row.actions) rows → (n : ℕ)
    → 0 < times n (places rows) → P n
each_place P [] all n some = absurd (let none : times n [] ≡ 0 = refl in omega arith)
each_place P (row ∷ rows) all n some =
    one_of_two (P n) (times n row.actions) (times n (places rows)) (each_times P row.actions all.0 n) (each_place P rows all.1 n)
    (let e = times_append n row.actions (places rows) in omega arith)

-- some of the rows have some of the places
pub part_places : (n : ℕ) (test : Row → Bool) (rows : List Row) → times n (places (filter test rows)) ≤ times n (places rows)
part_places n test rows = let all = places_split n test rows in omega arith
