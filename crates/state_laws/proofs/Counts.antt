-- How many different tables and masks rows have.
use Rattle.std.proofs.Common.{◌≡◌, ℕ, ◌+◌, ◌≤◌, ◌==◌, Bool, true, false, not, cond, ◌||◌, ◌&&◌, ◌⊎◌, inl, inr, ⊎_elim, List, [], ◌∷◌, ◌++◌, length, map, refl, sym, ◌∙◌, ap, subst, arith, eqb-true, eq-eqb}
use Rattle.std.specs.Prelude.{filter}
use Rattle.std.specs.List.{list_any}
use Rattle.std.proofs.lemmas.Bool.{false≢true, ne_eqb, not_from_false, or_left, or_right, or_cases}
use Rattle.std.proofs.lemmas.List.Folds.{list_any-append}
use Rattle.tc_base.specs.declared.hook.Hook.{Hook}
use Rattle.filter_state.specs.States.{Row}
use Rattle.filter_state.specs.Tables.{distinct, tables_of, masks_of, in_hook, in_table, table_count, mask_count}
use Rattle.filter_state.proofs.Pairs.{each_of, any_map, any_filter}
use Rattle.filter_state.proofs.Free.{shorter}

abbrev pub is_among : ℕ → List ℕ → Bool
is_among n ns = list_any (λ m. m == n) ns

-- ---- numbers each once
distinct_step : (n m : ℕ) (ns : List ℕ) (b : Bool) → is_among m ns ≡ b → ((m == n) ≡ true) ⊎ (is_among n ns ≡ true) → (is_among n ns ≡ true → is_among n (distinct ns) ≡ true)
    → is_among n (cond b (distinct ns) (m ∷ distinct ns)) ≡ true
distinct_step n m ns true is (inl at) rest = rest (subst (λ k. is_among k ns ≡ true) (eqb-true m n at) is)
distinct_step n m ns true is (inr more) rest = rest more
distinct_step n m ns false is (inl at) rest = or_left (m == n) (is_among n (distinct ns)) at
distinct_step n m ns false is (inr more) rest = or_right (m == n) (is_among n (distinct ns)) (rest more)

among_distinct : (n : ℕ) (ns : List ℕ) → is_among n ns ≡ true → is_among n (distinct ns) ≡ true
among_distinct n [] e = e
among_distinct n (m ∷ ns) e = distinct_step n m ns (is_among m ns) refl (or_cases (m == n) (is_among n ns) e) (among_distinct n ns)

other_among : (m n : ℕ) (ms : List ℕ) → is_among m ms ≡ false → is_among n ms ≡ true → (x : ℕ) → (x == n) ≡ true → not (x == m) ≡ true
other_among m n ms none some x at =
    not_from_false (x == m) (ne_eqb x m (λ e. false≢true (sym none ∙ subst (λ k. is_among k ms ≡ true) (sym (eqb-true x n at) ∙ e) some)))

within_step : (m : ℕ) (ms zs : List ℕ) (b : Bool) → is_among m ms ≡ b → ((n : ℕ) → is_among n (m ∷ ms) ≡ true → is_among n zs ≡ true)
    → ((zs : List ℕ) → ((n : ℕ) → is_among n ms ≡ true → is_among n zs ≡ true) → length (distinct ms) ≤ length zs) → length (cond b (distinct ms) (m ∷ distinct ms)) ≤ length zs
within_step m ms zs true is among rest = rest zs (λ n some. among n (or_right (m == n) (is_among n ms) some))
within_step m ms zs false is among rest =
    let here = among m (or_left (m == m) (is_among m ms) (eq-eqb m m refl)) in
    let less = shorter (λ x. x == m) zs here in
    let few = rest (filter (λ x. not (x == m)) zs)
    (λ n some. any_filter (λ x. x == n) (λ x. not (x == m)) zs (each_of (λ x. (x == n) ≡ true → not (x == m) ≡ true) (other_among m n ms is some) zs)
    (among n (or_right (m == n) (is_among n ms) some))) in
    omega arith

length_within : (ms zs : List ℕ) → ((n : ℕ) → is_among n ms ≡ true → is_among n zs ≡ true) → length (distinct ms) ≤ length zs
length_within [] zs among = omega arith
length_within (m ∷ ms) zs among = within_step m ms zs (is_among m ms) refl among (length_within ms)

-- ---- the numbers of the rows that pass a test
abbrev pub numbers : (Row → ℕ) → (Row → Bool) → List Row → ℕ
numbers number test rows = length (distinct (map number (filter test rows)))

-- a row that passes has the number
abbrev pub has_number : (Row → ℕ) → (Row → Bool) → ℕ → List Row → Bool
has_number number test n rows = list_any (λ row. test row && number row == n) rows

filter_step : (number : Row → ℕ) (test : Row → Bool) (n : ℕ) (b : Bool) (row : Row) (rows : List Row) (any : Bool) → list_any (λ r. number r == n) rows ≡ any
    → list_any (λ r. number r == n) (cond b (row ∷ rows) rows) ≡ ((b && number row == n) || any)
filter_step number test n true row rows any e = ap (λ b. (number row == n) || b) e
filter_step number test n false row rows any e = e

pub filter_has : (number : Row → ℕ) (test : Row → Bool) (n : ℕ) (rows : List Row) → list_any (λ r. number r == n) (filter test rows) ≡ has_number number test n rows
filter_has number test n [] = refl
filter_has number test n (row ∷ rows) = filter_step number test n (test row) row (filter test rows) (has_number number test n rows) (filter_has number test n rows)

among_has : (number : Row → ℕ) (test : Row → Bool) (n : ℕ) (rows : List Row) → is_among n (map number (filter test rows)) ≡ has_number number test n rows
among_has number test n rows = any_map (λ m. m == n) number (filter test rows) ∙ filter_has number test n rows

pub numbers_within : (number : Row → ℕ) (test : Row → Bool) (xs ys : List Row) → ((n : ℕ) → has_number number test n xs ≡ true → has_number number test n ys ≡ true)
    → numbers number test xs ≤ numbers number test ys
numbers_within number test xs ys more =
    length_within (map number (filter test xs)) (distinct (map number (filter test ys)))
    (λ n some. among_distinct n (map number (filter test ys)) (among_has number test n ys ∙ more n (sym (among_has number test n xs) ∙ some)))

-- one row more
put_cases : (any b : Bool) (m n : ℕ) → (any || ((b && m == n) || false)) ≡ true → (any ≡ true) ⊎ ((b ≡ true) × (m ≡ n))
put_cases true b m n e = inl refl
put_cases false true m n e = inr (refl, eqb-true m n (⊎_elim (λ x. x) (λ f. absurd (false≢true f)) (or_cases (m == n) false e)))
put_cases false false m n e = absurd (false≢true e)

put_has : (number : Row → ℕ) (test : Row → Bool) (n : ℕ) (xs : List Row) (row : Row) → has_number number test n (xs ++ row ∷ []) ≡ true
    → (has_number number test n xs ≡ true) ⊎ ((test row ≡ true) × (number row ≡ n))
put_has number test n xs row some = put_cases (has_number number test n xs) (test row) (number row) n
    (sym (list_any-append (λ row. test row && number row == n) xs (row ∷ [])) ∙ some)

either_has : (number : Row → ℕ) (test : Row → Bool) (n : ℕ) (ys : List Row) (row : Row) (any : Bool) → (any ≡ true → has_number number test n ys ≡ true)
    → (test row ≡ true → has_number number test (number row) ys ≡ true) → (any ≡ true) ⊎ ((test row ≡ true) × (number row ≡ n)) → has_number number test n ys ≡ true
either_has number test n ys row any more there (inl some) = more some
either_has number test n ys row any more there (inr at) = subst (λ k. has_number number test k ys ≡ true) at.1 (there at.0)

pub put_within : (number : Row → ℕ) (test : Row → Bool) (xs ys : List Row) (row : Row) → ((n : ℕ) → has_number number test n xs ≡ true → has_number number test n ys ≡ true)
    → (test row ≡ true → has_number number test (number row) ys ≡ true) → numbers number test (xs ++ row ∷ []) ≤ numbers number test ys
put_within number test xs ys row more there =
    numbers_within number test (xs ++ row ∷ []) ys (λ n some. either_has number test n ys row (has_number number test n xs) (more n) there (put_has number test n xs row some))

put_among : (number : Row → ℕ) (test : Row → Bool) (xs ys : List Row) (row : Row) (n : ℕ) → ((n : ℕ) → has_number number test n xs ≡ true → has_number number test n ys ≡ true)
    → (has_number number test n xs ≡ true) ⊎ ((test row ≡ true) × (number row ≡ n)) → is_among n (number row ∷ distinct (map number (filter test ys))) ≡ true
put_among number test xs ys row n more (inl some) =
    or_right (number row == n) (is_among n (distinct (map number (filter test ys)))) (among_distinct n (map number (filter test ys)) (among_has number test n ys ∙ more n some))
put_among number test xs ys row n more (inr at) = or_left (number row == n) (is_among n (distinct (map number (filter test ys)))) (eq-eqb (number row) n at.1)

pub put_more : (number : Row → ℕ) (test : Row → Bool) (xs ys : List Row) (row : Row) → ((n : ℕ) → has_number number test n xs ≡ true → has_number number test n ys ≡ true)
    → numbers number test (xs ++ row ∷ []) ≤ numbers number test ys + 1
put_more number test xs ys row more =
    let few = length_within (map number (filter test (xs ++ row ∷ []))) (number row ∷ distinct (map number (filter test ys)))
    (λ n some. put_among number test xs ys row n more (put_has number test n xs row (sym (among_has number test n (xs ++ row ∷ [])) ∙ some))) in
    omega arith

-- ---- tables and masks
pub tables_are : (rows : List Row) → tables_of rows ≡ map (λ (r : Row). r.table) rows
tables_are [] = refl
tables_are (row ∷ rows) = ap (λ ns. row.table ∷ ns) (tables_are rows)

pub masks_are : (rows : List Row) → masks_of rows ≡ map (λ (r : Row). r.mask_serial) rows
masks_are [] = refl
masks_are (row ∷ rows) = ap (λ ns. row.mask_serial ∷ ns) (masks_are rows)

pub table_count_is : (hook : Hook) (rows : List Row) → table_count hook rows ≡ numbers (λ (r : Row). r.table) (in_hook hook) rows
table_count_is hook rows = ap (λ ns. length (distinct ns)) (tables_are (filter (in_hook hook) rows))

pub mask_count_is : (hook : Hook) (chain pref : ℕ) (rows : List Row) → mask_count hook chain pref rows ≡ numbers (λ (r : Row). r.mask_serial) (in_table hook chain pref) rows
mask_count_is hook chain pref rows = ap (λ ns. length (distinct ns)) (masks_are (filter (in_table hook chain pref) rows))

-- rows that are left have no other numbers, and neither have rows that are changed elsewhere
kept_has : (test keep : Row → Bool) (b : Bool) (row : Row) (rows : List Row) → (list_any test (filter keep rows) ≡ true → list_any test rows ≡ true)
    → list_any test (cond b (row ∷ filter keep rows) (filter keep rows)) ≡ true → (test row || list_any test rows) ≡ true
kept_has test keep true row rows more e = ⊎_elim (λ at. or_left (test row) (list_any test rows) at) (λ some. or_right (test row) (list_any test rows) (more some)) (or_cases (test row) (list_any test (filter keep rows)) e)
kept_has test keep false row rows more e = or_right (test row) (list_any test rows) (more e)

pub filter_any : (test keep : Row → Bool) (rows : List Row) → list_any test (filter keep rows) ≡ true → list_any test rows ≡ true
filter_any test keep [] e = e
filter_any test keep (row ∷ rows) e = kept_has test keep (keep row) row rows (filter_any test keep rows) e
