-- What masks have together is no more than what the state has.
use Rattle.std.proofs.Common.{◌≡◌, ◌≢◌, ℕ, suc, ◌+◌, ◌≤◌, ◌==◌, ◌||◌, Bool, true, false, not, cond, List, [], ◌∷◌, length, refl, sym, ◌∙◌, ap, arith, eqb-true, eq-eqb, ne_eqb}
use Rattle.std.specs.Prelude.{filter}
use Rattle.std.specs.List.{list_any}
use Rattle.std.proofs.lemmas.Bool.{false≢true, eqb-false}
use Rattle.std.proofs.lemmas.List.Filters.{length-filter_both}
use Rattle.filter_state.specs.States.{Row, State}
use Rattle.filter_state.specs.Order.{of_mask}
use Rattle.filter_state.specs.Tables.{distinct, masks_of}
use Rattle.desk_needs.specs.Live.{count_of, rows_of, rows_of_all, masks_in}
use Rattle.desk_needs.proofs.OfRoom.Sizes.{rows_less}

abbrev is_among : ℕ → List ℕ → Bool
is_among n ns = list_any (λ m. m == n) ns

-- ---- numbers, each once
abbrev AreApart : List ℕ → Type 0
AreApart [] = Unit {0}
AreApart (n ∷ ns) = (is_among n ns ≡ false) × AreApart ns

distinct_less : (n : ℕ) (ns : List ℕ) → is_among n ns ≡ false → is_among n (distinct ns) ≡ false
distinct_less n [] none = refl
distinct_less n (m ∷ ns) none = step (m == n) refl none (is_among m ns) (distinct_less n ns)
  where
    step : (b : Bool) → (m == n) ≡ b → (b || is_among n ns) ≡ false → (c : Bool) → (is_among n ns ≡ false → is_among n (distinct ns) ≡ false) → is_among n (cond c (distinct ns) (m ∷ distinct ns)) ≡ false
    step true is none c rest = absurd (false≢true (sym none))
    step false is none true rest = rest none
    step false is none false rest = ap (λ b. b || is_among n (distinct ns)) is ∙ rest none

apart_distinct : (ns : List ℕ) → AreApart (distinct ns)
apart_distinct [] = tt
apart_distinct (n ∷ ns) = step (is_among n ns) refl (apart_distinct ns)
  where
    step : (b : Bool) → is_among n ns ≡ b → AreApart (distinct ns) → AreApart (cond b (distinct ns) (n ∷ distinct ns))
    step true is rest = rest
    step false is rest = (distinct_less n ns is, rest)

distinct_short : (ns : List ℕ) → length (distinct ns) ≤ length ns
distinct_short [] = omega arith
distinct_short (n ∷ ns) = step (is_among n ns) (distinct_short ns)
  where
    step : (b : Bool) → length (distinct ns) ≤ length ns → length (cond b (distinct ns) (n ∷ distinct ns)) ≤ length (n ∷ ns)
    step true less = omega (arith, less)
    step false less = omega (arith, less)

masks_long : (rows : List Row) → length (masks_of rows) ≡ length rows
masks_long [] = refl
masks_long (row ∷ rows) = ap suc (masks_long rows)

-- no more masks than filters
pub masks_few : (s : State) → length (masks_in s) ≤ length s.rows
masks_few s = let short = distinct_short (masks_of s.rows) in let long = masks_long s.rows in omega (arith, short, long)

-- ---- filters of masks that are apart
abbrev counts : List Row → List ℕ → ℕ
counts rows [] = 0
counts rows (m ∷ ms) = length (filter (of_mask m) rows) + counts rows ms

abbrev other : ℕ → Row → Bool
other m row = not (of_mask m row)

-- those of another mask stay where the ones of a mask are taken out
kept_others : (m x : ℕ) (rows : List Row) → x ≢ m → length (filter (of_mask x) (filter (other m) rows)) ≡ length (filter (of_mask x) rows)
kept_others m x [] differ = refl
kept_others m x (row ∷ rows) differ = step (row.mask_serial == m) refl (kept_others m x rows differ)
  where
    step : (b : Bool) → (row.mask_serial == m) ≡ b → length (filter (of_mask x) (filter (other m) rows)) ≡ length (filter (of_mask x) rows)
        → length (filter (of_mask x) (cond (not b) (row ∷ filter (other m) rows) (filter (other m) rows))) ≡ length (filter (of_mask x) (row ∷ rows))
    step true is rest = rest ∙ sym (ap (λ c. length (cond c (row ∷ filter (of_mask x) rows) (filter (of_mask x) rows))) (ne_eqb row.mask_serial x (λ same. differ (sym same ∙ eqb-true row.mask_serial m is))))
    step false is rest = one (row.mask_serial == x) rest
      where
        one : (c : Bool) → length (filter (of_mask x) (filter (other m) rows)) ≡ length (filter (of_mask x) rows)
            → length (cond c (row ∷ filter (of_mask x) (filter (other m) rows)) (filter (of_mask x) (filter (other m) rows))) ≡ length (cond c (row ∷ filter (of_mask x) rows) (filter (of_mask x) rows))
        one true rest = ap suc rest
        one false rest = rest

counts_others : (m : ℕ) (ms : List ℕ) (rows : List Row) → is_among m ms ≡ false → counts (filter (other m) rows) ms ≡ counts rows ms
counts_others m [] rows none = refl
counts_others m (x ∷ ms) rows none = step (x == m) refl none (counts_others m ms rows)
  where
    step : (b : Bool) → (x == m) ≡ b → (b || is_among m ms) ≡ false → (is_among m ms ≡ false → counts (filter (other m) rows) ms ≡ counts rows ms) → counts (filter (other m) rows) (x ∷ ms) ≡ counts rows (x ∷ ms)
    step true is none rest = absurd (false≢true (sym none))
    step false is none rest =
        ap (λ n. n + counts (filter (other m) rows) ms) (kept_others m x rows (eqb-false x m is)) ∙ ap (λ n. length (filter (of_mask x) rows) + n) (rest none)

counts_few : (ms : List ℕ) (rows : List Row) → AreApart ms → counts rows ms ≤ length rows
counts_few [] rows apart = omega arith
counts_few (m ∷ ms) rows apart =
    let rest = counts_few ms (filter (other m) rows) apart.1 in
    let same = counts_others m ms rows apart.0 in
    let both = length-filter_both (of_mask m) (other m) (λ row. refl) rows in
    omega (arith, rest, same, both)

-- ---- rows of buckets
-- each of the masks has a filter
abbrev HaveFilters : State → List ℕ → Type 0
HaveFilters s [] = Unit {0}
HaveFilters s (m ∷ ms) = (1 ≤ count_of s m) × HaveFilters s ms

rows_counts : (s : State) (ms : List ℕ) → HaveFilters s ms → rows_of_all s ms ≤ counts s.rows ms
rows_counts s [] have = omega arith
rows_counts s (m ∷ ms) have =
    let rest = rows_counts s ms have.1 in
    let one : rows_of s m ≤ count_of s m = rows_less (count_of s m) have.0 in
    omega (arith, rest, one)

-- a mask of a row has a filter
has_filter : (rows : List Row) (m : ℕ) → is_among m (masks_of rows) ≡ true → 1 ≤ length (filter (of_mask m) rows)
has_filter [] m is = absurd (false≢true is)
has_filter (row ∷ rows) m is = step (row.mask_serial == m) is (has_filter rows m)
  where
    step : (b : Bool) → (b || is_among m (masks_of rows)) ≡ true → (is_among m (masks_of rows) ≡ true → 1 ≤ length (filter (of_mask m) rows)) → 1 ≤ length (cond b (row ∷ filter (of_mask m) rows) (filter (of_mask m) rows))
    step true is rest = omega arith
    step false is rest = rest is

have_filters : (s : State) (ms : List ℕ) → ((m : ℕ) → is_among m ms ≡ true → is_among m (masks_of s.rows) ≡ true) → HaveFilters s (distinct ms)
have_filters s [] within = tt
have_filters s (m ∷ ms) within = step (is_among m ms) (have_filters s ms (λ x is. within x (later x is))) (has_filter s.rows m (within m (ap (λ b. b || is_among m ms) (eq-eqb m m refl))))
  where
    either : (b c : Bool) → c ≡ true → (b || c) ≡ true
    either true c is = refl
    either false c is = is

    later : (x : ℕ) → is_among x ms ≡ true → is_among x (m ∷ ms) ≡ true
    later x is = either (m == x) (is_among x ms) is

    step : (b : Bool) → HaveFilters s (distinct ms) → 1 ≤ count_of s m → HaveFilters s (cond b (distinct ms) (m ∷ distinct ms))
    step true rest one = rest
    step false rest one = (one, rest)

pub rows_few_in : (s : State) → rows_of_all s (masks_in s) ≤ length s.rows
rows_few_in s =
    let less = rows_counts s (masks_in s) (have_filters s (masks_of s.rows) (λ m is. is)) in
    let few = counts_few (masks_in s) s.rows (apart_distinct (masks_of s.rows)) in
    omega (arith, less, few)

-- two masks have no more filters than there are
pub two_counts : (s : State) (m n : ℕ) → m ≢ n → count_of s m + count_of s n ≤ length s.rows
two_counts s m n apart =
    let few = counts_few (m ∷ n ∷ []) s.rows (ap (λ b. b || false) (ne_eqb n m (λ same. apart (sym same))), (refl, tt)) in omega (arith, few)
