-- What the masks of rows have together: filters, rows of buckets, and the masks themselves.
use Rattle.std.proofs.Common.{◌≡◌, ℕ, suc, ◌+◌, ◌≤◌, ◌==◌, ◌||◌, Bool, true, false, cond, List, [], ◌∷◌, length, refl, sym, ◌∙◌, ap, arith, eqb-true, eq-eqb, ne_eqb}
use Rattle.std.specs.Prelude.{filter, if◌then◌else◌}
use Rattle.std.proofs.lemmas.Bool.{false≢true}
use Rattle.filter_state.specs.States.{Row, State}
use Rattle.filter_state.specs.Order.{of_mask}
use Rattle.filter_state.specs.Tables.{distinct, masks_of}
use Rattle.desk_needs.specs.Live.{count_of, masks_in, rows_of, rows_of_all}
use Rattle.desk_needs.specs.OfEditNeeds.Told.{laid_rows, laid_masks}
use Rattle.desk_needs.specs.OfLiveCounts.Counts.{rows_in}
use Rattle.desk_needs.proofs.OfLiveCounts.Sums.{is_among, AreApart, IsWithin, total, total_same, total_long, total_changed}

abbrev pub count_in : List Row → ℕ → ℕ
count_in rows mask = length (filter (of_mask mask) rows)

abbrev pub masks_at : List Row → List ℕ
masks_at rows = distinct (masks_of rows)

-- ---- the masks of rows are those with filters
pub none_in : (rows : List Row) (m : ℕ) → is_among m (masks_of rows) ≡ false → count_in rows m ≡ 0
none_in [] m none = refl
none_in (row ∷ rows) m none = step (row.mask_serial == m) none (none_in rows m)
  where
    step : (b : Bool) → (b || is_among m (masks_of rows)) ≡ false → (is_among m (masks_of rows) ≡ false → count_in rows m ≡ 0)
        → length (cond b (row ∷ filter (of_mask m) rows) (filter (of_mask m) rows)) ≡ 0
    step true none rest = absurd (false≢true (sym none))
    step false none rest = rest none

pub some_in : (rows : List Row) (m : ℕ) → is_among m (masks_of rows) ≡ true → 1 ≤ count_in rows m
some_in [] m is = absurd (false≢true is)
some_in (row ∷ rows) m is = step (row.mask_serial == m) is (some_in rows m)
  where
    step : (b : Bool) → (b || is_among m (masks_of rows)) ≡ true → (is_among m (masks_of rows) ≡ true → 1 ≤ count_in rows m)
        → 1 ≤ length (cond b (row ∷ filter (of_mask m) rows) (filter (of_mask m) rows))
    step true is rest = omega arith
    step false is rest = rest is

-- ---- each once
among_distinct : (n : ℕ) (ns : List ℕ) → is_among n (distinct ns) ≡ is_among n ns
among_distinct n [] = refl
among_distinct n (m ∷ ns) = step (is_among m ns) refl (among_distinct n ns)
  where
    -- it is there still, where it was left out
    again : (b : Bool) → (m == n) ≡ b → is_among m ns ≡ true → is_among n ns ≡ (b || is_among n ns)
    again true same is = ap (λ k. is_among k ns) (sym (eqb-true m n same)) ∙ is
    again false same is = refl

    step : (b : Bool) → is_among m ns ≡ b → is_among n (distinct ns) ≡ is_among n ns
        → is_among n (cond b (distinct ns) (m ∷ distinct ns)) ≡ is_among n (m ∷ ns)
    step true is rest = rest ∙ again (m == n) refl is
    step false is rest = ap (λ b. m == n || b) rest

apart_distinct : (ns : List ℕ) → AreApart (distinct ns)
apart_distinct [] = tt
apart_distinct (n ∷ ns) = step (is_among n ns) refl (apart_distinct ns)
  where
    step : (b : Bool) → is_among n ns ≡ b → AreApart (distinct ns) → AreApart (cond b (distinct ns) (n ∷ distinct ns))
    step true is rest = rest
    step false is rest = (among_distinct n ns ∙ is, rest)

-- ---- what masks have, where one without filters has nothing
abbrev weigh : (ℕ → ℕ) → List Row → ℕ → ℕ
weigh w rows m = w (count_in rows m)

within_masks : (w : ℕ → ℕ) (rows : List Row) → w 0 ≡ 0 → IsWithin (weigh w rows) (masks_at rows)
within_masks w rows empty m none = ap w (none_in rows m (sym (among_distinct m (masks_of rows)) ∙ none)) ∙ empty

pub recounted : (w : ℕ → ℕ) (xs ys : List Row) (ms : List ℕ) → w 0 ≡ 0 → AreApart ms → ((m : ℕ) → is_among m ms ≡ false → count_in ys m ≡ count_in xs m)
    → total (weigh w ys) (masks_at ys) + total (weigh w xs) ms ≡ total (weigh w xs) (masks_at xs) + total (weigh w ys) ms
recounted w xs ys ms empty apart same =
    total_changed (weigh w xs) (weigh w ys) ms (masks_at xs) (masks_at ys) apart (apart_distinct (masks_of xs)) (apart_distinct (masks_of ys))
    (within_masks w xs empty) (within_masks w ys empty) (λ m none. ap w (same m none))

-- ---- filters
abbrev own : ℕ → ℕ
own n = n

one_row : (row : Row) (rows : List Row) (m : ℕ) → is_among m (row.mask_serial ∷ []) ≡ false → count_in (row ∷ rows) m ≡ count_in rows m
one_row row rows m none = step (row.mask_serial == m) none
  where
    step : (b : Bool) → (b || false) ≡ false → length (cond b (row ∷ filter (of_mask m) rows) (filter (of_mask m) rows)) ≡ count_in rows m
    step true none = absurd (false≢true (sym none))
    step false none = refl

own_row : (row : Row) (rows : List Row) → count_in (row ∷ rows) row.mask_serial ≡ count_in rows row.mask_serial + 1
own_row row rows =
    let m : ℕ = row.mask_serial in
    let here : count_in (row ∷ rows) m ≡ suc (count_in rows m) = ap (λ b. length (cond b (row ∷ filter (of_mask m) rows) (filter (of_mask m) rows))) (eq-eqb m m refl) in
    omega (arith, here)

pub filters_total : (rows : List Row) → total (weigh own rows) (masks_at rows) ≡ length rows
filters_total [] = refl
filters_total (row ∷ rows) =
    let m : ℕ = row.mask_serial in
    let more = recounted own rows (row ∷ rows) (m ∷ []) refl (refl, tt) (one_row row rows) in
    let here = own_row row rows in
    let rest = filters_total rows in
    omega (arith, more, here, rest)

-- ---- masks and rows of buckets
has_filter : (rows : List Row) (m : ℕ) → is_among m (masks_at rows) ≡ true → (count_in rows m == 0) ≡ false
has_filter rows m is =
    let some = some_in rows m (sym (among_distinct m (masks_of rows)) ∙ is) in
    ne_eqb (count_in rows m) 0 (λ none. omega (arith, some, none))

pub masks_total : (rows : List Row) → total (weigh laid_masks rows) (masks_at rows) ≡ length (masks_at rows)
masks_total rows =
    total_same (weigh laid_masks rows) (λ n. 1) (masks_at rows) (λ m is. ap {B = ℕ} (λ b. if b then 0 else 1) (has_filter rows m is))
    ∙ total_long (masks_at rows)

rows_listed : (s : State) (ms : List ℕ) → total (rows_of s) ms ≡ rows_of_all s ms
rows_listed s [] = refl
rows_listed s (m ∷ ms) = ap (λ n. rows_of s m + n) (rows_listed s ms)

pub laid_in : (s : State) (ms : List ℕ) → ((m : ℕ) → is_among m ms ≡ true → (count_of s m == 0) ≡ false) → total (weigh laid_rows s.rows) ms ≡ total (rows_of s) ms
laid_in s ms have = total_same (weigh laid_rows s.rows) (rows_of s) ms (λ m is. ap {B = ℕ} (λ b. if b then 0 else rows_of s m) (have m is))

pub rows_total : (s : State) → total (weigh laid_rows s.rows) (masks_in s) ≡ rows_in s
rows_total s = laid_in s (masks_in s) (has_filter s.rows) ∙ rows_listed s (masks_in s)
