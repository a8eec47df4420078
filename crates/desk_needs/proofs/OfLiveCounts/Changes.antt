-- What becomes of the numbers where one mask or two have other filters, or some masks none.
use Rattle.std.proofs.Common.{◌≡◌, ◌≢◌, ℕ, ◌+◌, ◌-◌, ◌≤◌, ◌==◌, ◌||◌, Bool, true, false, eqb, List, [], ◌∷◌, length, refl, sym, ◌∙◌, ap, subst, arith, eqb-true, eq-eqb, ne_eqb}
use Rattle.std.specs.Prelude.{if◌then◌else◌}
use Rattle.std.specs.List.{list_any, IsDistinct}
use Rattle.std.proofs.lemmas.Bool.{false≢true, eqb-false, false_from_ne_true}
use Rattle.filter_state.specs.States.{Row, State}
use Rattle.filter_state.specs.Sound.{Sound, IsRow}
use Rattle.filter_state.specs.Order.{of_mask}
use Rattle.filter_state.specs.Tables.{masks_of}
use Rattle.filter_state.proofs.Pairs.{each_weaker, any_none}
use Rattle.hook_store_law.specs.OfEffects.Parts.{Stands, filters_of}
use Rattle.hook_law.specs.Standing.{IsIn}
use Rattle.desk_needs.specs.Live.{count_of, rows_of}
use Rattle.desk_needs.specs.OfEditNeeds.Told.{laid_rows, laid_masks}
use Rattle.desk_needs.proofs.OfEditNeeds.Counted.{counted}
use Rattle.desk_needs.specs.OfLiveCounts.Counts.{StayAsMany, FilterComes, MaskComes, FilterMoves, FilterGoes, MasksGo}
use Rattle.desk_needs.proofs.OfLiveCounts.Sums.{is_among, not_front, total_same, total_sum, total_long, total_none, in_among, among_in, are_apart}
use Rattle.desk_needs.proofs.OfLiveCounts.Totals.{none_in, some_in, laid_in}
use Rattle.desk_needs.proofs.OfLiveCounts.Recounts.{OthersStay, recount}

-- ---- a mask stands where it has filters
stands_among : (m : ℕ) (rows : List Row) → list_any (of_mask m) rows ≡ is_among m (masks_of rows)
stands_among m [] = refl
stands_among m (row ∷ rows) = ap (λ b. row.mask_serial == m || b) (stands_among m rows)

pub some_there : (s : State) (m : ℕ) → list_any (of_mask m) s.rows ≡ true → 1 ≤ count_of s m
some_there s m stands = some_in s.rows m (sym (stands_among m s.rows) ∙ stands)

none_there : (s : State) (m : ℕ) → list_any (of_mask m) s.rows ≡ false → count_of s m ≡ 0
none_there s m none = none_in s.rows m (sym (stands_among m s.rows) ∙ none)

pub none_standing : (s : State) (m : ℕ) → (Stands s m → ⊥) → count_of s m ≡ 0
none_standing s m not_there = none_there s m (false_from_ne_true (list_any (of_mask m) s.rows) not_there)

pub standing : (s : State) (m : ℕ) → 1 ≤ count_of s m → Stands s m
standing s m some = step (list_any (of_mask m) s.rows) refl
  where
    step : (b : Bool) → list_any (of_mask m) s.rows ≡ b → list_any (of_mask m) s.rows ≡ true
    step true is = is
    step false is = let none = none_there s m is in absurd (omega (arith, some, none))

-- a serial that wasn't given yet is that of no mask
pub none_yet : (s : State) → Sound s → count_of s (s.masks_made + 1) ≡ 0
none_yet s sound =
    none_there s (s.masks_made + 1) (any_none (of_mask (s.masks_made + 1)) s.rows
    (each_weaker (IsRow s) (λ (row : Row). of_mask (s.masks_made + 1) row ≡ false)
    (λ row is. let low = is.mask in ne_eqb row.mask_serial (s.masks_made + 1) (λ same. let most = low.1 in omega (arith, same, most))) s.rows sound.rows))

-- filters that are the same are as many
pub same_count : (s t : State) (m : ℕ) → filters_of t m ≡ filters_of s m → count_of t m ≡ count_of s m
same_count s t m same = counted t m ∙ ap length same ∙ sym (counted s m)

laid_one : (n : ℕ) → 1 ≤ n → laid_masks n ≡ 1
laid_one n some = ap {B = ℕ} (λ b. if b then 0 else 1) (ne_eqb n 0 (λ none. omega (arith, some, none)))

-- ---- all masks have as many as before
pub all_stay : (s t : State) → ((m : ℕ) → count_of t m ≡ count_of s m) → StayAsMany s t
all_stay s t same =
    let all = recount s t [] tt (λ m none. same m) in
    record {
      filters = (let filters = all.filters in omega (arith, filters));
      masks = (let masks = all.masks in omega (arith, masks));
      rows = (let rows = all.rows in omega (arith, rows));
    }

-- all but one mask have
abbrev pub OthersKeep : State → State → ℕ → Type 0
OthersKeep s t m = (n : ℕ) → n ≢ m → count_of t n ≡ count_of s n

pub one_stays : (s t : State) (m : ℕ) → count_of t m ≡ count_of s m → OthersKeep s t m → StayAsMany s t
one_stays s t m same others = all_stay s t (λ n. step n (n == m) refl)
  where
    step : (n : ℕ) (b : Bool) → (n == m) ≡ b → count_of t n ≡ count_of s n
    step n true is = subst (λ k. count_of t k ≡ count_of s k) (sym (eqb-true n m is)) same
    step n false is = others n (eqb-false n m is)

-- ---- one mask has another number of filters
not_it : (m n : ℕ) → is_among n (m ∷ []) ≡ false → n ≢ m
not_it m n none same = false≢true (sym none ∙ ap (λ b. b || false) (eq-eqb m n (sym same)))

module _ (s t : State) (m : ℕ) (others : OthersKeep s t m) where
  one : OthersStay s t (m ∷ [])
  one n none = others n (not_it m n none)

  pub comes_into : 1 ≤ count_of s m → count_of t m ≡ count_of s m + 1 → FilterComes s t (count_of s m)
  comes_into some more =
      let all = recount s t (m ∷ []) (refl, tt) one in
      record {
        filters = (let filters = all.filters in omega (arith, filters, more));
        masks = (let masks = all.masks in let before = laid_one (count_of s m) some in let after = laid_one (count_of t m) (omega (arith, more)) in omega (arith, masks, before, after));
        rows = (let rows = all.rows in let now = ap laid_rows more in omega (arith, rows, now));
      }

  pub comes_with : count_of s m ≡ 0 → count_of t m ≡ 1 → MaskComes s t
  comes_with none first =
      let all = recount s t (m ∷ []) (refl, tt) one in
      record {
        filters = (let filters = all.filters in omega (arith, filters, none, first));
        masks = (let masks = all.masks in let before = ap laid_masks none in let after = ap laid_masks first in omega (arith, masks, before, after));
        rows = (let rows = all.rows in let before = ap laid_rows none in let after = ap laid_rows first in omega (arith, rows, before, after));
      }

  pub goes_from : 1 ≤ count_of t m → count_of t m + 1 ≡ count_of s m → FilterGoes s t (count_of s m)
  goes_from some less =
      let all = recount s t (m ∷ []) (refl, tt) one in
      let left : count_of t m ≡ count_of s m - 1 = omega (arith, less) in
      record {
        filters = (let filters = all.filters in omega (arith, filters, less));
        masks = (let masks = all.masks in let before = laid_one (count_of s m) (omega (arith, less)) in let after = laid_one (count_of t m) some in omega (arith, masks, before, after));
        rows = (let rows = all.rows in let now = ap laid_rows left in omega (arith, rows, now));
      }

-- ---- two masks have
two_apart : (from to n : ℕ) → is_among n (from ∷ to ∷ []) ≡ false → (n ≢ from) × (n ≢ to)
two_apart from to n none = (λ same. step (from == n) (eq-eqb from n (sym same)) none, λ same. second (from == n) (eq-eqb to n (sym same)) none)
  where
    step : (b : Bool) → b ≡ true → (b || (to == n || false)) ≡ false → ⊥
    step true is none = false≢true (sym none)
    step false is none = false≢true is

    second : (b : Bool) → (to == n) ≡ true → (b || (to == n || false)) ≡ false → ⊥
    second true is none = false≢true (sym none)
    second false is none = false≢true (sym none ∙ ap (λ c. c || false) is)

pub moves : (s t : State) (from to : ℕ) → to ≢ from → count_of t from + 1 ≡ count_of s from → count_of t to ≡ count_of s to + 1
    → ((n : ℕ) → n ≢ from → n ≢ to → count_of t n ≡ count_of s n) → FilterMoves s t (count_of s from) (count_of s to)
moves s t from to differ less more others =
    let all = recount s t (from ∷ to ∷ []) (not_front from to [] differ refl, (refl, tt)) (λ n none. let is = two_apart from to n none in others n is.0 is.1) in
    let left : count_of t from ≡ count_of s from - 1 = omega (arith, less) in
    record {
      filters = (let filters = all.filters in omega (arith, filters, less, more));
      masks = (let masks = all.masks in let one = ap laid_masks left in let two = ap laid_masks more in omega (arith, masks, one, two));
      rows = (let rows = all.rows in let one = ap laid_rows left in let two = ap laid_rows more in omega (arith, rows, one, two));
    }

-- ---- masks have none any more
module _ (s t : State) (gone : List ℕ) (different : IsDistinct eqb gone) (each : (mask : ℕ) → IsIn mask gone → Stands s mask × (Stands t mask → ⊥))
    (every : (mask : ℕ) → Stands s mask → (Stands t mask → ⊥) → IsIn mask gone) (spared : (n : ℕ) → (Stands s n → count_of t n ≡ 0 → ⊥) → count_of t n ≡ count_of s n) where
  others_stay : OthersStay s t gone
  others_stay n none = spared n (λ stood left. false≢true (sym none ∙ in_among n gone (every n stood (λ stands. let some = some_there t n stands in omega (arith, some, left)))))

  none_left : (n : ℕ) → is_among n gone ≡ true → count_of t n ≡ 0
  none_left n is = none_standing t n (each n (among_in n gone is)).1

  had_some : (n : ℕ) → is_among n gone ≡ true → 1 ≤ count_of s n
  had_some n is = some_there s n (each n (among_in n gone is)).0

  pub masks_go : MasksGo s t gone
  masks_go =
      let all = recount s t gone (are_apart gone different) others_stay in
      record {
        filters = (let filters = all.filters in let left = total_none (count_of t) gone none_left in let had = total_sum (count_of s) gone in omega (arith, filters, left, had));
        masks = (let masks = all.masks in
            let left = total_none (λ m. laid_masks (count_of t m)) gone (λ n is. ap laid_masks (none_left n is)) in
            let had = total_same (λ m. laid_masks (count_of s m)) (λ m. 1) gone (λ n is. laid_one (count_of s n) (had_some n is)) in
            let long = total_long gone in omega (arith, masks, left, had, long));
        rows = (let rows = all.rows in
            let left = total_none (λ m. laid_rows (count_of t m)) gone (λ n is. ap laid_rows (none_left n is)) in
            let had = laid_in s gone (λ n is. let some = had_some n is in ne_eqb (count_of s n) 0 (λ none. omega (arith, some, none))) in
            let sum = total_sum (rows_of s) gone in omega (arith, rows, left, had, sum));
      }
