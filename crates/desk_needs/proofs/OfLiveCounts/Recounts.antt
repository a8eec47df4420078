-- The numbers of a state whose masks have other numbers of filters than in another one, all but some masks.
use Rattle.std.proofs.Common.{◌≡◌, ℕ, ◌+◌, false, List, length, refl, arith}
use Rattle.filter_state.specs.States.{State}
use Rattle.desk_needs.specs.Live.{count_of, masks_in}
use Rattle.desk_needs.specs.OfEditNeeds.Told.{laid_rows, laid_masks}
use Rattle.desk_needs.specs.OfLiveCounts.Counts.{rows_in}
use Rattle.desk_needs.proofs.OfLiveCounts.Sums.{is_among, AreApart, total}
use Rattle.desk_needs.proofs.OfLiveCounts.Totals.{recounted, filters_total, masks_total, rows_total}

-- all but these masks have as many filters as before
abbrev pub OthersStay : State → State → List ℕ → Type 0
OthersStay s t ms = (m : ℕ) → is_among m ms ≡ false → count_of t m ≡ count_of s m

pub record Recounted (s t : State) (ms : List ℕ) : Type 0 where
  pub filters : length t.rows + total (count_of s) ms ≡ length s.rows + total (count_of t) ms
  pub masks : length (masks_in t) + total (λ m. laid_masks (count_of s m)) ms ≡ length (masks_in s) + total (λ m. laid_masks (count_of t m)) ms
  pub rows : rows_in t + total (λ m. laid_rows (count_of s m)) ms ≡ rows_in s + total (λ m. laid_rows (count_of t m)) ms

pub recount : (s t : State) (ms : List ℕ) → AreApart ms → OthersStay s t ms → Recounted s t ms
recount s t ms apart same = record {
  filters = (let all = recounted (λ n. n) s.rows t.rows ms refl apart same in let before = filters_total s.rows in let after = filters_total t.rows in omega (arith, all, before, after));
  masks = (let all = recounted laid_masks s.rows t.rows ms refl apart same in let before = masks_total s.rows in let after = masks_total t.rows in omega (arith, all, before, after));
  rows = (let all = recounted laid_rows s.rows t.rows ms refl apart same in let before = rows_total s in let after = rows_total t in omega (arith, all, before, after));
}
