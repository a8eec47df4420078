-- Masks that are laid anew, by how many filters they had and have.
use Rattle.std.proofs.Common.{◌≡◌, ℕ, ◌+◌, ◌/◌, ◌≤◌, ◌==◌, Bool, true, false, List, [], ◌∷◌, length, refl, sym, ap, arith, eqb-true, eq-eqb, ne_eqb}
use Rattle.std.specs.Prelude.{if◌then◌else◌, not, sum_by}
use Rattle.std.proofs.lemmas.Bool.{eqb-false}
use Rattle.std.proofs.lemmas.List.Sums.{sum_by-cons}
use Rattle.flow_mask.specs.Sizes.{size_of}
use Rattle.store_history.specs.declared.places.TheConstants.{ROW_BUCKETS}
use Rattle.desk_needs.specs.OfEditNeeds.Told.{rows_anew, laid, laid_rows, laid_masks}

-- a mask that had some filters and has some
some_rows : (n : ℕ) → 1 ≤ n → laid_rows n ≡ size_of n / ROW_BUCKETS
some_rows n some = ap {B = ℕ} (λ b. if b then 0 else size_of n / ROW_BUCKETS) (ne_eqb n 0 (λ none. omega (arith, some, none)))

pub rows_even : (before after : ℕ) → 1 ≤ before → 1 ≤ after → laid_rows after + rows_anew after before ≡ laid_rows before + rows_anew before after
rows_even before after some left = step (size_of after == size_of before) refl
  where
    step : (b : Bool) → (size_of after == size_of before) ≡ b → laid_rows after + rows_anew after before ≡ laid_rows before + rows_anew before after
    step true same =
        let is : size_of after ≡ size_of before = eqb-true (size_of after) (size_of before) same in
        let one = some_rows before some in
        let two = some_rows after left in
        let rows : size_of after / ROW_BUCKETS ≡ size_of before / ROW_BUCKETS = ap (λ n. n / ROW_BUCKETS) is in
        let there : rows_anew before after ≡ 0 = ap {B = ℕ} (λ b. if not b then size_of after / ROW_BUCKETS else 0) same in
        let back : rows_anew after before ≡ 0 = ap {B = ℕ} (λ b. if not b then size_of before / ROW_BUCKETS else 0) (eq-eqb (size_of before) (size_of after) (sym is)) in
        omega (arith, one, two, rows, there, back)
    step false other =
        let one = some_rows before some in
        let two = some_rows after left in
        let there : rows_anew before after ≡ size_of after / ROW_BUCKETS = ap {B = ℕ} (λ b. if not b then size_of after / ROW_BUCKETS else 0) other in
        let back : rows_anew after before ≡ size_of before / ROW_BUCKETS =
        ap {B = ℕ} (λ b. if not b then size_of before / ROW_BUCKETS else 0) (ne_eqb (size_of before) (size_of after) (λ same. eqb-false (size_of after) (size_of before) other (sym same))) in
        omega (arith, one, two, there, back)

-- a block for each filter and one for the mask
pub laid_blocks : (n : ℕ) → laid n ≡ n + laid_masks n
laid_blocks n = step (n == 0) refl
  where
    step : (b : Bool) → (n == 0) ≡ b → (if b then 0 else n + 1) ≡ n + (if b then 0 else 1)
    step true none = let is = eqb-true n 0 none in omega (arith, is)
    step false some = refl

pub sum_with_masks : (count : ℕ → ℕ) (masks : List ℕ) → sum_by (λ mask. count mask + 1) masks ≡ sum_by count masks + length masks
sum_with_masks count [] = refl
sum_with_masks count (m ∷ ms) =
    let one = sum_by-cons (λ mask. count mask + 1) m ms in
    let two = sum_by-cons count m ms in
    let rest = sum_with_masks count ms in
    omega (arith, one, two, rest)
