-- How many rows and blocks a mask has by how many filters.
use Rattle.std.proofs.Common.{◌≡◌, ℕ, ◌+◌, ◌/◌, ◌≤◌, ◌==◌, Bool, true, false, not, sym, ◌∙◌, ap, arith, eq-eqb}
use Rattle.std.specs.Prelude.{if◌then◌else◌}
use Rattle.std.proofs.lemmas.Bool.Decides.{nat_tests}
use mathlib.Core.Logic.{dite}
use native.Mathlib.Decide.{dec_le}
use Rattle.flow_mask.specs.Sizes.{size_of}
use Rattle.desk_needs.specs.OfEditNeeds.Told.{blocks_anew, rows_anew, laid, laid_rows, laid_masks}

pub rows_few : (count : ℕ) → size_of count / 16 ≤ 64
rows_few count = grind (arith, nat_tests)

pub rows_less : (count : ℕ) → 1 ≤ count → size_of count / 16 ≤ count
rows_less count some = grind (arith, nat_tests)

-- ---- a mask that is laid anew
either : (b : Bool) (x y most : ℕ) → x ≤ most → y ≤ most → (if b then x else y) ≤ most
either true x y most one other = one
either false x y most one other = other

pub blocks_anew_few : (before after : ℕ) → blocks_anew before after ≤ after + 1
blocks_anew_few before after = either (not (size_of after == size_of before)) (after + 1) 0 (after + 1) (omega arith) (omega arith)

pub rows_anew_few : (before after : ℕ) → rows_anew before after ≤ 64
rows_anew_few before after = either (not (size_of after == size_of before)) (size_of after / 16) 0 64 (rows_few after) (omega arith)

pub laid_few : (count : ℕ) → laid count ≤ count + 1
laid_few count = either (count == 0) 0 (count + 1) (count + 1) (omega arith) (omega arith)

pub laid_rows_few : (count : ℕ) → laid_rows count ≤ 64
laid_rows_few count = either (count == 0) 0 (size_of count / 16) 64 (omega arith) (rows_few count)

pub laid_masks_few : (count : ℕ) → laid_masks count ≤ 1
laid_masks_few count = either (count == 0) 0 1 1 (omega arith) (omega arith)

-- from 385 filters on a mask has 1,024 buckets
most_buckets : (count : ℕ) → 385 ≤ count → size_of count ≡ 1024
most_buckets count many = grind (arith, nat_tests)

-- so one filter more or less costs little
pub blocks_anew_small : (before after : ℕ) → after ≤ before + 1 → before ≤ after + 1 → blocks_anew before after ≤ 400
blocks_anew_small before after up down = dite (dec_le 386 before)
    (λ (many : 386 ≤ before). let same : size_of after ≡ size_of before = most_buckets after (omega (arith, many, down)) ∙ sym (most_buckets before (omega (arith, many))) in
    let none : blocks_anew before after ≡ 0 = ap (λ b. if not b then after + 1 else 0) (eq-eqb (size_of after) (size_of before) same) in omega (arith, none))
    (λ (few : 386 ≤ before → ⊥). let most = blocks_anew_few before after in omega (arith, few, most, up))
