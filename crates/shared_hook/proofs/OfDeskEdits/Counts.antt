-- What is taken of the pools, and what leaves, added up.
use Rattle.std.proofs.Common.{◌≡◌, ◌≢◌, ◌∙◌, ℕ, ◌+◌, ◌-◌, ◌<◌, ◌≤◌, ◌/◌, Bool, length, refl, ap, arith, ne_eqb, eq-eqb}
use Rattle.std.specs.Prelude.{if◌then◌else◌, not}
use Rattle.flow_mask.specs.Sizes.{size_of}
use Rattle.desk_pools.specs.OfNumbers.Numbers.{PoolNumbers}
use Rattle.desk_needs.specs.OfEditNeeds.Told.{blocks_anew, rows_anew}
use Rattle.desk_actions.specs.Effects.{IsCounted}

-- ---- a mask that is laid anew, or isn't
pub blocks_when : (before after : ℕ) → size_of after ≢ size_of before → blocks_anew before after ≡ after + 1
blocks_when before after other = ap (λ (b : Bool). if not b then after + 1 else 0) (ne_eqb (size_of after) (size_of before) other)

pub rows_when : (before after : ℕ) → size_of after ≢ size_of before → rows_anew before after ≡ size_of after / 16
rows_when before after other = ap (λ (b : Bool). if not b then size_of after / 16 else 0) (ne_eqb (size_of after) (size_of before) other)

pub no_blocks : (before after : ℕ) → size_of after ≡ size_of before → blocks_anew before after ≡ 0
no_blocks before after same = ap (λ (b : Bool). if not b then after + 1 else 0) (eq-eqb (size_of after) (size_of before) same)

pub no_rows : (before after : ℕ) → size_of after ≡ size_of before → rows_anew before after ≡ 0
no_rows before after same = ap (λ (b : Bool). if not b then size_of after / 16 else 0) (eq-eqb (size_of after) (size_of before) same)

-- ---- one after another
pub counted_same : (p : PoolNumbers) → IsCounted p p 0 0
counted_same p = record { free = omega arith; left = omega arith; size = refl }

pub counted_as : (p q : PoolNumbers) (taken taken2 leaving leaving2 : ℕ) → taken ≡ taken2 → leaving ≡ leaving2 → IsCounted p q taken leaving → IsCounted p q taken2 leaving2
counted_as p q taken taken2 leaving leaving2 one two is = record {
  free = is.free ∙ ap (λ (n : ℕ). length q.free + n) one;
  left = is.left ∙ ap (λ (n : ℕ). length p.left + n) two;
  size = is.size;
}

pub counted_then : (p q r : PoolNumbers) (taken taken2 leaving leaving2 : ℕ) → IsCounted p q taken leaving → IsCounted q r taken2 leaving2 → IsCounted p r (taken + taken2) (leaving + leaving2)
counted_then p q r taken taken2 leaving leaving2 one two = record {
  free = let a = one.free in let b = two.free in omega (arith, a, b);
  left = let a = one.left in let b = two.left in omega (arith, a, b);
  size = two.size ∙ one.size;
}

-- twice taken, and then taken with what leaves
pub counted_thrice : (p q r z : PoolNumbers) (one two three leaving : ℕ) → IsCounted p q one 0 → IsCounted q r two 0 → IsCounted r z three leaving → IsCounted p z (one + two + three) leaving
counted_thrice p q r z one two three leaving first second third = record {
  free = let a = first.free in let b = second.free in let c = third.free in omega (arith, a, b, c);
  left = let a = first.left in let b = second.left in let c = third.left in omega (arith, a, b, c);
  size = third.size ∙ (second.size ∙ first.size);
}

-- what is left of enough
pub enough_left : (free mid one more : ℕ) → free ≡ mid + one → one + more ≤ free → more ≤ mid
enough_left free mid one more is enough = omega (arith, is, enough)

pub enough_then : (free mid one two more : ℕ) → free ≡ mid + one → one + two + more ≤ free → two ≤ mid
enough_then free mid one two more is enough = omega (arith, is, enough)

pub enough_last : (free mid last one two more : ℕ) → free ≡ mid + one → mid ≡ last + two → one + two + more ≤ free → more ≤ last
enough_last free mid last one two more is behind enough = omega (arith, is, behind, enough)

-- first taken, and then taken for one more with what leaves
pub counted_with : (p q r : PoolNumbers) (one two leaving : ℕ) → IsCounted p q one 0 → IsCounted q r (two + 1) leaving → IsCounted p r (one + two + 1) leaving
counted_with p q r one two leaving first second = record {
  free = let a = first.free in let b = second.free in omega (arith, a, b);
  left = let a = first.left in let b = second.left in omega (arith, a, b);
  size = second.size ∙ first.size;
}

pub enough_with : (free mid one two : ℕ) → free ≡ mid + one → one + two + 1 ≤ free → two < mid
enough_with free mid one two is enough = omega (arith, is, enough)

pub one_less_is : (count now_ before : ℕ) → now_ + 1 ≡ before → before ≡ count → count - 1 ≡ now_
one_less_is count now_ before one same = omega (arith, one, same)
