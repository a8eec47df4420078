-- What is taken and what leaves with a filter that moves, added up.
use Rattle.std.proofs.Common.{◌≡◌, ◌∙◌, ℕ, ◌+◌, ◌/◌, ◌<◌, ◌≤◌, true, length, Option, Some, None, refl, sym, ap, subst, arith, ne_eqb, Bool}
use Rattle.std.specs.Prelude.{sum_by, if◌then◌else◌}
use Rattle.tc_base.specs.declared.hook.Hook.{Hook}
use Rattle.tc_base.specs.declared.hook.Hook.TheVariants as hooks
use Rattle.flow_mask.specs.Sizes.{size_of}
use Rattle.desk_pools.specs.OfNumbers.Numbers.{PoolNumbers}
use Rattle.desk_needs.specs.OfEditNeeds.Told.{laid, laid_rows, laid_masks}
use Rattle.desk_pools.specs.declared.pools.Pools.{Pools}
use Rattle.desk_pools.specs.Steps.{turned}
use Rattle.desk_actions.specs.Effects.{IsCounted}
use Rattle.desk_heads.specs.Handed.{idle_of}
use Rattle.shared_hook.specs.OfDeskEdits.Parting.{rows_for, HaveLeft}
use Rattle.shared_hook.proofs.OfDeskEdits.Counts.{counted_then, counted_as}
use Rattle.shared_hook.proofs.OfDeskEdits.Desked.{turned_blocks, turned_rows, turned_masks}
use Rattle.shared_hook.proofs.OfDeskEdits.Kept.{rows_led, masks_led_pools}
use Rattle.shared_hook.specs.OfDeskEdits.OfMoves.Moves.{IsOther, old_masks}

-- ---- what is free once new actions are put
pub enough_led : (was ahead : Pools) → ahead ≡ record was { blocks = ahead.blocks; actions = ahead.actions } → (made to from : ℕ) → IsCounted was.blocks ahead.blocks made 0 → made + laid to + laid from ≤ length was.blocks.free
    → laid_rows to + laid_rows from ≤ length was.rows.free → laid_masks to + laid_masks from ≤ length was.masks.free
    → (laid to ≤ length ahead.blocks.free) × (laid_rows to ≤ length ahead.rows.free) × (laid_masks to ≤ length ahead.masks.free)
enough_led was ahead others made to from counted blocks rows masks = (
  let is = counted.free in omega (arith, is, blocks),
  let same = ap (λ (p : PoolNumbers). length p.free) (rows_led was ahead others) in omega (arith, same, rows),
  let same = ap (λ (p : PoolNumbers). length p.free) (masks_led_pools was ahead others) in omega (arith, same, masks),
)

-- ---- what masks have
some_laid : (count : ℕ) → 0 < count → laid count ≡ count + 1
some_laid count some = ap (λ (b : Bool). if b then 0 else count + 1) (ne_eqb count 0 (λ none. omega (arith, none, some)))

some_rows : (count : ℕ) → 0 < count → laid_rows count ≡ rows_for (λ (n : ℕ). n) count
some_rows count some = ap (λ (b : Bool). if b then 0 else size_of count / 16) (ne_eqb count 0 (λ none. omega (arith, none, some)))

some_masks : (count : ℕ) → 0 < count → laid_masks count ≡ 1
some_masks count some = ap (λ (b : Bool). if b then 0 else 1) (ne_eqb count 0 (λ none. omega (arith, none, some)))

module _ (hook : Hook) (old new : Pools) (count : ℕ → ℕ) (to from : ℕ) (into : Option ℕ) (have others : ℕ) (left : HaveLeft count (turned hook old) new (old_masks to from into)) (own : count from ≡ have) (some : 0 < have) (other : IsOther count to into others) where
  -- as much leaves as is laid for as many
  sums : (f g : ℕ → ℕ) → ((n : ℕ) → 0 < n → f n ≡ g n) → f 0 ≡ 0 → sum_by (λ m. g (count m)) (old_masks to from into) ≡ f have + f others
  sums f g same none = by into other
    where
      first : g (count from) ≡ f have
      first = ap g own ∙ sym (same have some)

      by : (at : Option ℕ) → IsOther count to at others → sum_by (λ m. g (count m)) (old_masks to from at) ≡ f have + f others
      by None is = let one = first in let rest = ap f is in omega (arith, one, rest, none)
      by (Some slot) is = let one = first in let two = ap g is.0 ∙ sym (same others is.1) in omega (arith, one, two)

  pub gone_blocks : IsCounted old.blocks new.blocks 0 (laid have + laid others)
  gone_blocks = subst (λ (p : PoolNumbers). IsCounted p new.blocks 0 (laid have + laid others)) (turned_blocks hook old (turned hook old) refl)
      (counted_as (turned hook old).blocks new.blocks 0 0 (sum_by (λ m. count m + 1) (old_masks to from into)) (laid have + laid others) refl (sums laid (λ n. n + 1) some_laid refl) left.blocks)

  pub gone_rows : IsCounted old.rows new.rows 0 (laid_rows have + laid_rows others)
  gone_rows = subst (λ (p : PoolNumbers). IsCounted p new.rows 0 (laid_rows have + laid_rows others)) (turned_rows hook old (turned hook old) refl)
      (counted_as (turned hook old).rows new.rows 0 0 (sum_by (rows_for count) (old_masks to from into)) (laid_rows have + laid_rows others) refl (sums laid_rows (rows_for (λ n. n)) some_rows refl) left.rows)

  pub gone_masks : IsCounted old.masks new.masks 0 (laid_masks have + laid_masks others)
  gone_masks = subst (λ (p : PoolNumbers). IsCounted p new.masks 0 (laid_masks have + laid_masks others)) (turned_masks hook old (turned hook old) refl)
      (counted_as (turned hook old).masks new.masks 0 0 (length (old_masks to from into)) (laid_masks have + laid_masks others) refl (many into other) left.masks)
    where
      many : (at : Option ℕ) → IsOther count to at others → length (old_masks to from at) ≡ laid_masks have + laid_masks others
      many None is = let one = some_masks have some in let rest = ap laid_masks is in omega (arith, one, rest)
      many (Some slot) is = let one = some_masks have some in let two = some_masks others is.1 in omega (arith, one, two)

-- a place that is free stays so while masks are laid
pub free_still : (hook : Hook) (was ahead raised : Pools) → ahead ≡ record was { blocks = ahead.blocks; actions = ahead.actions } → raised ≡ record ahead { blocks = raised.blocks; rows = raised.rows; masks = raised.masks }
    → (idle_of hook was).is_free ≡ true → (idle_of hook raised).is_free ≡ true
free_still hooks.Ingress was ahead raised one two free = ap (λ (p : Pools). p.ingress.is_free) two ∙ (ap (λ (p : Pools). p.ingress.is_free) one ∙ free)
free_still hooks.Egress was ahead raised one two free = ap (λ (p : Pools). p.egress.is_free) two ∙ (ap (λ (p : Pools). p.egress.is_free) one ∙ free)

pub free_laid : (hook : Hook) (one two : Pools) → two ≡ record one { blocks = two.blocks; rows = two.rows; masks = two.masks } → (idle_of hook one).is_free ≡ true → (idle_of hook two).is_free ≡ true
free_laid hooks.Ingress one two is free = ap (λ (p : Pools). p.ingress.is_free) is ∙ free
free_laid hooks.Egress one two is free = ap (λ (p : Pools). p.egress.is_free) is ∙ free

-- taken, and then taken with what leaves
pub counted_after : (p q r : PoolNumbers) (one two leaving : ℕ) → IsCounted p q one 0 → IsCounted q r two leaving → IsCounted p r (one + two) leaving
counted_after p q r one two leaving first second = counted_as p r (one + two) (one + two) (0 + leaving) leaving refl (omega arith) (counted_then p q r one two 0 leaving first second)

pub counted_leaving : (p q r : PoolNumbers) (taken leaving : ℕ) → IsCounted p q taken 0 → IsCounted q r 0 leaving → IsCounted p r taken leaving
counted_leaving p q r taken leaving first second = counted_as p r (taken + 0) taken leaving leaving (omega arith) refl (counted_after p q r taken 0 leaving first second)

-- what is free once the first mask is laid too
pub enough_raised : (was ahead raised : Pools) → ahead ≡ record was { blocks = ahead.blocks; actions = ahead.actions } → (made to from : ℕ) → IsCounted was.blocks ahead.blocks made 0 → IsCounted ahead.blocks raised.blocks (laid to) 0
    → IsCounted ahead.rows raised.rows (laid_rows to) 0 → IsCounted ahead.masks raised.masks (laid_masks to) 0 → made + laid to + laid from ≤ length was.blocks.free
    → laid_rows to + laid_rows from ≤ length was.rows.free → laid_masks to + laid_masks from ≤ length was.masks.free
    → (laid from ≤ length raised.blocks.free) × (laid_rows from ≤ length raised.rows.free) × (laid_masks from ≤ length raised.masks.free)
enough_raised was ahead raised others made to from counted b r m blocks rows masks = (
  let is = counted.free in let also = b.free in omega (arith, is, also, blocks),
  let same = ap (λ (p : PoolNumbers). length p.free) (rows_led was ahead others) in let is = r.free in omega (arith, same, is, rows),
  let same = ap (λ (p : PoolNumbers). length p.free) (masks_led_pools was ahead others) in let is = m.free in omega (arith, same, is, masks),
)
