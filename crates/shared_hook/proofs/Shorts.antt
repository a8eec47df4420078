-- Pools by their places, and what is free of them.
use Rattle.std.proofs.Common.{◌≡◌, ◌∙◌, inl, inr, ℕ, ◌+◌, ◌<◌, ◌≤◌, ◌==◌, Bool, true, false, length, refl, sym, ap, subst, arith, length-append}
use Rattle.std.specs.Prelude.{if◌then◌else◌}
use Rattle.std.proofs.lemmas.Bool.Decides.{nat_tests}
use Rattle.tc_base.specs.declared.hook.Hook.TheVariants as hooks
use Rattle.filter_state.specs.States.{State}
use Rattle.desk_pools.specs.OfNumbers.Numbers.{PoolNumbers}
use Rattle.desk_needs.specs.declared.needs.Needs.{Needs}
use Rattle.desk_needs.specs.declared.pool.Pool.{Pool}
use Rattle.desk_needs.specs.declared.pool.Pool.TheVariants as pools
use Rattle.desk_needs.specs.Live.{live_of, size_of_pool}
use Rattle.desk_needs.specs.Needs.{needs_of, needed_of}
use Rattle.desk_pools.specs.declared.pools.Pools.{Pools}
use Rattle.desk_pools.specs.OfTidying.Tidied.{IsTidied, AreTidied}
use Rattle.shared_hook.specs.OfBalance.Counts.{free_of, left_of, AreCounted}
use Rattle.shared_hook.specs.declared.short.Short.{Short}
use Rattle.shared_hook.specs.Short.{place_of, need_of, IsShort}
use Rattle.shared_hook.specs.Views.{count_of, free_in, left_in}

-- ---- places
pool_from : ℕ → Pool
pool_from n = if n == 0 then pools.Blocks else if n == 1 then pools.Rows else if n == 2 then pools.MaskRoots else if n == 3 then pools.ActionRoots
    else if n == 4 then pools.Head hooks.Ingress else pools.Head hooks.Egress

there_and_back : (p : Pool) → pool_from (place_of p) ≡ p
unfolding pool_from
there_and_back pools.Blocks = refl
there_and_back pools.Rows = refl
there_and_back pools.MaskRoots = refl
there_and_back pools.ActionRoots = refl
there_and_back (pools.Head hooks.Ingress) = refl
there_and_back (pools.Head hooks.Egress) = refl

pub same_place : (p q : Pool) → place_of p ≡ place_of q → p ≡ q
same_place p q e = sym (there_and_back p) ∙ (ap pool_from e ∙ there_and_back q)

pub place_low : (p : Pool) → place_of p < 6
place_low pools.Blocks = omega arith
place_low pools.Rows = omega arith
place_low pools.MaskRoots = omega arith
place_low pools.ActionRoots = omega arith
place_low (pools.Head hooks.Ingress) = omega arith
place_low (pools.Head hooks.Egress) = omega arith

-- one pool more has what is needed
pub one_more : (P : Pool → Type 0) (place : ℕ) (p : Pool) → place_of p ≡ place → ((q : Pool) → place_of q < place → P q) → P p → (q : Pool) → place_of q < place + 1 → P q
one_more P place p at before here q low = pick (place_of q == place) refl
  where
    pick : (t : Bool) → (place_of q == place) ≡ t → P q
    pick true is = let same : place_of q ≡ place = grind (arith, nat_tests, is) in subst P (same_place p q (at ∙ sym same)) here
    pick false is = before q (grind (arith, nat_tests, is, low))

-- ---- counts
pub count_free : (p : Pools) (pool : Pool) → count_of (free_in p) pool ≡ free_of p pool
count_free p pools.Blocks = refl
count_free p pools.Rows = refl
count_free p pools.MaskRoots = refl
count_free p pools.ActionRoots = refl
count_free p (pools.Head hooks.Ingress) = refl
count_free p (pools.Head hooks.Egress) = refl

pub count_left : (p : Pools) (pool : Pool) → count_of (left_in p) pool ≡ left_of p pool
count_left p pools.Blocks = refl
count_left p pools.Rows = refl
count_left p pools.MaskRoots = refl
count_left p pools.ActionRoots = refl
count_left p (pools.Head hooks.Ingress) = refl
count_left p (pools.Head hooks.Egress) = refl

pub view_adds_up : (p : Pools) (s : State) → AreCounted p s → (pool : Pool) → count_of (free_in p) pool + count_of (left_in p) pool + live_of s pool ≡ size_of_pool pool
view_adds_up p s all pool = let a = all pool in let f = count_free p pool in let l = count_left p pool in omega (arith, a, f, l)

pub needed_is : (s : State) (n : Needs) (y : _) → n ≡ needs_of s y → (pool : Pool) → need_of n pool ≡ needed_of s y pool
needed_is s n y is pools.Blocks = ap (λ (m : Needs). m.blocks) is
needed_is s n y is pools.Rows = ap (λ (m : Needs). m.rows) is
needed_is s n y is pools.MaskRoots = ap (λ (m : Needs). m.masks) is
needed_is s n y is pools.ActionRoots = ap (λ (m : Needs). m.actions) is
needed_is s n y is (pools.Head hook) = ap (λ (m : Needs). need_of m (pools.Head hook)) is

-- a pool that is short hasn't what is needed
pub short_lacks : (p : Pools) (n : Needs) (short : Short) → IsShort (free_in p) n short → ((pool : Pool) → need_of n pool ≤ free_of p pool) → ⊥
short_lacks p n short is all = let a = is.needed in let b = is.counted in let c = is.few in let d = all short.pool in let e = count_free p short.pool in omega (arith, a, b, c, d, e)

-- ---- tidying
numbers_even : (old new : PoolNumbers) → IsTidied old new → length new.free + length new.left ≡ length old.free + length old.left
numbers_even old new (size, inl same) = ap (λ (p : PoolNumbers). length p.free + length p.left) same
numbers_even old new (size, inr (more, none)) = let f = ap length more in let l = ap length none in let both = length-append old.free old.left in omega (arith, f, l, both)

place_sum : (b : Bool) → (if b then 1 else 0) + (if b then 0 else 1) ≡ 1
place_sum true = refl
place_sum false = refl

even : (old new : Pools) → AreTidied old new → (pool : Pool) → free_of new pool + left_of new pool ≡ free_of old pool + left_of old pool
even old new t pools.Blocks = numbers_even old.blocks new.blocks t.0
even old new t pools.Rows = numbers_even old.rows new.rows t.1
even old new t pools.MaskRoots = numbers_even old.masks new.masks t.2
even old new t pools.ActionRoots = numbers_even old.actions new.actions t.3
even old new t (pools.Head hooks.Ingress) = place_sum new.ingress.is_free ∙ sym (place_sum old.ingress.is_free)
even old new t (pools.Head hooks.Egress) = place_sum new.egress.is_free ∙ sym (place_sum old.egress.is_free)

pub counted_on : (old new : Pools) (s t : State) → AreTidied old new → t ≡ s → AreCounted old s → AreCounted new t
counted_on old new s t tidied same all pool = let e = even old new tidied pool in let a = all pool in let l = ap (λ (u : State). live_of u pool) same in omega (arith, e, a, l)

-- where nothing is left all is free that isn't in use
pub none_left_enough : (p : Pools) (s : State) (n : Needs) → AreCounted p s → ((pool : Pool) → live_of s pool + need_of n pool ≤ size_of_pool pool)
    → ((pool : Pool) → left_of p pool ≡ 0) → (pool : Pool) → need_of n pool ≤ free_of p pool
none_left_enough p s n all suffice none pool = let a = all pool in let b = suffice pool in let c = none pool in omega (arith, a, b, c)
