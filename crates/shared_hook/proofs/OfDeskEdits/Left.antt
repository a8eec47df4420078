-- Blocks that left a mask with a commit may leave the pool of blocks.
use Rattle.std.proofs.Common.{◌≡◌, ◌∙◌, ℕ, ◌+◌, ◌≤◌, List, [], ◌++◌, length, sym, ap, subst, arith, length-append}
use Rattle.std.specs.List.{IsDistinct}
use Rattle.store_history.specs.declared.history.Commit.{Commit}
use Rattle.store_history.specs.declared.places.TheConstants.{POOL_BLOCKS}
use Rattle.pin_store.specs.Calls.{IsUnnamed}
use Rattle.filter_state.specs.declared.edit.Edit.{Edit}
use Rattle.hook_law.specs.Standing.{IsIn}
use Rattle.root_pool_laws.specs.Blocks.{IsLeft}
use Rattle.desk_pools.specs.OfNumbers.Numbers.{PoolNumbers}
use Rattle.desk_pools.specs.declared.pools.Pools.{Pools}
use Rattle.desk_pools.specs.Pools.{gone_roots, ArePools}
use Rattle.desk_pools.specs.Steps.{IsInPool, MayLeave}
use Rattle.desk_pools.proofs.Several.{have_room}
use Rattle.desk_actions.specs.Effects.{IsCounted}
use Rattle.desk_masks.specs.OfFilterCommits.Blocks.{AreOut}

pub may_leave : (pools : Pools) (k : List (Commit Edit)) (left told : List ℕ) → AreOut k left → ((block : ℕ) → IsIn block left → IsInPool block pools.blocks → ⊥) → told ≡ left
    → MayLeave POOL_BLOCKS (IsLeft (gone_roots pools) k) pools.blocks told
may_leave pools k left told out apart is = subst (MayLeave POOL_BLOCKS (IsLeft (gone_roots pools) k) pools.blocks) (sym is) (record {
  different = out.different;
  small = out.small;
  left = λ x at root has. absurd (out.none root x at has);
  apart = apart;
})

pub room_for : (pools : Pools) (k : List (Commit Edit)) (b : ℕ) (left : List ℕ) → ArePools pools k b → MayLeave POOL_BLOCKS (IsLeft (gone_roots pools) k) pools.blocks left → pools.blocks.size ≡ POOL_BLOCKS
    → length pools.blocks.free + length pools.blocks.left + length left ≤ pools.blocks.size
room_for pools k b left p may size = let room = have_room POOL_BLOCKS (IsUnnamed b k) (IsLeft (gone_roots pools) k) pools.blocks left p.blocks may in omega (arith, room, size)

-- there are no more free blocks than blocks
pub few_free : (pools : Pools) (k : List (Commit Edit)) (b : ℕ) → ArePools pools k b → length pools.blocks.free ≤ POOL_BLOCKS
unfolding IsDistinct
few_free pools k b p = let room = have_room POOL_BLOCKS (IsUnnamed b k) (IsLeft (gone_roots pools) k) pools.blocks [] p.blocks (record {
  different = tt;
  small = λ x at. let e = at.1 in absurd (cc e);
  left = λ x at. let e = at.1 in absurd (cc e);
  apart = λ x at. let e = at.1 in absurd (cc e);
}) in omega (arith, room)

-- ---- blocks alone are others, twice
pub others_twice : (old mid now : Pools) → mid ≡ record old { blocks = mid.blocks } → now ≡ record mid { blocks = now.blocks } → now ≡ record old { blocks = now.blocks }
others_twice old mid now first second = second ∙ ap (λ (q : Pools). record q { blocks = now.blocks }) first

-- ---- numbers that were taken, and others that left then
pub counted_on : (old mid now : PoolNumbers) (taken : ℕ) (gone : List ℕ) → IsCounted old mid taken 0 → now.free ≡ mid.free → now.left ≡ mid.left ++ gone → now.size ≡ old.size
    → IsCounted old now taken (length gone)
counted_on old mid now taken gone one free left size = record {
  free = one.free ∙ ap (λ (l : List ℕ). length l + taken) (sym free);
  left = let all = ap length left in let both = length-append mid.left gone in let first = one.left in omega (arith, all, both, first);
  size = size;
}
