-- The pools of a new desk add up.
use Rattle.std.proofs.Common.{◌≡◌, ◌+◌, List, [], length, Bool, true, refl, sym, ap, subst, arith, if◌then◌else◌}
use Rattle.store_history.specs.declared.history.Commit.{Commit}
use Rattle.tc_base.specs.declared.hook.Hook.TheVariants as hooks
use Rattle.filter_state.specs.declared.edit.Edit.{Edit}
use Rattle.filter_state.specs.States.{no_state}
use Rattle.hook_store_law.specs.OfEdits.Premises.{now}
use Rattle.desk_needs.specs.declared.pool.Pool.TheVariants as pools
use Rattle.desk_pools.specs.declared.pools.Pools.{Pools}
use Rattle.desk_pools.specs.Pools.{AreAllFree, IsNothingLeft}
use Rattle.shared_hook.specs.OfBalance.Counts.{AreCounted}

nothing : now [] ≡ no_state
nothing = refl

place_full : (is_free : Bool) → is_free ≡ true → (if is_free then 1 else 0) + (if is_free then 0 else 1) + 1 ≡ 2
place_full is_free is = subst (λ (b : Bool). (if b then 1 else 0) + (if b then 0 else 1) + 1 ≡ 2) (sym is) refl

all_there : (p : Pools) → IsNothingLeft p → AreAllFree p → AreCounted p no_state
all_there p none all pools.Blocks = let f = all.blocks in let l = ap length none.blocks in omega (arith, f, l)
all_there p none all pools.Rows = let f = all.rows in let l = ap length none.rows in omega (arith, f, l)
all_there p none all pools.MaskRoots = let f = all.masks in let l = ap length none.masks in omega (arith, f, l)
all_there p none all pools.ActionRoots = let f = all.actions in let l = ap length none.actions in omega (arith, f, l)
all_there p none all (pools.Head hooks.Ingress) = place_full p.ingress.is_free none.ingress
all_there p none all (pools.Head hooks.Egress) = place_full p.egress.is_free none.egress

pub counted_new : (p : Pools) (seen : List (Commit Edit)) → seen ≡ [] → IsNothingLeft p → AreAllFree p → AreCounted p (now seen)
counted_new p seen is none all = subst (λ (cs : List (Commit Edit)). AreCounted p (now cs)) (sym is) (rw nothing (all_there p none all))
