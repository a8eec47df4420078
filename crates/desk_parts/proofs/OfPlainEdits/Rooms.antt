-- The pools of a desk have room for what a live action leaves.
use Rattle.std.proofs.Common.{◌≡◌, ℕ, zero, suc, ◌+◌, ◌<◌, true, Some, List, [], ◌∷◌, length, slice_get, refl, sym, subst, arith}
use Rattle.std.specs.List.{IsDistinct}
use Rattle.store_history.specs.declared.history.Commit.{Commit}
use Rattle.store_history.specs.declared.places.TheConstants.{ACTION_SLOTS, POOL_BLOCKS}
use Rattle.act_kinds.specs.declared.params.Kind.{Kind}
use Rattle.filter_state.specs.declared.edit.Edit.{Edit}
use Rattle.filter_state.specs.Actions.{is_live}
use Rattle.hook_law.specs.Places.{action_root}
use Rattle.hook_law.specs.Meaning.{IsLive}
use Rattle.hook_law.specs.Standing.{Action as ActionRole, Stands}
use Rattle.hook_store_law.specs.Stated.{hook_meaning}
use Rattle.hook_store_law.specs.Blocks.{hook_codec}
use Rattle.hook_store_law.specs.OfEdits.Premises.{now}
use Rattle.desk_pools.specs.OfNumbers.Numbers.{PoolNumbers}
use Rattle.root_pool_laws.specs.Pools.{IsPool}
use Rattle.root_pool_laws.proofs.Giving.{pool_as}
use Rattle.desk_pools.specs.Steps.{IsInPool}
use Rattle.desk_pools.proofs.Several.{have_room}
use Rattle.desk_pools.proofs.Steps.{standing_block}
use Rattle.desk_actions.specs.OfLedgers.Kept.{commits, base}
use Rattle.desk_actions.specs.Places.{slot_of, block_of, IsAlone}
use Rattle.desk_actions.proofs.Gone.{named_live}
use Rattle.desk_actions.proofs.Names.{live_found}
use Rattle.desk_actions.proofs.Turning.{alone_has, standing_slot}
use Rattle.desk_parts.specs.declared.parts.Parts.{Parts}
use Rattle.desk_parts.specs.Desk.{IsDesk}

-- a number below the size that a pool doesn't have: the pool isn't full
not_full : (size : ℕ) (F L : ℕ → Type 0) (numbers : PoolNumbers) (x : ℕ) → IsPool size F L numbers.free numbers.left → x < size → (IsInPool x numbers → ⊥) → length numbers.free + length numbers.left < size
unfolding IsDistinct
not_full size F L numbers x p small apart =
    let room = have_room size F (λ y. Unit {0}) numbers (x ∷ []) (pool_as size F F L (λ y. Unit {0}) numbers.free numbers.left (λ y at f. f) (λ y at l. tt) p) (record {
      different = (tt, tt);
      small = λ y at. subst (λ (n : ℕ). n < size) (sym (one y at.0 at.1)) small;
      left = λ y at. tt;
      apart = λ y at in_. apart (subst (λ (n : ℕ). IsInPool n numbers) (one y at.0 at.1) in_);
    }) in omega (arith, room)
  where
    one : (y place : ℕ) → slice_get {X = ℕ} (x ∷ []) place ≡ Some y → y ≡ x
    one y zero e = let same : x ≡ y = cc e in sym same
    one y (suc place) e = absurd (cc e)

module _ (parts : Parts) (d : IsDesk parts) (kind : Kind) (index : ℕ) (is : is_live kind index (now (commits parts.ledger)).actions ≡ true) where
  abbrev h : List (Commit Edit)
  h = commits parts.ledger

  abbrev serial : ℕ
  serial = (live_found kind index (now h).actions is).0.serial

  live : IsLive hook_meaning (now h) serial
  live = let found = live_found kind index (now h).actions is in named_live (now h) kind index found.0.serial (found.0, found.1, refl)

  abbrev slot : ℕ
  slot = slot_of parts.actions serial

  small : slot < ACTION_SLOTS
  small = (d.actions.slots serial live).puts.small

  stands : Stands hook_meaning hook_codec h (action_root slot) (ActionRole serial)
  stands = (slot, d.actions.slots serial live, refl, live)

  alone : IsAlone h slot (block_of parts.actions slot)
  alone = d.actions.blocks serial live

  pub room_of_slot : length parts.pools.actions.free + length parts.pools.actions.left < parts.pools.actions.size
  room_of_slot = let p = d.pools in let size = d.sized.3 in
      let room = not_full ACTION_SLOTS _ _ parts.pools.actions slot p.actions small (standing_slot parts.pools h (base parts.ledger) slot (ActionRole serial) d.whole.kept.low p stands) in omega (arith, room, size)

  pub room_of_block : length parts.pools.blocks.free + length parts.pools.blocks.left < parts.pools.blocks.size
  room_of_block = let p = d.pools in let size = d.sized.0 in
      let room = not_full POOL_BLOCKS _ _ parts.pools.blocks (block_of parts.actions slot) p.blocks alone.0
      (standing_block parts.pools h (base parts.ledger) (action_root slot) (block_of parts.actions slot) (ActionRole serial) d.whole.kept.low p (alone_has h slot (block_of parts.actions slot) alone) stands) in omega (arith, room, size)
