-- Commits without numbers, to slots of actions alone: what is known of masks and tables goes on.
use Rattle.std.proofs.Common.{◌≡◌, inl, inr, ℕ, ◌<◌, ◌≤◌, List, length, sym, ap, subst, arith}
use Rattle.tc_base.specs.declared.hook.Hook.{Hook}
use Rattle.store_history.specs.declared.history.Named.{Named}
use Rattle.store_history.specs.declared.history.Commit.{Commit}
use Rattle.store_history.specs.History.{root_of}
use Rattle.store_history.specs.declared.places.TheConstants.{ACTION_SLOTS}
use Rattle.pin_store.specs.declared.shape.Shape.{Shape}
use Rattle.pin_store.specs.Layout.{block_words}
use Rattle.filter_state.specs.declared.edit.Edit.{Edit}
use Rattle.filter_state.specs.States.{State}
use Rattle.filter_state.specs.Sound.{Sound}
use Rattle.mask_table.specs.OfMirrors.Kept.{Names}
use Rattle.mask_table.specs.Buckets.{mask_root}
use Rattle.mask_writer.specs.Masks.{Masks}
use Rattle.hook_law.specs.Places as places
use Rattle.hook_law.specs.Meaning.{point_of, state_at}
use Rattle.hook_law.specs.Standing.{IsSlotOf}
use Rattle.hook_law.proofs.Standing.{slot_longer}
use Rattle.hook_store_law.specs.Stated.{hook_meaning, filters_at}
use Rattle.hook_store_law.specs.Blocks.{hook_codec}
use Rattle.hook_store_law.specs.Kept.{IsKeptAt}
use Rattle.hook_store_law.specs.OfEdits.Premises.{now, next}
use Rattle.desk_parts.specs.OfLineActions.Put.{ArePut}
use Rattle.desk_masks.specs.declared.hook_tables.HookTables.{HookTables}
use Rattle.desk_masks.specs.Masks.{HasMasks}
use Rattle.desk_masks.specs.Tables.{HasTables}
use Rattle.desk_masks.proofs.Going.{IsAside, tables_go, masks_go, aside_of_heads, aside_of_masks, aside_of_buckets}

module _ (h k : List (Commit Edit)) (b point : ℕ) (y : Edit) (put : ArePut h k b point y) where
  -- no edit came
  pub now_put : now k ≡ now h
  now_put = ap (λ (edits : List Edit). state_at hook_meaning edits (length edits)) put.journal

  pub next_put : next k y ≡ next h y
  next_put = ap (λ (s : State). hook_meaning.step s y) now_put

  at_slot : (slot : ℕ) → slot < ACTION_SLOTS → IsAside h (places.action_root slot)
  at_slot slot small = inr (inl (omega arith, omega (arith, small)))

  same_heads : (hook : ℕ) → hook < 2 → root_of k (places.head_root hook) ≡ root_of h (places.head_root hook)
  same_heads hook less = put.roots (places.head_root hook) (λ slot small same. aside_of_heads h (places.action_root slot) (at_slot slot small) hook less (sym same))

  pub put_tables : (hook : Hook) (kept : HookTables) → HasTables hook kept h → HasTables hook kept k
  put_tables hook kept has = tables_go h k same_heads hook kept has

  longer : (a s : ℕ) → IsSlotOf hook_codec h a s → IsSlotOf hook_codec k a s
  longer a s w = subst (λ (z : List (Commit Edit)). IsSlotOf hook_codec z a s) (sym put.seen) (slot_longer hook_codec h put.more a s w)

  filters : (m : ℕ) → filters_at (now k) m ≡ filters_at (now h) m
  filters m = ap (λ (s : State). filters_at s m) now_put

  later : point_of h ≤ point_of k
  later = let same = ap length put.journal in omega (arith, same)

  pub put_masks : (masks : Masks) (shape : Shape) (cells cells2 : List ℕ) → IsKeptAt h b point → Sound (now h) → HasMasks masks shape cells h
      → ((root blk : ℕ) → Names (root_of h) root blk → block_words shape cells2 blk ≡ block_words shape cells blk) → HasMasks masks shape cells2 k
  put_masks masks shape cells cells2 kept sound has words = masks_go h k same_heads b kept.low kept.keeps.law put.low put.keeps.law longer sound filters later masks shape cells cells2 has
      (λ slot one stands. ap (λ (n : Named). n.chain) (put.roots (mask_root slot) (λ s small same. aside_of_masks h (places.action_root s) masks shape cells has (at_slot s small) slot one stands (sym same))))
      (λ root at. ap (λ (n : Named). n.chain) (put.roots root (λ s small same. aside_of_buckets h (places.action_root s) masks shape cells has (at_slot s small) root at (sym same))))
      words
