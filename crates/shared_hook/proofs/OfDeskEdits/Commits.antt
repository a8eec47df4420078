-- The commits of an edit that gives a hook its tables: none goes to a slot of actions.
use Rattle.std.proofs.Common.{◌≡◌, ℕ, zero, suc, ◌<◌, ◌≤◌, eqb, cond, Bool, true, false, List, [], ◌∷◌, ◌++◌, map, slice_get, Some, refl, sym, subst, arith}
use Rattle.std.specs.List.{range_with_len}
use Rattle.tc_base.specs.declared.hook.Hook.{Hook}
use Rattle.tc_base.specs.declared.hook.Hook.TheVariants as hooks
use Rattle.store_history.specs.declared.history.Named.{Named}
use Rattle.store_history.specs.declared.history.Commit.{Commit}
use Rattle.store_history.specs.History.{empty_named, named_after, root_of}
use Rattle.store_history.proofs.Histories.{named_after-append}
use Rattle.store_history.specs.declared.places.TheConstants.{MASK_SLOTS}
use Rattle.filter_state.specs.declared.edit.Edit.{Edit}
use Rattle.block_codec.specs.declared.mask.StoredMask.{StoredMask}
use Rattle.block_codec.specs.declared.table.StoredTable.{StoredTable}
use Rattle.mask_table.specs.OfMirrors.Linked.{Placed, bucket_commit, mask_commit, raise_commits}
use Rattle.miniq_pair.specs.Pairs.{swap_commit}
use Rattle.desk_parts.specs.OfLineActions.Put.{IsNoSlot, HaveNoSlots}

-- a commit to no slot of actions, with this stamp
pub record IsAsideAt (stamp : ℕ) (c : Commit Edit) : Type 0 where
  pub no_slot : IsNoSlot c.root
  pub stamp_is : c.named.stamp ≡ stamp

abbrev pub AreAside : ℕ → List (Commit Edit) → Type 0
AreAside stamp cs = (place : ℕ) (c : Commit Edit) → slice_get cs place ≡ Some c → IsAsideAt stamp c

pub aside_append : (stamp : ℕ) (xs ys : List (Commit Edit)) → AreAside stamp xs → AreAside stamp ys → AreAside stamp (xs ++ ys)
aside_append stamp [] ys one two place c e = two place c e
aside_append stamp (x ∷ xs) ys one two zero c e = one zero c e
aside_append stamp (x ∷ xs) ys one two (suc place) c e = aside_append stamp xs ys (λ n d f. one (suc n) d f) two place c e

pub aside_one : (stamp : ℕ) (c : Commit Edit) → IsAsideAt stamp c → AreAside stamp (c ∷ [])
aside_one stamp c is zero d e = let same : c ≡ d = cc e in subst (IsAsideAt stamp) same is
aside_one stamp c is (suc place) d e = absurd (cc e)

aside_map : (stamp : ℕ) (f : ℕ → Commit Edit) (ks : List ℕ) → ((k : ℕ) → IsAsideAt stamp (f k)) → AreAside stamp (map f ks)
aside_map stamp f [] each place c e = absurd (cc e)
aside_map stamp f (k ∷ ks) each zero c e = let same : f k ≡ c = cc e in subst (IsAsideAt stamp) same (each k)
aside_map stamp f (k ∷ ks) each (suc place) c e = aside_map stamp f ks each place c e

-- those of a whole mask
pub raise_aside : (slot : ℕ) (mask : StoredMask) (blk : ℕ) (ps : List Placed) (stamp : ℕ) → slot < MASK_SLOTS → AreAside stamp (raise_commits slot mask blk ps stamp)
raise_aside slot mask blk ps stamp small = aside_append stamp (map (bucket_commit mask ps stamp) (range_with_len 0 mask.size)) (mask_commit slot mask blk stamp ∷ [])
    (aside_map stamp (bucket_commit mask ps stamp) (range_with_len 0 mask.size) (λ k. record { no_slot = λ other less same. omega (arith, less, same); stamp_is = refl }))
    (aside_one stamp (mask_commit slot mask blk stamp) (record { no_slot = λ other less same. omega (arith, small, same); stamp_is = refl }))

-- and the head's
pub swap_aside : (hook : Hook) (place : ℕ) (tables : List StoredTable) (number : ℕ) (y : Edit) → AreAside number (swap_commit hook place tables number y ∷ [])
swap_aside hook place tables number y = aside_one number (swap_commit hook place tables number y) (record { no_slot = low hook; stamp_is = refl })
  where
    low : (h : Hook) → IsNoSlot (swap_commit h place tables number y).root
    low hooks.Ingress slot less same = omega (arith, less, same)
    low hooks.Egress slot less same = omega (arith, less, same)

pub no_slots : (stamp : ℕ) (cs : List (Commit Edit)) → AreAside stamp cs → HaveNoSlots cs
no_slots stamp cs are place c e = (are place c e).no_slot

-- no root has a later stamp
after_early : (cs : List (Commit Edit)) (r p : ℕ) (n : Named) → n.stamp ≤ p → AreAside p cs → (named_after r n cs).stamp ≤ p
after_early [] r p n low each = low
after_early (c ∷ cs) r p n low each = after_early cs r p (cond (eqb c.root r) c.named n) (pick (eqb c.root r)) (λ j d at. each (suc j) d at)
  where
    pick : (t : Bool) → (cond t c.named n).stamp ≤ p
    pick true = let is = (each 0 c refl).stamp_is in omega (arith, is)
    pick false = low

pub aside_early : (h cs : List (Commit Edit)) (p r : ℕ) → (root_of h r).stamp ≤ p → AreAside p cs → (root_of (h ++ cs) r).stamp ≤ p
aside_early h cs p r low each = subst (λ (n : Named). n.stamp ≤ p) (sym (named_after-append r empty_named h cs)) (after_early cs r p (root_of h r) low each)
