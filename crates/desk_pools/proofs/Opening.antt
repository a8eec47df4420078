-- The pools of a store in which nothing was committed yet.
use Rattle.std.proofs.Common.{◌≡◌, ◌≢◌, ◌∙◌, ◌⊎◌, inl, inr, ℕ, zero, suc, ◌+◌, ◌*◌, ◌<◌, ◌≤◌, Bool, true, false, eqb, List, [], ◌∷◌, ◌++◌, length, take, slice_get, Some, None, refl, sym, ap, subst, arith, append-nil}
use Rattle.std.specs.List.{range_with_len, IsDistinct}
use Rattle.std.proofs.lemmas.List.{take_all}
use Rattle.tc_base.specs.declared.hook.Hook.{Hook}
use Rattle.tc_base.specs.declared.hook.Hook.TheVariants.{Ingress, Egress}
use Rattle.store_history.specs.declared.history.Link.{Link}
use Rattle.store_history.specs.declared.history.Commit.{Commit}
use Rattle.store_history.specs.History.{IsNamed}
use Rattle.store_history.proofs.Histories.{nothing_named}
use Rattle.store_history.specs.declared.places.TheConstants.{MASK_SLOTS, ACTION_SLOTS, ROWS, ROW_BUCKETS, MASK_ROOTS, ACTION_ROOTS, BUCKET_ROOTS, POOL_BLOCKS}
use Rattle.pin_store.specs.Calls.{IsUnnamed}
use Rattle.filter_state.specs.declared.edit.Edit.{Edit}
use Rattle.hook_law.specs.Places.{head_root}
use Rattle.hook_law.specs.Standing.{Role, Head, Mask, Bucket, Action, IsIn, IsMaskAt, Stands, IsUnused}
use Rattle.hook_store_law.specs.Stated.{hook_meaning}
use Rattle.hook_store_law.specs.Blocks.{hook_codec}
use Rattle.desk_pools.specs.OfNumbers.Numbers.{PoolNumbers}
use Rattle.root_pool_laws.specs.Pools.{IsPool}
use Rattle.root_pool_laws.specs.Blocks.{HasBlock, IsLeft}
use Rattle.root_pool_laws.proofs.Apart.{distinct_append}
use Rattle.desk_pools.specs.declared.pools.IdlePlace.{IdlePlace}
use Rattle.desk_pools.specs.declared.pools.Pools.{Pools}
use Rattle.desk_pools.specs.Pools.{gone_roots, IsFreeAt, IsLeftAt, IsIdle, ArePools}
use Rattle.desk_pools.proofs.RootsOf.{range_in}

-- ---- nothing stands, and nothing is named
abbrev no_commits : List (Commit Edit)
no_commits = []

no_mask : (mask slot : ℕ) → IsMaskAt hook_codec no_commits mask slot → ⊥
no_mask mask slot at = let e = at.there.1 in cc e

nothing_stands : (r : ℕ) (x : Role) → MASK_ROOTS ≤ r → Stands hook_meaning hook_codec [] r x → ⊥
nothing_stands r (Head hook) far s = let one = s.0 in let is = s.1 in omega (arith, one, is, far)
nothing_stands r (Mask m) far s = no_mask m s.0 s.1
nothing_stands r (Bucket q k) far s = no_mask q.mask q.slot s.1.at_mask
nothing_stands r (Action a) far s = s.3 refl

unused_at_first : (r : ℕ) → MASK_ROOTS ≤ r → IsUnused hook_meaning hook_codec 0 [] r
unused_at_first r far n x low high s = nothing_stands r x far (subst (λ (h : List (Commit Edit)). Stands hook_meaning hook_codec h r x) (take_all n no_commits (omega arith)) s)

no_block : (r block : ℕ) → HasBlock no_commits r block → ⊥
no_block r block has = let e = has.2 in cc e

-- ---- the numbers from 0 on
counted_apart : (x first count : ℕ) → x < first → (y : ℕ) → IsIn y (x ∷ []) → IsIn y (range_with_len first count) → ⊥
counted_apart x first count low y one more = let r = range_in first count more.0 y more.1 in let from = r.0 in go one.0 one.1 from
  where
    go : (place : ℕ) → slice_get {X = ℕ} (x ∷ []) place ≡ Some y → first ≤ y → ⊥
    go zero e from = let same : x ≡ y = cc e in omega (arith, same, low, from)
    go (suc place) e from = cc e

counted_different : (first count : ℕ) → IsDistinct eqb (range_with_len first count)
unfolding IsDistinct
counted_different first zero = tt
counted_different first (suc count) = distinct_append (first ∷ []) (range_with_len (first + 1) count) (tt, tt) (counted_different (first + 1) count)
    (counted_apart first (first + 1) count (omega arith))

module _ (size : ℕ) (F L : ℕ → Type 0) (numbers : PoolNumbers) (free : numbers.free ≡ range_with_len 0 size) (left : numbers.left ≡ []) (all : (x : ℕ) → F x) where
  whole : numbers.free ++ numbers.left ≡ range_with_len 0 size
  whole = (λ t. free t ++ left t) ∙ append-nil (range_with_len 0 size)

  pool_opens : IsPool size F L numbers.free numbers.left
  pool_opens = record {
    different = subst (IsDistinct eqb) (sym whole) (counted_different 0 size);
    small = λ place x e. let r = range_in 0 size place x (sym (ap (λ (l : List ℕ). slice_get l place) whole) ∙ e) in let less = r.1 in omega (arith, less);
    may_be_given = λ place x e. all x;
    have_left = λ place x e. absurd (empty place x (sym (ap (λ (l : List ℕ). slice_get l place) left) ∙ e));
  }
    where
      empty : (place x : ℕ) → slice_get {X = ℕ} [] place ≡ Some x → ⊥
      empty place x e = cc e

idle_opens : (hook : Hook) (idle : IdlePlace) → idle.place ≡ 1 → IsIdle [] 0 hook idle
idle_opens hook idle is = record {
  within = omega (arith, is);
  none = λ at less r has. no_block r _ has;
  free = λ e at less l named same. nothing_named 0 l named;
}

pub pools_open : (pools : Pools) → (pools.blocks.free ≡ range_with_len 0 POOL_BLOCKS) × (pools.blocks.left ≡ []) → (pools.rows.free ≡ range_with_len 0 ROWS) × (pools.rows.left ≡ [])
    → (pools.masks.free ≡ range_with_len 0 MASK_SLOTS) × (pools.masks.left ≡ []) → (pools.actions.free ≡ range_with_len 0 ACTION_SLOTS) × (pools.actions.left ≡ [])
    → (pools.ingress.place ≡ 1) × (pools.egress.place ≡ 1) → ArePools pools [] 0
pools_open pools blocks rows masks actions places = record {
  blocks = pool_opens POOL_BLOCKS (IsUnnamed 0 no_commits) (IsLeft (gone_roots pools) no_commits) pools.blocks blocks.0 blocks.1 (λ x l named same. nothing_named 0 l named);
  rows = pool_opens ROWS (IsFreeAt [] 0 BUCKET_ROOTS ROW_BUCKETS) (IsLeftAt [] BUCKET_ROOTS ROW_BUCKETS) pools.rows rows.0 rows.1 (λ x j less. unused_at_first (BUCKET_ROOTS + ROW_BUCKETS * x + j) (omega arith));
  masks = pool_opens MASK_SLOTS (IsFreeAt [] 0 MASK_ROOTS 1) (IsLeftAt [] MASK_ROOTS 1) pools.masks masks.0 masks.1 (λ x j less. unused_at_first (MASK_ROOTS + 1 * x + j) (omega arith));
  actions = pool_opens ACTION_SLOTS (IsFreeAt [] 0 ACTION_ROOTS 1) (IsLeftAt [] ACTION_ROOTS 1) pools.actions actions.0 actions.1 (λ x j less. unused_at_first (ACTION_ROOTS + 1 * x + j) (omega arith));
  ingress = idle_opens Ingress pools.ingress places.0;
  egress = idle_opens Egress pools.egress places.1;
  one_root = λ r s block x y. absurd (no_block r block x);
  heads = λ r block high x. absurd (no_block r block x);
}
