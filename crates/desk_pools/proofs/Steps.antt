-- Pools, step by step: a number is taken, a commit is made, a number leaves.
use Rattle.std.proofs.Common.{◌≡◌, ◌≢◌, ◌∙◌, ◌⊎◌, inl, inr, ℕ, zero, suc, ◌+◌, ◌*◌, ◌<◌, ◌≤◌, List, [], ◌∷◌, ◌++◌, length, slice_get, eqb, Some, refl, sym, ap, subst, arith, append-nil}
use Rattle.std.specs.List.{IsDistinct}
use Rattle.tc_base.specs.declared.hook.Hook.{Hook}
use Rattle.tc_base.specs.declared.hook.Hook.TheVariants.{Ingress, Egress}
use Rattle.store_history.specs.declared.history.Commit.{Commit}
use Rattle.pin_store.specs.Calls.{IsUnnamed}
use Rattle.filter_state.specs.declared.edit.Edit.{Edit}
use Rattle.store_history.specs.declared.places.TheConstants.{POOL_BLOCKS, MASK_SLOTS, ACTION_SLOTS, ROWS, ROW_BUCKETS, MASK_ROOTS, ACTION_ROOTS, BUCKET_ROOTS}
use Rattle.block_codec.specs.declared.places.TheConstants.{TABLES}
use Rattle.miniq_pair.specs.Heads.{head_root}
use Rattle.miniq_pair.specs.Pairs.{first_block_of}
use Rattle.hook_law.specs.Places.{mask_root, action_root, bucket_root}
use Rattle.hook_law.specs.Standing.{Role, IsIn, IsUnused, Stands}
use Rattle.hook_store_law.specs.Stated.{hook_meaning}
use Rattle.hook_store_law.specs.Blocks.{hook_codec}
use Rattle.desk_pools.specs.OfNumbers.Numbers.{PoolNumbers}
use Rattle.root_pool_laws.specs.Blocks.{IsBlockOf, HasBlock, IsLeft}
use Rattle.root_pool_laws.specs.Pools.{IsPool, IsEmptyRoot}
use Rattle.root_pool_laws.proofs.Apart.{in_append, in_left, in_right}
use Rattle.root_pool_laws.proofs.Blocks.{has_push, unnamed_end, free_stays, left_stays, one_root_stays}
use Rattle.root_pool_laws.proofs.Roots.{empty_stays, unused_stays}
use Rattle.root_pool_laws.proofs.Giving.{pool_as, given_apart, given_was, pool_gives}
use Rattle.desk_pools.specs.declared.pools.IdlePlace.{IdlePlace}
use Rattle.desk_pools.specs.declared.pools.Pools.{Pools}
use Rattle.desk_pools.specs.Pools.{roots_of, gone_roots, IsFreeAt, IsLeftAt, IsIdle, IsHeadBlock, ArePools}
use Rattle.desk_pools.proofs.RootsOf.{in_roots, roots_have}
use Rattle.desk_pools.specs.Steps.{IsInPool, IsTaken, NothingComes, LeavesPools}

-- ---- one number is taken
none_in : (x : ℕ) → IsIn {A = ℕ} x [] → ⊥
none_in x at = let e = at.1 in cc e

one_in : (x y : ℕ) → IsIn {A = ℕ} x (y ∷ []) → x ≡ y
one_in x y at = go at.0 at.1
  where
    go : (place : ℕ) → slice_get {X = ℕ} (y ∷ []) place ≡ Some x → x ≡ y
    go zero e = let same : y ≡ x = cc e in sym same
    go (suc place) e = absurd (cc e)

module _ (size : ℕ) (F L : ℕ → Type 0) (old now : PoolNumbers) (x : ℕ) (p : IsPool size F L old.free old.left) (part : old.free ≡ now.free ++ x ∷ []) (same : now.left ≡ old.left) where
  pub pool_took : IsPool size F L now.free now.left
  unfolding IsDistinct
  pool_took = subst (λ (l : List ℕ). IsPool size F L now.free l) (append-nil old.left ∙ sym same)
      (pool_gives size F L F L old.free old.left now.free (x ∷ []) [] p part (λ y at f. f) (λ y at l. l) (λ y at. absurd (none_in y at)) tt)

  pub taken_is : IsTaken size F now x
  taken_is = let at : IsIn {A = ℕ} x (x ∷ []) = (0, refl) in
      let apart = given_apart size F L F L old.free old.left now.free (x ∷ []) [] p part x at in let was = given_was size F L F L old.free old.left now.free (x ∷ []) [] p part x at in record {
        small = was.0;
        free = was.1;
        apart = λ in_. sort apart in_;
      }
    where
      sort : (IsIn x now.free → ⊥) × (IsIn x old.left → ⊥) → IsInPool x now → ⊥
      sort apart (inl at) = apart.0 at
      sort apart (inr at) = apart.1 (subst (IsIn x) same at)

-- a number that left, behind the others that did
pub pool_left : (size : ℕ) (F L : ℕ → Type 0) (old now : PoolNumbers) (x : ℕ) → IsPool size F L old.free old.left → now.free ≡ old.free → now.left ≡ old.left ++ x ∷ []
    → x < size → L x → (IsInPool x old → ⊥) → IsPool size F L now.free now.left
unfolding IsDistinct
pool_left size F L old now x p same more small left apart = subst (λ (l : List ℕ). IsPool size F L l now.left) (sym same) (subst (λ (l : List ℕ). IsPool size F L old.free l) (sym more)
    (pool_gives size F L F L old.free old.left old.free [] (x ∷ []) p (sym (append-nil old.free)) (λ y at f. f) (λ y at l. l)
    (λ y at. let is = one_in y x at in (subst (λ (n : ℕ). n < size) (sym is) small, subst L (sym is) left, (λ in_. apart (inl (subst (λ (n : ℕ). IsIn n old.free) is in_))), (λ in_. apart (inr (subst (λ (n : ℕ). IsIn n old.left) is in_)))))
    (tt, tt)))

-- ---- the roots of what is gone
more_roots : (first width : ℕ) (some more : List ℕ) → ((x : ℕ) → IsIn x some → IsIn x more) → (root : ℕ) → IsIn root (roots_of first width some) → IsIn root (roots_of first width more)
more_roots first width some more all root at = let f = in_roots first width some root at in
    subst (λ (n : ℕ). IsIn n (roots_of first width more)) (sym f.4) (roots_have first width more f.0 f.2 (all f.0 f.1) f.3)

-- no fewer are, where no fewer slots and rows left
gone_more : (pools now : Pools) → ((x : ℕ) → IsIn x pools.masks.left → IsIn x now.masks.left) → ((x : ℕ) → IsIn x pools.actions.left → IsIn x now.actions.left)
    → ((x : ℕ) → IsIn x pools.rows.left → IsIn x now.rows.left) → (root : ℕ) → IsIn root (gone_roots pools) → IsIn root (gone_roots now)
gone_more pools now masks actions rows root at =
    sort (in_append (roots_of MASK_ROOTS 1 pools.masks.left ++ roots_of ACTION_ROOTS 1 pools.actions.left) (roots_of BUCKET_ROOTS ROW_BUCKETS pools.rows.left) root at)
  where
    front : List ℕ
    front = roots_of MASK_ROOTS 1 now.masks.left ++ roots_of ACTION_ROOTS 1 now.actions.left

    two : IsIn root (roots_of MASK_ROOTS 1 pools.masks.left) ⊎ IsIn root (roots_of ACTION_ROOTS 1 pools.actions.left) → IsIn root front
    two (inl one) = in_left (roots_of MASK_ROOTS 1 now.masks.left) (roots_of ACTION_ROOTS 1 now.actions.left) root (more_roots MASK_ROOTS 1 pools.masks.left now.masks.left masks root one)
    two (inr one) = in_right (roots_of MASK_ROOTS 1 now.masks.left) (roots_of ACTION_ROOTS 1 now.actions.left) root (more_roots ACTION_ROOTS 1 pools.actions.left now.actions.left actions root one)

    sort : IsIn root (roots_of MASK_ROOTS 1 pools.masks.left ++ roots_of ACTION_ROOTS 1 pools.actions.left) ⊎ IsIn root (roots_of BUCKET_ROOTS ROW_BUCKETS pools.rows.left) → IsIn root (gone_roots now)
    sort (inl one) = in_left front (roots_of BUCKET_ROOTS ROW_BUCKETS now.rows.left) root (two (in_append (roots_of MASK_ROOTS 1 pools.masks.left) (roots_of ACTION_ROOTS 1 pools.actions.left) root one))
    sort (inr one) = in_right front (roots_of BUCKET_ROOTS ROW_BUCKETS now.rows.left) root (more_roots BUCKET_ROOTS ROW_BUCKETS pools.rows.left now.rows.left rows root one)

-- ---- all pools, of which one changed
module _ (pools : Pools) (h : List (Commit Edit)) (b : ℕ) (p : ArePools pools h b) where
  pub blocks_now : (now : PoolNumbers) → IsPool POOL_BLOCKS (IsUnnamed b h) (IsLeft (gone_roots pools) h) now.free now.left → ArePools (record pools { blocks = now }) h b
  blocks_now now q = record { blocks = q; rows = p.rows; masks = p.masks; actions = p.actions; ingress = p.ingress; egress = p.egress; one_root = p.one_root; heads = p.heads }

  -- blocks that left stay so where no fewer roots are gone
  still_left : (now : Pools) → ((root : ℕ) → IsIn root (gone_roots pools) → IsIn root (gone_roots now)) → IsPool POOL_BLOCKS (IsUnnamed b h) (IsLeft (gone_roots now) h) pools.blocks.free pools.blocks.left
  still_left now still = pool_as POOL_BLOCKS (IsUnnamed b h) (IsUnnamed b h) (IsLeft (gone_roots pools) h) (IsLeft (gone_roots now) h) pools.blocks.free pools.blocks.left
      (λ x at f. f) (λ x at left r n. still r (left r n)) p.blocks

  -- where no fewer mask slots left
  pub masks_now : (now : PoolNumbers) → ((x : ℕ) → IsIn x pools.masks.left → IsIn x now.left) → IsPool MASK_SLOTS (IsFreeAt h b MASK_ROOTS 1) (IsLeftAt h MASK_ROOTS 1) now.free now.left
      → ArePools (record pools { masks = now }) h b
  masks_now now more q = record {
    blocks = still_left (record pools { masks = now }) (gone_more pools (record pools { masks = now }) more (λ x at. at) (λ x at. at));
    rows = p.rows;
    masks = q;
    actions = p.actions;
    ingress = p.ingress;
    egress = p.egress;
    one_root = p.one_root;
    heads = p.heads;
  }

  -- or action slots
  pub actions_now : (now : PoolNumbers) → ((x : ℕ) → IsIn x pools.actions.left → IsIn x now.left) → IsPool ACTION_SLOTS (IsFreeAt h b ACTION_ROOTS 1) (IsLeftAt h ACTION_ROOTS 1) now.free now.left
      → ArePools (record pools { actions = now }) h b
  actions_now now more q = record {
    blocks = still_left (record pools { actions = now }) (gone_more pools (record pools { actions = now }) (λ x at. at) more (λ x at. at));
    rows = p.rows;
    masks = p.masks;
    actions = q;
    ingress = p.ingress;
    egress = p.egress;
    one_root = p.one_root;
    heads = p.heads;
  }

  -- or rows
  pub rows_now : (now : PoolNumbers) → ((x : ℕ) → IsIn x pools.rows.left → IsIn x now.left) → IsPool ROWS (IsFreeAt h b BUCKET_ROOTS ROW_BUCKETS) (IsLeftAt h BUCKET_ROOTS ROW_BUCKETS) now.free now.left
      → ArePools (record pools { rows = now }) h b
  rows_now now more q = record {
    blocks = still_left (record pools { rows = now }) (gone_more pools (record pools { rows = now }) (λ x at. at) (λ x at. at) more);
    rows = q;
    masks = p.masks;
    actions = p.actions;
    ingress = p.ingress;
    egress = p.egress;
    one_root = p.one_root;
    heads = p.heads;
  }

-- ---- a commit
module _ (pools : Pools) (h : List (Commit Edit)) (b : ℕ) (c : Commit Edit) (given : List ℕ) (low : b ≤ length h) (p : ArePools pools h b) (leaves : LeavesPools pools h b c given) where
  not_given : (block : ℕ) → IsInPool block pools.blocks → IsIn block given → ⊥
  not_given block in_ at = leaves.taken block at in_

  block_free : (block : ℕ) → (IsIn block given → ⊥) → IsUnnamed b h block → IsUnnamed b (h ++ c ∷ []) block
  block_free block other free = free_stays h c given leaves.spends b low block other free

  -- the roots of a number of a pool
  free_at : (first width number : ℕ) → ((j : ℕ) → j < width → NothingComes h c (first + width * number + j)) → IsFreeAt h b first width number → IsFreeAt (h ++ c ∷ []) b first width number
  free_at first width number none free j less = unused_stays hook_meaning hook_codec h b c (first + width * number + j) low (none j less) (free j less)

  left_at : (first width number : ℕ) → ((j : ℕ) → j < width → NothingComes h c (first + width * number + j)) → IsLeftAt h first width number → IsLeftAt (h ++ c ∷ []) first width number
  left_at first width number none left j less = empty_stays hook_meaning hook_codec h c (first + width * number + j) (none j less) (left j less)

  pool_on : (size first width : ℕ) (numbers : PoolNumbers) → ((number j : ℕ) → IsInPool number numbers → j < width → NothingComes h c (first + width * number + j))
      → IsPool size (IsFreeAt h b first width) (IsLeftAt h first width) numbers.free numbers.left
      → IsPool size (IsFreeAt (h ++ c ∷ []) b first width) (IsLeftAt (h ++ c ∷ []) first width) numbers.free numbers.left
  pool_on size first width numbers none q = pool_as size (IsFreeAt h b first width) (IsFreeAt (h ++ c ∷ []) b first width) (IsLeftAt h first width) (IsLeftAt (h ++ c ∷ []) first width) numbers.free numbers.left
      (λ x at f. free_at first width x (λ j less. none x j (inl at) less) f) (λ x at l. left_at first width x (λ j less. none x j (inr at) less) l) q

  single : (first number j : ℕ) → j < 1 → first + number ≡ first + 1 * number + j
  single first number j less = omega (arith, less)

  idle_on : (hook : Hook) (idle : IdlePlace) → IsIdle h b hook idle → IsIdle (h ++ c ∷ []) b hook idle
  idle_on hook idle q = record {
    within = q.within;
    none = λ at less r has. sort at less r (has_push h c r (first_block_of hook idle.place + at) has);
    free = λ is at less. block_free (first_block_of hook idle.place + at) (λ in_. head_block at (leaves.small (first_block_of hook idle.place + at) in_)) (q.free is at less);
  }
    where
      head_block : (at : ℕ) → first_block_of hook idle.place + at < POOL_BLOCKS → ⊥
      head_block at less = omega (arith, less)

      sort : (at : ℕ) → at < TABLES → (r : ℕ) → HasBlock h r (first_block_of hook idle.place + at) ⊎ ((c.root ≡ r) × IsBlockOf (first_block_of hook idle.place + at) c.named.chain) → ⊥
      sort at less r (inl before) = q.none at less r before
      sort at less r (inr own) = spent (leaves.spends own.1.0 own.1.1 own.1.2)
        where
          spent : IsIn own.1.1.block given ⊎ HasBlock h c.root own.1.1.block → ⊥
          spent (inl g) = head_block at (subst (λ (n : ℕ). n < POOL_BLOCKS) own.1.3 (leaves.small own.1.1.block g))
          spent (inr m) = q.none at less c.root (subst (HasBlock h c.root) own.1.3 m)

  pub pools_commit : ArePools pools (h ++ c ∷ []) b
  pools_commit = record {
    blocks = pool_as POOL_BLOCKS (IsUnnamed b h) (IsUnnamed b (h ++ c ∷ [])) (IsLeft (gone_roots pools) h) (IsLeft (gone_roots pools) (h ++ c ∷ [])) pools.blocks.free pools.blocks.left
        (λ x at f. block_free x (not_given x (inl at)) f)
        (λ x at l. left_stays h c given leaves.spends (gone_roots pools) (gone_roots pools) (λ r in_. in_) x (not_given x (inr at)) l) p.blocks;
    rows = pool_on ROWS BUCKET_ROOTS ROW_BUCKETS pools.rows (λ row j in_ less. leaves.rows row j in_ less) p.rows;
    masks = pool_on MASK_SLOTS MASK_ROOTS 1 pools.masks (λ slot j in_ less. subst (NothingComes h c) (single MASK_ROOTS slot j less) (leaves.masks slot in_)) p.masks;
    actions = pool_on ACTION_SLOTS ACTION_ROOTS 1 pools.actions (λ slot j in_ less. subst (NothingComes h c) (single ACTION_ROOTS slot j less) (leaves.actions slot in_)) p.actions;
    ingress = idle_on Ingress pools.ingress p.ingress;
    egress = idle_on Egress pools.egress p.egress;
    one_root = one_root_stays h c given leaves.spends b low p.one_root leaves.free;
    heads = λ r block high has. own_head r block high (has_push h c r block has);
  }
    where
      own_head : (r block : ℕ) → POOL_BLOCKS ≤ block → HasBlock h r block ⊎ ((c.root ≡ r) × IsBlockOf block c.named.chain) → (hook : Hook) × (r ≡ head_root hook) × IsHeadBlock hook block
      own_head r block high (inl before) = p.heads r block high before
      own_head r block high (inr own) = spent (leaves.spends own.1.0 own.1.1 own.1.2)
        where
          spent : IsIn own.1.1.block given ⊎ HasBlock h c.root own.1.1.block → (hook : Hook) × (r ≡ head_root hook) × IsHeadBlock hook block
          spent (inl g) = let small = leaves.small block (subst (λ (n : ℕ). IsIn n given) own.1.3 g) in absurd (omega (arith, high, small))
          spent (inr m) = p.heads r block high (subst (λ (q : ℕ). HasBlock h q block) own.0 (subst (HasBlock h c.root) own.1.3 m))

-- ---- what is gone is empty
pub gone_empty : (pools : Pools) (h : List (Commit Edit)) (b root : ℕ) → ArePools pools h b → IsIn root (gone_roots pools) → IsEmptyRoot hook_meaning hook_codec h root
gone_empty pools h b root p at = sort (in_append (roots_of MASK_ROOTS 1 pools.masks.left ++ roots_of ACTION_ROOTS 1 pools.actions.left) (roots_of BUCKET_ROOTS ROW_BUCKETS pools.rows.left) root at)
  where
    of_pool : (first width size : ℕ) (F : ℕ → Type 0) (free left : List ℕ) → IsPool size F (IsLeftAt h first width) free left → IsIn root (roots_of first width left) → IsEmptyRoot hook_meaning hook_codec h root
    of_pool first width size F free left q in_ = let f = in_roots first width left root in_ in
        subst (IsEmptyRoot hook_meaning hook_codec h) (sym f.4) (q.have_left f.1.0 f.0 f.1.1 f.2 f.3)

    two : IsIn root (roots_of MASK_ROOTS 1 pools.masks.left) ⊎ IsIn root (roots_of ACTION_ROOTS 1 pools.actions.left) → IsEmptyRoot hook_meaning hook_codec h root
    two (inl one) = of_pool MASK_ROOTS 1 MASK_SLOTS (IsFreeAt h b MASK_ROOTS 1) pools.masks.free pools.masks.left p.masks one
    two (inr one) = of_pool ACTION_ROOTS 1 ACTION_SLOTS (IsFreeAt h b ACTION_ROOTS 1) pools.actions.free pools.actions.left p.actions one

    sort : IsIn root (roots_of MASK_ROOTS 1 pools.masks.left ++ roots_of ACTION_ROOTS 1 pools.actions.left) ⊎ IsIn root (roots_of BUCKET_ROOTS ROW_BUCKETS pools.rows.left) → IsEmptyRoot hook_meaning hook_codec h root
    sort (inl one) = two (in_append (roots_of MASK_ROOTS 1 pools.masks.left) (roots_of ACTION_ROOTS 1 pools.actions.left) root one)
    sort (inr one) = of_pool BUCKET_ROOTS ROW_BUCKETS ROWS (IsFreeAt h b BUCKET_ROOTS ROW_BUCKETS) pools.rows.free pools.rows.left p.rows one

-- a block that the root of something that stands has is in no pool
pub standing_block : (pools : Pools) (h : List (Commit Edit)) (b r block : ℕ) (x : Role) → b ≤ length h → ArePools pools h b → HasBlock h r block → Stands hook_meaning hook_codec h r x → IsInPool block pools.blocks → ⊥
standing_block pools h b r block x low p has stands (inl at) = unnamed_end h b block low (p.blocks.may_be_given at.0 block at.1) r has
standing_block pools h b r block x low p has stands (inr at) = gone_empty pools h b r p (p.blocks.have_left at.0 block at.1 r has) x stands
