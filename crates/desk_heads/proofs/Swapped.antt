-- Pools under the commit that gives a hook its tables anew: the places turn.
use Rattle.std.proofs.Common.{◌≡◌, ◌≢◌, ◌∙◌, ◌⊎◌, inl, inr, ℕ, zero, suc, ◌+◌, ◌-◌, ◌*◌, ◌<◌, ◌≤◌, List, [], ◌∷◌, ◌++◌, length, map, slice_get, Some, refl, sym, ap, subst, arith}
use mathlib.Core.Logic.{dite}
use native.Mathlib.Decide.{ℕ_discrete}
use Rattle.std.proofs.lemmas.Option.{same_Some}
use Rattle.tc_base.specs.declared.hook.Hook.{Hook}
use Rattle.tc_base.specs.declared.hook.Hook.TheVariants.{Ingress, Egress}
use Rattle.store_history.specs.declared.history.Commit.{Commit}
use Rattle.store_history.specs.declared.history.Link.{Link}
use Rattle.store_history.specs.declared.history.Named.{Named}
use Rattle.store_history.specs.History.{root_of}
use Rattle.store_history.proofs.Histories.{root_own, root_other}
use Rattle.pin_store.specs.Calls.{IsUnnamed}
use Rattle.filter_state.specs.declared.edit.Edit.{Edit}
use Rattle.block_codec.specs.declared.table.StoredTable.{StoredTable}
use Rattle.store_history.specs.declared.places.TheConstants.{POOL_BLOCKS, MASK_SLOTS, ACTION_SLOTS, ROWS, ROW_BUCKETS, MASK_ROOTS, ACTION_ROOTS, BUCKET_ROOTS}
use Rattle.miniq_pair.specs.Heads.{head_root}
use Rattle.miniq_pair.specs.Pairs.{first_block_of, table_links, swap_commit}
use Rattle.hook_law.specs.Places.{mask_root, action_root, bucket_root}
use Rattle.hook_law.specs.Standing.{IsIn}
use Rattle.hook_store_law.specs.Stated.{hook_meaning}
use Rattle.hook_store_law.specs.Blocks.{hook_codec}
use Rattle.root_pool_laws.specs.Blocks.{IsBlockOf, HasBlock, IsLeft, Spends}
use Rattle.root_pool_laws.specs.Pools.{IsPool}
use Rattle.root_pool_laws.proofs.Apart.{in_left, in_right}
use Rattle.root_pool_laws.proofs.Blocks.{has_push, free_stays, left_stays, one_root_stays}
use Rattle.root_pool_laws.proofs.Giving.{pool_as}
use Rattle.root_pool_laws.proofs.Roots.{empty_stays, unused_stays}
use Rattle.desk_masks.proofs.OfMaskResizes.Resizing.{mapped_at}
use Rattle.desk_heads.proofs.OfHeadCommits.Places.{map_at}
use Rattle.desk_pools.specs.OfNumbers.Numbers.{PoolNumbers}
use Rattle.desk_pools.specs.declared.pools.IdlePlace.{IdlePlace}
use Rattle.desk_pools.specs.declared.pools.Pools.{Pools}
use Rattle.desk_pools.specs.Pools.{gone_roots, IsFreeAt, IsLeftAt, IsIdle, IsHeadBlock, ArePools}
use Rattle.desk_pools.specs.Steps.{IsInPool, NothingComes, turned_place, turned}
use Rattle.desk_heads.specs.Handed.{idle_of}

-- ---- the blocks of a place
links_at : (first : ℕ) (tables : List StoredTable) (k : ℕ) (l : Link) → slice_get (table_links first tables) k ≡ Some l → (k < length tables) × (l.block ≡ first + k)
links_at first [] k l e = absurd (cc e)
links_at first (t ∷ []) zero l e = (omega arith, sym (ap (λ (m : Link). m.block) (same_Some _ l e)) ∙ omega arith)
links_at first (t ∷ []) (suc k) l e = absurd (cc e)
links_at first (t ∷ u ∷ ts) zero l e = (omega arith, sym (ap (λ (m : Link). m.block) (same_Some _ l e)) ∙ omega arith)
links_at first (t ∷ u ∷ ts) (suc k) l e = let r = links_at (first + 1) (u ∷ ts) k l e in let less = r.0 in let is = r.1 in (omega (arith, less), omega (arith, is))

first_is : (hook : Hook) (place : ℕ) → first_block_of hook place ≡ first_block_of hook 0 + 256 * place
first_is Ingress place = omega arith
first_is Egress place = omega arith

-- the places of different hooks are apart
hooks_apart : (hook other : Hook) (block : ℕ) → IsHeadBlock hook block → IsHeadBlock other block → hook ≡ other
hooks_apart Ingress Ingress block x z = refl
hooks_apart Egress Egress block x z = refl
hooks_apart Ingress Egress block x z = let a = x.below in let b = z.above in absurd (omega (arith, a, b))
hooks_apart Egress Ingress block x z = let a = x.above in let b = z.below in absurd (omega (arith, a, b))

pub in_place : (hook : Hook) (place at : ℕ) → place ≤ 1 → at < 256 → IsHeadBlock hook (first_block_of hook place + at)
in_place hook place at within less = let is = first_is hook place in record { above = omega (arith, is); below = omega (arith, is, within, less) }

pub above_pool : (hook : Hook) (block : ℕ) → IsHeadBlock hook block → POOL_BLOCKS ≤ block
above_pool Ingress block x = let a = x.above in omega (arith, a)
above_pool Egress block x = let a = x.above in omega (arith, a)

module _ (pools : Pools) (h : List (Commit Edit)) (b : ℕ) (hook : Hook) (place : ℕ) (tables : List StoredTable) (number : ℕ) (y : Edit) (low : b ≤ length h) (p : ArePools pools h b)
    (within : place ≤ 1) (few : length tables ≤ 256) (free : (at : ℕ) → at < 256 → IsUnnamed b h (first_block_of hook place + at))
    (masks : (slot : ℕ) → IsInPool slot pools.masks → NothingComes h (swap_commit hook place tables number y) (mask_root slot))
    (actions : (slot : ℕ) → IsInPool slot pools.actions → NothingComes h (swap_commit hook place tables number y) (action_root slot))
    (rows : (row k : ℕ) → IsInPool row pools.rows → k < 16 → NothingComes h (swap_commit hook place tables number y) (bucket_root row k)) where
  abbrev c : Commit Edit
  c = swap_commit hook place tables number y

  abbrev given : List ℕ
  given = map (λ (l : Link). l.block) c.named.chain

  spends : Spends h c given
  spends k l at = inl (k, map_at (λ (m : Link). m.block) c.named.chain k l at)

  -- what the chain has
  given_at : (block : ℕ) → IsIn block given → (at : ℕ) × (at < 256) × (block ≡ first_block_of hook place + at)
  given_at block i = let m = mapped_at (λ (l : Link). l.block) c.named.chain i.0 block i.1 in let l = links_at (first_block_of hook place) tables i.0 m.0 m.1 in let less = l.0 in (i.0, omega (arith, less, few), m.2 ∙ l.1)

  given_head : (block : ℕ) → IsIn block given → IsHeadBlock hook block
  given_head block i = let g = given_at block i in subst (IsHeadBlock hook) (sym g.2) (in_place hook place g.0 within g.1)

  not_pool : (block : ℕ) → block < POOL_BLOCKS → IsIn block given → ⊥
  not_pool block small i = let high = above_pool hook block (given_head block i) in absurd (omega (arith, small, high))

  given_free : (block : ℕ) → IsIn block given → IsUnnamed b h block
  given_free block i = let g = given_at block i in subst (IsUnnamed b h) (sym g.2) (free g.0 g.1)

  chain_given : (block : ℕ) → IsBlockOf block c.named.chain → IsIn block given
  chain_given block i = (i.0, map_at (λ (m : Link). m.block) c.named.chain i.0 i.1 i.2 ∙ ap Some i.3)

  -- ---- the pools
  small_in : (x : ℕ) → IsInPool x pools.blocks → x < POOL_BLOCKS
  small_in x (inl i) = let k = in_left pools.blocks.free pools.blocks.left x i in p.blocks.small k.0 x k.1
  small_in x (inr i) = let k = in_right pools.blocks.free pools.blocks.left x i in p.blocks.small k.0 x k.1

  blocks_on : IsPool POOL_BLOCKS (IsUnnamed b (h ++ c ∷ [])) (IsLeft (gone_roots pools) (h ++ c ∷ [])) pools.blocks.free pools.blocks.left
  blocks_on = pool_as POOL_BLOCKS (IsUnnamed b h) (IsUnnamed b (h ++ c ∷ [])) (IsLeft (gone_roots pools) h) (IsLeft (gone_roots pools) (h ++ c ∷ [])) pools.blocks.free pools.blocks.left
      (λ x at f. free_stays h c given spends b low x (not_pool x (small_in x (inl at))) f)
      (λ x at l. left_stays h c given spends (gone_roots pools) (gone_roots pools) (λ r i. i) x (not_pool x (small_in x (inr at))) l) p.blocks

  free_at : (first width n : ℕ) → ((j : ℕ) → j < width → NothingComes h c (first + width * n + j)) → IsFreeAt h b first width n → IsFreeAt (h ++ c ∷ []) b first width n
  free_at first width n none f j less = unused_stays hook_meaning hook_codec h b c (first + width * n + j) low (none j less) (f j less)

  left_at : (first width n : ℕ) → ((j : ℕ) → j < width → NothingComes h c (first + width * n + j)) → IsLeftAt h first width n → IsLeftAt (h ++ c ∷ []) first width n
  left_at first width n none l j less = empty_stays hook_meaning hook_codec h c (first + width * n + j) (none j less) (l j less)

  pool_on : (size first width : ℕ) (numbers : PoolNumbers) → ((n j : ℕ) → IsInPool n numbers → j < width → NothingComes h c (first + width * n + j))
      → IsPool size (IsFreeAt h b first width) (IsLeftAt h first width) numbers.free numbers.left
      → IsPool size (IsFreeAt (h ++ c ∷ []) b first width) (IsLeftAt (h ++ c ∷ []) first width) numbers.free numbers.left
  pool_on size first width numbers none q = pool_as size (IsFreeAt h b first width) (IsFreeAt (h ++ c ∷ []) b first width) (IsLeftAt h first width) (IsLeftAt (h ++ c ∷ []) first width) numbers.free numbers.left
      (λ x at f. free_at first width x (λ j less. none x j (inl at) less) f) (λ x at l. left_at first width x (λ j less. none x j (inr at) less) l) q

  single : (first n j : ℕ) → j < 1 → first + n ≡ first + 1 * n + j
  single first n j less = omega (arith, less)

  -- ---- blocks of heads
  heads_on : (r block : ℕ) → POOL_BLOCKS ≤ block → HasBlock (h ++ c ∷ []) r block → (k : Hook) × (r ≡ head_root k) × IsHeadBlock k block
  heads_on r block high has = sort (has_push h c r block has)
    where
      sort : HasBlock h r block ⊎ ((c.root ≡ r) × IsBlockOf block c.named.chain) → (k : Hook) × (r ≡ head_root k) × IsHeadBlock k block
      sort (inl before) = p.heads r block high before
      sort (inr own) = (hook, sym own.0, given_head block (chain_given block own.1))

  -- the place of another hook
  idle_other : (other : Hook) (idle : IdlePlace) → other ≢ hook → IsIdle h b other idle → IsIdle (h ++ c ∷ []) b other idle
  idle_other other idle ne q = record {
    within = q.within;
    none = λ at less r has. sort at less r (has_push h c r (first_block_of other idle.place + at) has);
    free = λ is at less. free_stays h c given spends b low (first_block_of other idle.place + at) (λ i. away at less i) (q.free is at less);
  }
    where
      away : (at : ℕ) → at < 256 → IsIn (first_block_of other idle.place + at) given → ⊥
      away at less i = ne (hooks_apart other hook (first_block_of other idle.place + at) (in_place other idle.place at q.within less) (given_head (first_block_of other idle.place + at) i))

      sort : (at : ℕ) → at < 256 → (r : ℕ) → HasBlock h r (first_block_of other idle.place + at) ⊎ ((c.root ≡ r) × IsBlockOf (first_block_of other idle.place + at) c.named.chain) → ⊥
      sort at less r (inl before) = q.none at less r before
      sort at less r (inr own) = away at less (chain_given (first_block_of other idle.place + at) own.1)

  -- a block of the place that was active
  abbrev last_block : ℕ → ℕ
  last_block at = first_block_of hook (1 - place) + at

  -- the hook's own: no root has a block of the place that was active
  gone_place : (at r : ℕ) → at < 256 → HasBlock (h ++ c ∷ []) r (first_block_of hook (1 - place) + at) → ⊥
  gone_place at r less has = dite (ℕ_discrete c.root r)
      (λ (own : c.root ≡ r). own_root (has.0, has.1, sym (ap (λ (n : Named). slice_get n.chain has.0) (root_own h c)) ∙ (ap (λ (q : ℕ). slice_get (root_of (h ++ c ∷ []) q).chain has.0) own ∙ has.2), has.3))
      (λ (ne : c.root ≢ r). other_root ne (p.heads r (last_block at) (above_pool hook (last_block at) is_head) (has.0, has.1, sym (ap (λ (n : Named). slice_get n.chain has.0) (root_other h c r ne)) ∙ has.2, has.3)))
    where
      is_head : IsHeadBlock hook (last_block at)
      is_head = in_place hook (1 - place) at (omega arith) less

      own_root : IsBlockOf (last_block at) c.named.chain → ⊥
      own_root i = let g = given_at (last_block at) (chain_given (last_block at) i) in let is = g.2 in let high = g.1 in let one = first_is hook place in let two = first_is hook (1 - place) in absurd (omega (arith, is, high, one, two, less, within))

      other_root : c.root ≢ r → (k : Hook) × (r ≡ head_root k) × IsHeadBlock k (last_block at) → ⊥
      other_root ne o = ne (sym (o.1 ∙ ap head_root (sym (hooks_apart hook o.0 (last_block at) is_head o.2))))

  idle_own : (idle : IdlePlace) → idle.place ≡ place → IsIdle (h ++ c ∷ []) b hook (turned_place idle)
  idle_own idle is = record {
    within = omega (arith, is, within);
    none = λ at less r has. gone_place at r less (subst (λ (n : ℕ). HasBlock (h ++ c ∷ []) r (first_block_of hook (1 - n) + at)) is has);
    free = λ e. absurd (cc e);
  }

  -- ---- all of it
  same_gone : gone_roots (turned hook pools) ≡ gone_roots pools
  same_gone = by hook
    where
      by : (k : Hook) → gone_roots (turned k pools) ≡ gone_roots pools
      by Ingress = refl
      by Egress = refl

  abbrev Rest : Pools → Type 0
  Rest q = IsPool POOL_BLOCKS (IsUnnamed b (h ++ c ∷ [])) (IsLeft (gone_roots q) (h ++ c ∷ [])) q.blocks.free q.blocks.left
      × IsPool ROWS (IsFreeAt (h ++ c ∷ []) b BUCKET_ROOTS ROW_BUCKETS) (IsLeftAt (h ++ c ∷ []) BUCKET_ROOTS ROW_BUCKETS) q.rows.free q.rows.left
      × IsPool MASK_SLOTS (IsFreeAt (h ++ c ∷ []) b MASK_ROOTS 1) (IsLeftAt (h ++ c ∷ []) MASK_ROOTS 1) q.masks.free q.masks.left
      × IsPool ACTION_SLOTS (IsFreeAt (h ++ c ∷ []) b ACTION_ROOTS 1) (IsLeftAt (h ++ c ∷ []) ACTION_ROOTS 1) q.actions.free q.actions.left

  rest_on : Rest pools
  rest_on = (
    blocks_on,
    pool_on ROWS BUCKET_ROOTS ROW_BUCKETS pools.rows (λ row j i less. rows row j i less) p.rows,
    pool_on MASK_SLOTS MASK_ROOTS 1 pools.masks (λ slot j i less. subst (NothingComes h c) (single MASK_ROOTS slot j less) (masks slot i)) p.masks,
    pool_on ACTION_SLOTS ACTION_ROOTS 1 pools.actions (λ slot j i less. subst (NothingComes h c) (single ACTION_ROOTS slot j less) (actions slot i)) p.actions,
  )

  rest_turned : Rest (turned hook pools)
  rest_turned = by hook
    where
      by : (k : Hook) → Rest (turned k pools)
      by Ingress = rest_on
      by Egress = rest_on

  turned_idle : (idle_of hook pools).place ≡ place → IsIdle (h ++ c ∷ []) b Ingress (turned hook pools).ingress × IsIdle (h ++ c ∷ []) b Egress (turned hook pools).egress
  turned_idle is = by hook refl is
    where
      by : (k : Hook) → hook ≡ k → (idle_of k pools).place ≡ place → IsIdle (h ++ c ∷ []) b Ingress (turned k pools).ingress × IsIdle (h ++ c ∷ []) b Egress (turned k pools).egress
      by Ingress same at = (subst (λ (k : Hook). IsIdle (h ++ c ∷ []) b k (turned_place pools.ingress)) same (idle_own pools.ingress at), idle_other Egress pools.egress (λ e. absurd (cc (e, same))) p.egress)
      by Egress same at = (idle_other Ingress pools.ingress (λ e. absurd (cc (e, same))) p.ingress, subst (λ (k : Hook). IsIdle (h ++ c ∷ []) b k (turned_place pools.egress)) same (idle_own pools.egress at))

  pub pools_turned : (idle_of hook pools).place ≡ place → ArePools (turned hook pools) (h ++ c ∷ []) b
  pools_turned is = let idle = turned_idle is in record {
    blocks = rest_turned.0;
    rows = rest_turned.1;
    masks = rest_turned.2;
    actions = rest_turned.3;
    ingress = idle.0;
    egress = idle.1;
    one_root = one_root_stays h c given spends b low p.one_root given_free;
    heads = heads_on;
  }
