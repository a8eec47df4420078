-- Pools as the base rises, and as what left is emptied.
use Rattle.std.proofs.Common.{◌≡◌, ◌≢◌, ◌∙◌, ◌⊎◌, inl, inr, ℕ, zero, suc, ◌+◌, ◌*◌, ◌<◌, ◌≤◌, List, [], ◌∷◌, ◌++◌, length, take, slice_get, eqb, Option, Some, None, refl, sym, ap, subst, arith, append_assoc, append-nil, length-append, le_refl, true}
use Rattle.std.specs.List.{IsDistinct}
use Rattle.std.proofs.lemmas.List.{take_all}
use Rattle.store_history.specs.declared.history.Link.{Link}
use Rattle.store_history.specs.declared.history.Commit.{Commit}
use Rattle.store_history.specs.History.{root_of, IsNamed}
use Rattle.store_history.proofs.Histories.{named_later}
use Rattle.store_history.specs.declared.places.TheConstants.{MASK_SLOTS, ACTION_SLOTS, ROWS, ROW_BUCKETS, MASK_ROOTS, ACTION_ROOTS, BUCKET_ROOTS, POOL_BLOCKS}
use Rattle.pin_store.specs.Calls.{IsUnnamed}
use Rattle.filter_state.specs.declared.edit.Edit.{Edit}
use Rattle.hook_law.specs.Meaning.{point_of}
use Rattle.hook_law.specs.Standing.{Role, Stands, IsUnused}
use Rattle.hook_store_law.specs.Kept.{IsKeptAt}
use Rattle.hook_law.proofs.Standing.{unused_rises, gone_unused, unused_end}
use Rattle.hook_law.proofs.Sparing.{Spared}
use Rattle.hook_law.proofs.Lists.{root_of_none, root_of_empty}
use Rattle.tc_base.specs.declared.hook.Hook.{Hook}
use Rattle.tc_base.specs.declared.hook.Hook.TheVariants.{Ingress, Egress}
use Rattle.block_codec.specs.declared.places.TheConstants.{TABLES}
use Rattle.miniq_pair.specs.Pairs.{first_block_of}
use Rattle.hook_store_law.specs.Stated.{hook_meaning}
use Rattle.hook_store_law.specs.Blocks.{hook_codec}
use Rattle.root_pool_laws.specs.Pools.{IsPool, IsEmptyRoot}
use Rattle.root_pool_laws.specs.Blocks.{HasBlock, IsLeft}
use Rattle.hook_law.specs.Standing.{IsIn}
use Rattle.desk_pools.specs.declared.pools.IdlePlace.{IdlePlace}
use Rattle.desk_pools.specs.declared.pools.Pools.{Pools}
use Rattle.desk_pools.specs.Pools.{roots_of, gone_roots, IsFreeAt, IsLeftAt, IsIdle, ArePools}
use Rattle.desk_pools.specs.OfTidying.Tidied.{empty_at, emptying}
use Rattle.root_pool_laws.proofs.Blocks.{free_stays, none_unnamed}
use Rattle.root_pool_laws.proofs.Giving.{pool_as}
use Rattle.root_pool_laws.proofs.Apart.{in_append, in_right}
use Rattle.desk_pools.proofs.OfTidying.Emptied.{mapped_at, at_mapped, numbers_unused, emptying_append, AllUnused, emptied, emptied_kept}

-- ---- one pool
-- all that left is free
pub pool_freed : (size : ℕ) (F G L M : ℕ → Type 0) (free left free2 left2 : List ℕ) → free2 ≡ free ++ left → left2 ≡ [] → ((x : ℕ) → F x → G x) → ((x : ℕ) → L x → G x) → IsPool size F L free left
    → IsPool size G M free2 left2
pool_freed size F G L M free left free2 left2 is none to from p =
    let whole : free2 ++ left2 ≡ free ++ left = (λ t. is t ++ none t) ∙ append-nil (free ++ left) in record {
      different = subst (λ (l : List ℕ). IsDistinct eqb l) (sym whole) p.different;
      small = λ place x e. p.small place x (sym (ap (λ (l : List ℕ). slice_get l place) whole) ∙ e);
      may_be_given = λ place x e. sort x (in_append free left x (place, sym (ap (λ (l : List ℕ). slice_get l place) is) ∙ e));
      have_left = λ place x e. absurd (empty place x (sym (ap (λ (l : List ℕ). slice_get l place) none) ∙ e));
    }
  where
    sort : (x : ℕ) → IsIn x free ⊎ IsIn x left → G x
    sort x (inl at) = to x (p.may_be_given at.0 x at.1)
    sort x (inr at) = from x (p.have_left at.0 x at.1)

    empty : (place x : ℕ) → slice_get {X = ℕ} [] place ≡ Some x → ⊥
    empty place x e = cc e

-- ---- a rising base
free_rises : (h : List (Commit Edit)) (b c first width x : ℕ) → b ≤ c → IsFreeAt h b first width x → IsFreeAt h c first width x
free_rises h b c first width x le free j less = unused_rises hook_meaning hook_codec h b c (first + width * x + j) le (free j less)

unnamed_rises : (h : List (Commit Edit)) (b c x : ℕ) → b ≤ c → IsUnnamed b h x → IsUnnamed c h x
unnamed_rises h b c x le free l named = free l (named_later b c h l le named)

idle_rises : (h : List (Commit Edit)) (b c : ℕ) (hook : Hook) (idle : IdlePlace) → b ≤ c → IsIdle h b hook idle → IsIdle h c hook idle
idle_rises h b c hook idle le p = record {
  within = p.within;
  none = p.none;
  free = λ is at less. unnamed_rises h b c (first_block_of hook idle.place + at) le (p.free is at less);
}

pub pools_rise : (pools : Pools) (h : List (Commit Edit)) (b c : ℕ) → b ≤ c → ArePools pools h b → ArePools pools h c
pools_rise pools h b c le p = record {
  masks = pool_as MASK_SLOTS (IsFreeAt h b MASK_ROOTS 1) (IsFreeAt h c MASK_ROOTS 1) (IsLeftAt h MASK_ROOTS 1) (IsLeftAt h MASK_ROOTS 1) pools.masks.free pools.masks.left (λ x at f. free_rises h b c MASK_ROOTS 1 x le f) (λ x at l. l) p.masks;
  actions = pool_as ACTION_SLOTS (IsFreeAt h b ACTION_ROOTS 1) (IsFreeAt h c ACTION_ROOTS 1) (IsLeftAt h ACTION_ROOTS 1) (IsLeftAt h ACTION_ROOTS 1) pools.actions.free pools.actions.left (λ x at f. free_rises h b c ACTION_ROOTS 1 x le f) (λ x at l. l) p.actions;
  rows = pool_as ROWS (IsFreeAt h b BUCKET_ROOTS ROW_BUCKETS) (IsFreeAt h c BUCKET_ROOTS ROW_BUCKETS) (IsLeftAt h BUCKET_ROOTS ROW_BUCKETS) (IsLeftAt h BUCKET_ROOTS ROW_BUCKETS) pools.rows.free pools.rows.left (λ x at f. free_rises h b c BUCKET_ROOTS ROW_BUCKETS x le f) (λ x at l. l) p.rows;
  blocks = pool_as POOL_BLOCKS (IsUnnamed b h) (IsUnnamed c h) (IsLeft (gone_roots pools) h) (IsLeft (gone_roots pools) h) pools.blocks.free pools.blocks.left
      (λ x at f. unnamed_rises h b c x le f) (λ x at l. l) p.blocks;
  ingress = idle_rises h b c Ingress pools.ingress le p.ingress;
  egress = idle_rises h b c Egress pools.egress le p.egress;
  one_root = p.one_root;
  heads = p.heads;
}

-- where the base is the end, what left is unused
pub left_free : (h : List (Commit Edit)) (b first width x : ℕ) → b ≡ length h → IsLeftAt h first width x → IsFreeAt h b first width x
left_free h b first width x end left j less = subst (λ (n : ℕ). IsUnused hook_meaning hook_codec n h (first + width * x + j)) (sym end)
    (gone_unused hook_meaning hook_codec h (first + width * x + j) (left j less))

-- ---- the commits that empty
module _ (h : List (Commit Edit)) (point : ℕ) (roots : List ℕ) where
  abbrev after : List (Commit Edit)
  after = h ++ emptying point roots

  in_none : (r : ℕ) (place : ℕ) (l : Link) → slice_get (root_of after r).chain place ≡ Some l → IsIn r roots → ⊥
  in_none r place l there at = let e = root_of_empty h (emptying point roots) at.0 (empty_at point r) (λ j d is. let m = mapped_at (empty_at point) roots j d is in ap (λ (c : Commit Edit). c.named.chain) m.2)
      (at_mapped (empty_at point) roots at.0 r at.1) in
      let bad : slice_get {X = Link} [] place ≡ Some l = sym (ap (λ (ls : List Link). slice_get ls place) e) ∙ there in absurd (cc bad)

  others_same : (r : ℕ) → (IsIn r roots → ⊥) → root_of after r ≡ root_of h r
  others_same r none = root_of_none h (emptying point roots) r (λ j c at same. let m = mapped_at (empty_at point) roots j c at in
      let is : m.0 ≡ r = sym (ap (λ (d : Commit Edit). d.root) m.2) ∙ same in none (j, m.1 ∙ ap Some is))

  -- what a root names afterwards it named before, and it is none of these
  pub names_before : (r blk : ℕ) → HasBlock after r blk → HasBlock h r blk × (IsIn r roots → ⊥)
  names_before r blk n = let none = in_none r n.0 n.1 n.2 in ((n.0, n.1, sym (ap (λ named. slice_get named.chain n.0) (others_same r none)) ∙ n.2, n.3), none)

pub unnamed_emptied : (roots : List ℕ) (h : List (Commit Edit)) (b point x : ℕ) → b ≤ length h → IsUnnamed b h x → IsUnnamed b (h ++ emptying point roots) x
unnamed_emptied [] h b point x low free = subst (λ (l : List (Commit Edit)). IsUnnamed b l x) (sym (append-nil h)) free
unnamed_emptied (r ∷ rs) h b point x low free = let c = empty_at point r in
    subst (λ (l : List (Commit Edit)). IsUnnamed b l x) (append_assoc h (c ∷ []) (emptying point rs))
    (unnamed_emptied rs (h ++ c ∷ []) b point x (omega (arith, low, length-append h (c ∷ []))) (free_stays h c [] (λ place l e. absurd (cc e)) b low x (λ at. let e = at.1 in cc e) free))

module _ (h : List (Commit Edit)) (b point : ℕ) (kept : IsKeptAt h b point) (roots : List ℕ)
    (unused : AllUnused h b point kept roots) where
  -- a free number stays free
  pub free_after : (first width x : ℕ) → IsFreeAt h b first width x → IsFreeAt (h ++ emptying point roots) b first width x
  free_after first width x free j less = (emptied h b point kept roots unused).unused (first + width * x + j) (free j less)

-- ---- all that left
module _ (old : Pools) (h : List (Commit Edit)) (b point : ℕ) (kept : IsKeptAt h b point) (end : b ≡ length h) (p : ArePools old h b) where
  all_unused : (first width size : ℕ) (F : ℕ → Type 0) (free left : List ℕ) → IsPool size F (IsLeftAt h first width) free left → (place root : ℕ) → slice_get (roots_of first width left) place ≡ Some root
      → IsUnused hook_meaning hook_codec b h root
  all_unused first width size F free left q = numbers_unused h b first width left (λ place x e. left_free h b first width x end (q.have_left place x e))

  pub gone_unused_roots : AllUnused h b point kept (gone_roots old)
  gone_unused_roots place root e = sort (in_append (roots_of MASK_ROOTS 1 old.masks.left ++ roots_of ACTION_ROOTS 1 old.actions.left) (roots_of BUCKET_ROOTS ROW_BUCKETS old.rows.left) root (place, e))
    where
      first_two : IsIn root (roots_of MASK_ROOTS 1 old.masks.left) ⊎ IsIn root (roots_of ACTION_ROOTS 1 old.actions.left) → IsUnused hook_meaning hook_codec b h root
      first_two (inl at) = all_unused MASK_ROOTS 1 MASK_SLOTS (IsFreeAt h b MASK_ROOTS 1) old.masks.free old.masks.left p.masks at.0 root at.1
      first_two (inr at) = all_unused ACTION_ROOTS 1 ACTION_SLOTS (IsFreeAt h b ACTION_ROOTS 1) old.actions.free old.actions.left p.actions at.0 root at.1

      sort : IsIn root (roots_of MASK_ROOTS 1 old.masks.left ++ roots_of ACTION_ROOTS 1 old.actions.left) ⊎ IsIn root (roots_of BUCKET_ROOTS ROW_BUCKETS old.rows.left) → IsUnused hook_meaning hook_codec b h root
      sort (inl at) = first_two (in_append (roots_of MASK_ROOTS 1 old.masks.left) (roots_of ACTION_ROOTS 1 old.actions.left) root at)
      sort (inr at) = all_unused BUCKET_ROOTS ROW_BUCKETS ROWS (IsFreeAt h b BUCKET_ROOTS ROW_BUCKETS) old.rows.free old.rows.left p.rows at.0 root at.1

  pub gone_spared : Spared hook_meaning hook_codec b h (emptying point (gone_roots old))
  gone_spared = emptied h b point kept (gone_roots old) gone_unused_roots

  freed : (size first width : ℕ) (free left free2 left2 : List ℕ) → free2 ≡ free ++ left → left2 ≡ [] → IsPool size (IsFreeAt h b first width) (IsLeftAt h first width) free left
      → IsPool size (IsFreeAt (h ++ emptying point (gone_roots old)) b first width) (IsLeftAt (h ++ emptying point (gone_roots old)) first width) free2 left2
  freed size first width free left free2 left2 e none q =
      pool_freed size (IsFreeAt h b first width) (IsFreeAt (h ++ emptying point (gone_roots old)) b first width) (IsLeftAt h first width) (IsLeftAt (h ++ emptying point (gone_roots old)) first width) free left free2 left2 e none
      (λ x f. free_after h b point kept (gone_roots old) gone_unused_roots first width x f)
      (λ x l. free_after h b point kept (gone_roots old) gone_unused_roots first width x (left_free h b first width x end l)) q

  idle_emptied : (hook : Hook) (idle : IdlePlace) → IsIdle h b hook idle → IsIdle (h ++ emptying point (gone_roots old)) b hook idle
  idle_emptied hook idle q = record {
    within = q.within;
    none = λ at less r n. q.none at less r (names_before h point (gone_roots old) r (first_block_of hook idle.place + at) n).0;
    free = λ is at less. unnamed_emptied (gone_roots old) h b point (first_block_of hook idle.place + at) kept.low (q.free is at less);
  }

  pub gone_emptied : (new : Pools) → (new.masks.free ≡ old.masks.free ++ old.masks.left) × (new.masks.left ≡ [])
      → (new.actions.free ≡ old.actions.free ++ old.actions.left) × (new.actions.left ≡ [])
      → (new.rows.free ≡ old.rows.free ++ old.rows.left) × (new.rows.left ≡ []) → new.blocks ≡ old.blocks
      → (new.ingress ≡ old.ingress) × (new.egress ≡ old.egress) → ArePools new (h ++ emptying point (gone_roots old)) b
  gone_emptied new masks actions rows blocks places = record {
    one_root = λ r s block x y. p.one_root r s block (names_before h point (gone_roots old) r block x).0 (names_before h point (gone_roots old) s block y).0;
    heads = λ r block high x. p.heads r block high (names_before h point (gone_roots old) r block x).0;
    ingress = subst (IsIdle (h ++ emptying point (gone_roots old)) b Ingress) (sym places.0) (idle_emptied Ingress old.ingress p.ingress);
    egress = subst (IsIdle (h ++ emptying point (gone_roots old)) b Egress) (sym places.1) (idle_emptied Egress old.egress p.egress);
    masks = freed MASK_SLOTS MASK_ROOTS 1 old.masks.free old.masks.left new.masks.free new.masks.left masks.0 masks.1 p.masks;
    actions = freed ACTION_SLOTS ACTION_ROOTS 1 old.actions.free old.actions.left new.actions.free new.actions.left actions.0 actions.1 p.actions;
    rows = freed ROWS BUCKET_ROOTS ROW_BUCKETS old.rows.free old.rows.left new.rows.free new.rows.left rows.0 rows.1 p.rows;
    blocks = subst (λ q. IsPool POOL_BLOCKS (IsUnnamed b (h ++ emptying point (gone_roots old))) (IsLeft (gone_roots new) (h ++ emptying point (gone_roots old))) q.free q.left) (sym blocks)
        (pool_as POOL_BLOCKS (IsUnnamed b h) (IsUnnamed b (h ++ emptying point (gone_roots old))) (IsLeft (gone_roots old) h) (IsLeft (gone_roots new) (h ++ emptying point (gone_roots old)))
        old.blocks.free old.blocks.left (λ x at f. unnamed_emptied (gone_roots old) h b point x kept.low f)
        (λ x at l r n. let m = names_before h point (gone_roots old) r x n in absurd (m.1 (l r m.0))) p.blocks);
  }

  -- after the first of these roots were emptied
  pub part_kept : (roots : List ℕ) → AllUnused h b point kept roots → (g : List (Commit Edit)) (c : ℕ) → g ≡ h ++ emptying point roots → c ≡ b → IsKeptAt g c point
  part_kept roots unused g c seen base = subst (λ (n : ℕ). IsKeptAt g n point) (sym base) (subst (λ (l : List (Commit Edit)). IsKeptAt l b point) (sym seen) (emptied_kept h b point kept roots unused))

  pub part_free : (roots : List ℕ) → AllUnused h b point kept roots → (g : List (Commit Edit)) (c : ℕ) → g ≡ h ++ emptying point roots → c ≡ b
      → (first width x : ℕ) → IsLeftAt h first width x → IsFreeAt g c first width x
  part_free roots unused g c seen base first width x left = subst (λ (k : ℕ). IsFreeAt g k first width x) (sym base)
      (subst (λ (l : List (Commit Edit)). IsFreeAt l b first width x) (sym seen) (free_after h b point kept roots unused first width x (left_free h b first width x end left)))

  pub masks_unused : AllUnused h b point kept (roots_of MASK_ROOTS 1 old.masks.left)
  masks_unused = all_unused MASK_ROOTS 1 MASK_SLOTS (IsFreeAt h b MASK_ROOTS 1) old.masks.free old.masks.left p.masks

  pub two_unused : AllUnused h b point kept (roots_of MASK_ROOTS 1 old.masks.left ++ roots_of ACTION_ROOTS 1 old.actions.left)
  two_unused place root e = sort (in_append (roots_of MASK_ROOTS 1 old.masks.left) (roots_of ACTION_ROOTS 1 old.actions.left) root (place, e))
    where
      sort : IsIn root (roots_of MASK_ROOTS 1 old.masks.left) ⊎ IsIn root (roots_of ACTION_ROOTS 1 old.actions.left) → IsUnused hook_meaning hook_codec b h root
      sort (inl at) = masks_unused at.0 root at.1
      sort (inr at) = all_unused ACTION_ROOTS 1 ACTION_SLOTS (IsFreeAt h b ACTION_ROOTS 1) old.actions.free old.actions.left p.actions at.0 root at.1

-- a number that left is within its pool
pub left_small : (size : ℕ) (F L : ℕ → Type 0) (free left : List ℕ) → IsPool size F L free left → (place x : ℕ) → slice_get left place ≡ Some x → x < size
left_small size F L free left p place x e = let at = in_right free left x (place, e) in p.small at.0 x at.1

-- two lists of roots, one after the other
pub two_seen : (h g k : List (Commit Edit)) (point : ℕ) (xs ys : List ℕ) → g ≡ h ++ emptying point xs → k ≡ g ++ emptying point ys → k ≡ h ++ emptying point (xs ++ ys)
two_seen h g k point xs ys first second = second ∙ (ap (λ (l : List (Commit Edit)). l ++ emptying point ys) first ∙ (append_assoc h (emptying point xs) (emptying point ys)
    ∙ ap (λ (l : List (Commit Edit)). h ++ l) (sym (emptying_append point xs ys))))

-- ---- where nothing but blocks is left, and the base is the end, the blocks are free
gone_none : (pools : Pools) → pools.masks.left ≡ [] → pools.actions.left ≡ [] → pools.rows.left ≡ [] → gone_roots pools ≡ []
gone_none pools masks actions rows = λ t. (roots_of MASK_ROOTS 1 (masks t) ++ roots_of ACTION_ROOTS 1 (actions t)) ++ roots_of BUCKET_ROOTS ROW_BUCKETS (rows t)

idle_freed : (h : List (Commit Edit)) (c : ℕ) (hook : Hook) (idle now : IdlePlace) → c ≡ length h → now ≡ record { place = idle.place; is_free = true } → IsIdle h c hook idle → IsIdle h c hook now
idle_freed h c hook idle now end is p = subst (IsIdle h c hook) (sym is) (record {
  within = p.within;
  none = p.none;
  free = λ e at less. subst (λ (n : ℕ). IsUnnamed n h (first_block_of hook idle.place + at)) (sym end) (none_unnamed h (first_block_of hook idle.place + at) (p.none at less));
})

pub blocks_freed : (old new : Pools) (h : List (Commit Edit)) (c : ℕ) → c ≡ length h → ArePools old h c → old.masks.left ≡ [] → old.actions.left ≡ [] → old.rows.left ≡ []
    → (new.rows ≡ old.rows) × (new.masks ≡ old.masks) × (new.actions ≡ old.actions) → new.blocks.free ≡ old.blocks.free ++ old.blocks.left → new.blocks.left ≡ []
    → (new.ingress ≡ record { place = old.ingress.place; is_free = true }) × (new.egress ≡ record { place = old.egress.place; is_free = true }) → ArePools new h c
blocks_freed old new h c end p masks actions rows same free left places = record {
  masks = subst (λ q. IsPool MASK_SLOTS (IsFreeAt h c MASK_ROOTS 1) (IsLeftAt h MASK_ROOTS 1) q.free q.left) (sym same.1) p.masks;
  actions = subst (λ q. IsPool ACTION_SLOTS (IsFreeAt h c ACTION_ROOTS 1) (IsLeftAt h ACTION_ROOTS 1) q.free q.left) (sym same.2) p.actions;
  rows = subst (λ q. IsPool ROWS (IsFreeAt h c BUCKET_ROOTS ROW_BUCKETS) (IsLeftAt h BUCKET_ROOTS ROW_BUCKETS) q.free q.left) (sym same.0) p.rows;
  blocks = pool_freed POOL_BLOCKS (IsUnnamed c h) (IsUnnamed c h) (IsLeft (gone_roots old) h) (IsLeft (gone_roots new) h) old.blocks.free old.blocks.left new.blocks.free new.blocks.left
      free left (λ x f. f) by_none p.blocks;
  ingress = idle_freed h c Ingress old.ingress new.ingress end places.0 p.ingress;
  egress = idle_freed h c Egress old.egress new.egress end places.1 p.egress;
  one_root = p.one_root;
  heads = p.heads;
}
  where
    by_none : (x : ℕ) → IsLeft (gone_roots old) h x → IsUnnamed c h x
    by_none x left_ = subst (λ (n : ℕ). IsUnnamed n h x) (sym end) (none_unnamed h x (λ r n. let at = left_ r n in
        let none : slice_get {X = ℕ} [] at.0 ≡ Some r = sym (ap (λ (rs : List ℕ). slice_get rs at.0) (gone_none old masks actions rows)) ∙ at.1 in cc none))
