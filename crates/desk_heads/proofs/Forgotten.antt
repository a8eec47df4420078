-- A mask that is gone, out of the writer: what it leaves.
use Rattle.std.proofs.Common.{◌≡◌, ◌≢◌, ◌∙◌, ◌⊎◌, inl, inr, ℕ, zero, suc, ◌+◌, ◌*◌, ◌/◌, ◌%◌, ◌<◌, ◌≤◌, eqb, List, ◌∷◌, ◌++◌, length, map, get_or, set, slice_get, Option, Some, None, refl, sym, ap, subst, arith}
use Rattle.std.specs.List.{IsDistinct, range_with_len}
use Rattle.std.proofs.lemmas.List.{get_or-set_other}
use Rattle.std.proofs.lemmas.Option.{same_Some, slice_get_within, get_or_from_slice_get, slice_get-get_or}
use Rattle.store_history.specs.declared.history.Commit.{Commit}
use Rattle.store_history.specs.declared.history.Link.{Link}
use Rattle.store_history.specs.History.{root_of}
use Rattle.store_history.specs.declared.places.TheConstants.{MASK_SLOTS, ACTION_SLOTS, ROWS, ROW_BUCKETS, MASK_ROOTS, ACTION_ROOTS, BUCKET_ROOTS, POOL_BLOCKS}
use Rattle.pin_store.specs.declared.shape.Shape.{Shape}
use Rattle.filter_state.specs.declared.edit.Edit.{Edit}
use Rattle.block_codec.specs.declared.filter.StoredFilter.{StoredFilter}
use Rattle.block_codec.specs.declared.mask.StoredMask.{StoredMask}
use Rattle.mask_table.specs.Buckets.{bucket_root}
use Rattle.mask_table.specs.declared.mirrors.mirror.KeptMask.{KeptMask}
use Rattle.mask_table.specs.OfMirrors.Linked.{Placed}
use Rattle.mask_table.specs.OfMirrors.Forgetting.{bucket_blocks}
use Rattle.mask_table.proofs.OfMirrors.Forgetting.{link_blocks}
use Rattle.mask_writer.specs.Masks.{Masks}
use Rattle.mask_writer.specs.Standing.{masks_of, chain_at, StandsAt, Holds, BucketOf, AreNamed}
use Rattle.mask_writer.proofs.Standing.{chain_named, mask_storable}
use Rattle.hook_law.specs.Places as places
use Rattle.hook_law.specs.Standing.{Mask, IsIn, AreDistinct, IsMaskAt}
use Rattle.hook_store_law.specs.Stated.{hook_meaning}
use Rattle.hook_store_law.specs.Blocks.{hook_codec}
use Rattle.root_pool_laws.specs.Blocks.{HasBlock}
use Rattle.root_pool_laws.specs.Pools.{IsEmptyRoot}
use Rattle.root_pool_laws.proofs.Apart.{in_append, in_left, in_right}
use Rattle.root_pool_laws.proofs.Blocks.{unnamed_end}
use Rattle.desk_masks.proofs.OfMaskResizes.Resizing.{mapped_at, range_at}
use Rattle.desk_pools.specs.declared.pools.Pools.{Pools}
use Rattle.desk_pools.specs.Pools.{roots_of, gone_roots, IsLeftAt, ArePools}
use Rattle.desk_pools.specs.Steps.{IsInPool}
use Rattle.desk_pools.proofs.RootsOf.{in_roots, roots_have}
use Rattle.desk_heads.specs.Closes.{HoldsMasks, IsGone}
use Rattle.desk_heads.specs.Leaving.{MayAllLeave}
use Rattle.desk_heads.proofs.Holding.{pool_block}
use Rattle.desk_heads.proofs.Distinct.{distinct_more, distinct_of, chain_distinct, in_blocks, blocks_distinct}

module _ (masks : Masks) (slot : ℕ) (kept : KeptMask) (stands : StandsAt masks slot kept) (shape : Shape) (cells : List ℕ) (h : List (Commit Edit)) (holds : HoldsMasks masks shape cells h) (gone : IsGone masks h slot) where
  mask : StoredMask
  mask = kept.mask

  -- ---- the others go on
  not_slot : (m s : ℕ) → IsMaskAt hook_codec h m s → s ≢ slot
  not_slot m s at same = gone.at_slot (Mask m) (s, at, ap places.mask_root (sym same))

  module _ (masks2 : Masks) (set_is : masks_of masks2 ≡ set (masks_of masks) slot None) (named : AreNamed masks2 shape cells (root_of h))
      (lists : (other last : ℕ) (fs : List StoredFilter) → other ≢ slot → Holds masks other last fs → Holds masks2 other last fs) where
    other_slot : (s : ℕ) → s ≢ slot → get_or (masks_of masks2) s None ≡ get_or (masks_of masks) s None
    other_slot s ne = ap (λ (ks : List (Option KeptMask)). get_or ks s None) set_is ∙ get_or-set_other (masks_of masks) slot s None None ne

    pub forget_holds : HoldsMasks masks2 shape cells h
    forget_holds = record {
      named = named;
      has = λ m s at. let old = holds.has m s at in let away = not_slot m s at in record {
        kept = old.kept;
        stands = other_slot s away ∙ old.stands;
        serial = old.serial;
        holds = lists s _ _ away old.holds;
      };
    }

  -- ---- the slot and the rows
  rows_count : kept.mask.size ≡ 16 * length kept.mask.rows
  rows_count = (mask_storable masks shape cells (root_of h) holds.named slot kept stands).rows

  pub slot_left : IsLeftAt h MASK_ROOTS 1 slot
  slot_left j less = subst (IsEmptyRoot hook_meaning hook_codec h) (omega (arith, less)) gone.at_slot

  bucket_of_row : (i j number : ℕ) → j < 16 → slice_get kept.mask.rows i ≡ Some number → (16 * i + j < kept.mask.size) × (bucket_root kept.mask (16 * i + j) ≡ BUCKET_ROOTS + ROW_BUCKETS * number + j)
  bucket_of_row i j number less at =
      let inside = slice_get_within kept.mask.rows i number at in let count = rows_count in
      let place : (16 * i + j) / 16 ≡ i = omega (arith, less) in let off : (16 * i + j) % 16 ≡ j = omega (arith, less) in
      let is : get_or kept.mask.rows ((16 * i + j) / 16) 0 ≡ number = ap (λ (n : ℕ). get_or kept.mask.rows n 0) place ∙ get_or_from_slice_get kept.mask.rows i number 0 at in
      (omega (arith, less, inside, count), omega (arith, is, off))

  rows_different : AreDistinct kept.mask.rows
  rows_different i j row e f =
      let one = bucket_of_row i 0 row (omega arith) e in let two = bucket_of_row j 0 row (omega arith) f in
      let x : BucketOf masks (BUCKET_ROOTS + ROW_BUCKETS * row + 0) = record { slot = slot; bucket = 16 * i + 0; kept = kept; stands = stands; within = one.0; same = sym one.1 } in
      let z : BucketOf masks (BUCKET_ROOTS + ROW_BUCKETS * row + 0) = record { slot = slot; bucket = 16 * j + 0; kept = kept; stands = stands; within = two.0; same = sym two.1 } in
      let same : 16 * i + 0 ≡ 16 * j + 0 = (holds.named.apart (BUCKET_ROOTS + ROW_BUCKETS * row + 0) x z).1 in omega (arith, same)

  -- ---- the blocks
  abbrev blocks : List ℕ
  blocks = kept.block ∷ bucket_blocks (root_of h) kept.mask kept.mask.size

  abbrev Own : ℕ → Type 0
  Own r = (r ≡ places.mask_root slot) ⊎ ((k : ℕ) × (k < kept.mask.size) × (r ≡ bucket_root kept.mask k))

  record_has : HasBlock h (places.mask_root slot) kept.block
  record_has = let m = holds.named.masks slot kept stands in (0, _, ap (λ (ls : List Link). slice_get ls 0) m.named, refl)

  -- each is in what a root of the mask names
  own_root : (block : ℕ) → IsIn block blocks → (r : ℕ) × Own r × HasBlock h r block
  own_root block at = first at.0 at.1
    where
      first : (place : ℕ) → slice_get blocks place ≡ Some block → (r : ℕ) × Own r × HasBlock h r block
      first zero e = (places.mask_root slot, inl refl, subst (HasBlock h (places.mask_root slot)) (same_Some kept.block block e) record_has)
      first (suc place) e = let x = in_blocks (root_of h) (map (bucket_root kept.mask) (range_with_len 0 kept.mask.size)) block (place, e) in
          let m = mapped_at (bucket_root kept.mask) (range_with_len 0 kept.mask.size) x.1.0 x.0 x.1.1 in let r = range_at 0 kept.mask.size x.1.0 m.0 m.1 in let off = r.0 in let less = r.1 in
          (x.0, inr (m.0, omega (arith, off, less), m.2), x.2)

  block_small : (block : ℕ) → (r : ℕ) × Own r × HasBlock h r block → block < POOL_BLOCKS
  block_small block x = pool_block masks shape cells (root_of h) holds.named slot kept stands x.0 x.1 block x.2

  buckets_distinct : (k : ℕ) → k < kept.mask.size → IsDistinct eqb (map (λ (l : Link). l.block) (root_of h (bucket_root kept.mask k)).chain)
  buckets_distinct k less = let n = chain_named masks shape cells (root_of h) holds.named slot kept stands k less in
      subst (IsDistinct eqb) (sym (ap (map (λ (l : Link). l.block)) n.named ∙ link_blocks shape cells (map (λ (p : Placed). p.block) (chain_at masks slot k)))) (chain_distinct shape cells kept.mask.size k (chain_at masks slot k) n.filed)

  roots_different : AreDistinct (map (bucket_root kept.mask) (range_with_len 0 kept.mask.size))
  roots_different i j r e f = let m = mapped_at (bucket_root kept.mask) (range_with_len 0 kept.mask.size) i r e in let n = mapped_at (bucket_root kept.mask) (range_with_len 0 kept.mask.size) j r f in
      let x = range_at 0 kept.mask.size i m.0 m.1 in let z = range_at 0 kept.mask.size j n.0 n.1 in let a = x.0 in let c = z.0 in let one = x.1 in let two = z.1 in
      let bx : BucketOf masks r = record { slot = slot; bucket = m.0; kept = kept; stands = stands; within = omega (arith, a, one); same = m.2 } in
      let bz : BucketOf masks r = record { slot = slot; bucket = n.0; kept = kept; stands = stands; within = omega (arith, c, two); same = n.2 } in
      let same = (holds.named.apart r bx bz).1 in omega (arith, same, a, c)

  module _ (b : ℕ) (pools : Pools) (low : b ≤ length h) (p : ArePools pools h b) (slot_apart : IsInPool slot pools.masks → ⊥) (rows_apart : (row : ℕ) → IsIn row kept.mask.rows → IsInPool row pools.rows → ⊥) where
    blocks_different : IsDistinct eqb blocks
    blocks_different = distinct_more kept.block (bucket_blocks (root_of h) kept.mask kept.mask.size) record_apart
        (blocks_distinct (root_of h) (map (bucket_root kept.mask) (range_with_len 0 kept.mask.size)) roots_different each (λ r s block at in_ x z. p.one_root r s block x z))
      where
        bucket_at : (r : ℕ) → IsIn r (map (bucket_root kept.mask) (range_with_len 0 kept.mask.size)) → (k : ℕ) × (k < kept.mask.size) × (r ≡ bucket_root kept.mask k)
        bucket_at r at = let m = mapped_at (bucket_root kept.mask) (range_with_len 0 kept.mask.size) at.0 r at.1 in let x = range_at 0 kept.mask.size at.0 m.0 m.1 in let off = x.0 in let less = x.1 in (m.0, omega (arith, off, less), m.2)

        each : (r : ℕ) → IsIn r (map (bucket_root kept.mask) (range_with_len 0 kept.mask.size)) → IsDistinct eqb (map (λ (l : Link). l.block) (root_of h r).chain)
        each r at = let k = bucket_at r at in subst (λ (n : ℕ). IsDistinct eqb (map (λ (l : Link). l.block) (root_of h n).chain)) (sym k.2) (buckets_distinct k.0 k.1)

        record_apart : IsIn kept.block (bucket_blocks (root_of h) kept.mask kept.mask.size) → ⊥
        record_apart at = let x = in_blocks (root_of h) (map (bucket_root kept.mask) (range_with_len 0 kept.mask.size)) kept.block at in let k = bucket_at x.0 x.1 in
            let same = p.one_root (places.mask_root slot) x.0 kept.block record_has x.2 in let is = k.2 in let small = (holds.named.masks slot kept stands).small in absurd (omega (arith, same, is, small))

    -- the root's number isn't in the pools
    own_apart : (r : ℕ) → Own r → IsIn r (gone_roots pools) → ⊥
    own_apart r own at = sort (in_append (roots_of MASK_ROOTS 1 pools.masks.left ++ roots_of ACTION_ROOTS 1 pools.actions.left) (roots_of BUCKET_ROOTS ROW_BUCKETS pools.rows.left) r at)
      where
        of_mask : (slot2 : ℕ) → IsIn slot2 pools.masks.left → r ≡ MASK_ROOTS + 1 * slot2 + 0 → ⊥
        of_mask slot2 in_ is = by own
          where
            small : slot2 < MASK_SLOTS
            small = let k = in_right pools.masks.free pools.masks.left slot2 in_ in p.masks.small k.0 slot2 k.1

            by : Own r → ⊥
            by (inl e) = let same : slot2 ≡ slot = omega (arith, is, e) in slot_apart (inr (subst (λ (n : ℕ). IsIn n pools.masks.left) same in_))
            by (inr k) = let e = k.2 in let low_ = small in absurd (omega (arith, is, e, low_))

        of_row : (row j : ℕ) → IsIn row pools.rows.left → j < 16 → r ≡ BUCKET_ROOTS + ROW_BUCKETS * row + j → ⊥
        of_row row j in_ less is = by own
          where
            by : Own r → ⊥
            by (inl e) = let small = (holds.named.masks slot kept stands).small in absurd (omega (arith, is, e, small))
            by (inr k) = let e = k.2 in let same : get_or kept.mask.rows (k.0 / 16) 0 ≡ row = omega (arith, is, e, less) in let count = rows_count in let inside = k.1 in
                rows_apart row (k.0 / 16, slice_get-get_or kept.mask.rows (k.0 / 16) 0 (omega (arith, count, inside)) ∙ ap Some same) (inr in_)

        of_action : (s : ℕ) → IsIn s pools.actions.left → r ≡ ACTION_ROOTS + 1 * s + 0 → ⊥
        of_action s in_ is = by own
          where
            small : s < ACTION_SLOTS
            small = let k = in_right pools.actions.free pools.actions.left s in_ in p.actions.small k.0 s k.1

            by : Own r → ⊥
            by (inl e) = let low_ = (holds.named.masks slot kept stands).small in absurd (omega (arith, is, e, low_))
            by (inr k) = let e = k.2 in let low_ = small in absurd (omega (arith, is, e, low_))

        two : IsIn r (roots_of MASK_ROOTS 1 pools.masks.left) ⊎ IsIn r (roots_of ACTION_ROOTS 1 pools.actions.left) → ⊥
        two (inl one) = let f = in_roots MASK_ROOTS 1 pools.masks.left r one in let less = f.3 in let is = f.4 in of_mask f.0 f.1 (omega (arith, less, is))
        two (inr one) = let f = in_roots ACTION_ROOTS 1 pools.actions.left r one in let less = f.3 in let is = f.4 in of_action f.0 f.1 (omega (arith, less, is))

        sort : IsIn r (roots_of MASK_ROOTS 1 pools.masks.left ++ roots_of ACTION_ROOTS 1 pools.actions.left) ⊎ IsIn r (roots_of BUCKET_ROOTS ROW_BUCKETS pools.rows.left) → ⊥
        sort (inl one) = two (in_append (roots_of MASK_ROOTS 1 pools.masks.left) (roots_of ACTION_ROOTS 1 pools.actions.left) r one)
        sort (inr one) = let f = in_roots BUCKET_ROOTS ROW_BUCKETS pools.rows.left r one in of_row f.0 f.2 f.1 f.3 f.4

    block_apart : (block : ℕ) → IsIn block blocks → IsInPool block pools.blocks → ⊥
    block_apart block at (inl in_) = let x = own_root block at in unnamed_end h b block low (p.blocks.may_be_given in_.0 block in_.1) x.0 x.2
    block_apart block at (inr in_) = let x = own_root block at in own_apart x.0 x.1 (p.blocks.have_left in_.0 block in_.1 x.0 x.2)

    -- once slot and rows have left, its roots are gone
    own_gone : (later : Pools) → IsIn slot later.masks.left → ((row : ℕ) → IsIn row kept.mask.rows → IsIn row later.rows.left) → (r : ℕ) → Own r → IsIn r (gone_roots later)
    own_gone later slot_in rows_in r (inl e) = in_left (roots_of MASK_ROOTS 1 later.masks.left ++ roots_of ACTION_ROOTS 1 later.actions.left) (roots_of BUCKET_ROOTS ROW_BUCKETS later.rows.left) r
        (in_left (roots_of MASK_ROOTS 1 later.masks.left) (roots_of ACTION_ROOTS 1 later.actions.left) r
        (subst (λ (n : ℕ). IsIn n (roots_of MASK_ROOTS 1 later.masks.left)) (omega (arith, e)) (roots_have MASK_ROOTS 1 later.masks.left slot 0 slot_in (omega arith))))
    own_gone later slot_in rows_in r (inr k) = let e = k.2 in let count = rows_count in let inside = k.1 in
        let row : ℕ = get_or kept.mask.rows (k.0 / 16) 0 in
        let there : IsIn row kept.mask.rows = (k.0 / 16, slice_get-get_or kept.mask.rows (k.0 / 16) 0 (omega (arith, count, inside))) in
        in_right (roots_of MASK_ROOTS 1 later.masks.left ++ roots_of ACTION_ROOTS 1 later.actions.left) (roots_of BUCKET_ROOTS ROW_BUCKETS later.rows.left) r
        (subst (λ (n : ℕ). IsIn n (roots_of BUCKET_ROOTS ROW_BUCKETS later.rows.left)) (omega (arith, e)) (roots_have BUCKET_ROOTS ROW_BUCKETS later.rows.left row (k.0 % 16) (rows_in row there) (omega arith)))

    pub all_leave : MayAllLeave pools h slot kept.mask.rows blocks
    all_leave = record {
      small = (holds.named.masks slot kept stands).small;
      slot_left = slot_left;
      rows_leave = record {
        different = distinct_of kept.mask.rows rows_different;
        small = λ number at. subst (λ (n : ℕ). n < ROWS) (get_or_from_slice_get kept.mask.rows at.0 number 0 at.1)
            ((mask_storable masks shape cells (root_of h) holds.named slot kept stands).each_row at.0 0 (slice_get_within kept.mask.rows at.0 number at.1));
        left = λ row at j less. let x = bucket_of_row at.0 j row less at.1 in subst (IsEmptyRoot hook_meaning hook_codec h) x.1 (gone.at_rows kept (16 * at.0 + j) stands x.0);
        apart = rows_apart;
      };
      blocks_leave = λ later same slot_in rows_in. record {
        different = blocks_different;
        small = λ block at. block_small block (own_root block at);
        left = λ block at r has. let x = own_root block at in own_gone later slot_in rows_in r (subst Own (p.one_root x.0 r block x.2 has) x.1);
        apart = λ block at in_. block_apart block at (subst (λ q. IsInPool block q) same in_);
      };
    }
