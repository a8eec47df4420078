-- The pools once a mask was laid anew, and what of the mask may leave.
use Rattle.std.proofs.Common.{◌≡◌, ◌≢◌, ◌∙◌, ◌⊎◌, inl, inr, ℕ, zero, suc, ◌+◌, ◌*◌, ◌/◌, ◌%◌, ◌<◌, ◌≤◌, Bool, true, false, eqb, eqb-true, List, [], ◌∷◌, ◌++◌, length, map, get_or, slice_get, Some, refl, sym, ap, subst, arith, append_assoc, length-append}
use mathlib.Core.List.{append-nil}
use Rattle.std.specs.Prelude.{slice_index}
use Rattle.std.specs.List.{IsDistinct, range_with_len}
use Rattle.std.proofs.lemmas.List.{length-map}
use Rattle.std.proofs.lemmas.Map.Keys.{IsDistinct-from_apart}
use Rattle.std.proofs.lemmas.Nat.{mod_below}
use Rattle.std.proofs.lemmas.Option.{slice_get-get_or, slice_get_within, get_or_from_slice_get}
use Rattle.store_history.specs.declared.history.Link.{Link}
use Rattle.store_history.specs.declared.history.Named.{Named}
use Rattle.store_history.specs.declared.history.Commit.{Commit}
use Rattle.store_history.specs.History.{root_of}
use Rattle.store_history.proofs.Histories.{root_own}
use Rattle.store_history.specs.declared.places.TheConstants.{MASK_SLOTS, ACTION_SLOTS, ROWS, ROW_BUCKETS, MASK_ROOTS, ACTION_ROOTS, BUCKET_ROOTS, POOL_BLOCKS}
use Rattle.pin_store.specs.declared.shape.Shape.{Shape}
use Rattle.pin_store.specs.Layout.{block_words}
use Rattle.pin_store.specs.Calls.{IsUnnamed}
use Rattle.filter_state.specs.declared.edit.Edit.{Edit}
use Rattle.block_codec.specs.declared.filter.StoredFilter.{StoredFilter}
use Rattle.mask_table.specs.Buckets.{bucket_root, mask_root}
use Rattle.mask_table.specs.OfMirrors.Forgetting.{blocks_of, bucket_blocks}
use Rattle.mask_writer.specs.Masks.{Masks}
use Rattle.mask_writer.specs.Standing.{BucketOf}
use Rattle.mask_writer.proofs.Standing.{mask_storable}
use Rattle.desk_masks.specs.OfMaskResizes.Resized.{stored_now}
use Rattle.hook_law.specs.Places as places
use Rattle.hook_law.specs.Records.{MaskRecord}
use Rattle.hook_law.specs.Meaning.{now_of}
use Rattle.hook_law.specs.Standing.{Role, Mask, Bucket, IsIn, Stands, region_of}
use Rattle.hook_law.specs.Unnumbered.{ResizesWhole}
use Rattle.hook_law.specs.Coming.{IsBucketOf}
use Rattle.hook_law.proofs.Standing.{present_end, unused_end}
use Rattle.hook_law.proofs.Whole.{whole_comes}
use Rattle.hook_store_law.specs.Stated.{hook_meaning, filters_at}
use Rattle.hook_store_law.specs.Blocks.{mask_record, hook_codec}
use Rattle.hook_store_law.specs.Told.{with_slots}
use Rattle.desk_pools.specs.OfNumbers.Numbers.{PoolNumbers}
use Rattle.root_pool_laws.specs.Blocks.{IsBlockOf, HasBlock, IsLeft}
use Rattle.root_pool_laws.specs.Pools.{IsPool}
use Rattle.root_pool_laws.proofs.Apart.{in_append, in_left, in_right, distinct_append}
use Rattle.root_pool_laws.proofs.Blocks.{has_push, unnamed_end}
use Rattle.desk_pools.specs.declared.pools.Pools.{Pools}
use Rattle.desk_pools.specs.Pools.{roots_of, gone_roots, IsFreeAt, IsLeftAt, ArePools}
use Rattle.desk_pools.specs.Steps.{IsInPool, MayLeave}
use Rattle.desk_pools.proofs.RootsOf.{roots_have}
use Rattle.desk_pools.proofs.Steps.{pools_commit, standing_block}
use Rattle.desk_masks.proofs.Going.{mask_stands, bucket_stands}
use Rattle.desk_masks.proofs.OfFilterCommits.Locating.{different_at, small_at}
use Rattle.desk_masks.specs.OfResizes.Refit.{MayRefit}
use Rattle.desk_masks.proofs.OfMaskResizes.Resizing.{mapped_at, range_at, rows_distinct}
use Rattle.desk_masks.proofs.OfResizes.Lists.{at_last}
use Rattle.desk_masks.proofs.OfResizes.Fits.{all_free, cs, last, whole, its_mask, commit_is}
use Rattle.desk_masks.proofs.OfResizes.After.{its_block, more}
use Rattle.desk_masks.proofs.Spending.{AreSpent, SpendApart, unnamed_last, pools_spared, IsLaid, link_laid, laid_apart}

one_in : (x y : ℕ) → IsIn {A = ℕ} x (y ∷ []) → x ≡ y
one_in x y at = go at.0 at.1
  where
    go : (place : ℕ) → slice_get {X = ℕ} (y ∷ []) place ≡ Some x → x ≡ y
    go zero e = let same : y ≡ x = cc e in sym same
    go (suc place) e = absurd (cc e)

-- a block that no commit of a list has was named by the same root before
has_list : (ds g : List (Commit Edit)) (r x : ℕ) → ((j place : ℕ) (c : Commit Edit) (l : Link) → slice_get ds j ≡ Some c → slice_get c.named.chain place ≡ Some l → l.block ≢ x) → HasBlock (g ++ ds) r x → HasBlock g r x
has_list [] g r x away has = subst (λ (z : List (Commit Edit)). HasBlock z r x) (append-nil g) has
has_list (d ∷ ds) g r x away has = sort (has_push g d r x (has_list ds (g ++ d ∷ []) r x (λ j place c l at there. away (suc j) place c l at there) (subst (λ (z : List (Commit Edit)). HasBlock z r x) (sym (append_assoc g (d ∷ []) ds)) has)))
  where
    sort : HasBlock g r x ⊎ ((d.root ≡ r) × IsBlockOf x d.named.chain) → HasBlock g r x
    sort (inl before) = before
    sort (inr own) = absurd (away 0 own.1.0 d own.1.1 refl own.1.2 own.1.3)

-- the blocks that some roots name
in_links : (ls : List Link) (x : ℕ) → IsIn x (map (λ (l : Link). l.block) ls) → IsBlockOf x ls
in_links ls x at = let q = mapped_at (λ (l : Link). l.block) ls at.0 x at.1 in (at.0, q.0, q.1, sym q.2)

in_blocks : (h : List (Commit Edit)) (rs : List ℕ) (x : ℕ) → IsIn x (blocks_of (root_of h) rs) → (r : ℕ) × IsIn r rs × HasBlock h r x
in_blocks h [] x at = let e = at.1 in absurd (cc e)
in_blocks h (r ∷ rs) x at = sort (in_append (map (λ (l : Link). l.block) (root_of h r).chain) (blocks_of (root_of h) rs) x at) (in_blocks h rs x)
  where
    sort : IsIn x (map (λ (l : Link). l.block) (root_of h r).chain) ⊎ IsIn x (blocks_of (root_of h) rs) → (IsIn x (blocks_of (root_of h) rs) → (q : ℕ) × IsIn q rs × HasBlock h q x) → (q : ℕ) × IsIn q (r ∷ rs) × HasBlock h q x
    sort (inl own) rest = (r, (0, refl), in_links (root_of h r).chain x own)
    sort (inr later) rest = let q = rest later in (q.0, (suc q.1.0, q.1.1), q.2)

blocks_differ : (h : List (Commit Edit)) (rs : List ℕ) → ((r s x : ℕ) → HasBlock h r x → HasBlock h s x → r ≡ s) → ((i j r : ℕ) → slice_get rs i ≡ Some r → slice_get rs j ≡ Some r → i ≡ j)
    → ((r : ℕ) → IsIn r rs → IsDistinct eqb (map (λ (l : Link). l.block) (root_of h r).chain)) → IsDistinct eqb (blocks_of (root_of h) rs)
unfolding IsDistinct
blocks_differ h [] one apart each = tt
blocks_differ h (r ∷ rs) one apart each = distinct_append (map (λ (l : Link). l.block) (root_of h r).chain) (blocks_of (root_of h) rs) (each r (0, refl))
    (blocks_differ h rs one (λ i j q a c. let up = apart (suc i) (suc j) q a c in omega (arith, up)) (λ q at. each q (suc at.0, at.1)))
    (λ x at later. let own = in_links (root_of h r).chain x at in let other = in_blocks h rs x later in
    let same : r ≡ other.0 = one r other.0 x own other.2 in let clash = apart 0 (suc other.1.0) r refl (other.1.1 ∙ ap Some (sym same)) in omega (arith, clash))

module _ (masks : Masks) (shape : Shape) (cells : List ℕ) (h : List (Commit Edit)) (b point slot size : ℕ) (blocks rows : List ℕ) (m : MayRefit masks shape cells h b point slot size blocks rows)
    (pools : Pools) (p : ArePools pools h b) (rows_apart : (row : ℕ) → IsIn row rows → IsInPool row pools.rows → ⊥) (blocks_apart : (x : ℕ) → IsIn x blocks → IsInPool x pools.blocks → ⊥) where
  low : b ≤ length h
  low = m.kept_at.low

  abbrev fs : List StoredFilter
  fs = stored_now h m.kept.mask.serial

  abbrev blk : ℕ
  blk = its_block masks shape cells h b point slot size blocks rows m

  abbrev c_s : List (Commit Edit)
  c_s = cs masks shape cells h b point slot size blocks rows m blk

  abbrev la : Commit Edit
  la = last masks shape cells h b point slot size blocks rows m blk

  abbrev after : List (Commit Edit)
  after = (h ++ c_s) ++ la ∷ []

  count : length blocks ≡ length fs + 1
  count = let many = m.many_blocks in let l = length-map (filters_at (now_of hook_meaning h) m.kept.mask.serial) (with_slots h) in omega (arith, many, l)

  blk_there : slice_get blocks (length fs) ≡ Some blk
  blk_there = slice_get-get_or blocks (length fs) 0 (let n = count in omega (arith, n))

  is_free : (x : ℕ) → IsIn x blocks → IsUnnamed b h x
  is_free x at = m.blocks_are.free at.0 x at.1

  is_low : (x : ℕ) → IsIn x blocks → x < POOL_BLOCKS
  is_low x at = m.blocks_are.pool at.0 x at.1

  laid : (j place : ℕ) (c : Commit Edit) (l : Link) → slice_get c_s j ≡ Some c → slice_get c.named.chain place ≡ Some l → IsLaid blocks fs size j l
  laid j place c l at there = let q = commit_is masks shape cells h b point slot size blocks rows m blk j c at in
      link_laid blocks fs size j place l (sym (ap (λ (d : Commit Edit). slice_get d.named.chain place) q.1) ∙ there)

  laid_in : (j place : ℕ) (c : Commit Edit) (l : Link) → slice_get c_s j ≡ Some c → slice_get c.named.chain place ≡ Some l → IsIn l.block blocks
  laid_in j place c l at there = let q = laid j place c l at there in (q.at, q.block)

  not_record : (j place : ℕ) (c : Commit Edit) (l : Link) → slice_get c_s j ≡ Some c → slice_get c.named.chain place ≡ Some l → l.block ≢ blk
  not_record j place c l at there same = let q = laid j place c l at there in
      let one = rows_distinct blocks m.blocks_are.different q.at (length fs) l.block q.block (blk_there ∙ ap Some (sym same)) in
      let within = slice_get_within fs q.at q.filter q.there in omega (arith, one, within)

  spent : (j : ℕ) (c : Commit Edit) → slice_get c_s j ≡ Some c → AreSpent pools h b c
  spent j c at place l there = let in_ = laid_in j place c l at there in (is_free l.block in_, is_low l.block in_, blocks_apart l.block in_)

  spent_apart : SpendApart c_s
  spent_apart i j k n c d l e less at more_ own there = laid_apart blocks fs size i j l e m.blocks_are.different (laid i k c l at own) (laid j n d e more_ there) (λ same. omega (arith, less, same))

  first_pools : ArePools pools (h ++ c_s) b
  first_pools = pools_spared pools c_s h b low m.kept_at.keeps.law (whole masks shape cells h b point slot size blocks rows m blk).spare p spent spent_apart

  abbrev w : ResizesWhole hook_meaning hook_codec b h c_s la
  w = whole masks shape cells h b point slot size blocks rows m blk

  -- the root is that of a bucket of the new rows
  abbrev New : ℕ → Type 0
  New r = (row : ℕ) × (place : ℕ) × IsIn row rows × (place < 16) × (r ≡ BUCKET_ROOTS + ROW_BUCKETS * row + place)

  comes : (r : ℕ) (x : Role) → Stands hook_meaning hook_codec after r x
      → Stands hook_meaning hook_codec h r x ⊎ ((row : ℕ) × (place : ℕ) × IsIn row rows × (place < 16) × (r ≡ BUCKET_ROOTS + ROW_BUCKETS * row + place))
  comes r x s = sort (whole_comes hook_meaning hook_codec h c_s b la w low m.kept_at.keeps.law r x s)
    where
      sort : Stands hook_meaning hook_codec h r x ⊎ IsBucketOf w.mask (region_of w.slot w.serial la.named.stamp w.mask) r x → Stands hook_meaning hook_codec h r x ⊎ ((row : ℕ) × (place : ℕ) × IsIn row rows × (place < 16) × (r ≡ BUCKET_ROOTS + ROW_BUCKETS * row + place))
      sort (inl before) = inl before
      sort (inr n) = let same = ap (λ (q : MaskRecord). q.rows) (its_mask masks shape cells h b point slot size blocks rows m blk) in let small : n.k % 16 < 16 = mod_below n.k 16 (omega arith) in
          inr (n.row, n.k % 16, (n.k / 16, sym (ap (λ (l : List ℕ). slice_get l (n.k / 16)) same) ∙ n.there), small, n.root)

  -- nothing stands at the roots of what is in a pool
  nothing_at : (first width : ℕ) (numbers : PoolNumbers) (top number j : ℕ) → IsPool top (IsFreeAt h b first width) (IsLeftAt h first width) numbers.free numbers.left → IsInPool number numbers → j < width → (x : Role) → Stands hook_meaning hook_codec h (first + width * number + j) x → ⊥
  nothing_at first width numbers top number j q (inl at) less x s = unused_end hook_meaning hook_codec h b (first + width * number + j) x low (q.may_be_given at.0 number at.1 j less) s
  nothing_at first width numbers top number j q (inr at) less x s = q.have_left at.0 number at.1 j less x s

  pub pools_after : ArePools pools (h ++ more masks shape cells h b point slot size blocks rows m blk) b
  pools_after = subst (λ (z : List (Commit Edit)). ArePools pools z b) (append_assoc h c_s (la ∷ []))
      (pools_commit pools (h ++ c_s) b la (blk ∷ []) (let l = length-append h c_s in let first_low = low in omega (arith, l, first_low)) first_pools (record {
        spends = λ place l at. spent_one place l at;
        free = λ x at. subst (IsUnnamed b (h ++ c_s)) (sym (one_in x blk at)) (unnamed_last c_s h b blk low (λ j place c l e there. not_record j place c l e there) (is_free blk (length fs, blk_there)));
        small = λ x at. subst (λ (n : ℕ). n < POOL_BLOCKS) (sym (one_in x blk at)) (is_low blk (length fs, blk_there));
        taken = λ x at in_. blocks_apart blk (length fs, blk_there) (subst (λ (n : ℕ). IsInPool n pools.blocks) (one_in x blk at) in_);
        masks = λ s in_ x stands_. absurd (mask_slot s in_ x (comes (places.mask_root s) x stands_));
        actions = λ s in_ x stands_. absurd (action_slot s in_ x (comes (places.action_root s) x stands_));
        rows = λ row place in_ less x stands_. absurd (row_at row place in_ less x (comes (places.bucket_root row place) x stands_));
      }))
    where
      spent_one : (place : ℕ) (l : Link) → slice_get la.named.chain place ≡ Some l → IsIn l.block (blk ∷ []) ⊎ HasBlock (h ++ c_s) la.root l.block
      spent_one zero l e = inl (0, ap (λ (k : Link). Some k.block) (link_same _ l e))
        where
          link_same : (a c : Link) → Some a ≡ Some c → a ≡ c
          link_same a c e = cc e
      spent_one (suc place) l e = absurd (cc e)

      mask_slot : (s : ℕ) → IsInPool s pools.masks → (x : Role) → Stands hook_meaning hook_codec h (places.mask_root s) x ⊎ New (places.mask_root s) → ⊥
      mask_slot s in_ x (inl before) = let root : places.mask_root s ≡ MASK_ROOTS + 1 * s + 0 = omega arith in nothing_at MASK_ROOTS 1 pools.masks MASK_SLOTS s 0 p.masks in_ (omega arith) x (subst (λ (r : ℕ). Stands hook_meaning hook_codec h r x) root before)
      mask_slot s in_ x (inr new) = let root = new.4 in let small = mask_low s in_ in omega (arith, root, small)
        where
          mask_low : (n : ℕ) → IsInPool n pools.masks → n < MASK_SLOTS
          mask_low n (inl at) = let all = in_left pools.masks.free pools.masks.left n at in p.masks.small all.0 n all.1
          mask_low n (inr at) = let all = in_right pools.masks.free pools.masks.left n at in p.masks.small all.0 n all.1

      action_slot : (s : ℕ) → IsInPool s pools.actions → (x : Role) → Stands hook_meaning hook_codec h (places.action_root s) x ⊎ New (places.action_root s) → ⊥
      action_slot s in_ x (inl before) = let root : places.action_root s ≡ ACTION_ROOTS + 1 * s + 0 = omega arith in nothing_at ACTION_ROOTS 1 pools.actions ACTION_SLOTS s 0 p.actions in_ (omega arith) x (subst (λ (r : ℕ). Stands hook_meaning hook_codec h r x) root before)
      action_slot s in_ x (inr new) = let root = new.4 in let small = action_low s in_ in omega (arith, root, small)
        where
          action_low : (n : ℕ) → IsInPool n pools.actions → n < ACTION_SLOTS
          action_low n (inl at) = let all = in_left pools.actions.free pools.actions.left n at in p.actions.small all.0 n all.1
          action_low n (inr at) = let all = in_right pools.actions.free pools.actions.left n at in p.actions.small all.0 n all.1

      row_at : (row place : ℕ) → IsInPool row pools.rows → place < 16 → (x : Role) → Stands hook_meaning hook_codec h (places.bucket_root row place) x ⊎ New (places.bucket_root row place) → ⊥
      row_at row place in_ less x (inl before) = nothing_at BUCKET_ROOTS ROW_BUCKETS pools.rows ROWS row place p.rows in_ less x before
      row_at row place in_ less x (inr new) = let root = new.4 in let small = new.3 in let same : row ≡ new.0 = omega (arith, root, small, less) in
          rows_apart new.0 new.2 (subst (λ (n : ℕ). IsInPool n pools.rows) same in_)

  -- ---- what the mask had
  old_bucket : (at_row j : ℕ) → IsIn at_row m.kept.mask.rows → j < 16 → BucketOf masks (BUCKET_ROOTS + ROW_BUCKETS * at_row + j)
  old_bucket at_row j at less = record {
    slot = slot;
    bucket = 16 * at.0 + j;
    kept = m.kept;
    stands = m.stands;
    within = let is = mask_storable masks shape cells (root_of h) m.has.named slot m.kept m.stands in let long = is.rows in let inside = slice_get_within m.kept.mask.rows at.0 at_row at.1 in omega (arith, long, inside, less);
    same = root_is;
  }
    where
      whole_part : (16 * at.0 + j) / 16 ≡ at.0
      whole_part = omega (arith, less)

      rest_part : (16 * at.0 + j) % 16 ≡ j
      rest_part = omega (arith, less)

      row_is : slice_index m.kept.mask.rows ((16 * at.0 + j) / 16) ≡ at_row
      row_is = ap (slice_index m.kept.mask.rows) whole_part ∙ get_or_from_slice_get m.kept.mask.rows at.0 at_row 0 at.1

      root_is : BUCKET_ROOTS + ROW_BUCKETS * at_row + j ≡ bucket_root m.kept.mask (16 * at.0 + j)
      root_is = let a = row_is in let c = rest_part in omega (arith, a, c)

  abbrev role_of : ℕ → Role
  role_of kk = Bucket (region_of slot m.kept.mask.serial (root_of h (places.mask_root slot)).stamp (mask_record m.kept.mask)) kk

  old_stands : (row j : ℕ) (at : IsIn row m.kept.mask.rows) (less : j < 16) → Stands hook_meaning hook_codec h (BUCKET_ROOTS + ROW_BUCKETS * row + j) (role_of (16 * at.0 + j))
  unfolding old_bucket
  old_stands row j at less = bucket_stands masks shape cells h m.has (BUCKET_ROOTS + ROW_BUCKETS * row + j) (old_bucket row j at less)

  slot_named : root_of after (places.mask_root slot) ≡ la.named
  slot_named = root_own (h ++ c_s) la

  old_goes : (row : ℕ) → IsIn row m.kept.mask.rows → IsLeftAt after BUCKET_ROOTS ROW_BUCKETS row
  old_goes row at j less x s = sort (comes (BUCKET_ROOTS + ROW_BUCKETS * row + j) x s)
    where
      sort : Stands hook_meaning hook_codec h (BUCKET_ROOTS + ROW_BUCKETS * row + j) x ⊎ ((other : ℕ) × (place : ℕ) × IsIn other rows × (place < 16) × (BUCKET_ROOTS + ROW_BUCKETS * row + j ≡ BUCKET_ROOTS + ROW_BUCKETS * other + place)) → ⊥
      sort (inr new) = let root = new.4 in let small = new.3 in let same : row ≡ new.0 = omega (arith, root, small, less) in
          (all_free masks shape cells h b point slot size blocks rows m).free slot row m.kept m.stands at (subst (λ (n : ℕ). IsIn n rows) (sym same) new.2)
      sort (inl before) = let one = (present_end hook_meaning hook_codec h b low m.kept_at.keeps.law).apart (BUCKET_ROOTS + ROW_BUCKETS * row + j) x (role_of (16 * at.0 + j)) before (old_stands row j at less) in
          let it : Stands hook_meaning hook_codec after (BUCKET_ROOTS + ROW_BUCKETS * row + j) (role_of (16 * at.0 + j)) = subst (Stands hook_meaning hook_codec after (BUCKET_ROOTS + ROW_BUCKETS * row + j)) one s in
          let stamped = it.1.stamped in let now_ = ap (λ (n : Named). n.stamp) slot_named in let old = m.older in let is = m.kept_at.point_is in omega (arith, stamped, now_, old, is)

  rows_differ : IsDistinct eqb m.kept.mask.rows
  unfolding old_bucket
  rows_differ = IsDistinct-from_apart eqb m.kept.mask.rows (λ i j d less within. pick i j d less within (eqb (get_or m.kept.mask.rows i d) (get_or m.kept.mask.rows j d)) refl)
    where
      pick : (i j d : ℕ) → i < j → j < length m.kept.mask.rows → (t : Bool) → eqb (get_or m.kept.mask.rows i d) (get_or m.kept.mask.rows j d) ≡ t → eqb (get_or m.kept.mask.rows i d) (get_or m.kept.mask.rows j d) ≡ false
      pick i j d less within false e = e
      pick i j d less within true e = absurd (clash i j d less within (eqb-true (get_or m.kept.mask.rows i d) (get_or m.kept.mask.rows j d) e))
        where
          clash : (i j d : ℕ) → i < j → j < length m.kept.mask.rows → get_or m.kept.mask.rows i d ≡ get_or m.kept.mask.rows j d → ⊥
          clash i j d less within same =
              let first : IsIn (get_or m.kept.mask.rows i d) m.kept.mask.rows = (i, slice_get-get_or m.kept.mask.rows i d (omega (arith, less, within))) in
              let other : IsIn (get_or m.kept.mask.rows i d) m.kept.mask.rows = (j, slice_get-get_or m.kept.mask.rows j d within ∙ ap Some (sym same)) in
              let both = m.has.named.apart (BUCKET_ROOTS + ROW_BUCKETS * get_or m.kept.mask.rows i d + 0) (old_bucket (get_or m.kept.mask.rows i d) 0 first (omega arith)) (old_bucket (get_or m.kept.mask.rows i d) 0 other (omega arith)) in
              let same_bucket : 16 * i + 0 ≡ 16 * j + 0 = both.1 in omega (arith, same_bucket, less)

  pub rows_leave : MayLeave ROWS (IsLeftAt after BUCKET_ROOTS ROW_BUCKETS) pools.rows m.kept.mask.rows
  rows_leave = record {
    different = rows_differ;
    small = λ row at. low_row row at;
    left = λ row at. old_goes row at;
    apart = λ at_row at in_. nothing_at BUCKET_ROOTS ROW_BUCKETS pools.rows ROWS at_row 0 p.rows in_ (omega arith) (role_of (16 * at.0 + 0)) (old_stands at_row 0 at (omega arith));
  }
    where
      low_row : (at_row : ℕ) → IsIn at_row m.kept.mask.rows → at_row < ROWS
      low_row at_row at = let s = old_stands at_row 0 at (omega arith) in let small = s.1.small in let root = s.2 in omega (arith, small, root)

  -- a block that a root named before is in no commit
  not_given : (x r : ℕ) → HasBlock h r x → IsIn x blocks → ⊥
  not_given x r has at = unnamed_end h b x low (is_free x at) r has

  stays : (x r s : ℕ) → HasBlock h s x → HasBlock after r x → HasBlock h r x
  stays x r s has now_ = has_list (c_s ++ la ∷ []) h r x away (subst (λ (z : List (Commit Edit)). HasBlock z r x) (append_assoc h c_s (la ∷ [])) now_)
    where
      away : (j place : ℕ) (c : Commit Edit) (l : Link) → slice_get (c_s ++ la ∷ []) j ≡ Some c → slice_get c.named.chain place ≡ Some l → l.block ≢ x
      away j place c l at there same = sort (at_last c_s la j c at)
        where
          of_last : (place : ℕ) → slice_get la.named.chain place ≡ Some l → l.block ≡ blk
          of_last zero e = sym (ap (λ (k : Link). k.block) (link_same _ l e))
            where
              link_same : (a c : Link) → Some a ≡ Some c → a ≡ c
              link_same a c e = cc e
          of_last (suc place) e = absurd (cc e)

          sort : (slice_get c_s j ≡ Some c) ⊎ ((j ≡ length c_s) × (la ≡ c)) → ⊥
          sort (inl in_) = not_given x s has (subst (λ (n : ℕ). IsIn n blocks) same (laid_in j place c l in_ there))
          sort (inr own) = not_given x s has (subst (λ (n : ℕ). IsIn n blocks) (sym (of_last place (ap (λ (d : Commit Edit). slice_get d.named.chain place) own.1 ∙ there)) ∙ same) (length fs, blk_there))

  record_has : HasBlock h (mask_root slot) m.kept.block
  record_has = let named = (m.has.named.masks slot m.kept m.stands).named in (0, record { block = m.kept.block; words = block_words shape cells m.kept.block }, ap (λ (ls : List Link). slice_get ls 0) named, refl)

  -- the roots of the old buckets
  abbrev bucket_roots : List ℕ
  bucket_roots = map (bucket_root m.kept.mask) (range_with_len 0 m.kept.mask.size)

  root_at : (place r : ℕ) → slice_get bucket_roots place ≡ Some r → (place < m.kept.mask.size) × (r ≡ bucket_root m.kept.mask place)
  root_at place r e = let q = mapped_at (bucket_root m.kept.mask) (range_with_len 0 m.kept.mask.size) place r e in let t = range_at 0 m.kept.mask.size place q.0 q.1 in
      let off = t.0 in let same : q.0 ≡ place = omega (arith, off) in (t.1, q.2 ∙ ap (bucket_root m.kept.mask) same)

  bucket_at : (kk : ℕ) → kk < m.kept.mask.size → BucketOf masks (bucket_root m.kept.mask kk)
  bucket_at kk less = record { slot = slot; bucket = kk; kept = m.kept; stands = m.stands; within = less; same = refl }

  roots_apart : (i j r : ℕ) → slice_get bucket_roots i ≡ Some r → slice_get bucket_roots j ≡ Some r → i ≡ j
  roots_apart i j r a c = let x = root_at i r a in let z = root_at j r c in
      let one : BucketOf masks r = record { slot = slot; bucket = i; kept = m.kept; stands = m.stands; within = x.0; same = x.1 } in
      let two : BucketOf masks r = record { slot = slot; bucket = j; kept = m.kept; stands = m.stands; within = z.0; same = z.1 } in (m.has.named.apart r one two).1

  buckets_differ : IsDistinct eqb (bucket_blocks (root_of h) m.kept.mask m.kept.mask.size)
  buckets_differ = blocks_differ h bucket_roots p.one_root roots_apart (λ r at. let x = root_at at.0 r at.1 in
      subst (λ (n : ℕ). IsDistinct eqb (map (λ (l : Link). l.block) (root_of h n).chain)) (sym x.1) (different_at h masks shape cells m.has slot m.kept m.stands at.0 x.0))

  record Old (x : ℕ) : Type 0 where
    kk : ℕ
    less : kk < m.kept.mask.size
    has : HasBlock h (bucket_root m.kept.mask kk) x

  old_at : (x : ℕ) → IsIn x (bucket_blocks (root_of h) m.kept.mask m.kept.mask.size) → Old x
  old_at x at = let q = in_blocks h bucket_roots x at in let r = root_at q.1.0 q.0 q.1.1 in record { kk = q.1.0; less = r.0; has = subst (λ (n : ℕ). HasBlock h n x) r.1 q.2 }

  abbrev pub leaving : List ℕ
  leaving = m.kept.block ∷ bucket_blocks (root_of h) m.kept.mask m.kept.mask.size

  split : (x : ℕ) → IsIn x leaving → (x ≡ m.kept.block) ⊎ IsIn x (bucket_blocks (root_of h) m.kept.mask m.kept.mask.size)
  split x at = go at.0 at.1
    where
      go : (place : ℕ) → slice_get leaving place ≡ Some x → (x ≡ m.kept.block) ⊎ IsIn x (bucket_blocks (root_of h) m.kept.mask m.kept.mask.size)
      go zero e = let same : m.kept.block ≡ x = cc e in inl (sym same)
      go (suc place) e = inr (place, e)

  pub blocks_leave : (gone : Pools) → ((row : ℕ) → IsIn row m.kept.mask.rows → IsIn row gone.rows.left) → MayLeave POOL_BLOCKS (IsLeft (gone_roots gone) after) pools.blocks leaving
  unfolding IsDistinct bucket_at old_at
  blocks_leave gone rows_gone = record {
    different = distinct_append (m.kept.block ∷ []) (bucket_blocks (root_of h) m.kept.mask m.kept.mask.size) (tt, tt) buckets_differ (λ x one later. apart_record x (one_in x m.kept.block one) (old_at x later));
    small = λ x at. small_each x (split x at);
    left = λ x at r has. left_each x r has (split x at);
    apart = λ x at in_. apart_each x (split x at) in_;
  }
    where
      apart_record : (x : ℕ) → x ≡ m.kept.block → Old x → ⊥
      apart_record x is o = let same = p.one_root (mask_root slot) (bucket_root m.kept.mask o.kk) x (subst (HasBlock h (mask_root slot)) (sym is) record_has) o.has in
          let small = (m.has.named.masks slot m.kept m.stands).small in omega (arith, same, small)

      small_each : (x : ℕ) → (x ≡ m.kept.block) ⊎ IsIn x (bucket_blocks (root_of h) m.kept.mask m.kept.mask.size) → x < POOL_BLOCKS
      small_each x (inl is) = let first_low = (m.has.named.masks slot m.kept m.stands).low in omega (arith, is, first_low)
      small_each x (inr at) = let o = old_at x at in small_at h masks shape cells m.has slot m.kept m.stands o.kk o.less x (block_in (root_of h (bucket_root m.kept.mask o.kk)).chain o.has)
        where
          block_in : (ls : List Link) → IsBlockOf x ls → IsIn x (map (λ (l : Link). l.block) ls)
          block_in ls is = (is.0, get_map ls is.0 is.1 is.2 ∙ ap Some is.3)
            where
              get_map : (ks : List Link) (n : ℕ) (l : Link) → slice_get ks n ≡ Some l → slice_get (map (λ (q : Link). q.block) ks) n ≡ Some l.block
              get_map [] n l e = absurd (cc e)
              get_map (q ∷ qs) zero l e = let same : q ≡ l = cc e in ap (λ (z : Link). Some z.block) same
              get_map (q ∷ qs) (suc n) l e = get_map qs n l e

      apart_each : (x : ℕ) → (x ≡ m.kept.block) ⊎ IsIn x (bucket_blocks (root_of h) m.kept.mask m.kept.mask.size) → IsInPool x pools.blocks → ⊥
      apart_each x (inl is) in_ = standing_block pools h b (mask_root slot) x (Mask m.kept.mask.serial) low p (subst (HasBlock h (mask_root slot)) (sym is) record_has) (mask_stands masks shape cells h m.has slot m.kept m.stands) in_
      apart_each x (inr at) in_ = let o = old_at x at in standing_block pools h b (bucket_root m.kept.mask o.kk) x (role_of o.kk) low p o.has (bucket_stands masks shape cells h m.has (bucket_root m.kept.mask o.kk) (bucket_at o.kk o.less)) in_

      left_each : (x r : ℕ) → HasBlock after r x → (x ≡ m.kept.block) ⊎ IsIn x (bucket_blocks (root_of h) m.kept.mask m.kept.mask.size) → IsIn r (gone_roots gone)
      left_each x r has (inl is) = let before = subst (HasBlock h (mask_root slot)) (sym is) record_has in
          let at_slot : r ≡ mask_root slot = p.one_root r (mask_root slot) x (stays x r (mask_root slot) before has) before in
          absurd (new_one (subst (λ (n : ℕ). HasBlock after n x) at_slot has))
        where
          new_one : HasBlock after (mask_root slot) x → ⊥
          new_one own = not_given x (mask_root slot) (subst (HasBlock h (mask_root slot)) (sym is) record_has) (subst (λ (n : ℕ). IsIn n blocks) (sym (of_last own.0 own.1 (sym (ap (λ (n : Named). slice_get n.chain own.0) slot_named) ∙ own.2) own.3)) (length fs, blk_there))
            where
              of_last : (place : ℕ) (l : Link) → slice_get la.named.chain place ≡ Some l → l.block ≡ x → x ≡ blk
              of_last zero l e same = sym same ∙ sym (ap (λ (k : Link). k.block) (link_same _ l e))
                where
                  link_same : (a c : Link) → Some a ≡ Some c → a ≡ c
                  link_same a c e = cc e
              of_last (suc place) l e same = absurd (cc e)
      left_each x r has (inr at) = let o = old_at x at in
          let same : r ≡ bucket_root m.kept.mask o.kk = p.one_root r (bucket_root m.kept.mask o.kk) x (stays x r (bucket_root m.kept.mask o.kk) o.has has) o.has in
          let is = mask_storable masks shape cells (root_of h) m.has.named slot m.kept m.stands in let long = is.rows in let inner = o.less in
          let row : ℕ = slice_index m.kept.mask.rows (o.kk / 16) in let row_there : IsIn row m.kept.mask.rows = (o.kk / 16, slice_get-get_or m.kept.mask.rows (o.kk / 16) 0 (omega (arith, long, inner))) in
          in_right (roots_of MASK_ROOTS 1 gone.masks.left ++ roots_of ACTION_ROOTS 1 gone.actions.left) (roots_of BUCKET_ROOTS ROW_BUCKETS gone.rows.left) r
          (subst (λ (n : ℕ). IsIn n (roots_of BUCKET_ROOTS ROW_BUCKETS gone.rows.left)) (sym same) (roots_have BUCKET_ROOTS ROW_BUCKETS gone.rows.left row (o.kk % 16) (rows_gone row row_there) (mod_below o.kk 16 (omega arith))))

  abbrev seen : List (Commit Edit)
  seen = h ++ more masks shape cells h b point slot size blocks rows m blk

  same_seen : after ≡ seen
  same_seen = append_assoc h c_s (la ∷ [])

  pub rows_leave_seen : MayLeave ROWS (IsLeftAt seen BUCKET_ROOTS ROW_BUCKETS) pools.rows m.kept.mask.rows
  rows_leave_seen = subst (λ (z : List (Commit Edit)). MayLeave ROWS (IsLeftAt z BUCKET_ROOTS ROW_BUCKETS) pools.rows m.kept.mask.rows) same_seen rows_leave

  pub blocks_leave_seen : (gone : Pools) → ((row : ℕ) → IsIn row m.kept.mask.rows → IsIn row gone.rows.left) → MayLeave POOL_BLOCKS (IsLeft (gone_roots gone) seen) pools.blocks leaving
  blocks_leave_seen gone rows_gone = subst (λ (z : List (Commit Edit)). MayLeave POOL_BLOCKS (IsLeft (gone_roots gone) z) pools.blocks leaving) same_seen (blocks_leave gone rows_gone)
