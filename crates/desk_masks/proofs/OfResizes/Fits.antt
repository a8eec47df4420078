-- The commits that lay a mask anew: each first part keeps the law.
use Rattle.std.proofs.Common.{◌≡◌, ◌∙◌, ◌⊎◌, inl, inr, ℕ, ◌+◌, ◌-◌, ◌*◌, ◌/◌, ◌%◌, ◌<◌, List, [], ◌∷◌, ◌++◌, length, map, take, get_or, slice_get, Some, None, refl, sym, ap, subst, arith}
use Rattle.std.specs.Prelude.{slice_index}
use Rattle.std.specs.List.{range_with_len}
use Rattle.std.specs.Option.{option_map}
use Rattle.std.proofs.lemmas.List.{length-map, take_all}
use Rattle.std.proofs.lemmas.Option.{slice_get-get_or, slice_get_within, get_or_from_slice_get}
use Rattle.std.proofs.lemmas.Nat.{mod_below}
use Rattle.store_history.specs.declared.history.Commit.{Commit}
use Rattle.store_history.specs.History.{root_of, edits_of}
use Rattle.store_history.proofs.Lists.{get_take, some_is}
use Rattle.store_history.specs.declared.places.TheConstants.{ROW_BUCKETS, BUCKET_ROOTS}
use Rattle.pin_store.specs.declared.shape.Shape.{Shape}
use Rattle.filter_state.specs.declared.edit.Edit.{Edit}
use Rattle.block_codec.specs.declared.mask.StoredMask.{StoredMask}
use Rattle.block_codec.specs.Masks.{IsStorableMask}
use Rattle.block_codec.specs.OfReadings.Read.{mask_of_words}
use Rattle.block_codec.proofs.OfReadings.MaskReads.{mask_block_reads}
use Rattle.hook_law.specs.Records.{MaskRecord}
use Rattle.hook_law.specs.Chains.{read_first}
use Rattle.mask_table.specs.Buckets.{bucket_root, IsAmong}
use Rattle.mask_table.specs.declared.mirrors.mirror.KeptMask.{KeptMask}
use Rattle.mask_table.specs.OfMirrors.Linked.{Placed, placed, bucket_commit, mask_commit, resized}
use Rattle.mask_order.specs.Fitting.{FitInto}
use Rattle.mask_writer.specs.Masks.{Masks}
use Rattle.mask_writer.specs.Standing.{StandsAt, BucketOf, AreFree, Holds}
use Rattle.mask_writer.proofs.Standing.{record_read, mask_storable, filters_fit}
use Rattle.desk_masks.specs.OfMaskResizes.Resized.{stored_now, CanResize}
use Rattle.desk_masks.proofs.OfMaskResizes.Resizing.{resizes, resize_lawful}
use Rattle.hook_law.specs.Places as places
use Rattle.hook_law.specs.Meaning.{point_of, now_of, state_at}
use Rattle.hook_law.specs.Standing.{Role, Mask, Bucket, IsIn, IsMaskAt, Stands, region_of}
use Rattle.hook_law.specs.Telling.{ReadsMask}
use Rattle.hook_law.specs.Keeping.{Keeps}
use Rattle.hook_law.specs.Unnumbered.{HaveOwnRoots, ResizesWhole}
use Rattle.hook_law.proofs.Standing.{present_end, unused_end}
use Rattle.hook_store_law.specs.Stated.{hook_meaning, filters_at}
use Rattle.hook_store_law.specs.Blocks.{mask_record, hook_codec}
use Rattle.hook_store_law.specs.Told.{with_slots}
use Rattle.hook_store_law.proofs.Reading.{first_maps}
use Rattle.hook_store_law.specs.Kept.{KeepsHook}
use Rattle.hook_store_law.specs.OfEffects.Parts.{words_of}
use Rattle.desk_masks.specs.Masks.{HasMask}
use Rattle.desk_masks.proofs.Going.{bucket_stands}
use Rattle.desk_masks.specs.OfResizes.Refit.{MayRefit, IsOfRefit}
use Rattle.desk_masks.proofs.OfMaskResizes.Resizing.{mapped_at, range_at}
use Rattle.desk_masks.proofs.OfResizes.Lists.{own_take, list_rises, own_last, at_last}

module _ (masks : Masks) (shape : Shape) (cells : List ℕ) (h : List (Commit Edit)) (b point slot size : ℕ) (blocks rows : List ℕ) (m : MayRefit masks shape cells h b point slot size blocks rows) where
  abbrev pub kept : KeptMask
  kept = m.kept

  abbrev pub serial : ℕ
  serial = m.kept.mask.serial

  abbrev pub new_mask : StoredMask
  new_mask = resized m.kept.mask size rows

  pub at : IsMaskAt hook_codec h serial slot
  at = m.has.only slot m.kept m.stands

  one : HasMask masks h serial slot
  one = m.has.has serial slot at

  pub holds : Holds masks slot (point_of h) (stored_now h serial)
  holds = one.holds

  law : Keeps hook_meaning hook_codec h b
  law = m.kept_at.keeps.law

  pub row_in : (k : ℕ) → k < size → IsIn (slice_index rows (k / 16)) rows
  row_in k less = let many = m.many_rows in (k / 16, slice_get-get_or rows (k / 16) 0 (omega (arith, many, less)))

  pub storable : IsStorableMask new_mask
  storable = record {
    size = m.proper;
    rows = m.many_rows;
    each_row = λ i d less. m.rows_are.small (get_or rows i d) (i, slice_get-get_or rows i d less);
  }

  reads : ReadsMask hook_meaning hook_codec serial (root_of h (places.mask_root slot)).chain (state_at hook_meaning (edits_of h) (point_of h - 1)) (now_of hook_meaning h)
  reads = let p = present_end hook_meaning hook_codec h b m.kept_at.low law in let t = p.tells (places.mask_root slot) (Mask serial) (slot, at, refl) in t.reads (point_of h) t.early (omega arith)

  words : kept.mask.mask.words ≡ words_of (now_of hook_meaning h) serial
  words = let read = first_maps mask_record mask_of_words (root_of h (places.mask_root slot)).chain m.kept.mask (record_read masks shape cells (root_of h) m.has.named slot m.kept m.stands) in
      let same : mask_record m.kept.mask ≡ reads.mask = some_same (mask_record m.kept.mask) reads.mask (sym read ∙ reads.read) in ap (λ r. r.words) same ∙ reads.words
    where
      some_same : {A : Type 0} (x y : A) → Some x ≡ Some y → x ≡ y
      some_same x y e = cc e

  fit : FitInto blocks (stored_now h serial)
  fit = record {
    filters = filters_fit masks shape cells (root_of h) m.has.named slot m.kept m.stands (point_of h) (stored_now h serial) holds;
    enough = let many = m.many_blocks in let l = length-map (filters_at (now_of hook_meaning h) serial) (with_slots h) in omega (arith, many, l);
    low = λ place x e. let small = m.blocks_are.pool place x e in omega (arith, small);
  }

  pub can : CanResize h b slot new_mask blocks
  can = let there = (m.has.named.masks slot m.kept m.stands).there in record {
    at = at;
    storable = storable;
    serial = there.serial;
    key = there.mask;
    words = words;
    size = m.fits;
    rows = m.rows_are.different;
    unused = λ k less. let row = slice_index rows (k / 16) in let place : k % 16 < 16 = mod_below k 16 (omega arith) in m.rows_are.free row (row_in k less) (k % 16) place;
    fit = fit;
  }

  pub all_free : AreFree masks rows
  all_free = record {
    different = m.rows_are.different;
    pool = λ i d less. m.rows_are.small (get_or rows i d) (i, slice_get-get_or rows i d less);
    free = λ other row k stands in_old in_new. clash other row k stands in_old in_new;
  }
    where
      sixteenth : (n : ℕ) → 16 * n / 16 ≡ n
      sixteenth n = omega arith

      clash : (other at_row : ℕ) (k : KeptMask) → StandsAt masks other k → IsAmong at_row k.mask.rows → IsAmong at_row rows → ⊥
      clash other at_row k stands in_old in_new =
          let is = mask_storable masks shape cells (root_of h) m.has.named other k stands in let many = is.rows in
          let within = slice_get_within k.mask.rows in_old.0 at_row in_old.1 in
          let same : slice_index k.mask.rows (16 * in_old.0 / 16) ≡ at_row = ap (slice_index k.mask.rows) (sixteenth in_old.0) ∙ get_or_from_slice_get k.mask.rows in_old.0 at_row 0 in_old.1 in
          let bucket : BucketOf masks (bucket_root k.mask (16 * in_old.0)) = record { slot = other; bucket = 16 * in_old.0; kept = k; stands = stands; within = omega (arith, many, within); same = refl } in
          let stood = bucket_stands masks shape cells h m.has (bucket_root k.mask (16 * in_old.0)) bucket in
          let root : bucket_root k.mask (16 * in_old.0) ≡ BUCKET_ROOTS + ROW_BUCKETS * at_row + 0 = omega (arith, same) in
          let role : Role = Bucket (region_of other k.mask.serial (root_of h (places.mask_root other)).stamp (mask_record k.mask)) (16 * in_old.0) in
          unused_end hook_meaning hook_codec h b (BUCKET_ROOTS + ROW_BUCKETS * at_row + 0) role m.kept_at.low (m.rows_are.free at_row in_new 0 (omega arith)) (subst (λ (r : ℕ). Stands hook_meaning hook_codec h r role) root stood)

  module _ (blk : ℕ) where
    abbrev pub ps : List Placed
    ps = placed blocks (stored_now h serial)

    abbrev pub cs : List (Commit Edit)
    cs = map (bucket_commit new_mask ps (point_of h)) (range_with_len 0 size)

    abbrev pub last : Commit Edit
    last = mask_commit slot new_mask blk (point_of h)

    pub whole : ResizesWhole hook_meaning hook_codec b h cs last
    whole = resizes h b slot new_mask blocks blk m.kept_at.low law can

    -- it is the resize of this mask, to this record
    record_is : read_first hook_codec.mask last.named.chain ≡ Some (mask_record new_mask)
    record_is = ap (option_map mask_record) (mask_block_reads new_mask can.storable can.serial can.key)

    pub its_mask : whole.mask ≡ mask_record new_mask
    its_mask = some_is whole.mask (mask_record new_mask) (sym whole.read ∙ record_is)

    pub its_serial : serial ≡ whole.serial
    its_serial = let reads_ = whole.reads in ap (λ (r : MaskRecord). r.serial) (some_is (mask_record new_mask) reads_.mask (sym record_is ∙ reads_.read)) ∙ reads_.serial

    record IsBucketCommit (c : Commit Edit) : Type 0 where
      k : ℕ
      less : k < size
      is : c ≡ bucket_commit new_mask ps (point_of h) k

    commit_at : (j : ℕ) (c : Commit Edit) → slice_get cs j ≡ Some c → IsBucketCommit c
    commit_at j c e = let q = mapped_at (bucket_commit new_mask ps (point_of h)) (range_with_len 0 size) j c e in let r = range_at 0 size j q.0 q.1 in let off = r.0 in let in_ = r.1 in
        record { k = q.0; less = omega (arith, off, in_); is = q.2 }

    -- in the order of the buckets
    pub commit_is : (j : ℕ) (c : Commit Edit) → slice_get cs j ≡ Some c → (j < size) × (c ≡ bucket_commit new_mask ps (point_of h) j)
    commit_is j c e = let q = mapped_at (bucket_commit new_mask ps (point_of h)) (range_with_len 0 size) j c e in let r = range_at 0 size j q.0 q.1 in let off = r.0 in let same : q.0 ≡ j = omega (arith, off) in
        (r.1, q.2 ∙ ap (bucket_commit new_mask ps (point_of h)) same)

    -- each is to a bucket of the rows, or to the slot
    pub each_root : (j : ℕ) (c : Commit Edit) → slice_get (cs ++ last ∷ []) j ≡ Some c → (c.edit ≡ None) × IsOfRefit slot rows c.root
    each_root j c e = sort (at_last cs last j c e)
      where
        sort : (slice_get cs j ≡ Some c) ⊎ ((j ≡ length cs) × (last ≡ c)) → (c.edit ≡ None) × IsOfRefit slot rows c.root
        sort (inl there) = let q = commit_at j c there in let place : q.k % 16 < 16 = mod_below q.k 16 (omega arith) in
            subst (λ (d : Commit Edit). (d.edit ≡ None) × IsOfRefit slot rows d.root) (sym q.is) (refl, inr (slice_index rows (q.k / 16), q.k % 16, row_in q.k q.less, place, refl))
        sort (inr own) = subst (λ (d : Commit Edit). (d.edit ≡ None) × IsOfRefit slot rows d.root) own.1 (refl, inl refl)

    pub each_stamp : (j : ℕ) (c : Commit Edit) → slice_get (cs ++ last ∷ []) j ≡ Some c → c.named.stamp ≡ point_of h
    each_stamp j c e = sort (at_last cs last j c e)
      where
        sort : (slice_get cs j ≡ Some c) ⊎ ((j ≡ length cs) × (last ≡ c)) → c.named.stamp ≡ point_of h
        sort (inl there) = let q = commit_at j c there in ap (λ (d : Commit Edit). d.named.stamp) q.is
        sort (inr own) = ap (λ (d : Commit Edit). d.named.stamp) (sym own.1)

    each_older : (j : ℕ) (c : Commit Edit) → slice_get (cs ++ last ∷ []) j ≡ Some c → (root_of h c.root).stamp < c.named.stamp
    each_older j c e = let stamp = each_stamp j c e in let point_is = m.kept_at.point_is in let low = sort (each_root j c e).1 in omega (arith, stamp, point_is, low)
      where
        sort : IsOfRefit slot rows c.root → (root_of h c.root).stamp < point
        sort (inl is) = subst (λ (r : ℕ). (root_of h r).stamp < point) (sym is) m.older
        sort (inr own) = subst (λ (r : ℕ). (root_of h r).stamp < point) (sym own.4) (m.rows_are.older own.0 own.1 own.2 own.3)

    own_all : HaveOwnRoots (cs ++ last ∷ [])
    own_all = own_last cs last whole.own_roots (λ j c e same. let q = commit_at j c e in let root = ap (λ (d : Commit Edit). d.root) q.is in let small = at.small in omega (arith, root, same, small))

    pub lawful : (n : ℕ) → KeepsHook (h ++ take n (cs ++ last ∷ [])) b
    lawful n = record {
      law = resize_lawful h b slot new_mask blocks blk m.kept_at.low law can n;
      stamps = list_rises (take n (cs ++ last ∷ [])) h m.kept_at.keeps.stamps (own_take n (cs ++ last ∷ []) own_all) (λ j c e. each_older j c (get_take (cs ++ last ∷ []) n j c e));
    }

    pub all_rise : KeepsHook (h ++ (cs ++ last ∷ [])) b
    all_rise = subst (λ (z : List (Commit Edit)). KeepsHook (h ++ z) b) (take_all (length (cs ++ last ∷ [])) (cs ++ last ∷ []) (omega arith)) (lawful (length (cs ++ last ∷ [])))
