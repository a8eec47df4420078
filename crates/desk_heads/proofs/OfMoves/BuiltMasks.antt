-- The masks that the writer holds, with one more that is built.
use Rattle.std.proofs.Common.{◌≡◌, ◌≢◌, ◌∙◌, ◌⊎◌, inl, inr, ℕ, ◌+◌, ◌*◌, ◌/◌, ◌<◌, ◌≤◌, List, [], ◌∷◌, ◌++◌, length, map, get_or, set, slice_get, Option, Some, None, refl, sym, ap, subst, arith, length-append}
use mathlib.Core.Logic.{dite}
use native.Mathlib.Decide.{ℕ_discrete}
use Rattle.std.proofs.lemmas.List.{get_or-set_same, get_or-set_other}
use Rattle.std.proofs.lemmas.Option.{same_Some, slice_get_within, get_or_from_slice_get, slice_get-get_or}
use Rattle.visit_room.specs.declared.names.MaskName.{MaskName}
use Rattle.store_history.specs.declared.history.Commit.{Commit}
use Rattle.store_history.specs.History.{root_of}
use Rattle.store_history.proofs.Lists.{some_is}
use Rattle.pin_store.specs.declared.shape.Shape.{Shape}
use Rattle.filter_state.specs.declared.edit.Edit.{Edit}
use Rattle.filter_state.specs.States.{State}
use Rattle.block_codec.specs.declared.filter.StoredFilter.{StoredFilter}
use Rattle.block_codec.specs.declared.mask.StoredMask.{StoredMask}
use Rattle.block_codec.specs.OfReadings.Read.{mask_of_words}
use Rattle.mask_table.specs.Buckets.{bucket_root}
use Rattle.mask_table.specs.declared.mirrors.mirror.KeptMask.{KeptMask}
use Rattle.mask_writer.specs.Masks.{Masks}
use Rattle.mask_writer.specs.Standing.{masks_of, StandsAt, IsEmptyAt, Holds, AreNamed, AreFree}
use Rattle.mask_writer.proofs.Standing.{slots_count, record_read, mask_storable}
use Rattle.hook_law.specs.Places as places
use Rattle.hook_law.specs.Records.{MaskRecord}
use Rattle.hook_law.specs.Meaning.{point_of}
use Rattle.hook_law.specs.Standing.{Mask, Bucket, region_of, IsMaskAt, Stands}
use Rattle.hook_law.specs.Heads.{IsPrepared}
use Rattle.hook_law.proofs.Standing.{unused_end}
use Rattle.hook_store_law.specs.Stated.{hook_meaning, filters_at}
use Rattle.hook_store_law.specs.Blocks.{mask_record, hook_codec}
use Rattle.hook_store_law.specs.Told.{with_slots}
use Rattle.hook_store_law.proofs.Reading.{first_maps}
use Rattle.hook_store_law.specs.Kept.{KeepsHook}
use Rattle.hook_store_law.proofs.OfEdits.Accepted.{sound}
use Rattle.desk_masks.specs.OfMaskResizes.Resized.{stored_now}
use Rattle.desk_heads.specs.OfHeadCommits.Raised.{stored_next, IsReady, CanRaise}
use Rattle.desk_heads.specs.OfHeadCommits.Built.{IsBuilt}
use Rattle.desk_heads.proofs.OfHeadCommits.Raising.{raise_keeps, raise_back, raise_now, raise_next, raise_edits, raise_mask}
use Rattle.desk_heads.proofs.OfHeadCommits.Giving.{stored_later}
use Rattle.hook_law.proofs.Standing.{slot_longer}
use Rattle.desk_masks.proofs.Slotting.{stored_stay}
use Rattle.desk_heads.specs.OfMoves.Builds.{HasBuilt, HoldsBuilt}
use Rattle.desk_heads.proofs.OfMoves.OneMore.{built_sort, built_more, built_last, cs, after, name, apart_slot, apart_row, fresh_after}

-- a bucket of a held mask that a head names
pub bucket_stood : (masks : Masks) (shape : Shape) (cells : List ℕ) (h : List (Commit Edit)) → AreNamed masks shape cells (root_of h) → (s bucket : ℕ) (kept : KeptMask) → StandsAt masks s kept → IsMaskAt hook_codec h kept.mask.serial s
    → bucket < kept.mask.size → Stands hook_meaning hook_codec h (bucket_root kept.mask bucket) (Bucket (region_of s kept.mask.serial (root_of h (places.mask_root s)).stamp (mask_record kept.mask)) bucket)
bucket_stood masks shape cells h named s bucket kept stands at less = (
  at_row,
  record {
    mask = mask_record kept.mask;
    at_mask = at;
    read = first_maps mask_record mask_of_words (root_of h (places.mask_root s)).chain kept.mask (record_read masks shape cells (root_of h) named s kept stands);
    stamped = refl;
    sized = refl;
    inside = less;
    there = slice_get-get_or kept.mask.rows (bucket / 16) 0 inside;
    small = (mask_storable masks shape cells (root_of h) named s kept stands).each_row (bucket / 16) 0 inside;
  },
  refl,
)
  where
    at_row : ℕ
    at_row = get_or kept.mask.rows (bucket / 16) 0

    inside : bucket / 16 < length kept.mask.rows
    inside = let count = (mask_storable masks shape cells (root_of h) named s kept stands).rows in omega (arith, count, less)

-- what was prepared at the slot of a held mask is its record
pub prepared_record : (masks : Masks) (shape : Shape) (cells : List ℕ) (h : List (Commit Edit)) (b : ℕ) (y : Edit) → AreNamed masks shape cells (root_of h) → (m s : ℕ) (kept : KeptMask) → StandsAt masks s kept
    → (p : IsPrepared hook_meaning hook_codec b h y m s) → p.record_read ≡ mask_record kept.mask
prepared_record masks shape cells h b y named m s kept stands p = some_is p.record_read (mask_record kept.mask)
    (sym p.read ∙ first_maps mask_record mask_of_words (root_of h (places.mask_root s)).chain kept.mask (record_read masks shape cells (root_of h) named s kept stands))

module _ (h : List (Commit Edit)) (b : ℕ) (y : Edit) (slot : ℕ) (mask : StoredMask) (given : List ℕ) (blk : ℕ) (keeps : KeepsHook h b) (ready : IsReady h b y) (can : CanRaise h b y slot mask given)
    (masks : Masks) (shape : Shape) (cells : List ℕ) (built : List MaskName) (has : HoldsBuilt masks shape cells h b y built) where
  low : b ≤ length h
  low = ready.accepted.low

  not_slot : (m s : ℕ) → IsMaskAt hook_codec h m s → s ≢ slot
  not_slot m s at same = unused_end hook_meaning hook_codec h b (places.mask_root slot) (Mask m) low can.at_slot.unused (s, at, ap places.mask_root (sym same))

  not_built : (m s : ℕ) → IsBuilt built m s → s ≢ slot
  not_built m s x = apart_slot h b y slot mask given blk keeps ready can m s (has.fresh.prepared m s x)

  away : (s : ℕ) (kept : KeptMask) → StandsAt masks s kept → s ≢ slot
  away s kept stands = pick (has.only s kept stands)
    where
      pick : IsMaskAt hook_codec h kept.mask.serial s ⊎ IsBuilt built kept.mask.serial s → s ≢ slot
      pick (inl at) = not_slot kept.mask.serial s at
      pick (inr x) = not_built kept.mask.serial s x

  pub slot_empty : IsEmptyAt masks slot
  slot_empty = pick (get_or (masks_of masks) slot None) refl
    where
      pick : (k : Option KeptMask) → get_or (masks_of masks) slot None ≡ k → get_or (masks_of masks) slot None ≡ None
      pick None is = is
      pick (Some kept) is = absurd (away slot kept is refl)

  -- the record of a mask that was built is the one that is held
  held_record : (s : ℕ) (kept : KeptMask) → StandsAt masks s kept → (p : IsPrepared hook_meaning hook_codec b h y kept.mask.serial s) → p.record_read ≡ mask_record kept.mask
  held_record s kept stands p = some_is p.record_read (mask_record kept.mask)
      (sym p.read ∙ first_maps mask_record mask_of_words (root_of h (places.mask_root s)).chain kept.mask (record_read masks shape cells (root_of h) has.named s kept stands))

  pub rows_free : AreFree masks mask.rows
  rows_free = record {
    different = can.distinct;
    pool = can.storable.each_row;
    free = λ s at_row kept stands x z. sort s at_row kept stands x.0 x.1 z.0 z.1 (has.only s kept stands);
  }
    where
      sort : (s at_row : ℕ) (kept : KeptMask) → StandsAt masks s kept → (i : ℕ) → slice_get kept.mask.rows i ≡ Some at_row → (j : ℕ) → slice_get mask.rows j ≡ Some at_row
          → IsMaskAt hook_codec h kept.mask.serial s ⊎ IsBuilt built kept.mask.serial s → ⊥
      sort s at_row kept stands i at j mine (inr x) = let p = has.fresh.prepared kept.mask.serial s x in
          apart_row h b y slot mask given blk keeps ready can kept.mask.serial s p i j at_row (subst (λ (r : MaskRecord). slice_get r.rows i ≡ Some at_row) (sym (held_record s kept stands p)) at) mine
      sort s at_row kept stands i at j mine (inl stood) =
          let rows = can.storable.rows in let inside = slice_get_within mask.rows j at_row mine in
          let kept_rows = (mask_storable masks shape cells (root_of h) has.named s kept stands).rows in let kept_inside = slice_get_within kept.mask.rows i at_row at in
          let spare = can.at_rows (16 * j) (omega (arith, rows, inside)) in
          let place : j ≡ 16 * j / 16 = omega arith in let kept_place : i ≡ 16 * i / 16 = omega arith in
          let row_is : get_or mask.rows (16 * j / 16) 0 ≡ at_row = ap (λ (n : ℕ). get_or mask.rows n 0) (sym place) ∙ get_or_from_slice_get mask.rows j at_row 0 mine in
          let kept_row : get_or kept.mask.rows (16 * i / 16) 0 ≡ at_row = ap (λ (n : ℕ). get_or kept.mask.rows n 0) (sym kept_place) ∙ get_or_from_slice_get kept.mask.rows i at_row 0 at in
          let same : bucket_root kept.mask (16 * i) ≡ bucket_root mask (16 * j) = omega (arith, row_is, kept_row) in
          unused_end hook_meaning hook_codec h b (bucket_root mask (16 * j)) (Bucket (region_of s kept.mask.serial (root_of h (places.mask_root s)).stamp (mask_record kept.mask)) (16 * i)) low spare.unused
          (subst (λ (r : ℕ). Stands hook_meaning hook_codec h r (Bucket (region_of s kept.mask.serial (root_of h (places.mask_root s)).stamp (mask_record kept.mask)) (16 * i))) same
          (bucket_stood masks shape cells h has.named s (16 * i) kept stands stood (omega (arith, kept_rows, kept_inside))))

  -- ---- afterwards
  abbrev h1 : List (Commit Edit)
  h1 = after h b y slot mask given blk keeps ready can

  abbrev named_ : MaskName
  named_ = name h b y slot mask given blk keeps ready can

  law1 : KeepsHook h1 b
  law1 = raise_keeps h b y slot mask given blk keeps ready can

  point_same : point_of h1 ≡ point_of h
  point_same = ap length (raise_edits h b y slot mask given blk keeps ready can)

  stored_before : (m : ℕ) → stored_now h1 m ≡ stored_now h m
  stored_before m = ap (λ (t : State). map (with_slots h1) (filters_at t m)) (raise_now h b y slot mask given blk keeps ready can)
      ∙ stored_stay h h1 b low keeps.law (let more = length-append h (cs h b y slot mask given blk keeps ready can) in omega (arith, low, more)) law1.law (λ a s x. slot_longer hook_codec h (cs h b y slot mask given blk keeps ready can) a s x)
      m (sound h b y ready.state ready.done ready.accepted)

  stored_after : (m : ℕ) → stored_next h1 y m ≡ stored_next h y m
  stored_after m = ap (λ (t : State). map (with_slots h1) (filters_at t m)) (raise_next h b y slot mask given blk keeps ready can)
      ∙ stored_later h (cs h b y slot mask given blk keeps ready can) b y m ready law1.law

  module _ (masks2 : Masks) (cells2 : List ℕ) (named : AreNamed masks2 shape cells2 (root_of h1)) (set_is : masks_of masks2 ≡ set (masks_of masks) slot (Some (record { block = blk; mask = mask })))
      (list : Holds masks2 slot (point_of h + 1) (stored_next h y mask.serial)) (lists : (other last : ℕ) (fs : List StoredFilter) → other ≢ slot → Holds masks other last fs → Holds masks2 other last fs) where
    other_slot : (s : ℕ) → s ≢ slot → get_or (masks_of masks2) s None ≡ get_or (masks_of masks) s None
    other_slot s ne = ap (λ (ks : List (Option KeptMask)). get_or ks s None) set_is ∙ get_or-set_other (masks_of masks) slot s _ None ne

    own_slot : get_or (masks_of masks2) slot None ≡ Some (record { block = blk; mask = mask })
    own_slot = ap (λ (ks : List (Option KeptMask)). get_or ks slot None) set_is ∙ get_or-set_same (masks_of masks) slot _ None (let count = slots_count masks shape cells (root_of h) has.named in let less = can.small in omega (arith, count, less))

    old_built : (m s : ℕ) → IsBuilt built m s → HasBuilt masks2 h1 y m s
    old_built m s x = let old = has.has_built m s x in let ne = not_built m s x in record {
      kept = old.kept;
      stands = other_slot s ne ∙ old.stands;
      serial = old.serial;
      holds = subst (λ (n : ℕ). Holds masks2 s (n + 1) (stored_next h1 y m)) (sym point_same) (subst (Holds masks2 s (point_of h + 1)) (sym (stored_after m)) (lists s (point_of h + 1) (stored_next h y m) ne old.holds));
    }

    new_built : HasBuilt masks2 h1 y mask.serial slot
    new_built = record {
      kept = record { block = blk; mask = mask };
      stands = own_slot;
      serial = refl;
      holds = subst (λ (n : ℕ). Holds masks2 slot (n + 1) (stored_next h1 y mask.serial)) (sym point_same) (subst (Holds masks2 slot (point_of h + 1)) (sym (stored_after mask.serial)) list);
    }

    pub build_holds : HoldsBuilt masks2 shape cells2 h1 b y (built ++ named_ ∷ [])
    build_holds = record {
      named = named;
      has = λ m s at. let was = raise_back h b y slot mask given blk keeps ready can m s at in let old = has.has m s was in let ne = not_slot m s was in record {
        kept = old.kept;
        stands = other_slot s ne ∙ old.stands;
        serial = old.serial;
        holds = subst (λ (n : ℕ). Holds masks2 s n (stored_now h1 m)) (sym point_same) (subst (Holds masks2 s (point_of h)) (sym (stored_before m)) (lists s (point_of h) (stored_now h m) ne old.holds));
      };
      has_built = λ m s x. sort m s (built_sort built named_ m s x);
      only = λ s kept stands. dite (ℕ_discrete s slot) (λ (mine : s ≡ slot). inr (of_new s kept mine stands)) (λ (ne : s ≢ slot). of_old s kept (has.only s kept (sym (other_slot s ne) ∙ stands)));
      fresh = fresh_after h b y slot mask given blk keeps ready can built has.fresh;
    }
      where
        sort : (m s : ℕ) → IsBuilt built m s ⊎ ((mask.serial ≡ m) × (slot ≡ s)) → HasBuilt masks2 h1 y m s
        sort m s (inl x) = old_built m s x
        sort m s (inr is) = subst (λ (n : ℕ). HasBuilt masks2 h1 y n s) is.0 (subst (HasBuilt masks2 h1 y mask.serial) is.1 new_built)

        of_new : (s : ℕ) (kept : KeptMask) → s ≡ slot → StandsAt masks2 s kept → IsBuilt (built ++ named_ ∷ []) kept.mask.serial s
        of_new s kept mine stands = let both : Some (record { block = blk; mask = mask }) ≡ Some kept = sym own_slot ∙ (ap (λ (n : ℕ). get_or (masks_of masks2) n None) (sym mine) ∙ stands) in
            subst (IsBuilt (built ++ named_ ∷ []) kept.mask.serial) (sym mine) (subst (λ (k : KeptMask). IsBuilt (built ++ named_ ∷ []) k.mask.serial slot) (same_Some _ kept both) (built_last built named_))

        of_old : (s : ℕ) (kept : KeptMask) → IsMaskAt hook_codec h kept.mask.serial s ⊎ IsBuilt built kept.mask.serial s → IsMaskAt hook_codec h1 kept.mask.serial s ⊎ IsBuilt (built ++ named_ ∷ []) kept.mask.serial s
        of_old s kept (inl at) = inl (raise_mask h b y slot mask given blk keeps ready can kept.mask.serial s at)
        of_old s kept (inr x) = inr (built_more built named_ kept.mask.serial s x)
