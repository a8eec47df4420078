-- The masks that the writer holds, once a mask is put whole for a filter of its own.
use Rattle.std.proofs.Common.{◌≡◌, ◌≢◌, ◌∙◌, ◌⊎◌, inl, inr, ℕ, zero, suc, ◌+◌, ◌*◌, ◌/◌, ◌<◌, ◌≤◌, List, [], ◌∷◌, ◌++◌, length, map, get_or, set, slice_get, Option, Some, None, refl, sym, ap, subst, arith, append_assoc, length-append}
use mathlib.Core.Logic.{dite}
use native.Mathlib.Decide.{ℕ_discrete}
use Rattle.std.proofs.lemmas.List.{get_or-set_same, get_or-set_other}
use Rattle.std.proofs.lemmas.Option.{same_Some, slice_get_within, get_or_from_slice_get}
use Rattle.tc_base.specs.declared.hook.Hook.{Hook}
use Rattle.tc_base.specs.declared.hook.Hook.TheVariants as hooks
use Rattle.visit_room.specs.declared.names.MaskName.{MaskName}
use Rattle.store_history.specs.declared.history.Commit.{Commit}
use Rattle.store_history.specs.declared.history.Named.{Named}
use Rattle.store_history.specs.History.{root_of, edits_of}
use Rattle.store_history.proofs.Histories.{root_other}
use Rattle.store_history.specs.declared.places.TheConstants.{MASK_ROOTS}
use Rattle.pin_store.specs.declared.shape.Shape.{Shape}
use Rattle.filter_state.specs.declared.edit.Edit.{Edit}
use Rattle.filter_state.specs.States.{State}
use Rattle.block_codec.specs.declared.filter.StoredFilter.{StoredFilter}
use Rattle.block_codec.specs.declared.mask.StoredMask.{StoredMask}
use Rattle.block_codec.specs.declared.table.StoredTable.{StoredTable}
use Rattle.hook_store_law.specs.OfEffects.Parts.{Stands}
use Rattle.mask_table.specs.Buckets.{bucket_root}
use Rattle.mask_table.specs.declared.mirrors.mirror.KeptMask.{KeptMask}
use Rattle.mask_writer.specs.Masks.{Masks}
use Rattle.mask_writer.specs.Standing.{masks_of, StandsAt, IsEmptyAt, Holds, BucketOf, AreNamed, AreFree}
use Rattle.mask_writer.proofs.Standing.{slots_count, held_later, mask_storable}
use Rattle.miniq_pair.specs.Heads.{hook_number}
use Rattle.miniq_pair.specs.Pairs.{swap_commit}
use Rattle.hook_law.specs.Places as places
use Rattle.hook_law.specs.Records.{StatedTable}
use Rattle.hook_law.specs.Meaning.{point_of}
use Rattle.hook_law.specs.Keeping.{Keeps}
use Rattle.hook_law.specs.Standing.{Mask, Bucket, region_of, IsMaskAt}
use Rattle.hook_law.proofs.Standing.{present_end, unused_end}
use Rattle.hook_store_law.specs.Stated.{TableNames, hook_meaning, tables_at, filters_at}
use Rattle.hook_store_law.specs.Blocks.{mask_record, hook_codec}
use Rattle.hook_store_law.specs.Told.{with_slots}
use Rattle.hook_store_law.specs.Kept.{KeepsHook}
use Rattle.hook_store_law.specs.OfEdits.Premises.{now, next}
use Rattle.hook_store_law.proofs.OfEdits.Accepted.{sound}
use Rattle.desk_masks.specs.OfMaskResizes.Resized.{stored_now}
use Rattle.desk_masks.specs.OfHeadChains.Chains.{IsNamedIn}
use Rattle.desk_heads.specs.OfHeadCommits.Listed.{HasSerial}
use Rattle.desk_heads.specs.OfHeadCommits.Raised.{stored_next, IsReady}
use Rattle.desk_heads.proofs.OfHeadCommits.Raising.{raise_mask, raise_back}
use Rattle.desk_heads.proofs.OfHeadCommits.Places.{root_has, has_named}
use Rattle.desk_heads.proofs.OfHeadCommits.Standing.{standing, stands_on}
use Rattle.desk_heads.proofs.OfHeadCommits.Giving.{head_law, sort_after, named_after, keeps_slot, now_after, edits_after, stored_later}
use Rattle.desk_masks.specs.Masks.{HasMask, HasMasks}
use Rattle.desk_masks.proofs.Going.{bucket_stands}
use Rattle.desk_heads.specs.OfHeadCommits.Built.{IsBuilt}
use Rattle.desk_heads.specs.OfHeadCommits.Built.{IsConcerned, IsGiven}
use Rattle.desk_heads.specs.Opens.{OpensMask}
use Rattle.desk_heads.proofs.Holding.{SamePool, named_on}
use Rattle.desk_heads.proofs.Opened.{blk, law_commits, after, after_keeps, after_ready, after_next, after_edits, built, built_is, it_is_built, it_is_here}

pub one_hook : (hook : Hook) → hook_number hook < 2
one_hook hooks.Ingress = omega arith
one_hook hooks.Egress = omega arith

hook_of : (n : ℕ) → n < 2 → (k : Hook) × (hook_number k ≡ n)
hook_of zero less = (hooks.Ingress, refl)
hook_of (suc zero) less = (hooks.Egress, refl)
hook_of (suc (suc n)) less = absurd (omega arith)

-- a mask that a head names stands
pub mask_stood : (h : List (Commit Edit)) (b : ℕ) (y : Edit) → IsReady h b y → (m s : ℕ) → IsMaskAt hook_codec h m s → Stands (now h) m
mask_stood h b y ready m s at = let k = hook_of at.hook at.one in let p = present_end hook_meaning hook_codec h b ready.accepted.low ready.accepted.keeps in
    standing (now h) k.0 m (sound h b y ready.state ready.done ready.accepted) (subst (λ (n : ℕ). HasSerial (tables_at (now h) n) m) (sym k.1) (root_has h m s at.hook p at.one at.there))

module _ (h : List (Commit Edit)) (b : ℕ) (y : Edit) (hook : Hook) (slot : ℕ) (mask : StoredMask) (filter : StoredFilter) (given : List ℕ) (keeps : KeepsHook h b) (o : OpensMask h b y hook slot mask filter given)
    (masks : Masks) (shape : Shape) (cells : List ℕ) (has : HasMasks masks shape cells h) where
  low : b ≤ length h
  low = o.ready.accepted.low

  not_slot : (m s : ℕ) → IsMaskAt hook_codec h m s → s ≢ slot
  not_slot m s at same = unused_end hook_meaning hook_codec h b (places.mask_root slot) (Mask m) low o.can.at_slot.unused (s, at, ap places.mask_root (sym same))

  -- ---- what the writer asks of the slot and of the rows
  pub slot_empty : IsEmptyAt masks slot
  slot_empty = pick (get_or (masks_of masks) slot None) refl
    where
      pick : (k : Option KeptMask) → get_or (masks_of masks) slot None ≡ k → get_or (masks_of masks) slot None ≡ None
      pick None is = is
      pick (Some kept) is = absurd (not_slot kept.mask.serial slot (has.only slot kept is) refl)

  pub rows_free : AreFree masks mask.rows
  rows_free = record {
    different = o.can.distinct;
    pool = o.can.storable.each_row;
    free = λ s row kept stands x z. clash s row kept stands x.0 x.1 z.0 z.1;
  }
    where
      clash : (s number : ℕ) (kept : KeptMask) → StandsAt masks s kept → (i : ℕ) → slice_get kept.mask.rows i ≡ Some number → (j : ℕ) → slice_get mask.rows j ≡ Some number → ⊥
      clash s number kept stands i at j own =
          let rows = o.can.storable.rows in let inside = slice_get_within mask.rows j number own in
          let kept_rows = (mask_storable masks shape cells (root_of h) has.named s kept stands).rows in let kept_inside = slice_get_within kept.mask.rows i number at in
          let spare = o.can.at_rows (16 * j) (omega (arith, rows, inside)) in
          let place : j ≡ 16 * j / 16 = omega arith in let kept_place : i ≡ 16 * i / 16 = omega arith in
          let row_is : get_or mask.rows (16 * j / 16) 0 ≡ number = ap (λ (n : ℕ). get_or mask.rows n 0) (sym place) ∙ get_or_from_slice_get mask.rows j number 0 own in
          let kept_row : get_or kept.mask.rows (16 * i / 16) 0 ≡ number = ap (λ (n : ℕ). get_or kept.mask.rows n 0) (sym kept_place) ∙ get_or_from_slice_get kept.mask.rows i number 0 at in
          let same : bucket_root mask (16 * j) ≡ bucket_root kept.mask (16 * i) = omega (arith, row_is, kept_row) in
          let bucket : BucketOf masks (bucket_root mask (16 * j)) = record { slot = s; bucket = 16 * i; kept = kept; stands = stands; within = omega (arith, kept_rows, kept_inside); same = same } in
          unused_end hook_meaning hook_codec h b (bucket_root mask (16 * j)) (Bucket (region_of s kept.mask.serial (root_of h (places.mask_root s)).stamp (mask_record kept.mask)) (16 * i)) low spare.unused
          (bucket_stands masks shape cells h has (bucket_root mask (16 * j)) bucket)

  -- ---- after the head's commit
  module _ (place : ℕ) (tables : List StoredTable) (within : place ≤ 1) (g : IsGiven (after h b y hook slot mask filter given keeps o) b y hook (built h b y hook slot mask filter given keeps o) tables) where
    abbrev h1 : List (Commit Edit)
    h1 = after h b y hook slot mask filter given keeps o

    abbrev made : List MaskName
    made = built h b y hook slot mask filter given keeps o

    abbrev c : Commit Edit
    c = swap_commit hook place tables (point_of h1 + 1) y

    abbrev h2 : List (Commit Edit)
    h2 = h1 ++ c ∷ []

    keeps1 : KeepsHook h1 b
    keeps1 = after_keeps h b y hook slot mask filter given keeps o

    abbrev C : ℕ → Type 0
    C = IsConcerned h1 y made

    -- the state and the filters of each mask
    pub now_is : now h2 ≡ next h y
    now_is = now_after h1 b y hook C (IsBuilt made) place tables keeps1 (after_ready h b y hook slot mask filter given keeps o) within g ∙ after_next h b y hook slot mask filter given keeps o

    pub edits_are : edits_of h2 ≡ edits_of h ++ y ∷ []
    edits_are = edits_after h1 b y hook C (IsBuilt made) place tables keeps1 (after_ready h b y hook slot mask filter given keeps o) within g ∙ ap (λ (es : List Edit). es ++ y ∷ []) (after_edits h b y hook slot mask filter given keeps o)

    pub point_is : point_of h2 ≡ point_of h + 1
    point_is = ap length edits_are ∙ length-append (edits_of h) (y ∷ [])

    stored_is : (m : ℕ) → stored_now h2 m ≡ stored_next h y m
    stored_is m = ap (λ (s : State). map (with_slots h2) (filters_at s m)) now_is
        ∙ (ap (λ (g2 : List (Commit Edit)). map (with_slots g2) (filters_at (next h y) m)) whole
        ∙ stored_later h (law_commits h b y hook slot mask filter given keeps o ++ c ∷ []) b y m o.ready (subst (λ (g2 : List (Commit Edit)). Keeps hook_meaning hook_codec g2 b) whole law))
      where
        whole : h2 ≡ h ++ (law_commits h b y hook slot mask filter given keeps o ++ c ∷ [])
        whole = append_assoc h (law_commits h b y hook slot mask filter given keeps o) (c ∷ [])

        law : Keeps hook_meaning hook_codec h2 b
        law = head_law h1 b y hook C (IsBuilt made) place tables keeps1 (after_ready h b y hook slot mask filter given keeps o) within g

    stored_same : (m : ℕ) → mask.serial ≢ m → stored_now h2 m ≡ stored_now h m
    stored_same m ne = stored_is m ∙ ap (map (with_slots h)) (o.leaves.filters m (λ same. ne (sym same)))

    -- a mask that stood and isn't the new one isn't concerned
    not_concerned : (m s : ℕ) → IsMaskAt hook_codec h m s → C m → ⊥
    not_concerned m s at (inl x) = o.new (subst (Stands (now h)) (sym (built_is h b y hook slot mask filter given keeps o m x.0 x.1).0) (mask_stood h b y o.ready m s at))
    not_concerned m s at (inr gone) = gone (subst (λ (t : State). Stands t m) (sym (after_next h b y hook slot mask filter given keeps o))
        (stands_on (now h) (next h y) m (o.leaves.filters m (λ same. o.new (subst (Stands (now h)) same (mask_stood h b y o.ready m s at)))) (mask_stood h b y o.ready m s at)))

    module _ (masks2 : Masks) (cells1 cells2 : List ℕ) (named : AreNamed masks2 shape cells1 (root_of h1))
        (set_is : masks_of masks2 ≡ set (masks_of masks) slot (Some (record { block = blk h b y hook slot mask filter given keeps o; mask = mask })))
        (list : Holds masks2 slot (point_of h + 1) (filter ∷ [])) (lists : (other last : ℕ) (fs : List StoredFilter) → other ≢ slot → Holds masks other last fs → Holds masks2 other last fs)
        (pool : SamePool shape cells1 cells2) where
      named2 : AreNamed masks2 shape cells2 (root_of h2)
      named2 = named_on masks2 shape cells1 cells2 (root_of h1) (root_of h2) named pool
          (λ r high. ap (λ (n : Named). n.chain) (root_other h1 c r (λ same. low_root hook r same high)))
        where
          low_root : (k : Hook) (r : ℕ) → 1 + hook_number k ≡ r → MASK_ROOTS ≤ r → ⊥
          low_root k r same high = let one = one_hook k in absurd (omega (arith, same, high, one))

      other_slot : (s : ℕ) → s ≢ slot → get_or (masks_of masks2) s None ≡ get_or (masks_of masks) s None
      other_slot s ne = ap (λ (ks : List (Option KeptMask)). get_or ks s None) set_is ∙ get_or-set_other (masks_of masks) slot s _ None ne

      own_slot : get_or (masks_of masks2) slot None ≡ Some (record { block = blk h b y hook slot mask filter given keeps o; mask = mask })
      own_slot = ap (λ (ks : List (Option KeptMask)). get_or ks slot None) set_is ∙ get_or-set_same (masks_of masks) slot _ None (let count = slots_count masks shape cells (root_of h) has.named in let less = o.can.small in omega (arith, count, less))

      old_mask : (m s : ℕ) → IsMaskAt hook_codec h m s → mask.serial ≢ m → HasMask masks2 h2 m s
      old_mask m s at ne = let old = has.has m s at in let away = not_slot m s at in record {
        kept = old.kept;
        stands = other_slot s away ∙ old.stands;
        serial = old.serial;
        holds = subst (Holds masks2 s (point_of h2)) (sym (stored_same m ne)) (held_later masks2 s (point_of h) (point_of h2) (stored_now h m) (let up = point_is in omega (arith, up)) (lists s (point_of h) (stored_now h m) away old.holds));
      }

      new_mask : HasMask masks2 h2 mask.serial slot
      new_mask = record {
        kept = record { block = blk h b y hook slot mask filter given keeps o; mask = mask };
        stands = own_slot;
        serial = refl;
        holds = subst (λ (n : ℕ). Holds masks2 slot n (stored_now h2 mask.serial)) (sym point_is) (subst (Holds masks2 slot (point_of h + 1)) (sym (stored_is mask.serial ∙ o.filters)) list);
      }

      -- the new mask is at its slot
      new_at : IsMaskAt hook_codec h2 mask.serial slot
      new_at = sort (has_named tables mask.serial (subst (λ (ts : List (StatedTable TableNames)). HasSerial ts mask.serial) (sym g.are)
          (subst (λ (t : State). HasSerial (tables_at t (hook_number hook)) mask.serial) (sym (after_next h b y hook slot mask filter given keeps o)) (it_is_here h b y hook slot mask filter given keeps o))))
        where
          by : (s : ℕ) → IsNamedIn tables mask.serial s → IsBuilt made mask.serial s ⊎ (IsMaskAt hook_codec h1 mask.serial s × (C mask.serial → ⊥)) → IsMaskAt hook_codec h2 mask.serial slot
          by s n (inl x) = named_after h1 b y hook C (IsBuilt made) place tables keeps1 (after_ready h b y hook slot mask filter given keeps o) within g mask.serial slot o.can.small
              (subst (IsNamedIn tables mask.serial) (sym (built_is h b y hook slot mask filter given keeps o mask.serial s x).1) n)
          by s n (inr old) = absurd (old.1 (inl (slot, it_is_built h b y hook slot mask filter given keeps o)))

          sort : (s : ℕ) × IsNamedIn tables mask.serial s → IsMaskAt hook_codec h2 mask.serial slot
          sort n = by n.0 n.1 (g.named mask.serial n.0 n.1)

      old_at : (m s : ℕ) → IsMaskAt hook_codec h m s → IsMaskAt hook_codec h2 m s
      old_at m s at = keeps_slot h1 b y hook C (IsBuilt made) place tables keeps1 (after_ready h b y hook slot mask filter given keeps o) within g m s
          (raise_mask h b y slot mask given (blk h b y hook slot mask filter given keeps o) keeps o.ready o.can m s at) (not_concerned m s at)

      pub open_masks : HasMasks masks2 shape cells2 h2
      open_masks = record {
        named = named2;
        has = λ m s at. sort m s (sort_after h1 b y hook C (IsBuilt made) place tables keeps1 (after_ready h b y hook slot mask filter given keeps o) within g m s at);
        only = λ s kept stands. dite (ℕ_discrete s slot) (λ (own : s ≡ slot). of_new s kept own stands)
            (λ (ne : s ≢ slot). old_at kept.mask.serial s (has.only s kept (sym (other_slot s ne) ∙ stands)));
      }
        where
          sort : (m s : ℕ) → (IsMaskAt hook_codec h1 m s × (C m → ⊥)) ⊎ IsBuilt made m s → HasMask masks2 h2 m s
          sort m s (inl old) = old_mask m s (raise_back h b y slot mask given (blk h b y hook slot mask filter given keeps o) keeps o.ready o.can m s old.0)
              (λ same. old.1 (inl (slot, subst (λ (n : ℕ). IsBuilt made n slot) same (it_is_built h b y hook slot mask filter given keeps o))))
          sort m s (inr x) = let is = built_is h b y hook slot mask filter given keeps o m s x in subst (λ (n : ℕ). HasMask masks2 h2 n s) is.0 (subst (HasMask masks2 h2 mask.serial) is.1 new_mask)

          of_new : (s : ℕ) (kept : KeptMask) → s ≡ slot → StandsAt masks2 s kept → IsMaskAt hook_codec h2 kept.mask.serial s
          of_new s kept own stands = let both : Some (record { block = blk h b y hook slot mask filter given keeps o; mask = mask }) ≡ Some kept = sym own_slot ∙ (ap (λ (n : ℕ). get_or (masks_of masks2) n None) (sym own) ∙ stands) in
              subst (IsMaskAt hook_codec h2 kept.mask.serial) (sym own) (subst (λ (k : KeptMask). IsMaskAt hook_codec h2 k.mask.serial slot) (same_Some _ kept both) new_at)
