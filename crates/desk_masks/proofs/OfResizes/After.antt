-- What is known once a mask was laid anew.
use Rattle.std.proofs.Common.{◌≡◌, ◌≢◌, ◌∙◌, inl, inr, ℕ, ◌+◌, ◌<◌, ◌≤◌, Bool, true, false, eqb, eqb-true, List, [], ◌∷◌, ◌++◌, length, map, take, get_or, slice_set, Option, Some, None, refl, sym, ap, subst, arith, append_assoc, length-append, get_or-set_other}
use Rattle.std.proofs.lemmas.Bool.{eqb-false}
use Rattle.std.specs.Prelude.{slice_index}
use Rattle.std.proofs.lemmas.List.{get_or-set_same, length-map}
use Rattle.store_history.specs.declared.history.Commit.{Commit}
use Rattle.store_history.specs.History.{root_of, edits_of}
use Rattle.pin_store.specs.declared.shape.Shape.{Shape}
use Rattle.filter_state.specs.declared.edit.Edit.{Edit}
use Rattle.filter_state.specs.Sound.{Sound}
use Rattle.filter_state.specs.States.{State}
use Rattle.flow_mask.specs.Sizes.{size_of}
use Rattle.hook_law.specs.Records.{MaskRecord}
use Rattle.block_codec.specs.declared.filter.StoredFilter.{StoredFilter}
use Rattle.mask_table.specs.declared.mirrors.mirror.KeptMask.{KeptMask}
use Rattle.mask_table.specs.OfMirrors.Linked.{placed, raise_commits, resized}
use Rattle.mask_writer.specs.Masks.{Masks}
use Rattle.mask_writer.specs.Standing.{masks_of, StandsAt, Holds, AreNamed}
use Rattle.mask_writer.proofs.Standing.{slots_count, one_mask, one_list}
use Rattle.desk_masks.specs.OfMaskResizes.Resized.{stored_now}
use Rattle.hook_law.specs.Places as places
use Rattle.hook_law.specs.Meaning.{point_of, now_of, state_at}
use Rattle.hook_law.specs.Standing.{IsMaskAt}
use Rattle.hook_law.specs.Keeping.{IsAtRest, IsAtRestBut}
use Rattle.hook_law.proofs.Lists.{root_of_none}
use Rattle.hook_law.proofs.Standing.{mask_back, slot_longer}
use Rattle.hook_law.proofs.Sparing.{spares_keep}
use Rattle.hook_law.proofs.Growing.{edits_still}
use Rattle.hook_law.proofs.Resting.{whole_rests}
use Rattle.hook_store_law.specs.Stated.{hook_meaning, filters_at}
use Rattle.hook_store_law.specs.Blocks.{hook_codec}
use Rattle.hook_store_law.specs.Told.{with_slots}
use Rattle.hook_store_law.proofs.States.{state_is, sound_after}
use Rattle.hook_store_law.specs.Kept.{KeepsHook, IsKeptAt}
use Rattle.desk_masks.specs.Masks.{HasMask, HasMasks}
use Rattle.desk_masks.proofs.Slotting.{stored_stay}
use Rattle.desk_masks.specs.OfResizes.Refit.{MayRefit, IsOfRefit, GoesOn}
use Rattle.desk_masks.proofs.OfResizes.Lists.{list_early}
use Rattle.desk_masks.proofs.OfResizes.Fits.{new_mask, at, holds, cs, last, whole, its_mask, its_serial, each_root, each_stamp, lawful, all_rise}

module _ (masks : Masks) (shape : Shape) (cells : List ℕ) (h : List (Commit Edit)) (b point slot size : ℕ) (blocks rows : List ℕ) (m : MayRefit masks shape cells h b point slot size blocks rows) (blk : ℕ) where
  abbrev pub more : List (Commit Edit)
  more = cs masks shape cells h b point slot size blocks rows m blk ++ last masks shape cells h b point slot size blocks rows m blk ∷ []

  abbrev pub k : List (Commit Edit)
  k = h ++ more

  pub goes : GoesOn h k slot rows
  goes = record { more = more; seen = refl; each = λ j c e. each_root masks shape cells h b point slot size blocks rows m blk j c e }

  pub journal : edits_of k ≡ edits_of h
  journal = let c_s = cs masks shape cells h b point slot size blocks rows m blk in let la = last masks shape cells h b point slot size blocks rows m blk in let w = whole masks shape cells h b point slot size blocks rows m blk in
      sym (ap edits_of (append_assoc h c_s (la ∷ []))) ∙ (edits_still (h ++ c_s) la refl ∙ (spares_keep hook_meaning hook_codec c_s h b m.kept_at.low m.kept_at.keeps.law w.spare).edits)

  now_here : now_of hook_meaning k ≡ now_of hook_meaning h
  now_here = ap (λ (edits : List Edit). state_at hook_meaning edits (length edits)) journal

  low : b ≤ length k
  low = let l = length-append h more in let first = m.kept_at.low in omega (arith, l, first)

  pub kept_after : IsKeptAt k b point
  kept_after = record {
    low = low;
    keeps = all_rise masks shape cells h b point slot size blocks rows m blk;
    point_is = m.kept_at.point_is ∙ sym (ap length journal);
    early = λ r. list_early h more r point (m.kept_at.early r) (λ j c e. let stamp = each_stamp masks shape cells h b point slot size blocks rows m blk j c e in let is = m.kept_at.point_is in omega (arith, stamp, is));
  }

  pub rest_after : IsAtRest hook_meaning hook_codec k
  rest_after = let c_s = cs masks shape cells h b point slot size blocks rows m blk in let la = last masks shape cells h b point slot size blocks rows m blk in let w = whole masks shape cells h b point slot size blocks rows m blk in
      let its = its_serial masks shape cells h b point slot size blocks rows m blk in
      subst (IsAtRest hook_meaning hook_codec) (append_assoc h c_s (la ∷ []))
      (whole_rests hook_meaning hook_codec h c_s b la m.kept_at.low m.kept_at.keeps.law w
      (ap (λ (r : MaskRecord). r.size) (its_mask masks shape cells h b point slot size blocks rows m blk) ∙ (m.fits ∙ ap (λ (n : ℕ). size_of (length (filters_at (now_of hook_meaning h) n))) its))
      (subst (IsAtRestBut hook_meaning hook_codec h) its m.rest))

  same_head : (hook : ℕ) → hook < 2 → root_of k (places.head_root hook) ≡ root_of h (places.head_root hook)
  same_head hook less = root_of_none h more (places.head_root hook) (λ j c e is. sort (each_root masks shape cells h b point slot size blocks rows m blk j c e).1 is)
    where
      sort : {r : ℕ} → IsOfRefit slot rows r → r ≡ places.head_root hook → ⊥
      sort (inl own) is = omega (arith, own, is, less)
      sort (inr own) is = let root = own.4 in omega (arith, root, is, less)

  forth : (mask s : ℕ) → IsMaskAt hook_codec h mask s → IsMaskAt hook_codec k mask s
  forth mask s there = mask_back hook_codec k h mask s (λ hook less. sym (same_head hook less)) there

  sound : Sound (now_of hook_meaning h)
  sound = subst Sound (sym (state_is _ (point_of h))) (sound_after h b (point_of h) m.kept_at.keeps.law m.kept_at.low)

  stored : (mask : ℕ) → stored_now k mask ≡ stored_now h mask
  stored mask = ap (λ (s : State). map (with_slots k) (filters_at s mask)) now_here
      ∙ stored_stay h k b m.kept_at.low m.kept_at.keeps.law low kept_after.keeps.law (λ a s w. slot_longer hook_codec h more a s w) mask sound

  pub masks_after : (new : Masks) (cells2 : List ℕ) → AreNamed new shape cells2 (root_of k)
      → masks_of new ≡ slice_set (masks_of masks) slot (Some (record { block = blk; mask = new_mask masks shape cells h b point slot size blocks rows m }))
      → ((late : ℕ) (fs : List StoredFilter) → Holds masks slot late fs → Holds new slot late fs)
      → ((other late : ℕ) (fs : List StoredFilter) → other ≢ slot → Holds masks other late fs → Holds new other late fs) → HasMasks new shape cells2 k
  masks_after new cells2 named changed own others = record {
    named = named;
    has = λ mask s there. has_each mask s (mask_back hook_codec h k mask s same_head there) (eqb s slot) refl;
    only = λ s kept2 stands. only_each s kept2 stands (eqb s slot) refl;
  }
    where
      now_kept : KeptMask
      now_kept = record { block = blk; mask = new_mask masks shape cells h b point slot size blocks rows m }

      inside : slot < length (masks_of masks)
      inside = let count = slots_count masks shape cells (root_of h) m.has.named in let small = (at masks shape cells h b point slot size blocks rows m).small in omega (arith, count, small)

      stands_own : StandsAt new slot now_kept
      stands_own = ap (λ (l : List (Option KeptMask)). get_or l slot None) changed ∙ get_or-set_same (masks_of masks) slot (Some now_kept) None inside

      other_is : (s : ℕ) → s ≢ slot → get_or (masks_of new) s None ≡ get_or (masks_of masks) s None
      other_is s away = ap (λ (l : List (Option KeptMask)). get_or l s None) changed ∙ get_or-set_other (masks_of masks) slot s (Some now_kept) None away

      same_point : point_of h ≡ point_of k
      same_point = sym (ap length journal)

      goes_on : (s mask : ℕ) → Holds new s (point_of h) (stored_now h mask) → Holds new s (point_of k) (stored_now k mask)
      goes_on s mask has = subst (λ (n : ℕ). Holds new s n (stored_now k mask)) same_point (subst (Holds new s (point_of h)) (sym (stored mask)) has)

      has_each : (mask s : ℕ) → IsMaskAt hook_codec h mask s → (t : Bool) → eqb s slot ≡ t → HasMask new k mask s
      has_each mask s there true e = let same : s ≡ slot = eqb-true s slot e in let one = m.has.has mask s there in
          let first : one.kept ≡ m.kept = one_mask masks slot one.kept m.kept (subst (λ (n : ℕ). StandsAt masks n one.kept) same one.stands) m.stands in
          subst (HasMask new k mask) (sym same) (record {
            kept = now_kept;
            stands = stands_own;
            serial = sym (ap (λ (q : KeptMask). q.mask.serial) first) ∙ one.serial;
            holds = goes_on slot mask (own (point_of h) (stored_now h mask) (subst (λ (n : ℕ). Holds masks n (point_of h) (stored_now h mask)) same one.holds));
          })
      has_each mask s there false e = let away = eqb-false s slot e in let one = m.has.has mask s there in record {
        kept = one.kept;
        stands = other_is s away ∙ one.stands;
        serial = one.serial;
        holds = goes_on s mask (others s (point_of h) (stored_now h mask) away one.holds);
      }

      only_each : (s : ℕ) (kept2 : KeptMask) → StandsAt new s kept2 → (t : Bool) → eqb s slot ≡ t → IsMaskAt hook_codec k kept2.mask.serial s
      only_each s kept2 stands true e = let same : s ≡ slot = eqb-true s slot e in
          let it : now_kept ≡ kept2 = one_mask new slot now_kept kept2 stands_own (subst (λ (n : ℕ). StandsAt new n kept2) same stands) in
          subst (λ (n : ℕ). IsMaskAt hook_codec k kept2.mask.serial n) (sym same) (subst (λ (q : KeptMask). IsMaskAt hook_codec k q.mask.serial slot) it (forth m.kept.mask.serial slot (m.has.only slot m.kept m.stands)))
      only_each s kept2 stands false e = let away = eqb-false s slot e in forth kept2.mask.serial s (m.has.only s kept2 (sym (other_is s away) ∙ stands))

-- as the writer of masks asks for it
module _ (masks : Masks) (shape : Shape) (cells : List ℕ) (h : List (Commit Edit)) (b point slot size : ℕ) (blocks rows : List ℕ) (m : MayRefit masks shape cells h b point slot size blocks rows) where
  same_filters : (late : ℕ) (fs : List StoredFilter) → Holds masks slot late fs → fs ≡ stored_now h m.kept.mask.serial
  same_filters late fs has = one_list masks slot late (point_of h) fs (stored_now h m.kept.mask.serial) has (holds masks shape cells h b point slot size blocks rows m)

  pub many : (late : ℕ) (fs : List StoredFilter) → Holds masks slot late fs → length blocks ≡ length fs + 1
  many late fs has = let same = ap length (same_filters late fs has) in let l = length-map (filters_at (now_of hook_meaning h) m.kept.mask.serial) (with_slots h) in let all = m.many_blocks in omega (arith, same, l, all)

  pub refit_lawful : (kept : KeptMask) (late : ℕ) (fs : List StoredFilter) (n : ℕ) → StandsAt masks slot kept → Holds masks slot late fs
      → KeepsHook (h ++ take n (raise_commits slot (resized kept.mask size rows) (slice_index blocks (length fs)) (placed blocks fs) point)) b
  refit_lawful kept late fs n stands has = let blk : ℕ = slice_index blocks (length fs) in
      subst (λ (p : ℕ). KeepsHook (h ++ take n (raise_commits slot (resized kept.mask size rows) blk (placed blocks fs) p)) b) (sym m.kept_at.point_is)
      (subst (λ (q : KeptMask). KeepsHook (h ++ take n (raise_commits slot (resized q.mask size rows) blk (placed blocks fs) (point_of h))) b) (one_mask masks slot m.kept kept m.stands stands)
      (subst (λ (gs : List StoredFilter). KeepsHook (h ++ take n (raise_commits slot (resized m.kept.mask size rows) blk (placed blocks gs) (point_of h))) b) (sym (same_filters late fs has))
      (lawful masks shape cells h b point slot size blocks rows m blk n)))

  abbrev pub its_block : ℕ
  its_block = slice_index blocks (length (stored_now h m.kept.mask.serial))

  -- the commits that it makes
  pub seen_as : (seen : List (Commit Edit)) → ((kept : KeptMask) (late : ℕ) (fs : List StoredFilter) → StandsAt masks slot kept → Holds masks slot late fs
      → seen ≡ h ++ raise_commits slot (resized kept.mask size rows) (slice_index blocks (length fs)) (placed blocks fs) point) → seen ≡ k masks shape cells h b point slot size blocks rows m its_block
  seen_as seen told = told m.kept (point_of h) (stored_now h m.kept.mask.serial) m.stands (holds masks shape cells h b point slot size blocks rows m)
      ∙ ap (λ (p : ℕ). h ++ raise_commits slot (resized m.kept.mask size rows) its_block (placed blocks (stored_now h m.kept.mask.serial)) p) m.kept_at.point_is
