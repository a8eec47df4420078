-- What an edit of one bucket leaves of the law, of the pools and of the masks.
use Rattle.std.proofs.Common.{◌≡◌, ◌≢◌, ◌∙◌, ◌⊎◌, inl, inr, ℕ, ◌+◌, ◌<◌, ◌≤◌, Bool, true, false, eqb, List, [], ◌∷◌, ◌++◌, length, map, Option, None, refl, sym, ap, subst, arith, length-append, eqb-true}
use Rattle.std.specs.Prelude.{slice_index_or}
use Rattle.std.proofs.lemmas.Bool.{eqb-false}
use Rattle.store_history.specs.declared.history.Commit.{Commit}
use Rattle.store_history.specs.History.{root_of, edits_of}
use Rattle.store_history.specs.declared.places.TheConstants.{MASK_SLOTS}
use Rattle.pin_store.specs.declared.shape.Shape.{Shape}
use Rattle.filter_state.specs.declared.edit.Edit.{Edit}
use Rattle.filter_state.specs.States.{State}
use Rattle.filter_state.specs.Sound.{Sound}
use Rattle.block_codec.specs.declared.filter.StoredFilter.{StoredFilter}
use Rattle.mask_table.specs.declared.mirrors.mirror.KeptMask.{KeptMask}
use Rattle.mask_table.specs.OfMirrors.Given.{AreGiven}
use Rattle.mask_writer.specs.Masks.{Masks}
use Rattle.mask_writer.specs.Standing.{masks_of, StandsAt, Holds, AreNamed}
use Rattle.mask_writer.proofs.Standing.{one_mask, held_later}
use Rattle.root_word_laws.proofs.Words.{more_rise}
use Rattle.root_pool_laws.specs.Blocks.{Spends}
use Rattle.root_pool_laws.proofs.Apart.{in_left, in_right}
use Rattle.hook_law.specs.Places.{mask_root, action_root, bucket_root}
use Rattle.hook_law.specs.Meaning.{point_of, IsLive}
use Rattle.hook_law.specs.Standing.{Role, Mask, Bucket, Action, IsMaskAt, Stands}
use Rattle.hook_law.specs.Keeping.{Keeps, Present}
use Rattle.hook_law.specs.Numbered.{RewritesBucket}
use Rattle.hook_law.specs.Coming.{IsMade}
use Rattle.hook_law.proofs.Growing.{edits_more, now_next}
use Rattle.hook_law.proofs.Standing.{mask_back, present_end, unused_end}
use Rattle.hook_law.proofs.Bucketing.{rewrite_heads, rewrite_keeps, rewrite_comes}
use Rattle.hook_store_law.specs.Stated.{hook_meaning, filters_at}
use Rattle.hook_store_law.specs.Blocks.{hook_codec}
use Rattle.hook_store_law.specs.Told.{with_slots}
use Rattle.hook_store_law.specs.Kept.{KeepsHook}
use Rattle.hook_store_law.specs.OfEdits.Premises.{now, next}
use Rattle.desk_masks.specs.OfMaskResizes.Resized.{stored_now}
use Rattle.desk_masks.specs.Masks.{HasMask, HasMasks}
use Rattle.desk_pools.specs.declared.pools.Pools.{Pools}
use Rattle.desk_pools.specs.Pools.{ArePools}
use Rattle.desk_pools.specs.Steps.{IsInPool, NothingComes, LeavesPools}
use Rattle.desk_pools.proofs.Steps.{pools_commit}
use Rattle.desk_masks.specs.OfFilterCommits.Blocks.{AreTaken}
use Rattle.desk_masks.proofs.OfFilterCommits.Slotting.{stored_same}

same_serial : (m n : ℕ) → Mask m ≡ Mask n → m ≡ n
same_serial m n e = cc e

module _ (h : List (Commit Edit)) (b : ℕ) (c : Commit Edit) (y : Edit) (low : b ≤ length h) (k : KeepsHook h b) (w : RewritesBucket hook_meaning hook_codec b h c y) where
  here : Present hook_meaning hook_codec h
  here = present_end hook_meaning hook_codec h b low k.law

  -- the bucket stands at the root
  pub it_stands : Stands hook_meaning hook_codec h c.root (Bucket w.region w.k)
  it_stands = (w.row, w.at, w.root)

  pub rewrite_law : Keeps hook_meaning hook_codec (h ++ c ∷ []) b
  rewrite_law = rewrite_keeps hook_meaning hook_codec h b c y w low k.law

  pub rewrite_lawful : KeepsHook (h ++ c ∷ []) b
  rewrite_lawful = record {
    law = rewrite_law;
    stamps = more_rise h c k.stamps (inl (let early = (here.tells c.root (Bucket w.region w.k) it_stands).early in let stamp = w.carries.stamp in omega (arith, early, stamp)));
  }

  pub low_more : b ≤ length (h ++ c ∷ [])
  low_more = let more = length-append h (c ∷ []) in omega (arith, low, more)

  pub journal_more : edits_of (h ++ c ∷ []) ≡ edits_of h ++ y ∷ []
  journal_more = edits_more h c (point_of h + 1) y w.carries.number

  pub point_more : point_of (h ++ c ∷ []) ≡ point_of h + 1
  point_more = ap length journal_more ∙ length-append (edits_of h) (y ∷ [])

  pub now_more : now (h ++ c ∷ []) ≡ next h y
  now_more = now_next hook_meaning h c (point_of h + 1) y w.carries.number

  pub made_comes : (r : ℕ) (x : Role) → Stands hook_meaning hook_codec (h ++ c ∷ []) r x → Stands hook_meaning hook_codec h r x ⊎ IsMade hook_meaning hook_codec b h y r x
  made_comes = rewrite_comes hook_meaning hook_codec h b c y w low k.law

  -- an action that was put, and that comes to stand, comes to be live
  pub made_live : (r : ℕ) (x : Role) (m : IsMade hook_meaning hook_codec b h y r x) → Stands hook_meaning hook_codec (h ++ c ∷ []) r x
      → IsLive hook_meaning (next h y) m.action × (IsLive hook_meaning (now h) m.action → ⊥)
  made_live r x m stands = (
    subst (λ (s : State). IsLive hook_meaning s m.action) now_more (subst (Stands hook_meaning hook_codec (h ++ c ∷ []) r) m.is stands).3,
    (λ before. unused_end hook_meaning hook_codec h b (action_root m.put.slot) (Action m.action) low m.put.unused (m.put.slot, m.put.there, refl, before)),
  )

  -- ---- the pools
  module _ (pools : Pools) (given : List ℕ) (spends : Spends h c given) (are : AreGiven b h given) (taken : AreTaken pools h b y given) where
    p : ArePools pools h b
    p = taken.pools_are

    no_action : (r : ℕ) (x : Role) (m : IsMade hook_meaning hook_codec b h y r x) → Stands hook_meaning hook_codec (h ++ c ∷ []) r x → IsInPool m.put.slot pools.actions → ⊥
    no_action r x m stands in_ = let l = made_live r x m stands in taken.actions m.action m.put.slot l.0 l.1 m.put.there in_

    -- nothing comes to stand at a root that no such slot has
    nothing_at : (r : ℕ) → ((x : Role) (m : IsMade hook_meaning hook_codec b h y r x) → Stands hook_meaning hook_codec (h ++ c ∷ []) r x → ⊥) → NothingComes h c r
    nothing_at r none x stands = pick (made_comes r x stands)
      where
        pick : Stands hook_meaning hook_codec h r x ⊎ IsMade hook_meaning hook_codec b h y r x → Stands hook_meaning hook_codec h r x
        pick (inl was) = was
        pick (inr m) = absurd (none x m stands)

    mask_small : (s : ℕ) → IsInPool s pools.masks → s < MASK_SLOTS
    mask_small s (inl at) = let in_ = in_left pools.masks.free pools.masks.left s at in p.masks.small in_.0 s in_.1
    mask_small s (inr at) = let in_ = in_right pools.masks.free pools.masks.left s at in p.masks.small in_.0 s in_.1

    leaves : LeavesPools pools h b c given
    leaves = record {
      spends = spends;
      free = λ block at. are.free at.0 block at.1;
      small = λ block at. are.pool at.0 block at.1;
      taken = taken.blocks;
      masks = λ s in_. nothing_at (mask_root s) (λ x m stands. let root = m.root in let small = mask_small s in_ in omega (arith, root, small));
      actions = λ s in_. nothing_at (action_root s) (λ x m stands. let root = m.root in let same : s ≡ m.put.slot = omega (arith, root) in
          no_action (action_root s) x m stands (subst (λ (n : ℕ). IsInPool n pools.actions) same in_));
      rows = λ row place in_ less. nothing_at (bucket_root row place) (λ x m stands. let root = m.root in let small = m.put.there.puts.small in omega (arith, root, small));
    }

    pub rewrite_pools : ArePools pools (h ++ c ∷ []) b
    rewrite_pools = pools_commit pools h b c given low p leaves

  -- ---- the masks
  -- the filters of another mask are stored as before
  pub others_stored : Sound (now h) → (m : ℕ) → m ≢ w.region.mask → stored_now (h ++ c ∷ []) m ≡ stored_now h m
  others_stored sound m other =
      ap (λ (s : State). map (with_slots (h ++ c ∷ [])) (filters_at s m)) now_more
      ∙ (ap (map (with_slots (h ++ c ∷ []))) (w.touches.others.filters m other)
      ∙ stored_same h c b low k.law low_more rewrite_law m sound)

  module _ (masks masks2 : Masks) (shape : Shape) (cells cells2 : List ℕ) (has : HasMasks masks shape cells h) (slot : ℕ) (kept : KeptMask) (stands : StandsAt masks slot kept)
      (own : kept.mask.serial ≡ w.region.mask) (sound : Sound (now h)) (named : AreNamed masks2 shape cells2 (root_of (h ++ c ∷ []))) (same : masks_of masks2 ≡ masks_of masks)
      (held : Holds masks2 slot (point_of h + 1) (stored_now (h ++ c ∷ []) kept.mask.serial))
      (lists : (other last : ℕ) (fs : List StoredFilter) → other ≢ slot → Holds masks other last fs → Holds masks2 other last fs) where
    stays : (s : ℕ) (it : KeptMask) → StandsAt masks s it → StandsAt masks2 s it
    stays s it at = ap (λ (l : List (Option KeptMask)). slice_index_or l s None) same ∙ at

    stayed : (s : ℕ) (it : KeptMask) → StandsAt masks2 s it → StandsAt masks s it
    stayed s it at = ap (λ (l : List (Option KeptMask)). slice_index_or l s None) (sym same) ∙ at

    at_slot : IsMaskAt hook_codec h kept.mask.serial slot
    at_slot = has.only slot kept stands

    point_next : point_of h + 1 ≡ point_of (h ++ c ∷ [])
    point_next = sym point_more

    each : (m s : ℕ) → IsMaskAt hook_codec h m s → (t : Bool) → eqb s slot ≡ t → HasMask masks2 (h ++ c ∷ []) m s
    each m s at true e = let is : s ≡ slot = eqb-true s slot e in let it = has.has m s at in
        let it_is : it.kept ≡ kept = one_mask masks slot it.kept kept (subst (λ (n : ℕ). StandsAt masks n it.kept) is it.stands) stands in
        let serial : kept.mask.serial ≡ m = sym (ap (λ (x : KeptMask). x.mask.serial) it_is) ∙ it.serial in record {
          kept = kept;
          stands = stays s kept (subst (λ (n : ℕ). StandsAt masks n kept) (sym is) stands);
          serial = serial;
          holds = subst (λ (n : ℕ). Holds masks2 n (point_of (h ++ c ∷ [])) (stored_now (h ++ c ∷ []) m)) (sym is)
              (subst (λ (n : ℕ). Holds masks2 slot (point_of (h ++ c ∷ [])) (stored_now (h ++ c ∷ []) n)) serial
              (subst (λ (n : ℕ). Holds masks2 slot n (stored_now (h ++ c ∷ []) kept.mask.serial)) point_next held));
        }
    each m s at false e = let away : s ≢ slot = eqb-false s slot e in let it = has.has m s at in
        let other : m ≢ w.region.mask = (λ is. away (here.one_mask m s slot at (subst (λ (n : ℕ). IsMaskAt hook_codec h n slot) (own ∙ sym is) at_slot))) in record {
          kept = it.kept;
          stands = stays s it.kept it.stands;
          serial = it.serial;
          holds = subst (Holds masks2 s (point_of (h ++ c ∷ []))) (sym (others_stored sound m other))
              (subst (λ (n : ℕ). Holds masks2 s n (stored_now h m)) point_next
              (held_later masks2 s (point_of h) (point_of h + 1) (stored_now h m) (omega arith) (lists s (point_of h) (stored_now h m) away it.holds)));
        }

    pub rewrite_masks : HasMasks masks2 shape cells2 (h ++ c ∷ [])
    rewrite_masks = record {
      named = named;
      has = λ m s at. each m s (mask_back hook_codec h (h ++ c ∷ []) m s heads at) (eqb s slot) refl;
      only = λ s it at. mask_back hook_codec (h ++ c ∷ []) h it.mask.serial s (λ hook one. sym (heads hook one)) (has.only s it (stayed s it at));
    }
      where
        heads : (hook : ℕ) → hook < 2 → root_of (h ++ c ∷ []) (1 + hook) ≡ root_of h (1 + hook)
        heads = rewrite_heads hook_meaning hook_codec h b c y w
