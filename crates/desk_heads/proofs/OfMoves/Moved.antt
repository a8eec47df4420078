-- A head's commit with masks that were built for its edit.
use Rattle.std.proofs.Common.{◌≡◌, ◌∙◌, ◌⊎◌, inl, inr, ℕ, ◌+◌, ◌<◌, ◌≤◌, List, [], ◌∷◌, ◌++◌, length, slice_get, Some, refl, sym, ap, subst, arith, length-append}
use Rattle.tc_base.specs.declared.hook.Hook.{Hook}
use Rattle.tc_base.specs.declared.hook.Hook.TheVariants as hooks
use Rattle.visit_room.specs.declared.names.MaskName.{MaskName}
use Rattle.store_history.specs.declared.history.Commit.{Commit}
use Rattle.store_history.specs.declared.history.Named.{Named}
use Rattle.store_history.specs.History.{root_of, edits_of}
use Rattle.store_history.proofs.Histories.{root_other}
use Rattle.store_history.specs.declared.places.TheConstants.{MASK_SLOTS, ACTION_SLOTS}
use Rattle.pin_store.specs.declared.shape.Shape.{Shape}
use Rattle.pin_store.specs.Calls.{IsUnnamed}
use Rattle.filter_state.specs.declared.edit.Edit.{Edit}
use Rattle.block_codec.specs.declared.table.StoredTable.{StoredTable}
use Rattle.mask_table.specs.Buckets.{bucket_root}
use Rattle.mask_table.specs.declared.mirrors.mirror.KeptMask.{KeptMask}
use Rattle.mask_writer.specs.Masks.{Masks}
use Rattle.mask_writer.specs.Standing.{StandsAt, Holds}
use Rattle.mask_writer.proofs.Standing.{one_mask, held_later}
use Rattle.miniq_pair.specs.Heads.{hook_number}
use Rattle.miniq_pair.specs.Pairs.{first_block_of, swap_commit}
use Rattle.hook_law.specs.Places as places
use Rattle.hook_law.specs.Records.{MaskRecord}
use Rattle.hook_law.specs.Meaning.{point_of}
use Rattle.hook_law.specs.Standing.{Role, Mask, Bucket, region_of, IsMaskAt, Stands as StandsRoot, IsUnused}
use Rattle.hook_law.specs.Keeping.{IsAtRest, Present}
use Rattle.hook_law.specs.Coming.{IsBucketOf, IsMade, IsOfPrepared}
use Rattle.hook_law.proofs.Standing.{present_end, unused_end}
use Rattle.hook_store_law.specs.Stated.{hook_meaning}
use Rattle.hook_store_law.specs.Blocks.{mask_record, hook_codec}
use Rattle.hook_store_law.specs.Kept.{KeepsHook}
use Rattle.desk_masks.specs.OfMaskResizes.Resized.{stored_now}
use Rattle.root_pool_laws.proofs.Apart.{in_left, in_right}
use Rattle.desk_heads.specs.OfHeadCommits.Built.{IsBuilt, IsConcerned, IsGiven}
use Rattle.desk_heads.proofs.OfHeadCommits.Giving.{head_lawful, head_rest, sort_after, keeps_slot, edits_after, stored_after, stored_still, comes, fresh_named}
use Rattle.desk_masks.specs.Masks.{HasMask}
use Rattle.desk_pools.specs.declared.pools.Pools.{Pools}
use Rattle.desk_pools.specs.Pools.{ArePools}
use Rattle.desk_pools.specs.Steps.{IsInPool, NothingComes, turned}
use Rattle.desk_heads.specs.Gives.{GivesTables}
use Rattle.desk_heads.specs.Closes.{HoldsMasks, IsGone}
use Rattle.desk_heads.specs.Handed.{idle_of, AreActionsHanded}
use Rattle.desk_heads.proofs.Holding.{SamePool, named_on}
use Rattle.desk_heads.proofs.Swapped.{pools_turned}
use Rattle.desk_heads.specs.OfMoves.Builds.{HoldsBuilt, AreBuiltHanded}
use Rattle.desk_heads.proofs.OfMoves.BuiltMasks.{bucket_stood, prepared_record}

one_hook : (hook : Hook) → hook_number hook < 2
one_hook hooks.Ingress = omega arith
one_hook hooks.Egress = omega arith

module _ (h : List (Commit Edit)) (b : ℕ) (y : Edit) (hook : Hook) (built : List MaskName) (keeps : KeepsHook h b) (o : GivesTables h b y hook built) (place : ℕ) (tables : List StoredTable) (within : place ≤ 1)
    (g : IsGiven h b y hook built tables) where
  abbrev pub c : Commit Edit
  c = swap_commit hook place tables (point_of h + 1) y

  abbrev pub h2 : List (Commit Edit)
  h2 = h ++ c ∷ []

  abbrev C : ℕ → Type 0
  C = IsConcerned h y built

  low : b ≤ length h
  low = o.ready.accepted.low

  p : Present hook_meaning hook_codec h
  p = present_end hook_meaning hook_codec h b low keeps.law

  pub move_lawful : KeepsHook h2 b
  move_lawful = head_lawful h b y hook C (IsBuilt built) place tables keeps o.ready within g

  pub move_rests : IsAtRest hook_meaning hook_codec h2
  move_rests = head_rest h b y hook C (IsBuilt built) place tables keeps o.ready within g

  pub move_edits : edits_of h2 ≡ edits_of h ++ y ∷ []
  move_edits = edits_after h b y hook C (IsBuilt built) place tables keeps o.ready within g

  point_is : point_of h2 ≡ point_of h + 1
  point_is = ap length move_edits ∙ length-append (edits_of h) (y ∷ [])

  pub move_stays : (m s : ℕ) → IsMaskAt hook_codec h m s → (C m → ⊥) → IsMaskAt hook_codec h2 m s
  move_stays m s at none = keeps_slot h b y hook C (IsBuilt built) place tables keeps o.ready within g m s at none

  pub move_only : (m s : ℕ) → IsMaskAt hook_codec h2 m s → (IsMaskAt hook_codec h m s × (C m → ⊥)) ⊎ IsBuilt built m s
  move_only m s at = sort_after h b y hook C (IsBuilt built) place tables keeps o.ready within g m s at

  -- ---- the masks that the writer holds
  module _ (masks : Masks) (shape : Shape) (cells : List ℕ) (has : HoldsBuilt masks shape cells h b y built) where
    pub move_holds : (cells2 : List ℕ) → SamePool shape cells cells2 → HoldsMasks masks shape cells2 h2
    move_holds cells2 pool = record {
      named = named_on masks shape cells cells2 (root_of h) (root_of h2) has.named pool
          (λ r high. ap (λ (n : Named). n.chain) (root_other h c r (λ same. let one = one_hook hook in absurd (omega (arith, same, high, one)))));
      has = λ m s at. sort m s (move_only m s at);
    }
      where
        sort : (m s : ℕ) → (IsMaskAt hook_codec h m s × (C m → ⊥)) ⊎ IsBuilt built m s → HasMask masks h2 m s
        sort m s (inl was) = let old = has.has m s was.0 in record {
          kept = old.kept;
          stands = old.stands;
          serial = old.serial;
          holds = subst (Holds masks s (point_of h2)) (sym (stored_still h b y hook C (IsBuilt built) place tables keeps o.ready within g m was.1))
              (held_later masks s (point_of h) (point_of h2) (stored_now h m) (let up = point_is in omega (arith, up)) old.holds);
        }
        sort m s (inr x) = let new = has.has_built m s x in record {
          kept = new.kept;
          stands = new.stands;
          serial = new.serial;
          holds = subst (λ (n : ℕ). Holds masks s n (stored_now h2 m)) (sym point_is) (subst (Holds masks s (point_of h + 1)) (sym (stored_after h b y hook C (IsBuilt built) place tables keeps o.ready within g m)) new.holds);
        }

    -- ---- the roots of a mask that went, or was built elsewhere
    module _ (m s : ℕ) (at : IsMaskAt hook_codec h m s) (con : C m) where
      no_head : IsMaskAt hook_codec h2 m s → ⊥
      no_head after = sort (move_only m s after)
        where
          sort : (IsMaskAt hook_codec h m s × (C m → ⊥)) ⊎ IsBuilt built m s → ⊥
          sort (inl old) = old.1 con
          sort (inr x) = unused_end hook_meaning hook_codec h b (places.mask_root s) (Mask m) low (has.fresh.prepared m s x).put.unused (s, at, refl)

      -- what stands at a root at which something stood, stood there
      stood : (r : ℕ) (was x : Role) → StandsRoot hook_meaning hook_codec h r was → StandsRoot hook_meaning hook_codec h2 r x → x ≡ was
      stood r was x before stands = pick (comes h b y hook C (IsBuilt built) place tables keeps o.ready within g r x stands)
        where
          unused : IsUnused hook_meaning hook_codec b h r → ⊥
          unused u = unused_end hook_meaning hook_codec h b r was low u before

          part : (q : IsOfPrepared hook_meaning hook_codec b h c y r x) → ((x ≡ Mask q.mask) × (r ≡ places.mask_root q.slot)) ⊎ IsBucketOf q.prepared.record_read (region_of q.slot q.mask (point_of h + 1) q.prepared.record_read) r x → ⊥
          part q (inl own) = unused (subst (IsUnused hook_meaning hook_codec b h) (sym own.1) q.prepared.put.unused)
          part q (inr own) = unused (subst (IsUnused hook_meaning hook_codec b h) (sym own.root) (q.prepared.filled own.k own.row own.inside own.there own.small).unused)

          pick : StandsRoot hook_meaning hook_codec h r x ⊎ (IsOfPrepared hook_meaning hook_codec b h c y r x ⊎ IsMade hook_meaning hook_codec b h y r x) → x ≡ was
          pick (inl old) = p.apart r x was old before
          pick (inr (inl q)) = absurd (part q q.part)
          pick (inr (inr q)) = absurd (unused (subst (IsUnused hook_meaning hook_codec b h) (sym q.root) q.put.unused))

      held : HasMask masks h m s
      held = has.has m s at

      pub move_gone : IsGone masks h2 s
      move_gone = record {
        at_slot = λ x stands. slot_gone x stands (stood (places.mask_root s) (Mask m) x (s, at, refl) stands);
        at_rows = λ kept bucket own less x stands. row_gone kept bucket own less x stands (one_mask masks s held.kept kept held.stands own);
      }
        where
          slot_gone : (x : Role) → StandsRoot hook_meaning hook_codec h2 (places.mask_root s) x → x ≡ Mask m → ⊥
          slot_gone x stands same = let it : StandsRoot hook_meaning hook_codec h2 (places.mask_root s) (Mask m) = subst (StandsRoot hook_meaning hook_codec h2 (places.mask_root s)) same stands in
              let root = it.2 in let is : it.0 ≡ s = omega (arith, root) in no_head (subst (IsMaskAt hook_codec h2 m) is it.1)

          row_gone : (kept : KeptMask) (bucket : ℕ) → StandsAt masks s kept → bucket < kept.mask.size → (x : Role) → StandsRoot hook_meaning hook_codec h2 (bucket_root kept.mask bucket) x → held.kept ≡ kept → ⊥
          row_gone kept bucket own less x stands is =
              let serial : kept.mask.serial ≡ m = sym (ap (λ (k : KeptMask). k.mask.serial) is) ∙ held.serial in
              let here : IsMaskAt hook_codec h kept.mask.serial s = subst (λ (n : ℕ). IsMaskAt hook_codec h n s) (sym serial) at in
              let role : Role = Bucket (region_of s kept.mask.serial (root_of h (places.mask_root s)).stamp (mask_record kept.mask)) bucket in
              let same : x ≡ role = stood (bucket_root kept.mask bucket) role x (bucket_stood masks shape cells h has.named s bucket kept own here less) stands in
              let it : StandsRoot hook_meaning hook_codec h2 (bucket_root kept.mask bucket) role = subst (StandsRoot hook_meaning hook_codec h2 (bucket_root kept.mask bucket)) same stands in
              no_head (subst (λ (n : ℕ). IsMaskAt hook_codec h2 n s) serial it.1.at_mask)

  -- ---- pools
  module _ (masks : Masks) (shape : Shape) (cells : List ℕ) (has : HoldsBuilt masks shape cells h b y built) (pools : Pools) (q : ArePools pools h b) (handed : AreBuiltHanded pools masks built)
      (actions : AreActionsHanded pools h b y) where
    back : (r : ℕ) → ((x : Role) → IsOfPrepared hook_meaning hook_codec b h c y r x ⊎ IsMade hook_meaning hook_codec b h y r x → ⊥) → NothingComes h c r
    back r none x stands = pick (comes h b y hook C (IsBuilt built) place tables keeps o.ready within g r x stands)
      where
        pick : StandsRoot hook_meaning hook_codec h r x ⊎ (IsOfPrepared hook_meaning hook_codec b h c y r x ⊎ IsMade hook_meaning hook_codec b h y r x) → StandsRoot hook_meaning hook_codec h r x
        pick (inl before) = before
        pick (inr came) = absurd (none x came)

    is_built : (r : ℕ) (x : Role) (z : IsOfPrepared hook_meaning hook_codec b h c y r x) → IsBuilt built z.mask z.slot
    is_built r x z = fresh_named h b y hook C (IsBuilt built) place tables keeps o.ready within g z.mask z.slot z.prepared z.names

    abbrev Part : (r : ℕ) (x : Role) → IsOfPrepared hook_meaning hook_codec b h c y r x → Type 0
    Part r x z = ((x ≡ Mask z.mask) × (r ≡ places.mask_root z.slot)) ⊎ IsBucketOf z.prepared.record_read (region_of z.slot z.mask (point_of h + 1) z.prepared.record_read) r x

    small_mask : (s : ℕ) → IsInPool s pools.masks → s < MASK_SLOTS
    small_mask s (inl i) = let k = in_left pools.masks.free pools.masks.left s i in q.masks.small k.0 s k.1
    small_mask s (inr i) = let k = in_right pools.masks.free pools.masks.left s i in q.masks.small k.0 s k.1

    small_action : (s : ℕ) → IsInPool s pools.actions → s < ACTION_SLOTS
    small_action s (inl i) = let k = in_left pools.actions.free pools.actions.left s i in q.actions.small k.0 s k.1
    small_action s (inr i) = let k = in_right pools.actions.free pools.actions.left s i in q.actions.small k.0 s k.1

    mask_free : (s : ℕ) → IsInPool s pools.masks → NothingComes h c (places.mask_root s)
    mask_free s in_ = back (places.mask_root s) sort
      where
        part : (x : Role) (z : IsOfPrepared hook_meaning hook_codec b h c y (places.mask_root s) x) → Part (places.mask_root s) x z → ⊥
        part x z (inl own) = let root = own.1 in let same : s ≡ z.slot = omega (arith, root) in handed.slots z.mask z.slot (is_built (places.mask_root s) x z) (subst (λ (n : ℕ). IsInPool n pools.masks) same in_)
        part x z (inr own) = let root = own.root in let small = small_mask s in_ in absurd (omega (arith, root, small))

        sort : (x : Role) → IsOfPrepared hook_meaning hook_codec b h c y (places.mask_root s) x ⊎ IsMade hook_meaning hook_codec b h y (places.mask_root s) x → ⊥
        sort x (inl z) = part x z z.part
        sort x (inr z) = let root = z.root in let small = small_mask s in_ in absurd (omega (arith, root, small))

    row_free : (row k : ℕ) → IsInPool row pools.rows → k < 16 → NothingComes h c (places.bucket_root row k)
    row_free row k in_ less = back (places.bucket_root row k) sort
      where
        part : (x : Role) (z : IsOfPrepared hook_meaning hook_codec b h c y (places.bucket_root row k) x) → Part (places.bucket_root row k) x z → ⊥
        part x z (inl own) = let root = own.1 in let small = z.small in absurd (omega (arith, root, small))
        part x z (inr own) = let root = own.root in let is : own.row ≡ row = omega (arith, root, less) in
            let is_one = is_built (places.bucket_root row k) x z in let held = has.has_built z.mask z.slot is_one in
            let there = subst (λ (r : MaskRecord). slice_get r.rows (places.row_of own.k) ≡ Some own.row) (prepared_record masks shape cells h b y has.named z.mask z.slot held.kept held.stands z.prepared) own.there in
            handed.rows z.mask z.slot row held.kept is_one held.stands (places.row_of own.k, there ∙ ap Some is) in_

        sort : (x : Role) → IsOfPrepared hook_meaning hook_codec b h c y (places.bucket_root row k) x ⊎ IsMade hook_meaning hook_codec b h y (places.bucket_root row k) x → ⊥
        sort x (inl z) = part x z z.part
        sort x (inr z) = let root = z.root in let small = z.put.there.puts.small in absurd (omega (arith, root, small))

    action_free : (s : ℕ) → IsInPool s pools.actions → NothingComes h c (places.action_root s)
    action_free s in_ = back (places.action_root s) sort
      where
        part : (x : Role) (z : IsOfPrepared hook_meaning hook_codec b h c y (places.action_root s) x) → Part (places.action_root s) x z → ⊥
        part x z (inl own) = let root = own.1 in let small = z.small in absurd (omega (arith, root, small))
        part x z (inr own) = let root = own.root in let small = small_action s in_ in absurd (omega (arith, root, small))

        sort : (x : Role) → IsOfPrepared hook_meaning hook_codec b h c y (places.action_root s) x ⊎ IsMade hook_meaning hook_codec b h y (places.action_root s) x → ⊥
        sort x (inl z) = part x z z.part
        sort x (inr z) = let root = z.root in let same : z.put.slot ≡ s = omega (arith, root) in actions z.action z.put (subst (λ (n : ℕ). IsInPool n pools.actions) (sym same) in_)

    pub move_pools : ((at : ℕ) → at < 256 → IsUnnamed b h (first_block_of hook place + at)) → (idle_of hook pools).place ≡ place → ArePools (turned hook pools) h2 b
    move_pools free is = pools_turned pools h b hook place tables (point_of h + 1) y low q within g.few free mask_free action_free row_free is
