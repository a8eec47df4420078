-- Pools once a mask is put whole for a filter of its own, and its hook has its tables anew.
use Rattle.std.proofs.Common.{◌≡◌, ◌∙◌, ◌⊎◌, inl, inr, ℕ, ◌+◌, ◌<◌, ◌≤◌, List, [], ◌∷◌, ◌++◌, length, slice_get, Some, refl, sym, ap, subst, arith}
use Rattle.std.proofs.lemmas.Option.{slice_get-get_or}
use Rattle.tc_base.specs.declared.hook.Hook.{Hook}
use Rattle.visit_room.specs.declared.names.MaskName.{MaskName}
use Rattle.store_history.specs.declared.history.Commit.{Commit}
use Rattle.store_history.specs.declared.places.TheConstants.{MASK_SLOTS, ACTION_SLOTS}
use Rattle.pin_store.specs.Calls.{IsUnnamed}
use Rattle.filter_state.specs.declared.edit.Edit.{Edit}
use Rattle.filter_state.specs.States.{State}
use Rattle.block_codec.specs.declared.filter.StoredFilter.{StoredFilter}
use Rattle.block_codec.specs.declared.mask.StoredMask.{StoredMask}
use Rattle.block_codec.specs.declared.table.StoredTable.{StoredTable}
use Rattle.mask_table.specs.OfMirrors.Given.{AreGiven}
use Rattle.miniq_pair.specs.Pairs.{first_block_of, swap_commit}
use Rattle.hook_law.specs.Places.{mask_root, action_root, bucket_root, row_of}
use Rattle.hook_law.specs.Records.{MaskRecord}
use Rattle.hook_law.specs.Meaning.{point_of, IsLive}
use Rattle.hook_law.specs.Standing.{Role, Mask, Action, region_of, IsSlotOf, Stands}
use Rattle.hook_law.specs.Numbered.{IsPutAction}
use Rattle.hook_law.specs.Coming.{IsBucketOf, IsMade, IsOfPrepared}
use Rattle.hook_law.proofs.Standing.{present_end, unused_end, slot_longer}
use Rattle.hook_store_law.specs.Stated.{hook_meaning}
use Rattle.hook_store_law.specs.Blocks.{hook_codec}
use Rattle.hook_store_law.specs.Kept.{KeepsHook}
use Rattle.hook_store_law.specs.OfEdits.Premises.{now, next}
use Rattle.desk_heads.specs.OfHeadCommits.Raised.{stored_next, IsReady}
use Rattle.desk_heads.proofs.OfHeadCommits.Giving.{comes, fresh_named, now_after}
use Rattle.desk_pools.specs.declared.pools.Pools.{Pools}
use Rattle.desk_pools.specs.Pools.{ArePools}
use Rattle.desk_pools.specs.Steps.{IsInPool, NothingComes, turned}
use Rattle.root_pool_laws.proofs.Apart.{in_left, in_right}
use Rattle.desk_heads.specs.OfHeadCommits.Built.{IsBuilt}
use Rattle.desk_heads.specs.OfHeadCommits.Built.{IsConcerned, IsGiven}
use Rattle.desk_heads.specs.Opens.{OpensMask}
use Rattle.desk_heads.specs.Handed.{idle_of, AreHanded, AreActionsHanded}
use Rattle.desk_heads.proofs.Opened.{blk, law_commits, after, after_keeps, after_ready, after_now, after_next, built, built_is, record_is}
use Rattle.desk_heads.proofs.Raised.{raise_pools, raise_outside}
use Rattle.desk_heads.proofs.Swapped.{pools_turned, above_pool, in_place}

module _ (h : List (Commit Edit)) (b : ℕ) (y : Edit) (hook : Hook) (slot : ℕ) (mask : StoredMask) (filter : StoredFilter) (given : List ℕ) (keeps : KeepsHook h b) (o : OpensMask h b y hook slot mask filter given)
    (two : length given ≡ 2) (are : AreGiven b h given) where
  abbrev h1 : List (Commit Edit)
  h1 = after h b y hook slot mask filter given keeps o

  record_block : slice_get given (length (stored_next h y mask.serial)) ≡ Some (blk h b y hook slot mask filter given keeps o)
  record_block = subst (λ (n : ℕ). slice_get given n ≡ Some (blk h b y hook slot mask filter given keeps o)) (sym (ap length o.filters)) (slice_get-get_or given 1 0 (omega (arith, two)))

  -- the blocks of the idle place are as free after the mask's commits
  pub idle_after : (place at : ℕ) → place ≤ 1 → at < 256 → IsUnnamed b h (first_block_of hook place + at) → IsUnnamed b h1 (first_block_of hook place + at)
  idle_after place at within less free = raise_outside h b y slot mask given (blk h b y hook slot mask filter given keeps o) keeps o.ready o.can are record_block (first_block_of hook place + at)
      (above_pool hook (first_block_of hook place + at) (in_place hook place at within less)) free

  module _ (place : ℕ) (tables : List StoredTable) (within : place ≤ 1) (g : IsGiven h1 b y hook (built h b y hook slot mask filter given keeps o) tables) where
    abbrev made : List MaskName
    made = built h b y hook slot mask filter given keeps o

    abbrev c : Commit Edit
    c = swap_commit hook place tables (point_of h1 + 1) y

    keeps1 : KeepsHook h1 b
    keeps1 = after_keeps h b y hook slot mask filter given keeps o

    ready1 : IsReady h1 b y
    ready1 = after_ready h b y hook slot mask filter given keeps o

    low1 : b ≤ length h1
    low1 = ready1.accepted.low

    module _ (pools : Pools) (p : ArePools pools h b) (handed : AreHanded pools given mask.rows slot) (actions : AreActionsHanded pools h b y) where
      p1 : ArePools pools h1 b
      p1 = raise_pools h b y slot mask given (blk h b y hook slot mask filter given keeps o) keeps o.ready o.can are record_block pools p handed.blocks_apart

      small_mask : (s : ℕ) → IsInPool s pools.masks → s < MASK_SLOTS
      small_mask s (inl i) = let k = in_left pools.masks.free pools.masks.left s i in p.masks.small k.0 s k.1
      small_mask s (inr i) = let k = in_right pools.masks.free pools.masks.left s i in p.masks.small k.0 s k.1

      small_action : (s : ℕ) → IsInPool s pools.actions → s < ACTION_SLOTS
      small_action s (inl i) = let k = in_left pools.actions.free pools.actions.left s i in p.actions.small k.0 s k.1
      small_action s (inr i) = let k = in_right pools.actions.free pools.actions.left s i in p.actions.small k.0 s k.1

      -- what comes is of the new mask, or an action that was put for the edit
      abbrev Came : ℕ → Role → Type 0
      Came r x = IsOfPrepared hook_meaning hook_codec b h1 c y r x ⊎ IsMade hook_meaning hook_codec b h1 y r x

      back : (r : ℕ) → ((x : Role) → Came r x → Stands hook_meaning hook_codec (h1 ++ c ∷ []) r x → ⊥) → NothingComes h1 c r
      back r none x stands = pick (comes h1 b y hook (IsConcerned h1 y made) (IsBuilt made) place tables keeps1 ready1 within g r x stands)
        where
          pick : Stands hook_meaning hook_codec h1 r x ⊎ Came r x → Stands hook_meaning hook_codec h1 r x
          pick (inl before) = before
          pick (inr came) = absurd (none x came stands)

      own_mask : (r : ℕ) (x : Role) (q : IsOfPrepared hook_meaning hook_codec b h1 c y r x) → slot ≡ q.slot
      own_mask r x q = (built_is h b y hook slot mask filter given keeps o q.mask q.slot
          (fresh_named h1 b y hook (IsConcerned h1 y made) (IsBuilt made) place tables keeps1 ready1 within g q.mask q.slot q.prepared q.names)).1

      mask_free : (s : ℕ) → IsInPool s pools.masks → NothingComes h1 c (mask_root s)
      mask_free s at = back (mask_root s) (λ x came stands. sort x came)
        where
          part : (x : Role) (q : IsOfPrepared hook_meaning hook_codec b h1 c y (mask_root s) x) → ((x ≡ Mask q.mask) × (mask_root s ≡ mask_root q.slot)) ⊎ IsBucketOf q.prepared.record_read (region_of q.slot q.mask (point_of h1 + 1) q.prepared.record_read) (mask_root s) x → ⊥
          part x q (inl m) = let same = m.1 in let own = own_mask (mask_root s) x q in let is : s ≡ slot = omega (arith, same, own) in handed.slot_apart (subst (λ (n : ℕ). IsInPool n pools.masks) is at)
          part x q (inr n) = let root = n.root in let small = small_mask s at in absurd (omega (arith, root, small))

          sort : (x : Role) → Came (mask_root s) x → ⊥
          sort x (inl q) = part x q q.part
          sort x (inr m) = let root = m.root in let small = small_mask s at in absurd (omega (arith, root, small))

      row_free : (row k : ℕ) → IsInPool row pools.rows → k < 16 → NothingComes h1 c (bucket_root row k)
      row_free row k at less = back (bucket_root row k) (λ x came stands. sort x came)
        where
          part : (x : Role) (q : IsOfPrepared hook_meaning hook_codec b h1 c y (bucket_root row k) x) → ((x ≡ Mask q.mask) × (bucket_root row k ≡ mask_root q.slot)) ⊎ IsBucketOf q.prepared.record_read (region_of q.slot q.mask (point_of h1 + 1) q.prepared.record_read) (bucket_root row k) x → ⊥
          part x q (inl m) = let root = m.1 in let small = q.small in absurd (omega (arith, root, small))
          part x q (inr n) = let root = n.root in let is : n.row ≡ row = omega (arith, root, less) in
              let there = subst (λ (r : MaskRecord). slice_get r.rows (row_of n.k) ≡ Some n.row) (record_is h b y hook slot mask filter given keeps o q.mask q.slot (own_mask (bucket_root row k) x q) q.prepared) n.there in
              handed.rows_apart row (row_of n.k, there ∙ ap Some is) at

          sort : (x : Role) → Came (bucket_root row k) x → ⊥
          sort x (inl q) = part x q q.part
          sort x (inr m) = let root = m.root in let small = m.put.there.puts.small in absurd (omega (arith, root, small))

      -- an action that came was put for the edit, at a slot that is in no pool
      put_apart : (a s : ℕ) → IsLive hook_meaning (next h y) a → (put : IsPutAction hook_meaning hook_codec b h1 y a) → put.slot ≡ s → IsInPool s pools.actions → ⊥
      put_apart a s live put same at = pick (o.ready.made a live)
        where
          later : (t : ℕ) → IsSlotOf hook_codec h a t → t ≡ put.slot
          later t x = (present_end hook_meaning hook_codec h1 b low1 keeps1.law).one_slot a t put.slot (slot_longer hook_codec h (law_commits h b y hook slot mask filter given keeps o) a t x) put.there

          pick : IsLive hook_meaning (now h) a ⊎ IsPutAction hook_meaning hook_codec b h y a → ⊥
          pick (inl before) = unused_end hook_meaning hook_codec h1 b (action_root put.slot) (Action a) low1 put.unused
              (put.slot, put.there, refl, subst (λ (t : State). IsLive hook_meaning t a) (sym (after_now h b y hook slot mask filter given keeps o)) before)
          pick (inr own) = actions a own (subst (λ (n : ℕ). IsInPool n pools.actions) (sym (later own.slot own.there ∙ same)) at)

      action_free : (s : ℕ) → IsInPool s pools.actions → NothingComes h1 c (action_root s)
      action_free s at = back (action_root s) sort
        where
          part : (x : Role) (q : IsOfPrepared hook_meaning hook_codec b h1 c y (action_root s) x) → ((x ≡ Mask q.mask) × (action_root s ≡ mask_root q.slot)) ⊎ IsBucketOf q.prepared.record_read (region_of q.slot q.mask (point_of h1 + 1) q.prepared.record_read) (action_root s) x → ⊥
          part x q (inl m) = let root = m.1 in let small = q.small in absurd (omega (arith, root, small))
          part x q (inr n) = let root = n.root in let small = small_action s at in absurd (omega (arith, root, small))

          live_now : (x : Role) (m : IsMade hook_meaning hook_codec b h1 y (action_root s) x) → Stands hook_meaning hook_codec (h1 ++ c ∷ []) (action_root s) x → IsLive hook_meaning (next h y) m.action
          live_now x m stands = let it : Stands hook_meaning hook_codec (h1 ++ c ∷ []) (action_root s) (Action m.action) = subst (Stands hook_meaning hook_codec (h1 ++ c ∷ []) (action_root s)) m.is stands in
              subst (λ (t : State). IsLive hook_meaning t m.action) (now_after h1 b y hook (IsConcerned h1 y made) (IsBuilt made) place tables keeps1 ready1 within g ∙ after_next h b y hook slot mask filter given keeps o) it.3

          sort : (x : Role) → Came (action_root s) x → Stands hook_meaning hook_codec (h1 ++ c ∷ []) (action_root s) x → ⊥
          sort x (inl q) stands = part x q q.part
          sort x (inr m) stands = let root = m.root in put_apart m.action s (live_now x m stands) m.put (omega (arith, root)) at

      pub open_pools : ((at : ℕ) → at < 256 → IsUnnamed b h (first_block_of hook place + at)) → (idle_of hook pools).place ≡ place → ArePools (turned hook pools) (h1 ++ c ∷ []) b
      open_pools free is = pools_turned pools h1 b hook place tables (point_of h1 + 1) y low1 p1 within g.few (λ at less. idle_after place at within less (free at less)) mask_free action_free row_free is
