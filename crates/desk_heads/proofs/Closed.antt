-- Masks that go with a head's commit.
use Rattle.std.proofs.Common.{◌≡◌, ◌∙◌, ◌⊎◌, inl, inr, ℕ, ◌+◌, ◌/◌, ◌%◌, ◌<◌, ◌≤◌, Bool, true, false, List, [], ◌∷◌, ◌++◌, length, get_or, refl, sym, ap, subst, arith, length-append}
use Rattle.std.specs.List.{list_any}
use Rattle.tc_base.specs.declared.hook.Hook.{Hook}
use Rattle.store_history.specs.declared.history.Commit.{Commit}
use Rattle.store_history.specs.declared.history.Named.{Named}
use Rattle.store_history.specs.History.{root_of, edits_of}
use Rattle.store_history.proofs.Histories.{root_other}
use Rattle.store_history.specs.declared.places.TheConstants.{MASK_SLOTS}
use Rattle.pin_store.specs.declared.shape.Shape.{Shape}
use Rattle.pin_store.specs.Calls.{IsUnnamed}
use Rattle.filter_state.specs.declared.edit.Edit.{Edit}
use Rattle.filter_state.specs.Order.{of_mask}
use Rattle.block_codec.specs.declared.table.StoredTable.{StoredTable}
use Rattle.hook_store_law.specs.OfEffects.Parts.{Stands}
use Rattle.mask_table.specs.Buckets.{bucket_root}
use Rattle.mask_table.specs.declared.mirrors.mirror.KeptMask.{KeptMask}
use Rattle.mask_writer.specs.Masks.{Masks}
use Rattle.mask_writer.specs.Standing.{StandsAt, Holds, BucketOf}
use Rattle.mask_writer.proofs.Standing.{held_later}
use Rattle.miniq_pair.specs.Pairs.{first_block_of, swap_commit}
use Rattle.hook_law.specs.Places as places
use Rattle.hook_law.specs.Meaning.{point_of}
use Rattle.hook_law.specs.Standing.{Role, Mask, Bucket, region_of, IsMaskAt, Stands as StandsRoot}
use Rattle.hook_law.specs.Keeping.{Present}
use Rattle.hook_law.specs.Coming.{IsMade, IsOfPrepared}
use Rattle.hook_law.proofs.Standing.{present_end}
use Rattle.hook_store_law.specs.Stated.{hook_meaning}
use Rattle.hook_store_law.specs.Blocks.{mask_record, hook_codec}
use Rattle.hook_store_law.specs.Kept.{KeepsHook}
use Rattle.hook_store_law.specs.OfEdits.Premises.{next}
use Rattle.desk_masks.specs.OfMaskResizes.Resized.{stored_now}
use Rattle.root_pool_laws.proofs.Apart.{in_left, in_right}
use Rattle.desk_heads.specs.OfHeadCommits.Built.{IsBuilt, IsConcerned, IsGiven}
use Rattle.desk_heads.proofs.OfHeadCommits.Giving.{sort_after, keeps_slot, edits_after, stored_still, comes, fresh_named}
use Rattle.desk_masks.specs.Masks.{HasMasks}
use Rattle.desk_masks.proofs.Going.{bucket_stands}
use Rattle.desk_pools.specs.declared.pools.Pools.{Pools}
use Rattle.desk_pools.specs.Pools.{ArePools}
use Rattle.desk_pools.specs.Steps.{IsInPool, NothingComes, turned}
use Rattle.desk_heads.specs.Gives.{GivesTables}
use Rattle.desk_heads.specs.Closes.{ClosesMasks, HoldsMasks, IsGone}
use Rattle.desk_heads.specs.Handed.{idle_of, AreActionsHanded}
use Rattle.desk_heads.proofs.Holding.{SamePool, named_on}
use Rattle.desk_heads.proofs.OpenMasks.{one_hook}
use Rattle.desk_heads.proofs.Swapped.{pools_turned}

none_built : (m s : ℕ) → IsBuilt [] m s → ⊥
none_built m s x = let e = x.there in cc e

module _ (h : List (Commit Edit)) (b : ℕ) (y : Edit) (hook : Hook) (keeps : KeepsHook h b) (o : ClosesMasks h b y hook) where
  low : b ≤ length h
  low = o.ready.accepted.low

  pub close_gives : GivesTables h b y hook []
  close_gives = record {
    ready = o.ready;
    rest = o.rest;
    leaves = record {
      heads = o.leaves.heads;
      words = λ m none. o.leaves.words m (λ gone. none (inr gone));
      filters = λ m none. o.leaves.filters m (λ gone. none (inr gone));
      params = o.leaves.params;
    };
    fresh = record {
      prepared = λ m s x. absurd (none_built m s x);
      sized = λ m s x it. absurd (none_built m s x);
      apart = λ m n s t i j row x z it also e f. absurd (none_built m s x);
    };
    here = λ m s x. absurd (none_built m s x);
    small = λ m s x. absurd (none_built m s x);
  }

  -- a mask stands after the edit, or it doesn't
  stands_or : (m : ℕ) → Stands (next h y) m ⊎ (Stands (next h y) m → ⊥)
  stands_or m = pick (list_any (of_mask m) (next h y).rows) refl
    where
      pick : (t : Bool) → list_any (of_mask m) (next h y).rows ≡ t → Stands (next h y) m ⊎ (Stands (next h y) m → ⊥)
      pick true is = inl is
      pick false is = inr (λ stands. let both = sym is ∙ stands in cc both)

  module _ (place : ℕ) (tables : List StoredTable) (within : place ≤ 1) (g : IsGiven h b y hook [] tables) where
    abbrev c : Commit Edit
    c = swap_commit hook place tables (point_of h + 1) y

    abbrev h2 : List (Commit Edit)
    h2 = h ++ c ∷ []

    abbrev C : ℕ → Type 0
    C = IsConcerned h y []

    not_concerned : (m : ℕ) → Stands (next h y) m → C m → ⊥
    not_concerned m stands (inl x) = none_built m x.0 x.1
    not_concerned m stands (inr gone) = gone stands

    pub close_stays : (m s : ℕ) → IsMaskAt hook_codec h m s → Stands (next h y) m → IsMaskAt hook_codec h2 m s
    close_stays m s at stands = keeps_slot h b y hook C (IsBuilt []) place tables keeps o.ready within g m s at (not_concerned m stands)

    pub close_only : (m s : ℕ) → IsMaskAt hook_codec h2 m s → IsMaskAt hook_codec h m s × Stands (next h y) m
    close_only m s at = sort (sort_after h b y hook C (IsBuilt []) place tables keeps o.ready within g m s at)
      where
        yes : (C m → ⊥) → Stands (next h y) m ⊎ (Stands (next h y) m → ⊥) → Stands (next h y) m
        yes none (inl stands) = stands
        yes none (inr gone) = absurd (none (inr gone))

        sort : (IsMaskAt hook_codec h m s × (C m → ⊥)) ⊎ IsBuilt [] m s → IsMaskAt hook_codec h m s × Stands (next h y) m
        sort (inl old) = (old.0, yes old.1 (stands_or m))
        sort (inr x) = absurd (none_built m s x)

    pub close_edits : edits_of h2 ≡ edits_of h ++ y ∷ []
    close_edits = edits_after h b y hook C (IsBuilt []) place tables keeps o.ready within g

    point_is : point_of h2 ≡ point_of h + 1
    point_is = ap length close_edits ∙ length-append (edits_of h) (y ∷ [])

    -- what comes is an action that was put for the edit
    back : (r : ℕ) → ((m : ℕ) (x : Role) → IsMade hook_meaning hook_codec b h y r x → ⊥) → NothingComes h c r
    back r none x stands = pick (comes h b y hook C (IsBuilt []) place tables keeps o.ready within g r x stands)
      where
        pick : StandsRoot hook_meaning hook_codec h r x ⊎ (IsOfPrepared hook_meaning hook_codec b h c y r x ⊎ IsMade hook_meaning hook_codec b h y r x) → StandsRoot hook_meaning hook_codec h r x
        pick (inl before) = before
        pick (inr (inl q)) = absurd (none_built q.mask q.slot (fresh_named h b y hook C (IsBuilt []) place tables keeps o.ready within g q.mask q.slot q.prepared q.names))
        pick (inr (inr m)) = absurd (none 0 x m)

    p : Present hook_meaning hook_codec h
    p = present_end hook_meaning hook_codec h b low keeps.law

    mask_back_ : (s : ℕ) → s < MASK_SLOTS → NothingComes h c (places.mask_root s)
    mask_back_ s less = back (places.mask_root s) (λ k x m. let root = m.root in absurd (omega (arith, root, less)))

    row_back_ : (row k : ℕ) → NothingComes h c (places.bucket_root row k)
    row_back_ row k = back (places.bucket_root row k) (λ n x m. let root = m.root in let small = m.put.there.puts.small in absurd (omega (arith, root, small)))

    module _ (masks : Masks) (shape : Shape) (cells : List ℕ) (has : HasMasks masks shape cells h) where
      pub close_holds : (cells2 : List ℕ) → SamePool shape cells cells2 → HoldsMasks masks shape cells2 h2
      close_holds cells2 pool = record {
        named = named_on masks shape cells cells2 (root_of h) (root_of h2) has.named pool
            (λ r high. ap (λ (n : Named). n.chain) (root_other h c r (λ same. let one = one_hook hook in absurd (omega (arith, same, high, one)))));
        has = λ m s at. let was = close_only m s at in let old = has.has m s was.0 in record {
          kept = old.kept;
          stands = old.stands;
          serial = old.serial;
          holds = subst (Holds masks s (point_of h2)) (sym (stored_still h b y hook C (IsBuilt []) place tables keeps o.ready within g m (not_concerned m was.1)))
              (held_later masks s (point_of h) (point_of h2) (stored_now h m) (let up = point_is in omega (arith, up)) old.holds);
        };
      }

      -- the roots of a mask that went
      pub close_gone : (m s : ℕ) → IsMaskAt hook_codec h m s → (Stands (next h y) m → ⊥) → IsGone masks h2 s
      close_gone m s at gone = record {
        at_slot = λ x stands. mask_gone x (mask_back_ s at.small x stands) stands;
        at_rows = λ kept bucket held less x stands. bucket_gone kept bucket held less x (row_back_ (get_or kept.mask.rows (bucket / 16) 0) (bucket % 16) x stands) stands;
      }
        where
          no_head : (n : ℕ) → IsMaskAt hook_codec h2 n s → n ≡ m → ⊥
          no_head n after same = gone (subst (Stands (next h y)) same (close_only n s after).1)

          mask_gone : (x : Role) → StandsRoot hook_meaning hook_codec h (places.mask_root s) x → StandsRoot hook_meaning hook_codec h2 (places.mask_root s) x → ⊥
          mask_gone x before stands = let same : x ≡ Mask m = p.apart (places.mask_root s) x (Mask m) before (s, at, refl) in
              let it : StandsRoot hook_meaning hook_codec h2 (places.mask_root s) (Mask m) = subst (StandsRoot hook_meaning hook_codec h2 (places.mask_root s)) same stands in
              let root = it.2 in let slot : it.0 ≡ s = omega (arith, root) in no_head m (subst (IsMaskAt hook_codec h2 m) slot it.1) refl

          bucket_gone : (kept : KeptMask) (bucket : ℕ) → StandsAt masks s kept → bucket < kept.mask.size → (x : Role) → StandsRoot hook_meaning hook_codec h (bucket_root kept.mask bucket) x
              → StandsRoot hook_meaning hook_codec h2 (bucket_root kept.mask bucket) x → ⊥
          bucket_gone kept bucket held less x before stands =
              let at_bucket : BucketOf masks (bucket_root kept.mask bucket) = record { slot = s; bucket = bucket; kept = kept; stands = held; within = less; same = refl } in
              let role : Role = Bucket (region_of s kept.mask.serial (root_of h (places.mask_root s)).stamp (mask_record kept.mask)) bucket in
              let same : x ≡ role = p.apart (bucket_root kept.mask bucket) x role before (bucket_stands masks shape cells h has (bucket_root kept.mask bucket) at_bucket) in
              let it : StandsRoot hook_meaning hook_codec h2 (bucket_root kept.mask bucket) role = subst (StandsRoot hook_meaning hook_codec h2 (bucket_root kept.mask bucket)) same stands in
              let mine : kept.mask.serial ≡ m = serial_at kept held in no_head kept.mask.serial it.1.at_mask mine
            where
              serial_at : (k : KeptMask) → StandsAt masks s k → k.mask.serial ≡ m
              serial_at k held2 = let one = p.apart (places.mask_root s) (Mask k.mask.serial) (Mask m) (s, has.only s k held2, refl) (s, at, refl) in cc one

    -- ---- pools
    pub close_pools : ((at : ℕ) → at < 256 → IsUnnamed b h (first_block_of hook place + at)) → (pools : Pools) → ArePools pools h b → AreActionsHanded pools h b y → (idle_of hook pools).place ≡ place
        → ArePools (turned hook pools) h2 b
    close_pools free pools q actions is = pools_turned pools h b hook place tables (point_of h + 1) y low q within g.few free
        (λ s at. mask_back_ s (small_mask s at)) (λ s at. back (places.action_root s) (λ k x m. let root = m.root in let same : m.put.slot ≡ s = omega (arith, root) in actions m.action m.put (subst (λ (n : ℕ). IsInPool n pools.actions) (sym same) at)))
        (λ row k at less. row_back_ row k) is
      where
        small_mask : (s : ℕ) → IsInPool s pools.masks → s < MASK_SLOTS
        small_mask s (inl i) = let k = in_left pools.masks.free pools.masks.left s i in q.masks.small k.0 s k.1
        small_mask s (inr i) = let k = in_right pools.masks.free pools.masks.left s i in q.masks.small k.0 s k.1
