-- What the call that builds a mask asks and tells, from the commits before to those after.
use Rattle.std.proofs.Common.{◌≡◌, ◌≢◌, ◌∙◌, ◌⊎◌, inl, inr, refl, ℕ, ◌+◌, ◌<◌, ◌≤◌, List, [], ◌∷◌, ◌++◌, length, take, get_or, set, slice_get, map, Some, sym, ap, subst, arith}
use Rattle.std.proofs.lemmas.Option.{slice_get-get_or, none-some}
use Rattle.tc_base.specs.declared.hook.Hook.{Hook}
use Rattle.visit_room.specs.declared.names.MaskName.{MaskName}
use Rattle.store_history.specs.declared.history.Commit.{Commit}
use Rattle.store_history.specs.declared.history.Named.{Named}
use Rattle.store_history.specs.History.{root_of, edits_of}
use Rattle.pin_store.specs.declared.shape.Shape.{Shape}
use Rattle.pin_store.specs.Calls.{IsUnnamed}
use Rattle.filter_state.specs.declared.edit.Edit.{Edit}
use Rattle.filter_state.specs.States.{State}
use Rattle.block_codec.specs.declared.filter.StoredFilter.{StoredFilter}
use Rattle.block_codec.specs.declared.mask.StoredMask.{StoredMask}
use Rattle.mask_table.specs.Buckets.{mask_root, bucket_root}
use Rattle.mask_table.specs.OfMirrors.Given.{AreGiven}
use Rattle.mask_table.specs.OfMirrors.Linked.{placed, raise_commits}
use Rattle.mask_writer.specs.Masks.{Masks}
use Rattle.mask_writer.specs.Standing.{masks_of, Holds, AreNamed}
use Rattle.hook_law.specs.Places.{action_root}
use Rattle.hook_law.specs.Meaning.{point_of, IsLive}
use Rattle.hook_law.specs.Standing.{IsIn, Action, IsSlotOf}
use Rattle.hook_law.specs.Numbered.{IsPutAction}
use Rattle.hook_law.proofs.Standing.{present_end, unused_end, slot_longer}
use Rattle.hook_law.specs.Keeping.{IsAtRest}
use Rattle.hook_store_law.specs.Stated.{hook_meaning, filters_at}
use Rattle.hook_store_law.specs.Blocks.{hook_codec}
use Rattle.hook_store_law.specs.Told.{with_slots}
use Rattle.hook_store_law.specs.Kept.{KeepsHook}
use Rattle.hook_store_law.specs.OfEdits.Premises.{now, next}
use Rattle.desk_heads.specs.OfHeadCommits.Raised.{stored_next, IsReady, IsSpareRoot, CanRaise}
use Rattle.desk_heads.proofs.OfHeadCommits.Raising.{raise_lawful, raise_keeps, raise_ready, raise_rest, raise_edits, raise_now, raise_next, raise_heads, raise_other, raise_spared}
use Rattle.desk_heads.proofs.OfHeadCommits.Giving.{stored_later}
use Rattle.desk_pools.specs.declared.pools.Pools.{Pools}
use Rattle.desk_pools.specs.Pools.{ArePools}
use Rattle.desk_pools.specs.Steps.{IsInPool}
use Rattle.desk_masks.specs.declared.hook_tables.HookTables.{HookTables}
use Rattle.desk_masks.specs.Tables.{HasTables}
use Rattle.desk_masks.proofs.Going.{tables_go}
use Rattle.desk_heads.specs.Handed.{AreActionsHanded}
use Rattle.desk_heads.proofs.Raised.{raise_pools, raise_unnamed}
use Rattle.desk_heads.specs.OfMoves.Builds.{HoldsBuilt}
use Rattle.desk_heads.proofs.OfMoves.BuiltMasks.{build_holds}

module _ (h : List (Commit Edit)) (b : ℕ) (y : Edit) (slot : ℕ) (mask : StoredMask) (fs : List StoredFilter) (given : List ℕ) (keeps : KeepsHook h b) (ready : IsReady h b y) (can : CanRaise h b y slot mask given)
    (same_fs : stored_next h y mask.serial ≡ fs) (many : length given ≡ length fs + 1) (are : AreGiven b h given) (point : ℕ) (at : point ≡ point_of h) where
  abbrev blk : ℕ
  blk = get_or given (length fs) 0

  abbrev commits : List StoredFilter → ℕ → List (Commit Edit)
  commits gs number = raise_commits slot mask blk (placed given gs) number

  pub build_lawful : (n : ℕ) → KeepsHook (h ++ take n (commits fs (point + 1))) b
  build_lawful n = subst (λ (gs : List StoredFilter). KeepsHook (h ++ take n (commits gs (point + 1))) b) same_fs
      (subst (λ (k : ℕ). KeepsHook (h ++ take n (commits (stored_next h y mask.serial) (k + 1))) b) (sym at) (raise_lawful h b y slot mask given blk keeps ready can n))

  record_block : slice_get given (length (stored_next h y mask.serial)) ≡ Some blk
  record_block = subst (λ (n : ℕ). slice_get given n ≡ Some blk) (sym (ap length same_fs)) (slice_get-get_or given (length fs) 0 (omega (arith, many)))

  module _ (g1 : List (Commit Edit)) (b1 : ℕ) (seen1 : g1 ≡ h ++ commits fs (point + 1)) (base1 : b1 ≡ b) where
    abbrev h1 : List (Commit Edit)
    h1 = h ++ commits (stored_next h y mask.serial) (point_of h + 1)

    is_after : g1 ≡ h1
    is_after = seen1 ∙ (λ t. h ++ commits (sym same_fs t) (at t + 1))

    on : (P : List (Commit Edit) → ℕ → Type 0) → P h1 b → P g1 b1
    on P x = subst (P g1) (sym base1) (subst (λ (g : List (Commit Edit)). P g b) (sym is_after) x)

    pub built_journal : edits_of g1 ≡ edits_of h
    built_journal = ap edits_of is_after ∙ raise_edits h b y slot mask given blk keeps ready can

    pub built_lawful : KeepsHook g1 b1
    built_lawful = on KeepsHook (raise_keeps h b y slot mask given blk keeps ready can)

    pub built_ready : IsReady g1 b1 y
    built_ready = on (λ g c. IsReady g c y) (raise_ready h b y slot mask given blk keeps ready can)

    pub built_rests : IsAtRest hook_meaning hook_codec h → IsAtRest hook_meaning hook_codec g1
    built_rests rest = on (λ g c. IsAtRest hook_meaning hook_codec g) (raise_rest h b y slot mask given blk keeps ready can rest)

    pub built_spare : (r : ℕ) → IsSpareRoot h b r → r ≢ mask_root slot → ((k : ℕ) → k < mask.size → r ≢ bucket_root mask k) → IsSpareRoot g1 b1 r
    built_spare r spare apart away = on (λ g c. IsSpareRoot g c r) (record {
      unused = (raise_spared h b y slot mask given blk keeps ready can).unused r spare.unused;
      early = let same = ap (λ (n : Named). n.stamp) (raise_other h b y slot mask given blk keeps ready can r apart away) in let early = spare.early in
          let point_same = ap length (raise_edits h b y slot mask given blk keeps ready can) in omega (arith, same, early, point_same);
    })

    pub built_stored : (m : ℕ) → stored_next g1 y m ≡ stored_next h y m
    built_stored m = on (λ g c. stored_next g y m ≡ stored_next h y m) (ap (λ (t : State). map (with_slots h1) (filters_at t m)) (raise_next h b y slot mask given blk keeps ready can)
        ∙ stored_later h (commits (stored_next h y mask.serial) (point_of h + 1)) b y m ready (raise_keeps h b y slot mask given blk keeps ready can).law)

    pub built_tables : (hook : Hook) (kept : HookTables) → HasTables hook kept h → HasTables hook kept g1
    built_tables hook kept has = on (λ g c. HasTables hook kept g) (tables_go h h1 (raise_heads h b y slot mask given blk keeps ready can) hook kept has)

    pub built_unnamed : (block : ℕ) → (IsIn block given → ⊥) → IsUnnamed b h block → IsUnnamed b1 g1 block
    built_unnamed block away free = on (λ g c. IsUnnamed c g block) (raise_unnamed h b y slot mask given blk keeps ready can are record_block block away free)

    pub built_pools : (pools : Pools) → ArePools pools h b → ((block : ℕ) → IsIn block given → IsInPool block pools.blocks → ⊥) → ArePools pools g1 b1
    built_pools pools p apart = on (λ g c. ArePools pools g c) (raise_pools h b y slot mask given blk keeps ready can are record_block pools p apart)

    pub built_actions : (pools : Pools) → AreActionsHanded pools h b y → AreActionsHanded pools g1 b1 y
    built_actions pools apart = on (λ g c. AreActionsHanded pools g c y) (λ a put at_pool. each a put at_pool)
      where
        keeps1 : KeepsHook h1 b
        keeps1 = raise_keeps h b y slot mask given blk keeps ready can

        low1 : b ≤ length h1
        low1 = (raise_ready h b y slot mask given blk keeps ready can).accepted.low

        live : (a : ℕ) → IsPutAction hook_meaning hook_codec b h1 y a → IsLive hook_meaning (next h y) a
        live a put = subst (λ (t : State). IsLive hook_meaning t a) (raise_next h b y slot mask given blk keeps ready can) (λ none. none-some put.reads.action.params (sym none ∙ put.reads.are))

        each : (a : ℕ) (put : IsPutAction hook_meaning hook_codec b h1 y a) → IsInPool put.slot pools.actions → ⊥
        each a put at_pool = pick (ready.made a (live a put))
          where
            later : (t : ℕ) → IsSlotOf hook_codec h a t → t ≡ put.slot
            later t x = (present_end hook_meaning hook_codec h1 b low1 keeps1.law).one_slot a t put.slot
                (slot_longer hook_codec h (commits (stored_next h y mask.serial) (point_of h + 1)) a t x) put.there

            pick : IsLive hook_meaning (now h) a ⊎ IsPutAction hook_meaning hook_codec b h y a → ⊥
            pick (inl before) = unused_end hook_meaning hook_codec h1 b (action_root put.slot) (Action a) low1 put.unused
                (put.slot, put.there, refl, subst (λ (t : State). IsLive hook_meaning t a) (sym (raise_now h b y slot mask given blk keeps ready can)) before)
            pick (inr own) = apart a own (subst (λ (n : ℕ). IsInPool n pools.actions) (sym (later own.slot own.there)) at_pool)

    pub built_holds : (masks : Masks) (shape : Shape) (cells : List ℕ) (masks2 : Masks) (cells2 : List ℕ) → AreNamed masks2 shape cells2 (root_of g1)
        → masks_of masks2 ≡ set (masks_of masks) slot (Some (record { block = blk; mask = mask })) → Holds masks2 slot (point + 1) fs
        → ((other last : ℕ) (gs : List StoredFilter) → other ≢ slot → Holds masks other last gs → Holds masks2 other last gs) → (built : List MaskName) → HoldsBuilt masks shape cells h b y built
        → HoldsBuilt masks2 shape cells2 g1 b1 y (built ++ record { serial = mask.serial; slot = slot } ∷ [])
    built_holds masks shape cells masks2 cells2 named set_is list lists built has = on (λ g c. HoldsBuilt masks2 shape cells2 g c y (built ++ record { serial = mask.serial; slot = slot } ∷ []))
        (build_holds h b y slot mask given blk keeps ready can masks shape cells built has masks2 cells2 (subst (λ (g : List (Commit Edit)). AreNamed masks2 shape cells2 (root_of g)) is_after named) set_is
        (subst (Holds masks2 slot (point_of h + 1)) (sym same_fs) (subst (λ (k : ℕ). Holds masks2 slot (k + 1) fs) at list)) lists)
