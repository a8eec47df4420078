-- A mask more is laid, and all else is as it was.
use Rattle.std.proofs.Common.{◌≡◌, ◌≢◌, ◌∙◌, ◌⊎◌, inl, inr, ℕ, zero, suc, ◌+◌, ◌/◌, ◌<◌, ◌≤◌, List, [], ◌∷◌, ◌++◌, length, map, get_or, set, Option, Some, None, refl, sym, ap, subst, arith}
use Rattle.std.specs.List.{range_with_len}
use Rattle.std.proofs.lemmas.List.{get_or-set_same, get_or-set_other}
use Rattle.std.proofs.lemmas.Option.{same_Some, slice_get-get_or}
use Rattle.visit_room.specs.declared.names.MaskName.{MaskName}
use Rattle.store_history.specs.declared.history.Commit.{Commit}
use Rattle.store_history.specs.declared.history.Link.{Link}
use Rattle.store_history.specs.declared.history.Named.{Named}
use Rattle.store_history.specs.History.{root_of, edits_of}
use Rattle.store_history.specs.declared.places.TheConstants.{MASK_SLOTS, ROWS}
use Rattle.pin_store.specs.Sheets.{IsSameButCells}
use Rattle.pin_store.specs.Calls.{sheet_of}
use Rattle.filter_state.specs.declared.edit.Edit.{Edit}
use Rattle.filter_state.specs.States.{State}
use Rattle.filter_lists.specs.Spells.{Spells}
use Rattle.block_codec.specs.declared.mask.StoredMask.{StoredMask}
use Rattle.mask_table.specs.Buckets.{mask_root, bucket_root}
use Rattle.mask_table.specs.declared.mirrors.mirror.KeptMask.{KeptMask}
use Rattle.mask_table.specs.OfMirrors.Forgetting.{blocks_of}
use Rattle.mask_table.specs.OfMirrors.Linked.{Placed, raise_commits}
use Rattle.mask_writer.specs.Masks.{Masks}
use Rattle.mask_writer.specs.Standing.{masks_of, StandsAt}
use Rattle.mask_writer.proofs.Standing.{slots_count, mask_storable}
use Rattle.miniq_pair.proofs.Placing.{same_cells}
use Rattle.hook_law.specs.Places as places
use Rattle.hook_law.specs.Meaning.{point_of}
use Rattle.hook_law.specs.Standing.{IsIn, IsMaskAt, IsUnused}
use Rattle.hook_law.specs.Keeping.{IsAtRest}
use Rattle.hook_store_law.specs.Stated.{hook_meaning}
use Rattle.hook_store_law.specs.Blocks.{hook_codec}
use Rattle.hook_store_law.specs.Kept.{KeepsHook}
use Rattle.hook_store_law.specs.OfEdits.Premises.{now, next}
use Rattle.root_pool_laws.proofs.Apart.{in_left}
use Rattle.desk_heads.specs.OfHeadCommits.Raised.{IsReady, IsSpareRoot, CanRaise}
use Rattle.desk_heads.specs.OfHeadCommits.Built.{IsBuilt}
use Rattle.desk_pools.specs.OfNumbers.Numbers.{PoolNumbers}
use Rattle.desk_pools.specs.declared.pools.Pools.{Pools}
use Rattle.desk_pools.specs.Pools.{ArePools}
use Rattle.desk_pools.specs.Steps.{IsInPool}
use Rattle.desk_actions.specs.declared.ledgers.ledger.Ledger.{Ledger}
use Rattle.desk_actions.specs.OfLedgers.Kept.{commits, base}
use Rattle.desk_actions.specs.Places.{AreHereFor}
use Rattle.desk_needs.specs.Live.{count_of}
use Rattle.desk_masks.specs.declared.hook_tables.HookTables.{HookTables}
use Rattle.desk_masks.specs.Tables.{HasTables}
use Rattle.desk_parts.specs.declared.parts.Parts.{Parts}
use Rattle.desk_parts.specs.Desk.{shape_of, hook_shape, cells}
use Rattle.desk_heads.specs.Handed.{AreActionsHanded}
use Rattle.tc_base.specs.declared.hook.Hook.{Hook}
use Rattle.desk_heads.specs.OfMoves.Builds.{HoldsBuilt, AreBuiltHanded}
use Rattle.desk_heads.proofs.OfMoves.OneMore.{built_sort, apart_slot}
use Rattle.desk_heads.proofs.OfMoves.BuiltMasks.{slot_empty, rows_free}
use Rattle.shared_hook.specs.OfDeskEdits.Ahead.{GoesOnAside}
use Rattle.shared_hook.specs.OfDeskEdits.Taken.{IsMaskRoom}
use Rattle.shared_hook.proofs.OfDeskEdits.AsideThen.{aside_then}
use Rattle.shared_hook.proofs.OfDeskEdits.Commits.{raise_aside, no_slots, aside_early}
use Rattle.shared_hook.proofs.OfDeskEdits.Found.{same_state}
use Rattle.shared_hook.proofs.OfDeskEdits.Passing.{here_stays}
use Rattle.shared_hook.specs.OfDeskEdits.OfMoves.Raises.{HaveTheirBlocks, AreEarly, IsRaising}
use Rattle.shared_hook.proofs.OfDeskEdits.OfMoves.CanLay.{slot_spare, row_spare}

-- roots that are the same have the same blocks
blocks_same : (one two : ℕ → Named) (mask : StoredMask) (n first : ℕ) → ((k : ℕ) → k < first + n → one (bucket_root mask k) ≡ two (bucket_root mask k))
    → blocks_of one (map (bucket_root mask) (range_with_len first n)) ≡ blocks_of two (map (bucket_root mask) (range_with_len first n))
blocks_same one two mask zero first same = refl
blocks_same one two mask (suc n) first same = let rest = blocks_same one two mask n (first + 1) (λ k less. same k (omega (arith, less))) in let own = same first (omega arith) in
    λ t. map (λ (l : Link). l.block) (own t).chain ++ rest t

-- a root of a bucket names its row and its place there
row_in : (mask : StoredMask) (k : ℕ) → k / 16 < length mask.rows → IsIn (get_or mask.rows (k / 16) 0) mask.rows
row_in mask k less = (k / 16, slice_get-get_or mask.rows (k / 16) 0 less)

-- what is in a pool after some was taken was there before
in_before : (old new : PoolNumbers) (more : List ℕ) (x : ℕ) → old.free ≡ new.free ++ more → new.left ≡ old.left → IsInPool x new → IsInPool x old
in_before old new more x free left (inl at) = inl (subst (IsIn x) (sym free) (in_left new.free more x at))
in_before old new more x free left (inr at) = inr (subst (IsIn x) left at)

module _ (start parts : Parts) (y : Edit) (built : List MaskName) (r : IsRaising start parts y built) (pools : Pools) (slot : ℕ) (blocks rows : List ℕ)
    (room : IsMaskRoom pools (commits parts.ledger) (base parts.ledger) slot blocks rows) (free_slots : parts.pools.masks.free ≡ pools.masks.free ++ slot ∷ []) (free_rows : parts.pools.rows.free ≡ pools.rows.free ++ rows)
    (left_slots : pools.masks.left ≡ parts.pools.masks.left) (left_rows : pools.rows.left ≡ parts.pools.rows.left) (were : ArePools pools (commits parts.ledger) (base parts.ledger))
    (others : pools ≡ record parts.pools { blocks = pools.blocks; rows = pools.rows; masks = pools.masks }) (mask : StoredMask) (rows_are : mask.rows ≡ rows)
    (can : CanRaise (commits parts.ledger) (base parts.ledger) y slot mask blocks) where
  abbrev h : List (Commit Edit)
  h = commits parts.ledger

  abbrev b : ℕ
  b = base parts.ledger

  slot_in : (s : ℕ) → IsInPool s pools.masks → IsInPool s parts.pools.masks
  slot_in s = in_before parts.pools.masks pools.masks (slot ∷ []) s free_slots left_slots

  row_in_pool : (row : ℕ) → IsInPool row pools.rows → IsInPool row parts.pools.rows
  row_in_pool row = in_before parts.pools.rows pools.rows rows row free_rows left_rows

  actions_same : pools.actions ≡ parts.pools.actions
  actions_same = ap (λ (q : Pools). q.actions) others

  pub handed_on : AreActionsHanded pools h b y
  handed_on a put at = r.actions a put (subst (λ (q : PoolNumbers). IsInPool put.slot q) actions_same at)

  -- ---- a mask that was built before
  built_apart : (m s : ℕ) (blk : ℕ) → IsBuilt built m s → s ≢ slot
  built_apart m s blk x = apart_slot h b y slot mask blocks blk r.lawful r.ready can m s (let fresh = r.holds.fresh in fresh.prepared m s x)

  -- roots of what is free still, and of masks that a head names, are none of the new mask's
  free_slot_apart : (s : ℕ) → IsIn s pools.masks.free → mask_root s ≢ mask_root slot
  free_slot_apart s at same = let is : s ≡ slot = omega (arith, same) in room.slot_taken.apart (inl (subst (λ (n : ℕ). IsIn n pools.masks.free) is at))

  slot_low : (s : ℕ) → IsIn s pools.masks.free → s < MASK_SLOTS
  slot_low s at = let k = in_left pools.masks.free pools.masks.left s at in were.masks.small k.0 s k.1

  row_low : (row : ℕ) → IsIn row pools.rows.free → row < ROWS
  row_low row at = let k = in_left pools.rows.free pools.rows.left row at in were.rows.small k.0 row k.1

  not_bucket : (s : ℕ) → s < MASK_SLOTS → (k : ℕ) → k < mask.size → mask_root s ≢ bucket_root mask k
  not_bucket s small k less same = omega (arith, small, same)

  within : (k : ℕ) → k < mask.size → k / 16 < length mask.rows
  within k less = let count = can.storable.rows in omega (arith, less, count)

  row_away : (row place : ℕ) → IsIn row pools.rows.free → place < 16 → (k : ℕ) → k < mask.size → places.bucket_root row place ≢ bucket_root mask k
  row_away row place at less k inside same =
      let own : ℕ = get_or mask.rows (k / 16) 0 in let is : row ≡ own = omega (arith, same, less) in
      let in_ : IsIn own rows = subst (IsIn own) rows_are (row_in mask k (within k inside)) in
      (room.rows_taken.each own in_).apart (inl (subst (λ (n : ℕ). IsIn n pools.rows.free) is at))

  row_not_slot : (row place : ℕ) → places.bucket_root row place ≢ mask_root slot
  row_not_slot row place same = let small = can.small in omega (arith, same, small)

  -- ---- afterwards
  module _ (new : Ledger) (masks : Masks) (blk : ℕ) (ps : List Placed) (lists_same : new.lists ≡ parts.ledger.lists) (point_same : new.point ≡ parts.ledger.point) (seen : commits new ≡ h ++ raise_commits slot mask blk ps (parts.ledger.point + 1))
      (journal : edits_of (commits new) ≡ edits_of h) (sheet : IsSameButCells (sheet_of parts.ledger.writer.place) (sheet_of new.writer.place)) (shaped : shape_of new.writer.place ≡ shape_of parts.ledger.writer.place)
      (lawful : KeepsHook (commits new) (base new)) (ready : IsReady (commits new) (base new) y) (rest : IsAtRest hook_meaning hook_codec (commits new))
      (holds : HoldsBuilt masks hook_shape (cells new) (commits new) (base new) y (built ++ record { serial = mask.serial; slot = slot } ∷ []))
      (set_is : masks_of masks ≡ set (masks_of parts.masks) slot (Some (record { block = blk; mask = mask })))
      (spare : (root : ℕ) → IsSpareRoot h b root → root ≢ mask_root slot → ((bucket : ℕ) → bucket < mask.size → root ≢ bucket_root mask bucket) → IsSpareRoot (commits new) (base new) root)
      (tables : (hook : Hook) (kept : HookTables) → HasTables hook kept h → HasTables hook kept (commits new)) (are : ArePools pools (commits new) (base new)) (actions : AreActionsHanded pools (commits new) (base new) y)
      (back : (m s : ℕ) → IsMaskAt hook_codec (commits new) m s → IsMaskAt hook_codec h m s)
      (other_roots : (root : ℕ) → root ≢ mask_root slot → ((k : ℕ) → k < mask.size → root ≢ bucket_root mask k) → root_of (commits new) root ≡ root_of h root)
      (blocks_size : pools.blocks.size ≡ parts.pools.blocks.size) (rows_size : pools.rows.size ≡ parts.pools.rows.size) (slots_size : pools.masks.size ≡ parts.pools.masks.size) (writer_is : new ≡ record parts.ledger { writer = new.writer }) where
    abbrev k : List (Commit Edit)
    k = commits new

    abbrev laid : Parts
    laid = record parts { ledger = new; pools = pools; masks = masks }

    goes : GoesOnAside h k
    goes = record { more = raise_commits slot mask blk ps (parts.ledger.point + 1); seen = seen; aside = no_slots (parts.ledger.point + 1) (raise_commits slot mask blk ps (parts.ledger.point + 1)) (raise_aside slot mask blk ps (parts.ledger.point + 1) can.small) }

    same_now : now k ≡ now h
    same_now = same_state h k journal

    same_next : next k y ≡ next h y
    same_next = ap (λ (s : State). hook_meaning.step s y) same_now

    recent : (root : ℕ) → (root_of k root).stamp ≤ new.point + 1
    recent root = let low = subst (λ (z : List (Commit Edit)). (root_of z root).stamp ≤ parts.ledger.point + 1) (sym seen)
        (aside_early h (raise_commits slot mask blk ps (parts.ledger.point + 1)) (parts.ledger.point + 1) root (r.recent root) (raise_aside slot mask blk ps (parts.ledger.point + 1) can.small)) in omega (arith, low, point_same)

    point_now : new.point ≡ point_of k
    point_now = point_same ∙ (r.point_is ∙ sym (ap length journal))

    early : AreEarly laid
    early = record {
      slots = λ s at. let was = subst (IsIn s) (sym free_slots) (in_left pools.masks.free (slot ∷ []) s at) in
          let low = (spare (mask_root s) (slot_spare start parts y built r s was (subst (IsUnused hook_meaning hook_codec b h) (omega arith) (were.masks.may_be_given at.0 s at.1 0 (omega arith)))) (free_slot_apart s at) (not_bucket s (slot_low s at))).early in omega (arith, low, point_now);
      rows = λ row place at less. let was = subst (IsIn row) (sym free_rows) (in_left pools.rows.free rows row at) in
          let low = (spare (places.bucket_root row place) (row_spare start parts y built r row place was less (were.rows.may_be_given at.0 row at.1 place less)) (row_not_slot row place) (row_away row place at less)).early in omega (arith, low, point_now);
    }

    -- the masks that were held
    other_held : (s : ℕ) → s ≢ slot → get_or (masks_of masks) s None ≡ get_or (masks_of parts.masks) s None
    other_held s ne = ap (λ (ks : List (Option KeptMask)). get_or ks s None) set_is ∙ get_or-set_other (masks_of parts.masks) slot s _ None ne

    own_held : get_or (masks_of masks) slot None ≡ Some (record { block = blk; mask = mask })
    own_held = ap (λ (ks : List (Option KeptMask)). get_or ks slot None) set_is ∙ get_or-set_same (masks_of parts.masks) slot _ None
        (let count = slots_count parts.masks hook_shape (cells parts.ledger) (root_of h) r.holds.named in let less = can.small in omega (arith, count, less))

    handed : AreBuiltHanded pools masks (built ++ record { serial = mask.serial; slot = slot } ∷ [])
    handed = record {
      slots = λ m s x at. slots m s (built_sort built (record { serial = mask.serial; slot = slot }) m s x) at;
      rows = λ m s row kept x stands own at. rows_of m s row kept (built_sort built (record { serial = mask.serial; slot = slot }) m s x) stands own at;
    }
      where
        slots : (m s : ℕ) → IsBuilt built m s ⊎ ((mask.serial ≡ m) × (slot ≡ s)) → IsInPool s pools.masks → ⊥
        slots m s (inl x) at = r.handed.slots m s x (slot_in s at)
        slots m s (inr is) at = room.slot_taken.apart (subst (λ (n : ℕ). IsInPool n pools.masks) (sym is.1) at)

        rows_of : (m s row : ℕ) (kept : KeptMask) → IsBuilt built m s ⊎ ((mask.serial ≡ m) × (slot ≡ s)) → StandsAt masks s kept → IsIn row kept.mask.rows → IsInPool row pools.rows → ⊥
        rows_of m s row kept (inl x) stands own at = r.handed.rows m s row kept x (sym (other_held s (built_apart m s blk x)) ∙ stands) own (row_in_pool row at)
        rows_of m s row kept (inr is) stands own at =
            let both : Some (record { block = blk; mask = mask }) ≡ Some kept = sym own_held ∙ (ap (λ (n : ℕ). get_or (masks_of masks) n None) is.1 ∙ stands) in
            let in_ : IsIn row rows = subst (IsIn row) rows_are (subst (λ (q : KeptMask). IsIn row q.mask.rows) (sym (same_Some _ kept both)) own) in (room.rows_taken.each row in_).apart at

    their_blocks : HaveTheirBlocks masks k
    their_blocks m s kept at stands =
        let was = back m s at in let held = r.holds.has m s was in
        let ne : s ≢ slot = λ same. let bad : Some held.kept ≡ None = sym held.stands ∙ (ap (λ (n : ℕ). get_or (masks_of parts.masks) n None) same ∙ slot_empty h b y slot mask blocks blk r.lawful r.ready can parts.masks hook_shape (cells parts.ledger) built r.holds) in cc bad in
        let stood : StandsAt parts.masks s kept = sym (other_held s ne) ∙ stands in
        let small = r.holds.named.masks s kept stood in
        let count = (mask_storable parts.masks hook_shape (cells parts.ledger) (root_of h) r.holds.named s kept stood).rows in
        let free = rows_free h b y slot mask blocks blk r.lawful r.ready can parts.masks hook_shape (cells parts.ledger) built r.holds in
        ap length (blocks_same (root_of k) (root_of h) kept.mask kept.mask.size 0 (λ j less. other_roots (bucket_root kept.mask j) (λ same. let low = can.small in absurd (omega (arith, same, low)))
        (λ i inside same. let own : ℕ = get_or mask.rows (i / 16) 0 in let its : ℕ = get_or kept.mask.rows (j / 16) 0 in let is : its ≡ own = omega (arith, same) in
        free.free s own kept stood (subst (λ (n : ℕ). IsIn n kept.mask.rows) is (row_in kept.mask j (omega (arith, less, count)))) (row_in mask i (within i inside)))))
        ∙ (r.blocks m s kept was stood ∙ ap (λ (t : State). count_of t m) (sym same_now))

    stays : laid ≡ record start {
      ledger = record start.ledger { writer = new.writer };
      pools = record start.pools { blocks = pools.blocks; rows = pools.rows; masks = pools.masks };
      masks = masks;
    }
    stays = (λ t. record parts { ledger = writer_is t; pools = others t; masks = masks })
        ∙ ap (λ (p : Parts). record p { ledger = record p.ledger { writer = new.writer }; pools = record p.pools { blocks = pools.blocks; rows = pools.rows; masks = pools.masks }; masks = masks }) r.stays

    pub raising : IsRaising start laid y (built ++ record { serial = mask.serial; slot = slot } ∷ [])
    raising = record {
      aside = aside_then (commits start.ledger) h k r.aside goes;
      journal = journal ∙ r.journal;
      sheet = same_cells (sheet_of start.ledger.writer.place) (sheet_of parts.ledger.writer.place) (sheet_of new.writer.place) r.sheet sheet;
      shaped = shaped ∙ r.shaped;
      lawful = lawful;
      point_is = point_now;
      ready = ready;
      rest = rest;
      spells = subst (Spells new.lists) (sym same_next) (subst (λ l. Spells l (next h y)) (sym lists_same) r.spells);
      recent = recent;
      early = early;
      pools = are;
      sized = (blocks_size ∙ r.sized.0, rows_size ∙ r.sized.1, slots_size ∙ r.sized.2, ap (λ (q : Pools). q.actions.size) others ∙ r.sized.3);
      holds = holds;
      handed = handed;
      actions = actions;
      here = subst (AreHereFor parts.actions k) (sym same_next) (here_stays parts.actions h k (next h y) goes r.here);
      blocks = their_blocks;
      tables = λ hook kept has. tables hook kept (r.tables hook kept has);
      stays = stays;
    }
