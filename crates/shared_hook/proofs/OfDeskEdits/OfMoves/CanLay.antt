-- What was taken for a mask may be used for it.
use Rattle.std.proofs.Common.{◌≡◌, ◌∙◌, ℕ, ◌+◌, ◌*◌, ◌/◌, ◌%◌, ◌<◌, ◌≤◌, ◌^◌, List, [], ◌∷◌, ◌++◌, length, eqb, get_or, refl, sym, ap, subst, arith}
use Rattle.std.specs.Prelude.{All, IsTrue}
use Rattle.std.specs.List.{IsDistinct}
use Rattle.std.proofs.lemmas.List.{length-map}
use Rattle.std.proofs.lemmas.Option.{slice_get-get_or}
use Rattle.visit_room.specs.declared.names.MaskName.{MaskName}
use Rattle.store_history.specs.declared.history.Commit.{Commit}
use Rattle.store_history.specs.declared.places.TheConstants.{ROWS, ROW_BUCKETS, BUCKET_ROOTS}
use Rattle.flow_mask.specs.Sizes.{is_size, size_of}
use Rattle.filter_state.specs.declared.edit.Edit.{Edit}
use Rattle.block_codec.specs.declared.filter.StoredFilter.{StoredFilter}
use Rattle.block_codec.specs.declared.mask.StoredMask.{StoredMask}
use Rattle.block_codec.proofs.Masking.{sized}
use Rattle.mask_table.specs.OfMirrors.Given.{AreGiven}
use Rattle.mask_order.specs.Fitting.{FitsBlock}
use Rattle.mask_table.specs.Buckets.{mask_root, bucket_root}
use Rattle.hook_store_law.specs.OfEffects.Parts.{words_of}
use Rattle.hook_law.specs.Places as places
use Rattle.hook_law.specs.Standing.{IsIn, IsUnused}
use Rattle.hook_store_law.specs.Stated.{hook_meaning, filters_at}
use Rattle.hook_store_law.specs.Blocks.{hook_codec}
use Rattle.hook_store_law.specs.Told.{with_slots}
use Rattle.hook_store_law.specs.OfEdits.Premises.{next}
use Rattle.root_pool_laws.proofs.Apart.{in_right}
use Rattle.desk_heads.specs.OfHeadCommits.Raised.{stored_next, IsSpareRoot, CanRaise}
use Rattle.desk_pools.specs.declared.pools.Pools.{Pools}
use Rattle.desk_actions.specs.OfLedgers.Kept.{commits, base}
use Rattle.desk_parts.specs.declared.parts.Parts.{Parts}
use Rattle.shared_hook.specs.OfDeskEdits.Taken.{IsMaskRoom}
use Rattle.shared_hook.specs.OfDeskEdits.OfMoves.Raises.{IsRaising}

module _ (start parts : Parts) (y : Edit) (built : List MaskName) (r : IsRaising start parts y built) where
  abbrev h : List (Commit Edit)
  h = commits parts.ledger

  abbrev b : ℕ
  b = base parts.ledger

  -- roots of free slots and rows are spare
  pub slot_spare : (slot : ℕ) → IsIn slot parts.pools.masks.free → IsUnused hook_meaning hook_codec b h (mask_root slot) → IsSpareRoot h b (mask_root slot)
  slot_spare slot at unused = record { unused = unused; early = let less = r.early.slots slot at in let is = r.point_is in omega (arith, less, is) }

  pub row_spare : (row place : ℕ) → IsIn row parts.pools.rows.free → place < 16 → IsUnused hook_meaning hook_codec b h (places.bucket_root row place) → IsSpareRoot h b (places.bucket_root row place)
  row_spare row place at less unused = record { unused = unused; early = let low = r.early.rows row place at less in let is = r.point_is in omega (arith, low, is) }

  module _ (pools : Pools) (slot : ℕ) (blocks rows : List ℕ) (room : IsMaskRoom pools h b slot blocks rows) (free_slots : parts.pools.masks.free ≡ pools.masks.free ++ slot ∷ []) (free_rows : parts.pools.rows.free ≡ pools.rows.free ++ rows) where
    slot_was : IsIn slot parts.pools.masks.free
    slot_was = subst (IsIn slot) (sym free_slots) (in_right pools.masks.free (slot ∷ []) slot (0, refl))

    row_was : (row : ℕ) → IsIn row rows → IsIn row parts.pools.rows.free
    row_was row at = subst (IsIn row) (sym free_rows) (in_right pools.rows.free rows row at)

    at_slot : IsSpareRoot h b (mask_root slot)
    at_slot = slot_spare slot slot_was (subst (IsUnused hook_meaning hook_codec b h) (omega arith) (room.slot_taken.free 0 (omega arith)))

    at_row : (mask : StoredMask) → mask.rows ≡ rows → (bucket : ℕ) → bucket / 16 < length rows → IsSpareRoot h b (bucket_root mask bucket)
    at_row mask same bucket less = let row = get_or rows (bucket / 16) 0 in
        let in_ : IsIn row rows = (bucket / 16, slice_get-get_or rows (bucket / 16) 0 less) in
        let is : BUCKET_ROOTS + ROW_BUCKETS * row + bucket % 16 ≡ bucket_root mask bucket = ap (λ (rs : List ℕ). BUCKET_ROOTS + ROW_BUCKETS * get_or rs (bucket / 16) 0 + bucket % 16) (sym same) in
        subst (IsSpareRoot h b) is (row_spare row (bucket % 16) (row_was row in_) (omega arith) ((room.rows_taken.each row in_).free (bucket % 16) (omega arith)))

    pub are_given : AreGiven b h blocks
    are_given = record {
      different = room.blocks_taken.different;
      pool = λ place x e. (room.blocks_taken.each x (place, e)).small;
      free = λ place x e. (room.blocks_taken.each x (place, e)).free;
    }

    pub can_raise : (mask : StoredMask) → mask.rows ≡ rows → IsTrue (is_size mask.size) → mask.size ≡ 16 * length rows → mask.serial < 2 ^ 32 → length mask.mask.words ≡ 14
        → mask.mask.words ≡ words_of (next h y) mask.serial → mask.size ≡ size_of (length (filters_at (next h y) mask.serial)) → All FitsBlock (stored_next h y mask.serial)
        → length (stored_next h y mask.serial) ≤ length blocks → CanRaise h b y slot mask blocks
    can_raise mask same proper many serial key words size fit enough = record {
      small = room.slot_taken.small;
      storable = record {
        size = proper;
        rows = many ∙ ap (λ (rs : List ℕ). 16 * length rs) (sym same);
        each_row = subst (All (λ (row : ℕ). row < ROWS)) (sym same) (λ i d less. (room.rows_taken.each (get_or rows i d) (i, slice_get-get_or rows i d less)).small);
      };
      serial = serial;
      key = key;
      words = words;
      size = size;
      distinct = subst (IsDistinct eqb) (sym same) room.rows_taken.different;
      at_slot = at_slot;
      at_rows = λ bucket less. at_row mask same bucket (omega (arith, less, many));
      fit = record { filters = fit; enough = enough; low = λ place x e. let small = (room.blocks_taken.each x (place, e)).small in omega (arith, small) };
    }

    pub can_lay : (mask : StoredMask) → mask.rows ≡ rows → (size count serial : ℕ) → IsTrue (is_size size) → size ≡ size_of count → length rows ≡ size / 16 → length blocks ≡ count + 1 → (fs : List StoredFilter) → count ≡ length fs
        → stored_next h y serial ≡ fs → All FitsBlock fs → mask.serial ≡ serial → serial < 2 ^ 32 → mask.size ≡ size → length mask.mask.words ≡ 14 → mask.mask.words ≡ words_of (next h y) serial
        → CanRaise h b y slot mask blocks
    can_lay mask rows_are size count serial power size_is many_rows many_blocks fs count_is stored fit serial_is small mask_size key words =
        let sixteen = (sized size power).0 in
        let own : stored_next h y mask.serial ≡ fs = ap (stored_next h y) serial_is ∙ stored in
        let filters : length fs ≡ length (filters_at (next h y) mask.serial) = sym (ap length own) ∙ length-map (filters_at (next h y) mask.serial) (with_slots h) in
        can_raise mask rows_are (subst (λ (n : ℕ). IsTrue (is_size n)) (sym mask_size) power) (omega (arith, mask_size, sixteen, many_rows)) (omega (arith, serial_is, small)) key
        (words ∙ ap (words_of (next h y)) (sym serial_is)) (mask_size ∙ (size_is ∙ ap size_of (count_is ∙ filters))) (subst (All FitsBlock) (sym own) fit)
        (let many = ap length own in omega (arith, many, many_blocks, count_is))
