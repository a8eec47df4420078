-- A line that puts its filter into a mask of its own: what the commits of such an edit ask.
use Rattle.std.proofs.Common.{◌≡◌, ◌∙◌, ℕ, ◌+◌, ◌*◌, ◌/◌, ◌%◌, ◌<◌, ◌≤◌, ◌^◌, List, [], ◌∷◌, length, map, eqb, get_or, slice_get, Some, None, refl, sym, ap, subst, arith}
use Rattle.std.specs.Prelude.{All, IsTrue}
use Rattle.std.specs.List.{IsDistinct}
use Rattle.std.proofs.lemmas.Option.{slice_get-get_or}
use Rattle.std.proofs.lemmas.List.Elements.{All-cons, All-nil}
use Rattle.store_history.specs.declared.history.Commit.{Commit}
use Rattle.store_history.specs.History.{root_of}
use Rattle.store_history.specs.declared.places.TheConstants.{ROWS, ROW_BUCKETS, BUCKET_ROOTS}
use Rattle.flow_mask.specs.Sizes.{is_size, size_of}
use Rattle.filter_state.specs.declared.edit.Edit.{Edit}
use Rattle.filter_state.specs.declared.edit.FilterLine.{FilterLine}
use Rattle.filter_state.specs.declared.refusal.Done.{Done}
use Rattle.filter_state.specs.declared.refusal.Done.TheVariants as dones
use Rattle.filter_state.specs.Tables.{mask_row}
use Rattle.block_codec.specs.declared.filter.StoredFilter.{StoredFilter}
use Rattle.block_codec.specs.declared.mask.StoredMask.{StoredMask}
use Rattle.mask_table.specs.OfMirrors.Given.{AreGiven}
use Rattle.mask_order.specs.Fitting.{FitsBlock}
use Rattle.mask_table.specs.Buckets.{mask_root, bucket_root}
use Rattle.hook_store_law.specs.OfEffects.Parts.{words_of, Stands}
use Rattle.hook_law.specs.Records.{StatedFilter}
use Rattle.hook_law.specs.Meaning.{point_of}
use Rattle.hook_law.specs.Standing.{IsUnused}
use Rattle.hook_store_law.specs.Stated.{hook_meaning, filters_at}
use Rattle.hook_store_law.specs.Blocks.{hook_codec}
use Rattle.hook_store_law.specs.Told.{with_slots}
use Rattle.hook_store_law.specs.OfEdits.Premises.{now, next, IsAccepted, IsAddOf, filter_of_line, IsMask, LeavesOtherHook}
use Rattle.hook_store_law.proofs.OfEdits.Accepted.{next_sound}
use Rattle.hook_store_law.proofs.OfEdits.Heading.{new_mask_after}
use Rattle.desk_heads.specs.OfHeadCommits.Raised.{stored_next, IsSpareRoot, CanRaise}
use Rattle.desk_pools.specs.declared.pools.Pools.{Pools}
use Rattle.desk_actions.specs.OfLedgers.Kept.{commits, base}
use Rattle.desk_masks.proofs.Slotting.{stored_own}
use Rattle.desk_parts.specs.declared.parts.Parts.{Parts}
use Rattle.desk_parts.specs.OfLineActions.Put.{IsNoSlot}
use Rattle.shared_hook.specs.OfDeskEdits.Ahead.{IsAhead}
use Rattle.desk_masks.specs.OfFilterCommits.Edits.{IsOfLine}
use Rattle.desk_parts.specs.OfFilterNames.Named.{CanBeNamed}
use Rattle.desk_heads.specs.Opens.{OpensMask}
use Rattle.desk_heads.specs.Handed.{AreHanded}
use Rattle.shared_hook.specs.OfDeskEdits.Taken.{IsMaskRoom}
use Rattle.shared_hook.specs.OfDeskEdits.Lines.{IsLineMask}
use Rattle.shared_hook.proofs.OfDeskEdits.NewRow.{IsNewRow, new_row_stands}
use Rattle.shared_hook.proofs.OfDeskEdits.Desked.{accepted}

-- ---- roots that nothing has used
module _ (parts : Parts) (y : Edit) (done : Done) (ahead : IsAhead parts y done) where
  early : (root : ℕ) → IsNoSlot root → (root_of (commits parts.ledger) root).stamp ≤ point_of (commits parts.ledger)
  early root none = let less = ahead.early root none in let is = ahead.has.kept.point_is in omega (arith, less, is)

  pub spare_slot : (pools : Pools) (slot : ℕ) (blocks rows : List ℕ) → IsMaskRoom pools (commits parts.ledger) (base parts.ledger) slot blocks rows
      → IsSpareRoot (commits parts.ledger) (base parts.ledger) (mask_root slot)
  spare_slot pools slot blocks rows r = let small = r.slot_taken.small in record {
    unused = subst (IsUnused hook_meaning hook_codec (base parts.ledger) (commits parts.ledger)) (omega arith) (r.slot_taken.free 0 (omega arith));
    early = early (mask_root slot) (λ other less same. omega (arith, small, same));
  }

  spare_row : (pools : Pools) (slot : ℕ) (blocks rows : List ℕ) → IsMaskRoom pools (commits parts.ledger) (base parts.ledger) slot blocks rows → (mask : StoredMask) → mask.rows ≡ rows
      → (bucket : ℕ) → bucket / 16 < length rows → IsSpareRoot (commits parts.ledger) (base parts.ledger) (bucket_root mask bucket)
  spare_row pools slot blocks rows r mask same bucket less = let row = get_or rows (bucket / 16) 0 in
      let is : BUCKET_ROOTS + ROW_BUCKETS * row + bucket % 16 ≡ bucket_root mask bucket = ap (λ (rs : List ℕ). BUCKET_ROOTS + ROW_BUCKETS * get_or rs (bucket / 16) 0 + bucket % 16) (sym same) in record {
        unused = subst (IsUnused hook_meaning hook_codec (base parts.ledger) (commits parts.ledger)) is ((r.rows_taken.each row (bucket / 16, slice_get-get_or rows (bucket / 16) 0 less)).free (bucket % 16) (omega arith));
        early = early (bucket_root mask bucket) (λ other small also. omega (arith, small, also));
      }

  -- a mask as the edit leaves it, with what was taken for it
  module _ (pools : Pools) (slot : ℕ) (blocks rows : List ℕ) (r : IsMaskRoom pools (commits parts.ledger) (base parts.ledger) slot blocks rows) where
    pub are_given : AreGiven (base parts.ledger) (commits parts.ledger) blocks
    are_given = record {
      different = r.blocks_taken.different;
      pool = λ place x e. (r.blocks_taken.each x (place, e)).small;
      free = λ place x e. (r.blocks_taken.each x (place, e)).free;
    }

    pub are_handed : (mask : StoredMask) → mask.rows ≡ rows → AreHanded pools blocks mask.rows slot
    are_handed mask same = subst (λ (rs : List ℕ). AreHanded pools blocks rs slot) (sym same) (record {
      blocks_apart = λ block in_. (r.blocks_taken.each block in_).apart;
      rows_apart = λ row in_. (r.rows_taken.each row in_).apart;
      slot_apart = r.slot_taken.apart;
    })

    pub can_raise : (mask : StoredMask) → mask.rows ≡ rows → IsTrue (is_size mask.size) → mask.size ≡ 16 * length rows → mask.serial < 2 ^ 32 → length mask.mask.words ≡ 14
        → mask.mask.words ≡ words_of (next (commits parts.ledger) y) mask.serial → mask.size ≡ size_of (length (filters_at (next (commits parts.ledger) y) mask.serial))
        → All FitsBlock (stored_next (commits parts.ledger) y mask.serial) → length (stored_next (commits parts.ledger) y mask.serial) ≤ length blocks
        → CanRaise (commits parts.ledger) (base parts.ledger) y slot mask blocks
    can_raise mask same proper many serial key words size fit enough = record {
      small = r.slot_taken.small;
      storable = record {
        size = proper;
        rows = many ∙ ap (λ (rs : List ℕ). 16 * length rs) (sym same);
        each_row = subst (All (λ (row : ℕ). row < ROWS)) (sym same) (λ i d less. (r.rows_taken.each (get_or rows i d) (i, slice_get-get_or rows i d less)).small);
      };
      serial = serial;
      key = key;
      words = words;
      size = size;
      distinct = subst (IsDistinct eqb) (sym same) r.rows_taken.different;
      at_slot = spare_slot pools slot blocks rows r;
      at_rows = λ bucket less. spare_row pools slot blocks rows r mask same bucket (omega (arith, less, many));
      fit = record { filters = fit; enough = enough; low = λ place x e. let small = (r.blocks_taken.each x (place, e)).small in omega (arith, small) };
    }

-- ---- the line
module _ (parts : Parts) (y : Edit) (line : FilterLine) (pref handle : ℕ) (serials : List ℕ) (ahead : IsAhead parts y (dones.Filter pref handle serials))
    (add : IsAddOf (now (commits parts.ledger)) line y) (none : mask_row line.hook line.chain pref line.mask.words (now (commits parts.ledger)).rows ≡ None) where
  abbrev h : List (Commit Edit)
  h = commits parts.ledger

  abbrev b : ℕ
  b = base parts.ledger

  abbrev done : Done
  done = dones.Filter pref handle serials

  abbrev serial : ℕ
  serial = (now h).masks_made + 1

  abbrev f : StatedFilter
  f = filter_of_line line handle serials

  taken : IsAccepted h b y (next h y) done
  taken = accepted parts y done ahead

  row : IsNewRow (now h) line pref (next h y)
  row = new_row_stands h b y (next h y) line pref handle serials taken add none

  pub line_mask : IsLineMask parts.ledger.lists line done serial
  line_mask = record { state = next h y; pref = pref; handle = handle; serials = serials; row = row.0; spells = ahead.spells; answered = refl; there = row.1; serial_is = row.2 }

  adds : IsMask serial line.mask.words (f ∷ []) (next h y) × LeavesOtherHook line.hook (λ mask. mask ≡ serial) (now h) (next h y) × (Stands (now h) serial → ⊥)
  adds = new_mask_after h b y (next h y) line pref handle serials taken add none

  pub can_be_named : CanBeNamed h (next h y) parts.actions f
  can_be_named = record {
    sound = next_sound h b y (next h y) done taken;
    mask = serial;
    there = (0, subst (λ (fs : List StatedFilter). slice_get fs 0 ≡ Some f) (sym adds.0.filters_are) refl);
    slots = ahead.actions.slots;
  }

  -- ---- with what was taken
  module _ (pools : Pools) (slot : ℕ) (blocks rows : List ℕ) (r : IsMaskRoom pools h b slot blocks rows) (two : length blocks ≡ 2) (one : length rows ≡ 1) (mask : StoredMask) (serial_is : mask.serial ≡ serial) (small : mask.serial < 2 ^ 32)
      (key : length line.mask.words ≡ 14) (words : mask.mask.words ≡ line.mask.words) (size : mask.size ≡ 16) (rows_are : mask.rows ≡ rows) (filter : StoredFilter) (stored : IsOfLine h line handle serials filter) where
    same_filters : filters_at (next h y) mask.serial ≡ f ∷ []
    same_filters = ap (filters_at (next h y)) serial_is ∙ adds.0.filters_are

    filters : stored_next h y mask.serial ≡ filter ∷ []
    filters = ap (map (with_slots h)) same_filters ∙ ap (λ (g : StoredFilter). g ∷ []) (ap (with_slots h) (sym stored.is) ∙ stored_own h b ahead.has.kept.low ahead.has.kept.keeps.law filter stored.names)

    can : CanRaise h b y slot mask blocks
    can = can_raise parts y done ahead pools slot blocks rows r mask rows_are (subst (λ (n : ℕ). IsTrue (is_size n)) (sym size) refl) (omega (arith, size, one)) small (ap length words ∙ key)
        (words ∙ (sym adds.0.words_are ∙ ap (words_of (next h y)) (sym serial_is))) (size ∙ ap (λ (fs : List StatedFilter). size_of (length fs)) (sym same_filters))
        (subst (All FitsBlock) (sym filters) (All-cons FitsBlock filter [] stored.fit (All-nil FitsBlock))) (let count = ap length filters in omega (arith, count, two))

    pub opens : OpensMask h b y line.hook slot mask filter blocks
    opens = record {
      ready = record { state = next h y; done = done; accepted = taken; made = ahead.made };
      rest = ahead.rest;
      can = can;
      filters = filters;
      leaves = subst (λ (n : ℕ). LeavesOtherHook line.hook (λ other. other ≡ n) (now h) (next h y)) (sym serial_is) adds.1;
      new = λ stands. adds.2 (subst (Stands (now h)) serial_is stands);
    }
