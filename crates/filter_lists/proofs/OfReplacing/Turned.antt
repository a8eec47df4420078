-- What a change of a filter makes of the rows, in any of the three ways.
use Rattle.std.proofs.Common.{◌≡◌, ℕ, ◌==◌, ◌&&◌, ◌+◌, ◌<◌, List, [], ◌∷◌, ◌++◌, length, find, Some, refl, sym, ◌∙◌, ap, subst, arith}
use Rattle.tc_base.specs.declared.hook.Hook.{Hook}
use Rattle.tc_base.specs.declared.hook.Proto.{Proto}
use Rattle.filter_state.specs.States.{Row, State}
use Rattle.filter_state.specs.Sound.{Each, IsRow}
use Rattle.filter_state.specs.Order.{SameRows}
use Rattle.filter_state.specs.Steps.{without_row}
use Rattle.state_laws.proofs.OfOrder.Same.{same_refl}
use Rattle.filter_index.specs.declared.filter.Filter.{Filter}
use Rattle.filter_index.specs.Listed as listed
use Rattle.filter_tables.specs.Plain.{PlainMask, PlainTable}
use Rattle.filter_tables.specs.Places.{item_at}
use Rattle.filter_tables.specs.Changes.{new_mask}
use Rattle.filter_tables.specs.Rows.{BothHooks, on_hook, row_of, all_rows, BothWhole}
use Rattle.filter_state.proofs.Pairs.{each_weaker}
use Rattle.row_laws.proofs.OfChanges.Whole.{actions_whole}
use Rattle.row_laws.proofs.OfChanges.MovedWhole.{moved_whole, moved_out_whole}
use Rattle.row_laws.proofs.OfChanges.FilterTaken.{actions_rows}
use Rattle.row_laws.proofs.OfChanges.Moved.{moved_rows, moved_out_rows}
use Rattle.hook_lists.specs.declared.kept.Kept.{Kept}
use Rattle.hook_lists.specs.States.{both_of, state_of, AreKept}
use Rattle.filter_lists.specs.declared.adding.arrival.Arrival.{Arrival}
use Rattle.filter_lists.specs.OfAdding.Arrivals.{row_of_arrival}
use Rattle.filter_index.specs.Listed.{FilterRoom}
use Rattle.filter_lists.specs.declared.replacing.replacement.Change.{Change}
use Rattle.filter_lists.specs.declared.replacing.replacement.Change.TheVariants as changes
use Rattle.filter_lists.specs.declared.replacing.replacement.Old.{Old}
use Rattle.filter_lists.specs.OfReplacing.Replacements.{changed, IsOld, IsArrival, IsPlace}
use Rattle.filter_lists.specs.OfReplacing.Changing.{tables_changed, masks_after}
use Rattle.filter_lists.proofs.OfReplacing.Counted.{raised_given, raised_next, changed_count, exchanged_count, row_there}

-- the tables spell the rows that the state is to have, as many as before, and so many masks were made
pub record Turns (s : State) (old : Row) (change : Change) (both : BothHooks) (masks : ℕ) : Type 0 where
  pub hooked : s.hooked ≡ (changed s old change).hooked
  pub rows : SameRows (all_rows both) (changed s old change).rows
  pub tables_made : s.tables_made ≡ (changed s old change).tables_made
  pub masks_made : masks ≡ (changed s old change).masks_made
  pub count : length (changed s old change).rows ≡ length s.rows
  pub whole : BothWhole both

abbrev pub TurnsTo : Kept → Old → PlainTable → PlainMask → Filter → Change → Type 0
TurnsTo kept old table mask filter change =
    Turns (state_of kept) (row_of old.hook table mask filter) change (on_hook old.hook (tables_changed old change) (both_of kept)) (masks_after change kept.masks_made)

-- ---- the row of the filter that comes
abbrev row_from : Hook → ℕ → ℕ → Proto → ℕ → ℕ → List ℕ → Filter → Row
row_from hook chain pref protocol table mask_serial mask filter = record {
  hook = hook;
  chain = chain;
  pref = pref;
  protocol = protocol;
  table = table;
  mask_serial = mask_serial;
  mask = mask;
  handle = filter.handle;
  key = filter.key.words;
  actions = filter.actions;
}

arrival_row : (old : Old) (table : PlainTable) (mask : PlainMask) (a : Arrival) → IsArrival old table a → mask.serial ≡ a.mask_serial → mask.mask ≡ a.mask.words →
    row_of old.hook table mask a.filter ≡ row_of_arrival a
arrival_row old table mask a is serial words =
    ap (λ hook. row_from hook table.chain table.pref table.protocol table.serial mask.serial mask.mask a.filter) (sym is.hook)
    ∙ ap (λ chain. row_from a.hook chain table.pref table.protocol table.serial mask.serial mask.mask a.filter) (sym is.chain)
    ∙ ap (λ pref. row_from a.hook a.chain pref table.protocol table.serial mask.serial mask.mask a.filter) (sym is.pref)
    ∙ ap (λ protocol. row_from a.hook a.chain a.pref protocol table.serial mask.serial mask.mask a.filter) (sym is.protocol)
    ∙ ap (λ n. row_from a.hook a.chain a.pref a.protocol n mask.serial mask.mask a.filter) (sym is.serial)
    ∙ ap (λ n. row_from a.hook a.chain a.pref a.protocol a.table_serial n mask.mask a.filter) serial
    ∙ ap (λ ns. row_from a.hook a.chain a.pref a.protocol a.table_serial a.mask_serial ns a.filter) words

its_old : (kept : Kept) (old : Old) (table : PlainTable) (mask : PlainMask) (filter : Filter) (a : Arrival) → IsOld kept old table mask filter → IsArrival old table a →
    find (listed.has_handle a.filter.handle) mask.filters ≡ Some filter
its_old kept old table mask filter a is arrival = subst (λ handle. find (listed.has_handle handle) mask.filters ≡ Some filter) (sym arrival.handle) is.filter_stands

-- ---- it stays
stays : (kept : Kept) (old : Old) (table : PlainTable) (mask : PlainMask) (filter : Filter) (actions : List ℕ) → AreKept kept → IsOld kept old table mask filter →
    TurnsTo kept old table mask filter (changes.Stays actions)
stays kept old table mask filter actions are is =
    let both : BothHooks = on_hook old.hook (tables_changed old (changes.Stays actions)) (both_of kept) in
    let row : Row = row_of old.hook table mask filter in
    record {
      hooked = refl;
      rows = subst (SameRows (all_rows both))
          (actions_rows (both_of kept) old.hook old.table old.mask old.handle actions table mask filter are.whole are.sound.together is.table_stands is.mask_stands is.filter_stands)
          (same_refl (all_rows both));
      tables_made = refl;
      masks_made = refl;
      count = changed_count (λ (r : Row). r.table == row.table && r.handle == row.handle) (λ (r : Row). record r { actions = actions }) (all_rows (both_of kept));
      whole = actions_whole (both_of kept) old.hook old.table old.mask old.handle actions are.whole;
    }

-- ---- it moves to a mask that is there
moves : (kept : Kept) (old : Old) (table : PlainTable) (mask other : PlainMask) (filter : Filter) (to : ℕ) (a : Arrival) → AreKept kept → IsOld kept old table mask filter →
    IsArrival old table a → item_at table.masks to ≡ Some other → other.serial ≡ a.mask_serial → other.mask ≡ a.mask.words → TurnsTo kept old table mask filter (changes.Moves to a)
moves kept old table mask other filter to a are is arrival there serial words =
    let both : BothHooks = on_hook old.hook (tables_changed old (changes.Moves to a)) (both_of kept) in
    let row : Row = row_of old.hook table mask filter in
    let found = its_old kept old table mask filter a is arrival in
    let one = (row_there (IsRow (state_of kept)) (both_of kept) old.hook old.table to table other are.whole is.table_stands there are.sound.rows).1 in
    record {
      hooked = refl;
      rows = subst (λ r. SameRows (all_rows both) (without_row row (all_rows (both_of kept)) ++ (r ∷ []))) (arrival_row old table other a arrival serial words)
          (moved_rows (both_of kept) old.hook old.table old.mask to table mask other filter a.filter are.whole are.sound.together is.table_stands is.mask_stands found there);
      tables_made = sym (raised_given kept.tables_made a.table_serial (omega (arith, one.table.1, arrival.serial)));
      masks_made = sym (raised_given kept.masks_made a.mask_serial (omega (arith, one.mask.1, serial)));
      count = exchanged_count (both_of kept) old.hook old.table old.mask old.handle table mask filter (row_of_arrival a) are.whole are.sound.together is.table_stands is.mask_stands is.filter_stands;
      whole = moved_whole (both_of kept) old.hook old.table old.mask to table other a.filter are.whole is.table_stands there;
    }

-- ---- it moves to a new mask
moves_out : (kept : Kept) (old : Old) (table : PlainTable) (mask : PlainMask) (filter : Filter) (room : FilterRoom) (a : Arrival) → AreKept kept → IsOld kept old table mask filter →
    IsArrival old table a → a.mask_serial ≡ kept.masks_made + 1 → TurnsTo kept old table mask filter (changes.MovesOut room a)
moves_out kept old table mask filter room a are is arrival next =
    let both : BothHooks = on_hook old.hook (tables_changed old (changes.MovesOut room a)) (both_of kept) in
    let row : Row = row_of old.hook table mask filter in
    let found = its_old kept old table mask filter a is arrival in
    let new : PlainMask = new_mask a.mask_serial a.mask.words a.filter in
    let one = (row_there (IsRow (state_of kept)) (both_of kept) old.hook old.table old.mask table mask are.whole is.table_stands is.mask_stands are.sound.rows).1 in
    let below : Each (λ (r : Row). r.mask_serial < a.mask_serial) (all_rows (both_of kept)) =
    each_weaker (IsRow (state_of kept)) (λ (r : Row). r.mask_serial < a.mask_serial) (λ r its. omega (arith, its.mask.1, next)) (all_rows (both_of kept)) are.sound.rows in
    record {
      hooked = refl;
      rows = subst (λ r. SameRows (all_rows both) (without_row row (all_rows (both_of kept)) ++ (r ∷ []))) (arrival_row old table new a arrival refl refl)
          (moved_out_rows (both_of kept) old.hook old.table old.mask a.mask_serial a.mask.words table mask filter a.filter are.whole are.sound.together below is.table_stands is.mask_stands found);
      tables_made = sym (raised_given kept.tables_made a.table_serial (omega (arith, one.table.1, arrival.serial)));
      masks_made = sym (raised_next kept.masks_made a.mask_serial next);
      count = exchanged_count (both_of kept) old.hook old.table old.mask old.handle table mask filter (row_of_arrival a) are.whole are.sound.together is.table_stands is.mask_stands is.filter_stands;
      whole = moved_out_whole (both_of kept) old.hook old.table old.mask a.mask_serial a.mask.words a.filter are.whole below;
    }

pub turns : (kept : Kept) (old : Old) (table : PlainTable) (mask : PlainMask) (filter : Filter) (change : Change) → AreKept kept → IsOld kept old table mask filter →
    IsPlace kept old table change → TurnsTo kept old table mask filter change
turns kept old table mask filter (changes.Stays actions) are is place = stays kept old table mask filter actions are is
turns kept old table mask filter (changes.Moves to a) are is (other, arrival, there, serial, words, key, room) = moves kept old table mask other filter to a are is arrival there serial words
turns kept old table mask filter (changes.MovesOut room a) are is (arrival, next, empty, spare) = moves_out kept old table mask filter room a are is arrival next
