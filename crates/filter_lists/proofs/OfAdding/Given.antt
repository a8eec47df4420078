-- The numbers of a filter that is to come are those that the step gives it.
use Rattle.std.proofs.Common.{◌≡◌, ℕ, ◌+◌, false, List, Option, Some, None, is_some, refl, sym, ◌∙◌, ap}
use Rattle.std.specs.Option.{unwrap_or}
use Rattle.std.proofs.lemmas.Bool.{false≢true}
use Rattle.filter_state.specs.declared.edit.FilterLine.{FilterLine}
use Rattle.filter_state.specs.States.{Row}
use Rattle.filter_state.specs.Tables.{table_row, mask_row, table_or_next, mask_or_next, free_handle}
use Rattle.filter_state.specs.Steps.{handle_for, row_of}
use Rattle.filter_tables.specs.Rows.{all_rows}
use Rattle.row_laws.proofs.OfLookups.Tables.{serial_found, row_missing}
use Rattle.row_laws.proofs.OfLookups.Masks.{mask_found, mask_some, mask_missing}
use Rattle.row_laws.proofs.OfLookups.FreeHandle.{free_found, free_first}
use Rattle.hook_lists.specs.declared.kept.Kept.{Kept}
use Rattle.hook_lists.specs.States.{both_of, room_on, state_of}
use Rattle.filter_lists.specs.declared.adding.arrival.Arrival.{Arrival}
use Rattle.filter_lists.specs.declared.adding.arrival.Seat.{Seat}
use Rattle.filter_lists.specs.declared.adding.arrival.Seat.TheVariants as seats
use Rattle.filter_lists.specs.declared.adding.looking.Found.{Found}
use Rattle.filter_lists.specs.OfAdding.Arrivals.{row_of_arrival}
use Rattle.filter_lists.specs.OfAdding.Seats.{SeatTold}
use Rattle.filter_lists.specs.OfAdding.Ready.{IsArrival}
use Rattle.filter_lists.proofs.OfAdding.Asking.{by_names, missing}
use Rattle.filter_lists.proofs.OfAdding.Planned.{AreToPlan, is_at, is_nowhere}

-- the numbers that the step gives
pub record AreGiven (kept : Kept) (line : FilterLine) (pref : ℕ) (a : Arrival) : Type 0 where
  pub table : table_or_next (table_row line.hook line.chain pref (all_rows (both_of kept))) kept.tables_made ≡ a.table_serial
  pub mask : mask_or_next (mask_row line.hook line.chain pref line.mask.words (all_rows (both_of kept))) kept.masks_made ≡ a.mask_serial
  pub handle : handle_for (state_of kept) line.hook line.chain pref line.handle ≡ a.filter.handle

no_mask : (row : Option Row) (made : ℕ) → is_some row ≡ false → mask_or_next row made ≡ made + 1
no_mask None made e = refl
no_mask (Some row) made e = absurd (false≢true (sym e))

handle_given : (kept : Kept) (line : FilterLine) (found : Found) (seat : Seat) (a : Arrival) (plan : AreToPlan kept line found seat a)
    → free_handle line.hook line.chain found.pref (all_rows (both_of kept)) ≡ plan.arrival.free → handle_for (state_of kept) line.hook line.chain found.pref line.handle ≡ a.filter.handle
handle_given kept line found seat a plan free = ap (unwrap_or line.handle) free ∙ sym plan.arrival.handle

pub numbers_are : (kept : Kept) (line : FilterLine) (found : Found) (seat : Seat) (a : Arrival) → AreToPlan kept line found seat a
    → SeatTold (room_on line.hook kept) found.place line.mask.words seat → AreGiven kept line found.pref a
numbers_are kept line found (seats.InMask place at) a plan told =
    let t = told.1.table in
    let there = is_at kept line found place t plan.looked told.0 told.1.stands in
    record {
      table =
          by_names (λ n m. table_or_next (table_row line.hook n m (all_rows (both_of kept))) kept.tables_made) a.table_serial kept line.hook line.chain found.pref place t there
          (serial_found (both_of kept) line.hook place kept.tables_made t plan.are.whole there.there ∙ plan.arrival.table_serial t there.there);
      mask =
          by_names (λ n m. mask_or_next (mask_row line.hook n m line.mask.words (all_rows (both_of kept))) kept.masks_made) a.mask_serial kept line.hook line.chain found.pref place t there
          (mask_found (both_of kept) line.hook place at kept.masks_made line.mask.words t told.1.mask plan.are.whole plan.are.sound.together there.there told.1.found told.1.within
          ∙ plan.arrival.mask_serial t there.there told.1.mask told.1.within);
      handle =
          handle_given kept line found (seats.InMask place at) a plan
          (by_names (λ n m. free_handle line.hook n m (all_rows (both_of kept))) plan.arrival.free kept line.hook line.chain found.pref place t there
          (free_found (both_of kept) line.hook place plan.arrival.free t plan.are.whole there.there (plan.arrival.free_handle t there.there)));
    }
numbers_are kept line found (seats.NewMask place filters) a plan told =
    let t = told.1.table in
    let there = is_at kept line found place t plan.looked told.0 told.1.stands in
    record {
      table =
          by_names (λ n m. table_or_next (table_row line.hook n m (all_rows (both_of kept))) kept.tables_made) a.table_serial kept line.hook line.chain found.pref place t there
          (serial_found (both_of kept) line.hook place kept.tables_made t plan.are.whole there.there ∙ plan.arrival.table_serial t there.there);
      mask =
          by_names (λ n m. mask_or_next (mask_row line.hook n m line.mask.words (all_rows (both_of kept))) kept.masks_made) a.mask_serial kept line.hook line.chain found.pref place t there
          (no_mask (mask_row line.hook t.chain t.pref line.mask.words (all_rows (both_of kept))) kept.masks_made
          (mask_some (both_of kept) line.hook place line.mask.words t plan.are.whole there.there ∙ ap (λ (o : Option ℕ). is_some o) told.1.missing)
          ∙ sym plan.arrival.mask_serial);
      handle =
          handle_given kept line found (seats.NewMask place filters) a plan
          (by_names (λ n m. free_handle line.hook n m (all_rows (both_of kept))) plan.arrival.free kept line.hook line.chain found.pref place t there
          (free_found (both_of kept) line.hook place plan.arrival.free t plan.are.whole there.there (plan.arrival.free_handle t there.there)));
    }
numbers_are kept line found (seats.NewTable masks filters) a plan told =
    let none = missing kept line.hook line.chain found.pref (is_nowhere kept line found plan.looked told.0) in
    record {
      table = ap (λ (row : Option Row). table_or_next row kept.tables_made) (row_missing (both_of kept) line.hook line.chain found.pref none) ∙ sym plan.arrival.table_serial;
      mask = ap (λ (row : Option Row). mask_or_next row kept.masks_made) (mask_missing (both_of kept) line.hook line.chain found.pref line.mask.words none) ∙ sym plan.arrival.mask_serial;
      handle = handle_given kept line found (seats.NewTable masks filters) a plan (free_first (both_of kept) line.hook line.chain found.pref none ∙ sym plan.arrival.free_handle);
    }

-- ---- the row
pub row_is : (kept : Kept) (line : FilterLine) (pref table mask handle : ℕ) (serials : List ℕ) (seat : Seat) (a : Arrival) → IsArrival kept line pref serials seat a
    → table ≡ a.table_serial → mask ≡ a.mask_serial → handle ≡ a.filter.handle → row_of line pref table mask handle serials ≡ row_of_arrival a
row_is kept line pref table mask handle serials seat a is same_table same_mask same_handle =
    rw (is.on, is.chain, is.its_pref, is.protocol, is.mask, is.key, is.actions, same_table, same_mask, same_handle) refl
