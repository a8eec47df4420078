-- An addition that is made ready, and its filter.
use Rattle.std.specs.Prelude.{◌≡◌, ℕ, List, Ok}
use Rattle.std.specs.Option.{unwrap_or}
use Rattle.filter_state.specs.declared.edit.FilterLine.{FilterLine}
use Rattle.filter_state.specs.Steps.{filter_add}
use Rattle.filter_tables.specs.Rows.{tables_on}
use Rattle.hook_lists.specs.declared.kept.Kept.{Kept}
use Rattle.hook_lists.specs.States.{both_of, state_of}
use Rattle.filter_lists.specs.declared.adding.addition.Addition.{Addition}
use Rattle.filter_lists.specs.declared.adding.arrival.Arrival.{Arrival}
use Rattle.filter_lists.specs.declared.adding.arrival.Seat.{Seat}
use Rattle.filter_lists.specs.OfAdding.Seats.{IsTableSerial, IsMaskSerial, IsFreeHandle}
use Rattle.filter_lists.specs.OfAdding.Additions.{IsReady, state_after, answer_of}

-- the filter of a line, with the numbers of its seat
pub record IsArrival (kept : Kept) (line : FilterLine) (pref : ℕ) (serials : List ℕ) (seat : Seat)
    (a : Arrival) : Type 0 where
  pub free : ℕ
  pub on : a.hook ≡ line.hook
  pub chain : a.chain ≡ line.chain
  pub its_pref : a.pref ≡ pref
  pub protocol : a.protocol ≡ line.protocol
  pub mask : a.mask.words ≡ line.mask.words
  pub key : a.filter.key.words ≡ line.key.words
  pub actions : a.filter.actions ≡ serials
  pub table_serial : IsTableSerial (tables_on line.hook (both_of kept)) kept.tables_made seat a.table_serial
  pub mask_serial : IsMaskSerial (tables_on line.hook (both_of kept)) kept.masks_made seat a.mask_serial
  pub free_handle : IsFreeHandle (tables_on line.hook (both_of kept)) seat free
  pub handle : a.filter.handle ≡ unwrap_or line.handle free

-- the addition can be done, and leads where the step does
pub record IsAdded (kept : Kept) (line : FilterLine) (addition : Addition) : Type 0 where
  pub ready : IsReady kept addition
  pub accepted : filter_add (state_of kept) line
      ≡ Ok (state_after (state_of kept) addition, answer_of addition)
