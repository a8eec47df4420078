-- The row of a filter that is to come, and when its seat is ready.
use Rattle.std.specs.Prelude.{◌≡◌, ℕ, ◌+◌, ◌<◌, false, [], Some}
use Rattle.std.specs.List.{list_any}
use Rattle.filter_state.specs.States.{Row}
use Rattle.filter_index.specs.Listed.{FilterRoom}
use Rattle.filter_tables.specs.Plain.{PlainMask, PlainTable}
use Rattle.filter_tables.specs.Places.{item_at}
use Rattle.filter_tables.specs.Changes.{any_handle, has_key_in, is_table}
use Rattle.filter_tables.specs.Room.{masks_spare, filters_spare}
use Rattle.filter_tables.specs.Rows.{tables_on}
use Rattle.hook_lists.specs.declared.kept.Kept.{Kept}
use Rattle.hook_lists.specs.States.{both_of, room_on}
use Rattle.filter_lists.specs.declared.adding.arrival.Arrival.{Arrival}
use Rattle.filter_lists.specs.declared.adding.arrival.Seat.{Seat}
use Rattle.filter_lists.specs.declared.adding.arrival.Seat.TheVariants as seats

abbrev pub row_of_arrival : Arrival → Row
row_of_arrival a = record {
  hook = a.hook;
  chain = a.chain;
  pref = a.pref;
  protocol = a.protocol;
  table = a.table_serial;
  mask_serial = a.mask_serial;
  mask = a.mask.words;
  handle = a.filter.handle;
  key = a.filter.key.words;
  actions = a.filter.actions;
}

-- the table stands at the place, and is the one that the filter is to stand in; no filter of it has the
-- handle
pub record IsTable (kept : Kept) (a : Arrival) (place : ℕ) (table : PlainTable) : Type 0 where
  pub stands : item_at (tables_on a.hook (both_of kept)) place ≡ Some table
  pub chain : table.chain ≡ a.chain
  pub pref : table.pref ≡ a.pref
  pub protocol : table.protocol ≡ a.protocol
  pub serial : table.serial ≡ a.table_serial
  pub handle : any_handle a.filter.handle table.masks ≡ false

-- the mask stands at the place of the table, and is the filter's; no filter of it has the key
pub record IsMask (a : Arrival) (place : ℕ) (table : PlainTable) (mask : PlainMask) : Type 0 where
  pub stands : item_at table.masks place ≡ Some mask
  pub serial : mask.serial ≡ a.mask_serial
  pub words : mask.mask ≡ a.mask.words
  pub key : has_key_in a.filter.key.words mask ≡ false

-- the room that a filter goes into with its new mask
pub record IsEmptyRoom (room : FilterRoom) : Type 0 where
  pub empty : room.filters ≡ []
  pub spare : 0 < room.spare

-- the seat is there, there is room, and a new serial is the next
abbrev pub IsSeat : Kept → Arrival → Seat → Type 0
IsSeat kept a (seats.InMask place at) =
    (table : PlainTable) × (mask : PlainMask) × IsTable kept a place table × IsMask a at table mask
    × (0 < filters_spare (room_on a.hook kept).spares place at)
IsSeat kept a (seats.NewMask place filters) =
    (table : PlainTable) × IsTable kept a place table × (a.mask_serial ≡ kept.masks_made + 1)
    × IsEmptyRoom filters × (0 < masks_spare (room_on a.hook kept).spares place)
IsSeat kept a (seats.NewTable masks filters) =
    (list_any (is_table a.chain a.pref) (tables_on a.hook (both_of kept)) ≡ false)
    × (a.table_serial ≡ kept.tables_made + 1) × (a.mask_serial ≡ kept.masks_made + 1)
    × IsEmptyRoom filters × (masks.masks ≡ []) × (0 < masks.spare) × (0 < (room_on a.hook kept).spare)
