-- A seat among the tables of a hook: as it is found, the numbers that go with it, and what putting a filter
-- into it makes of them.
use Rattle.std.specs.Prelude.{◌≡◌, ℕ, ◌+◌, ◌<◌, List, [], ◌∷◌, ◌++◌, Option, Some, None, length, false}
use Rattle.std.specs.List.{list_any}
use Rattle.filter_tables.specs.Plain.{PlainMask, PlainTable}
use Rattle.filter_tables.specs.Places.{item_at, place_where, change_at}
use Rattle.filter_tables.specs.Changes.{has_words, any_handle, has_key_in, is_table, IsLowestFree}
use Rattle.filter_tables.specs.Changes.{more_filter, new_mask, in_masks, with_table}
use Rattle.filter_tables.specs.Room.{TableRoom, masks_spare, filters_spare}
use Rattle.filter_lists.specs.declared.adding.arrival.Arrival.{Arrival}
use Rattle.filter_lists.specs.declared.adding.arrival.Seat.{Seat}
use Rattle.filter_lists.specs.declared.adding.arrival.Seat.TheVariants as seats
use Rattle.filter_lists.specs.OfAdding.Arrivals.{IsEmptyRoom}

-- ---- as it is found
-- the mask of those words stands there, with room
pub record HasMask (room : TableRoom) (words : List ℕ) (place at : ℕ) : Type 0 where
  pub table : PlainTable
  pub mask : PlainMask
  pub stands : item_at room.tables place ≡ Some table
  pub found : place_where (has_words words) table.masks ≡ Some at
  pub within : item_at table.masks at ≡ Some mask
  pub spare : 0 < filters_spare room.spares place at

-- the table has no such mask, and room for one
pub record LacksMask (room : TableRoom) (words : List ℕ) (place : ℕ) : Type 0 where
  pub table : PlainTable
  pub stands : item_at room.tables place ≡ Some table
  pub missing : place_where (has_words words) table.masks ≡ None
  pub spare : 0 < masks_spare room.spares place

-- the seat for a filter of those words in the table at that place, or in a new one
abbrev pub SeatTold : TableRoom → Option ℕ → List ℕ → Seat → Type 0
SeatTold room place words (seats.InMask table at) = (place ≡ Some table) × HasMask room words table at
SeatTold room place words (seats.NewMask table filters) = (place ≡ Some table) × LacksMask room words table
    × IsEmptyRoom filters
SeatTold room place words (seats.NewTable masks filters) = (place ≡ None) × IsEmptyRoom filters
    × (masks.masks ≡ []) × (0 < masks.spare) × (0 < room.spare)

-- ---- its numbers
-- what the seat names is there
abbrev pub IsThere : List PlainTable → Seat → Type 0
IsThere tables (seats.InMask table at) = (table < length tables)
    × ((t : PlainTable) → item_at tables table ≡ Some t → at < length t.masks)
IsThere tables (seats.NewMask table filters) = table < length tables
IsThere tables (seats.NewTable masks filters) = Unit {0}

-- the serial of the table, or the next
abbrev pub IsTableSerial : List PlainTable → ℕ → Seat → ℕ → Type 0
IsTableSerial tables made (seats.InMask table at) serial = (t : PlainTable) → item_at tables table ≡ Some t
    → t.serial ≡ serial
IsTableSerial tables made (seats.NewMask table filters) serial = (t : PlainTable)
    → item_at tables table ≡ Some t → t.serial ≡ serial
IsTableSerial tables made (seats.NewTable masks filters) serial = serial ≡ made + 1

-- the serial of the mask, or the next
abbrev pub IsMaskSerial : List PlainTable → ℕ → Seat → ℕ → Type 0
IsMaskSerial tables made (seats.InMask table at) serial =
    (t : PlainTable) → item_at tables table ≡ Some t → (m : PlainMask) → item_at t.masks at ≡ Some m
    → m.serial ≡ serial
IsMaskSerial tables made (seats.NewMask table filters) serial = serial ≡ made + 1
IsMaskSerial tables made (seats.NewTable masks filters) serial = serial ≡ made + 1

-- the lowest handle that the table doesn't use
abbrev pub IsFreeHandle : List PlainTable → Seat → ℕ → Type 0
IsFreeHandle tables (seats.InMask table at) handle = (t : PlainTable) → item_at tables table ≡ Some t
    → IsLowestFree t.masks handle
IsFreeHandle tables (seats.NewMask table filters) handle = (t : PlainTable) → item_at tables table ≡ Some t
    → IsLowestFree t.masks handle
IsFreeHandle tables (seats.NewTable masks filters) handle = handle ≡ 1

-- ---- a filter put into it
-- what putting the filter there asks for
abbrev pub IsOpen : TableRoom → Arrival → Seat → Type 0
IsOpen room a (seats.InMask place at) =
    (table : PlainTable) × (mask : PlainMask) × (item_at room.tables place ≡ Some table)
    × (any_handle a.filter.handle table.masks ≡ false)
    × (item_at table.masks at ≡ Some mask) × (has_key_in a.filter.key.words mask ≡ false)
    × (0 < filters_spare room.spares place at)
IsOpen room a (seats.NewMask place filters) =
    (table : PlainTable) × (item_at room.tables place ≡ Some table)
    × (any_handle a.filter.handle table.masks ≡ false)
    × IsEmptyRoom filters × (0 < masks_spare room.spares place)
IsOpen room a (seats.NewTable masks filters) =
    (list_any (is_table a.chain a.pref) room.tables ≡ false) × IsEmptyRoom filters × (masks.masks ≡ [])
    × (0 < masks.spare) × (0 < room.spare)

-- the new table of a filter
abbrev pub table_of_arrival : Arrival → PlainTable
table_of_arrival a = record {
  serial = a.table_serial;
  chain = a.chain;
  pref = a.pref;
  protocol = a.protocol;
  masks = new_mask a.mask_serial a.mask.words a.filter ∷ [];
}

-- the tables with the filter in its seat
abbrev pub seated : Arrival → Seat → List PlainTable → List PlainTable
seated a (seats.InMask place at) tables =
    change_at place (in_masks (change_at at (more_filter a.filter))) tables
seated a (seats.NewMask place filters) tables =
    change_at place (in_masks (λ masks. masks ++ (new_mask a.mask_serial a.mask.words a.filter ∷ []))) tables
seated a (seats.NewTable masks filters) tables = with_table (table_of_arrival a) tables
