-- A filter put into its seat is a row more at the end.
use Rattle.std.proofs.Common.{◌≡◌, ℕ, ◌+◌, ◌<◌, ◌≤◌, List, [], ◌∷◌, ◌++◌, Some, refl, subst, arith}
use Rattle.tc_base.specs.declared.hook.Hook.{Hook}
use Rattle.filter_state.specs.States.{Row}
use Rattle.filter_state.specs.Sound.{Each, IsRow}
use Rattle.filter_state.specs.Tables.{in_table}
use Rattle.filter_state.specs.Order.{SameRows}
use Rattle.filter_tables.specs.Plain.{PlainMask, PlainTable}
use Rattle.filter_tables.specs.Places.{item_at}
use Rattle.filter_tables.specs.Changes.{new_mask}
use Rattle.filter_tables.specs.Whole.{HasSome, IsFull}
use Rattle.filter_tables.specs.Rows.{BothWhole, tables_on, on_hook, row_of, rows_of_mask, rows_of_table, all_rows}
use Rattle.filter_state.proofs.Pairs.{each_weaker, each_filter, each_front, each_back}
use Rattle.row_laws.proofs.OfLookups.Blocks.{each_map, some_map}
use Rattle.row_laws.proofs.OfLookups.Found.{rows_found, table_each, some_rows, item_each}
use Rattle.row_laws.proofs.OfLookups.Tables.{full_at}
use Rattle.row_laws.proofs.OfChanges.Put.{put_rows}
use Rattle.row_laws.proofs.OfChanges.Whole.{put_whole}
use Rattle.row_laws.proofs.OfChanges.MaskPut.{mask_put_rows, new_mask_whole}
use Rattle.row_laws.proofs.OfChanges.TablePut.{table_put_rows, table_put_whole}
use Rattle.hook_lists.specs.declared.kept.Kept.{Kept}
use Rattle.hook_lists.specs.States.{both_of, state_of, AreKept}
use Rattle.filter_lists.specs.declared.adding.arrival.Arrival.{Arrival}
use Rattle.filter_lists.specs.declared.adding.arrival.Seat.{Seat}
use Rattle.filter_lists.specs.declared.adding.arrival.Seat.TheVariants as seats
use Rattle.filter_lists.specs.OfAdding.Arrivals.{row_of_arrival, IsTable, IsMask, IsSeat}
use Rattle.filter_lists.specs.OfAdding.Seats.{table_of_arrival, seated}
use Rattle.std.specs.List.{flat_map}
use Rattle.std.proofs.lemmas.Option.{none-some, same_Some}
use Rattle.std.proofs.Common.{zero, suc}

-- ---- the rows are of serials that were given
below_next : (kept : Kept) (serial : ℕ) → AreKept kept → serial ≡ kept.masks_made + 1 → Each (λ (row : Row). row.mask_serial < serial) (all_rows (both_of kept))
below_next kept serial are next =
    each_weaker (IsRow (state_of kept)) (λ (row : Row). row.mask_serial < serial) (λ row is. omega (arith, is.mask.1, next)) (all_rows (both_of kept)) are.sound.rows

one_of : {X : Type 0} (P Q : X → Type 0) (R : Type 0) (xs : List X) → HasSome xs → Each P xs → Each Q xs → ((x : X) → P x → Q x → R) → R
one_of P Q R [] some all more joined = elim some [ ]
one_of P Q R (x ∷ xs) some all more joined = joined x all.0 more.0

each_inside : {X Y : Type 0} (P : Y → Type 0) (f : X → List Y) (xs : List X) (place : ℕ) (x : X) → item_at xs place ≡ Some x → Each P (flat_map f xs) → Each P (f x)
each_inside P f [] place x e all = absurd (none-some x e)
each_inside P f (y ∷ ys) zero x e all = subst (λ z. Each P (f z)) (same_Some y x e) (each_front P (f y) (flat_map f ys) all)
each_inside P f (y ∷ ys) (suc place) x e all = each_inside P f ys place x e (each_back P (f y) (flat_map f ys) all)

its_rows : (kept : Kept) (hook : Hook) (place : ℕ) (t : PlainTable) → AreKept kept → item_at (tables_on hook (both_of kept)) place ≡ Some t → Each (IsRow (state_of kept)) (rows_of_table hook t)
its_rows kept hook place t are there =
    subst (Each (IsRow (state_of kept))) (rows_found (both_of kept) hook place t are.whole there)
    (each_filter (IsRow (state_of kept)) (in_table hook t.chain t.pref) (all_rows (both_of kept)) are.sound.rows)

table_given : (kept : Kept) (hook : Hook) (place : ℕ) (t : PlainTable) → AreKept kept → item_at (tables_on hook (both_of kept)) place ≡ Some t → t.serial ≤ kept.tables_made
table_given kept hook place t are there =
    one_of (IsRow (state_of kept)) (λ (row : Row). row.table ≡ t.serial) (t.serial ≤ kept.tables_made) (rows_of_table hook t) (some_rows hook t (full_at (both_of kept) hook place t are.whole there))
    (its_rows kept hook place t are there) (table_each hook t (λ (row : Row). row.table ≡ t.serial) (λ m f. refl)) (λ row is same. omega (arith, is.table.1, same))

mask_given : (kept : Kept) (hook : Hook) (place at : ℕ) (t : PlainTable) (m : PlainMask) → AreKept kept → item_at (tables_on hook (both_of kept)) place ≡ Some t → item_at t.masks at ≡ Some m
    → m.serial ≤ kept.masks_made
mask_given kept hook place at t m are there within =
    let full : IsFull t = full_at (both_of kept) hook place t are.whole there in
    one_of (IsRow (state_of kept)) (λ (row : Row). row.mask_serial ≡ m.serial) (m.serial ≤ kept.masks_made) (rows_of_mask hook t m)
    (some_map (row_of hook t m) m.filters (item_each (λ (k : PlainMask). HasSome k.filters) t.masks at m full.each within))
    (each_inside (IsRow (state_of kept)) (rows_of_mask hook t) t.masks at m within (its_rows kept hook place t are there))
    (each_map (row_of hook t m) (λ (row : Row). row.mask_serial ≡ m.serial) (λ f. refl) m.filters) (λ row is same. omega (arith, is.mask.1, same))

-- ---- a serial of the filter was given, or is the next
pub table_bound : (kept : Kept) (a : Arrival) (seat : Seat) → AreKept kept → IsSeat kept a seat → a.table_serial ≤ kept.tables_made + 1
table_bound kept a (seats.InMask place at) are is = omega (arith, table_given kept a.hook place is.0 are is.2.stands, is.2.serial)
table_bound kept a (seats.NewMask place filters) are is = omega (arith, table_given kept a.hook place is.0 are is.1.stands, is.1.serial)
table_bound kept a (seats.NewTable masks filters) are is = omega (arith, is.1)

pub mask_bound : (kept : Kept) (a : Arrival) (seat : Seat) → AreKept kept → IsSeat kept a seat → a.mask_serial ≤ kept.masks_made + 1
mask_bound kept a (seats.InMask place at) are is = omega (arith, mask_given kept a.hook place at is.0 is.1 are is.2.stands is.3.stands, is.3.serial)
mask_bound kept a (seats.NewMask place filters) are is = omega (arith, is.2)
mask_bound kept a (seats.NewTable masks filters) are is = omega (arith, is.2)

-- ---- the rows
row_in_mask : (kept : Kept) (a : Arrival) (place at : ℕ) (t : PlainTable) (m : PlainMask) → IsTable kept a place t → IsMask a at t m → row_of a.hook t m a.filter ≡ row_of_arrival a
row_in_mask kept a place at t m is within = rw (is.chain, is.pref, is.protocol, is.serial, within.serial, within.words) refl

row_in_table : (kept : Kept) (a : Arrival) (place : ℕ) (t : PlainTable) → IsTable kept a place t → row_of a.hook t (new_mask a.mask_serial a.mask.words a.filter) a.filter ≡ row_of_arrival a
row_in_table kept a place t is = rw (is.chain, is.pref, is.protocol, is.serial) refl

pub rows_put : (kept : Kept) (a : Arrival) (seat : Seat) → AreKept kept → IsSeat kept a seat
    → SameRows (all_rows (on_hook a.hook (seated a seat) (both_of kept))) (all_rows (both_of kept) ++ (row_of_arrival a ∷ []))
rows_put kept a (seats.InMask place at) are is =
    subst (λ row. SameRows (all_rows (on_hook a.hook (seated a (seats.InMask place at)) (both_of kept))) (all_rows (both_of kept) ++ (row ∷ []))) (row_in_mask kept a place at is.0 is.1 is.2 is.3)
    (put_rows (both_of kept) a.hook place at is.0 is.1 a.filter are.whole are.sound.together is.2.stands is.3.stands)
rows_put kept a (seats.NewMask place filters) are is =
    subst (λ row. SameRows (all_rows (on_hook a.hook (seated a (seats.NewMask place filters)) (both_of kept))) (all_rows (both_of kept) ++ (row ∷ []))) (row_in_table kept a place is.0 is.1)
    (mask_put_rows (both_of kept) a.hook place a.mask_serial a.mask.words is.0 a.filter are.whole (below_next kept a.mask_serial are is.2) is.1.stands)
rows_put kept a (seats.NewTable masks filters) are is =
    table_put_rows (both_of kept) a.hook a.mask_serial a.mask.words (table_of_arrival a) a.filter are.whole (below_next kept a.mask_serial are is.2) refl

pub whole_put : (kept : Kept) (a : Arrival) (seat : Seat) → AreKept kept → IsSeat kept a seat → BothWhole (on_hook a.hook (seated a seat) (both_of kept))
whole_put kept a (seats.InMask place at) are is = put_whole (both_of kept) a.hook place at a.filter are.whole
whole_put kept a (seats.NewMask place filters) are is =
    new_mask_whole (both_of kept) a.hook place a.mask_serial a.mask.words a.filter are.whole (below_next kept a.mask_serial are is.2)
whole_put kept a (seats.NewTable masks filters) are is =
    table_put_whole (both_of kept) a.hook a.mask_serial a.mask.words (table_of_arrival a) a.filter are.whole refl is.0
