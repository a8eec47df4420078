-- The seat of a filter that is to come, of which nothing is refused.
use Rattle.std.proofs.Common.{◌≡◌, ℕ, ◌<◌, ◌≤◌, not, Bool, true, false, List, Option, Some, None, is_some, refl, sym, ◌∙◌, ap, subst, arith, eqb-true}
use Rattle.std.specs.Prelude.{find, IfSome}
use Rattle.std.specs.List.{list_any}
use Rattle.std.specs.Option.{unwrap_or}
use Rattle.std.proofs.lemmas.Bool.{false≢true}
use Rattle.std.proofs.lemmas.Option.{none-some}
use Rattle.std.proofs.lemmas.Slice.Eq.{bytes_eq-Decides}
use Rattle.tc_base.specs.declared.hook.Hook.{Hook}
use Rattle.tc_base.specs.declared.hook.Proto.{Proto}
use Rattle.tc_base.specs.declared.hook.Proto.TheVariants as protocols
use Rattle.filter_state.specs.declared.edit.FilterLine.{FilterLine}
use Rattle.filter_state.specs.declared.refusal.Refusal.{Refusal}
use Rattle.filter_state.specs.declared.refusal.Refusal.TheVariants as refusals
use Rattle.filter_state.specs.Lines.{IsIndex, IsFilter}
use Rattle.filter_state.specs.Tables.{protocol_eq}
use Rattle.filter_state.specs.Refusals.{when, or_else, protocol_clash, handle_taken, exists_but}
use Rattle.filter_index.specs.declared.filter.Filter.{Filter}
use Rattle.filter_index.specs.Listed.{has_key}
use Rattle.filter_tables.specs.Plain.{PlainMask, PlainTable}
use Rattle.filter_tables.specs.Places.{item_at, place_where}
use Rattle.filter_tables.specs.Changes.{any_handle, has_handle_in, has_key_in, has_words, is_table, IsLowestFree}
use Rattle.filter_tables.specs.Room.{TableRoom, masks_spare, filters_spare}
use Rattle.filter_tables.specs.Rows.{tables_on}
use Rattle.filter_tables.proofs.Swept.{found_any}
use Rattle.row_laws.specs.OfLookups.Asked.{unless_left_out}
use Rattle.row_laws.proofs.OfLookups.Placed.{place_any}
use Rattle.hook_lists.specs.declared.kept.Kept.{Kept}
use Rattle.hook_lists.specs.States.{both_of, room_on, state_of, AreKept}
use Rattle.hook_lists.proofs.Sought.{place_passes, its_names}
use Rattle.hook_lists.proofs.Asked.{IsAt, IsNowhere, clash_found, existing, exists_found}
use Rattle.filter_lists.specs.declared.adding.arrival.Arrival.{Arrival}
use Rattle.filter_lists.specs.declared.adding.arrival.Seat.{Seat}
use Rattle.filter_lists.specs.declared.adding.arrival.Seat.TheVariants as seats
use Rattle.filter_lists.specs.declared.adding.looking.Found.{Found}
use Rattle.filter_lists.specs.OfAdding.Arrivals.{IsTable, IsMask, IsSeat}
use Rattle.filter_lists.specs.OfAdding.Looks.{IsFound}
use Rattle.action_plan.specs.Plans.{serials_of}
use Rattle.filter_lists.specs.OfAdding.Seats.{SeatTold, IsFreeHandle}
use Rattle.filter_lists.specs.OfAdding.Ready.{IsArrival}
use Rattle.filter_lists.proofs.OfAdding.Asking.{missing, tables_same, taken_found}
use Rattle.filter_lists.proofs.OfAdding.Looks.{neither}

-- ---- what isn't refused
when_none : (b : Bool) (refusal : Refusal) → when b refusal ≡ None → b ≡ false
when_none true refusal e = absurd (none-some refusal (sym e))
when_none false refusal e = refl

same_protocol : (a b : Proto) → protocol_eq a b ≡ true → a ≡ b
same_protocol protocols.All protocols.All e = refl
same_protocol (protocols.Ether a) (protocols.Ether b) e = ap (λ n. protocols.Ether n) (eqb-true a b e)
same_protocol a b e = absurd (false≢true e)

no_clash : (b : Bool) (refusal : Refusal) → when (not b) refusal ≡ None → b ≡ true
no_clash true refusal e = refl
no_clash false refusal e = absurd (none-some refusal (sym e))

unfound : (o : Option Filter) → existing (unless_left_out None o) ≡ None → is_some o ≡ false
unfound None e = refl
unfound (Some f) e = absurd (none-some (refusals.Exists f.handle) (sym e))

handle_unused : (kept : Kept) (hook : Hook) (chain pref place free : ℕ) (given : Option ℕ) (t : PlainTable) → AreKept kept → IsAt kept hook chain pref place t
    → handle_taken (state_of kept) hook chain pref given ≡ None → IsLowestFree t.masks free → any_handle (unwrap_or given free) t.masks ≡ false
handle_unused kept hook chain pref place free None t are at none lowest = lowest.free
handle_unused kept hook chain pref place free (Some handle) t are at none lowest =
    sym (place_any (has_handle_in handle) t.masks)
    ∙ when_none (is_some (place_where (has_handle_in handle) t.masks)) refusals.HandleTaken (sym (taken_found kept hook chain pref place handle t are at) ∙ none)

from_one : (given : Option ℕ) (free : ℕ) → IfSome given IsIndex → 1 ≤ free → 1 ≤ unwrap_or given free
from_one None free in_range low = low
from_one (Some handle) free in_range low = in_range.0

-- ---- the table, the mask
pub record AreToPlan (kept : Kept) (line : FilterLine) (found : Found) (seat : Seat) (a : Arrival) : Type 0 where
  pub are : AreKept kept
  pub filter : IsFilter line
  pub looked : IsFound kept line found
  pub arrival : IsArrival kept line found.pref (serials_of found.actions) seat a

pub is_at : (kept : Kept) (line : FilterLine) (found : Found) (place : ℕ) (t : PlainTable) → IsFound kept line found → found.place ≡ Some place
    → item_at (room_on line.hook kept).tables place ≡ Some t → IsAt kept line.hook line.chain found.pref place t
is_at kept line found place t is at there = record {
  found = sym is.place ∙ at;
  there = subst (λ ts. item_at ts place ≡ Some t) (tables_same line.hook kept) there;
}

pub is_nowhere : (kept : Kept) (line : FilterLine) (found : Found) → IsFound kept line found → found.place ≡ None → IsNowhere kept line.hook line.chain found.pref
is_nowhere kept line found is none = sym is.place ∙ none

pub table_is : (kept : Kept) (line : FilterLine) (found : Found) (seat : Seat) (a : Arrival) (place : ℕ) (t : PlainTable) (plan : AreToPlan kept line found seat a)
    → IsAt kept line.hook line.chain found.pref place t → t.serial ≡ a.table_serial → IsLowestFree t.masks plan.arrival.free → IsTable kept a place t
table_is kept line found seat a place t plan at serial free =
    let names = its_names (tables_on line.hook (both_of kept)) line.chain found.pref place t at.found at.there in
    let none = neither (protocol_clash (state_of kept) line.hook line.chain found.pref line.protocol)
    (or_else (handle_taken (state_of kept) line.hook line.chain found.pref line.handle) (exists_but (state_of kept) line.hook line.chain found.pref None line.mask.words line.key.words)) plan.looked.placed in
    let unused = neither (handle_taken (state_of kept) line.hook line.chain found.pref line.handle) (exists_but (state_of kept) line.hook line.chain found.pref None line.mask.words line.key.words) none.1 in
    record {
      stands = subst (λ h. item_at (tables_on h (both_of kept)) place ≡ Some t) (sym plan.arrival.on) at.there;
      chain = names.0 ∙ sym plan.arrival.chain;
      pref = names.1 ∙ sym plan.arrival.its_pref;
      protocol =
          same_protocol t.protocol line.protocol
          (no_clash (protocol_eq t.protocol line.protocol) (refusals.ProtocolClash t.protocol)
          (sym (clash_found kept line.hook line.chain found.pref place t line.protocol plan.are at) ∙ none.0))
          ∙ sym plan.arrival.protocol;
      serial = serial;
      handle =
          subst (λ n. any_handle n t.masks ≡ false) (sym plan.arrival.handle)
          (handle_unused kept line.hook line.chain found.pref place plan.arrival.free line.handle t plan.are at unused.0 free);
    }

pub mask_is : (kept : Kept) (line : FilterLine) (found : Found) (seat : Seat) (a : Arrival) (place at : ℕ) (t : PlainTable) (m : PlainMask) → AreToPlan kept line found seat a
    → IsAt kept line.hook line.chain found.pref place t → place_where (has_words line.mask.words) t.masks ≡ Some at → item_at t.masks at ≡ Some m → m.serial ≡ a.mask_serial → IsMask a at t m
mask_is kept line found seat a place at t m plan there placed within serial =
    let none = neither (protocol_clash (state_of kept) line.hook line.chain found.pref line.protocol)
    (or_else (handle_taken (state_of kept) line.hook line.chain found.pref line.handle) (exists_but (state_of kept) line.hook line.chain found.pref None line.mask.words line.key.words)) plan.looked.placed in
    let unused = neither (handle_taken (state_of kept) line.hook line.chain found.pref line.handle) (exists_but (state_of kept) line.hook line.chain found.pref None line.mask.words line.key.words) none.1 in
    record {
      stands = within;
      serial = serial;
      words = (bytes_eq-Decides m.mask line.mask.words).0 (place_passes (has_words line.mask.words) t.masks at m placed within) ∙ sym plan.arrival.mask;
      key =
          subst (λ words. has_key_in words m ≡ false) (sym plan.arrival.key)
          (sym (found_any (has_key line.key.words) m.filters)
          ∙ unfound (find (has_key line.key.words) m.filters)
          (sym (exists_found kept line.hook line.chain found.pref place at None line.mask.words line.key.words t m plan.are there placed within) ∙ unused.1));
    }

-- ---- the seat
on_room : (P : Hook → Type 0) (kept : Kept) (line : FilterLine) (found : Found) (seat : Seat) (a : Arrival) → AreToPlan kept line found seat a → P line.hook → P a.hook
on_room P kept line found seat a plan here = subst P (sym plan.arrival.on) here

pub seat_is : (kept : Kept) (line : FilterLine) (found : Found) (seat : Seat) (a : Arrival) → AreToPlan kept line found seat a
    → SeatTold (room_on line.hook kept) found.place line.mask.words seat → IsSeat kept a seat
seat_is kept line found (seats.InMask place at) a plan told =
    let t = told.1.table in
    let m = told.1.mask in
    let there = is_at kept line found place t plan.looked told.0 told.1.stands in (
      t,
      m,
      table_is kept line found (seats.InMask place at) a place t plan there (plan.arrival.table_serial t there.there) (plan.arrival.free_handle t there.there),
      mask_is kept line found (seats.InMask place at) a place at t m plan there told.1.found told.1.within (plan.arrival.mask_serial t there.there m told.1.within),
      on_room (λ h. 0 < filters_spare (room_on h kept).spares place at) kept line found (seats.InMask place at) a plan told.1.spare,
    )
seat_is kept line found (seats.NewMask place filters) a plan told =
    let t = told.1.table in
    let there = is_at kept line found place t plan.looked told.0 told.1.stands in (
      t,
      table_is kept line found (seats.NewMask place filters) a place t plan there (plan.arrival.table_serial t there.there) (plan.arrival.free_handle t there.there),
      plan.arrival.mask_serial,
      told.2,
      on_room (λ h. 0 < masks_spare (room_on h kept).spares place) kept line found (seats.NewMask place filters) a plan told.1.spare,
    )
seat_is kept line found (seats.NewTable masks filters) a plan told =
    let none : list_any (is_table line.chain found.pref) (tables_on line.hook (both_of kept)) ≡ false =
    missing kept line.hook line.chain found.pref (is_nowhere kept line found plan.looked told.0) in (
      subst (λ h. list_any (is_table a.chain a.pref) (tables_on h (both_of kept)) ≡ false) (sym plan.arrival.on)
          (subst (λ n. list_any (is_table n a.pref) (tables_on line.hook (both_of kept)) ≡ false) (sym plan.arrival.chain)
          (subst (λ n. list_any (is_table line.chain n) (tables_on line.hook (both_of kept)) ≡ false) (sym plan.arrival.its_pref) none)),
      plan.arrival.table_serial,
      plan.arrival.mask_serial,
      told.1,
      told.2,
      told.3,
      on_room (λ h. 0 < (room_on h kept).spare) kept line found (seats.NewTable masks filters) a plan told.4,
    )

-- the handle is one
handle_low : (tables : List PlainTable) (seat : Seat) (free : ℕ) (room : TableRoom) (place : Option ℕ) (words : List ℕ) → room.tables ≡ tables → SeatTold room place words seat
    → IsFreeHandle tables seat free → 1 ≤ free
handle_low tables (seats.InMask table at) free room place words same told is =
    let low = is told.1.table (subst (λ ts. item_at ts table ≡ Some told.1.table) same told.1.stands) in low.from_one
handle_low tables (seats.NewMask table filters) free room place words same told is =
    let low = is told.1.table (subst (λ ts. item_at ts table ≡ Some told.1.table) same told.1.stands) in low.from_one
handle_low tables (seats.NewTable masks filters) free room place words same told is = omega (arith, is)

pub handle_is : (kept : Kept) (line : FilterLine) (found : Found) (seat : Seat) (a : Arrival) → AreToPlan kept line found seat a
    → SeatTold (room_on line.hook kept) found.place line.mask.words seat → 1 ≤ a.filter.handle
handle_is kept line found seat a plan told =
    let low = handle_low (tables_on line.hook (both_of kept)) seat plan.arrival.free (room_on line.hook kept) found.place line.mask.words (tables_same line.hook kept) told plan.arrival.free_handle in
    subst (λ n. 1 ≤ n) (sym plan.arrival.handle) (from_one line.handle plan.arrival.free plan.filter.handle low)
