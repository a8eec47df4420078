-- What a filter's seat in a mask asks for, of whatever table and mask are found there.
use Rattle.std.proofs.Common.{◌≡◌, ℕ, ◌<◌, false, List, length, Some, sym, ◌∙◌, subst}
use Rattle.std.proofs.lemmas.Option.{same_Some}
use Rattle.filter_tables.specs.Plain.{PlainMask, PlainTable}
use Rattle.filter_tables.specs.Places.{item_at}
use Rattle.filter_tables.specs.Changes.{any_handle, has_key_in}
use Rattle.filter_tables.specs.Room.{TableRoom}
use Rattle.filter_lists.specs.declared.adding.arrival.Arrival.{Arrival}
use Rattle.filter_lists.specs.declared.adding.arrival.Seat.TheVariants as seats
use Rattle.filter_lists.specs.OfAdding.Seats.{IsOpen}
use Rattle.filter_lists.proofs.OfReplacing.Seeking.{item_within}

-- what holds of the item at a place holds of any that is found there
pub found_same : {X : Type 0} (xs : List X) (place : ℕ) (x : X) (P : X → Type 0) → item_at xs place ≡ Some x → P x → (y : X) → item_at xs place ≡ Some y → P y
found_same xs place x P is holds y there = subst P (same_Some x y (sym is ∙ there)) holds

module _ (room : TableRoom) (a : Arrival) (place at : ℕ) (open_ : IsOpen room a (seats.InMask place at)) where
  pub open_table : place < length room.tables
  open_table = item_within room.tables place open_.0 open_.2

  pub open_mask : (t : PlainTable) → item_at room.tables place ≡ Some t → at < length t.masks
  open_mask = found_same room.tables place open_.0 (λ t. at < length t.masks) open_.2 (item_within open_.0.masks at open_.1 open_.4)

  pub open_handle : (t : PlainTable) → item_at room.tables place ≡ Some t → any_handle a.filter.handle t.masks ≡ false
  open_handle = found_same room.tables place open_.0 (λ t. any_handle a.filter.handle t.masks ≡ false) open_.2 open_.3

  pub open_key : (t : PlainTable) → item_at room.tables place ≡ Some t → (m : PlainMask) → item_at t.masks at ≡ Some m → has_key_in a.filter.key.words m ≡ false
  open_key =
      found_same room.tables place open_.0 (λ t. (m : PlainMask) → item_at t.masks at ≡ Some m → has_key_in a.filter.key.words m ≡ false) open_.2
      (found_same open_.0.masks at open_.1 (λ m. has_key_in a.filter.key.words m ≡ false) open_.4 open_.5)
