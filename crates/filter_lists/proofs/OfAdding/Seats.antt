-- A seat as it was found, and what it names.
use Rattle.std.proofs.Common.{◌≡◌, ℕ, zero, suc, ◌<◌, List, [], ◌∷◌, length, Option, Some, None, sym, ◌∙◌, subst, arith}
use Rattle.std.proofs.lemmas.Option.{none-some, same_Some}
use Rattle.filter_tables.specs.Plain.{PlainTable}
use Rattle.filter_tables.specs.Places.{item_at, place_where}
use Rattle.filter_tables.specs.Changes.{has_words}
use Rattle.filter_tables.specs.Room.{TableRoom, masks_spare, filters_spare}
use Rattle.filter_tables.proofs.Moves.{item_there}
use Rattle.hook_lists.proofs.Sought.{place_within}
use Rattle.filter_lists.specs.declared.adding.arrival.Seat.{Seat}
use Rattle.filter_lists.specs.declared.adding.arrival.Seat.TheVariants as seats
use Rattle.filter_lists.specs.OfAdding.Seats.{HasMask, LacksMask, SeatTold, IsThere}

item_within : {X : Type 0} (xs : List X) (place : ℕ) (x : X) → item_at xs place ≡ Some x → place < length xs
item_within [] place x e = absurd (none-some x e)
item_within (y ∷ ys) zero x e = omega arith
item_within (y ∷ ys) (suc place) x e = omega (arith, item_within ys place x e)

-- what was told of the place of a mask, of tables that have more room since
abbrev IsAsked : TableRoom → List ℕ → ℕ → Option ℕ → Type 0
IsAsked room words place found = (t : PlainTable) → item_at room.tables place ≡ Some t → found ≡ place_where (has_words words) t.masks

pub mask_found : (old new : TableRoom) (words : List ℕ) (place at : ℕ) (found : Option ℕ) → new.tables ≡ old.tables → place < length old.tables → IsAsked old words place found
    → found ≡ Some at → 0 < filters_spare new.spares place at → HasMask new words place at
mask_found old new words place at found same within told is spare =
    let there = item_there old.tables place within in
    let placed : place_where (has_words words) there.0.masks ≡ Some at = sym (told there.0 there.1) ∙ is in
    let inside = item_there there.0.masks at (place_within (has_words words) there.0.masks at placed) in
    record {
      table = there.0;
      mask = inside.0;
      stands = subst (λ ts. item_at ts place ≡ Some there.0) (sym same) there.1;
      found = placed;
      within = inside.1;
      spare = spare;
    }

pub mask_lacking : (old new : TableRoom) (words : List ℕ) (place : ℕ) (found : Option ℕ) → new.tables ≡ old.tables → place < length old.tables → IsAsked old words place found
    → found ≡ None → 0 < masks_spare new.spares place → LacksMask new words place
mask_lacking old new words place found same within told is spare =
    let there = item_there old.tables place within in
    record {
      table = there.0;
      stands = subst (λ ts. item_at ts place ≡ Some there.0) (sym same) there.1;
      missing = sym (told there.0 there.1) ∙ is;
      spare = spare;
    }

-- ---- what the seat names is there
pub seat_there : (room : TableRoom) (place : Option ℕ) (words : List ℕ) (seat : Seat) → SeatTold room place words seat → IsThere room.tables seat
seat_there room place words (seats.InMask table at) told = (
  item_within room.tables table told.1.table told.1.stands,
  λ t there.
      subst (λ (k : PlainTable). at < length k.masks) (same_Some told.1.table t (sym told.1.stands ∙ there)) (item_within told.1.table.masks at told.1.mask told.1.within),
)
seat_there room place words (seats.NewMask table filters) told = item_within room.tables table told.1.table told.1.stands
seat_there room place words (seats.NewTable masks filters) told = tt
