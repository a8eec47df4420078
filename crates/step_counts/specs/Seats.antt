-- What contracts see of a seat (this project's own).
use Rattle.std.specs.Prelude.{◌≡◌, ℕ, ◌+◌, List, [], ◌∷◌, ◌++◌}
use Rattle.atomic_table.specs.Seated.{TableId}

-- a seat: its making, how many seats were made there, how many shares it holds, and its deeds, which are
-- those of its thread and of all seats that were given back to it
pub record Holding (Deed : Type 0) : Type 0 where
  pub making : TableId
  pub seats : ℕ
  pub shares : ℕ
  pub deeds : List Deed

-- the seats of a making that are still to be taken
pub record Untaken : Type 0 where
  pub making : TableId
  pub seats : ℕ
  pub left : ℕ

-- a seat as it is taken: one share, and no deed
abbrev pub new_seat : {Deed : Type 0} → Untaken → Holding Deed
new_seat rest = record { making = rest.making; seats = rest.seats; shares = 1; deeds = [] }

module _ {Deed : Type 0} where
  -- the seat after one more deed
  abbrev pub with_deed : Deed → Holding Deed → Holding Deed
  with_deed deed seat = record seat { deeds = seat.deeds ++ deed ∷ [] }

  -- the seat after another was given back to it, with its shares and its deeds
  abbrev pub with_seat : Holding Deed → Holding Deed → Holding Deed
  with_seat given seat = record seat {
    shares = seat.shares + given.shares;
    deeds = seat.deeds ++ given.deeds;
  }

  -- every other seat was given back
  abbrev pub HoldsAll : Holding Deed → Type 0
  HoldsAll seat = seat.shares ≡ seat.seats
