-- What the seats of a round's claims drew, and the rows for it (this project's own).
use Rattle.std.specs.Prelude.{◌≡◌, ℕ, ◌<◌, List, [], ◌∷◌, length, slice_get, Some}
use Rattle.std.specs.List.{AllByRecursion, AllZip, flat_map}
use Rattle.atomic_table.specs.Seated.{TableId}
use Rattle.step_counts.specs.Seats.{Holding, with_seat}
use Rattle.lawful_runs.specs.OfLogs.Logs.{LogRow}
use Rattle.worker_rounds.specs.OfLogs.Rows.{numbers_of}
use Rattle.worker_rounds.specs.Worked.{HasDrawn}

-- one of so many seats of a making, with its own share alone
abbrev pub IsOneSeat : TableId → ℕ → Holding ℕ → Type 0
IsOneSeat making seats seat = seat ≡ record { making = making; seats = seats; shares = 1; deeds = seat.deeds }

-- all seats that were made there
abbrev pub AreAllSeats : TableId → List (Holding ℕ) → Type 0
AreAllSeats making seats = AllByRecursion (IsOneSeat making (length seats)) seats

-- a seat after these were given back to it
abbrev pub with_seats : List (Holding ℕ) → Holding ℕ → Holding ℕ
with_seats [] seat = seat
with_seats (given ∷ others) seat = with_seats others (with_seat given seat)

-- all that they drew
abbrev pub deeds_of : List (Holding ℕ) → List ℕ
deeds_of seats = flat_map (λ (seat : Holding ℕ). seat.deeds) seats

-- each log has a row for each number that its seat drew, but for the last
abbrev pub AreDrawn : ℕ → List (Holding ℕ) → List (List LogRow) → Type 0
AreDrawn count seats logs =
    AllZip (λ (seat : Holding ℕ) (rows : List LogRow). HasDrawn count seat.deeds (numbers_of rows)) seats logs

-- each row's number is above those of the rows before it
abbrev pub IsRising : List LogRow → Type 0
IsRising rows = (at : ℕ) (it : LogRow) → slice_get rows at ≡ Some it → (early : ℕ) (other : LogRow)
    → early < at → slice_get rows early ≡ Some other → other.number < it.number
