-- The next line of a control (this project's own).
use Rattle.std.specs.Prelude.{◌≡◌, ℕ, ◌-◌, ◌≤◌, Bool, false, not, List, [], length, slice_get}
use Rattle.std.specs.Prelude.{slice_set, Some}
use Rattle.round_terms.specs.declared.place.Place.{Place}
use Rattle.round_terms.specs.Files.{RoundFile}
use Rattle.round_terms.specs.Places.{left_at, IsFound}

-- where a control of a round stands: its batch, and its place there
pub record StandsAt (files : List RoundFile) (places : List Place) (control : ℕ) (file : RoundFile)
    (place : Place) : Type 0 where
  pub at : ℕ
  pub file_is : slice_get files at ≡ Some file
  pub control_is : file.control ≡ control
  pub place_is : slice_get places (control - 1) ≡ Some place

-- THE NEXT LINE of a control: its batch hasn't stopped, and this is the first command that is left
pub record IsNextLine (files : List RoundFile) (places : List Place) (control : ℕ) (file : RoundFile)
    (place : Place) (text : List ℕ) (line next : ℕ) : Type 0 where
  pub stands : StandsAt files places control file place
  pub going : place.over ≡ false
  pub found : IsFound file.bytes place.at place.line text line next

-- it is a line of its batch, with the batch's force
abbrev pub IsLineFor : List RoundFile → List Place → ℕ → List ℕ → ℕ → ℕ → Bool → Type 0
IsLineFor files places control text line next force = (file : RoundFile) × (place : Place)
    × IsNextLine files places control file place text line next × (force ≡ file.force)

-- no line is left to a control
abbrev pub HasNoLine : List RoundFile → List Place → ℕ → Type 0
HasNoLine files places control = (file : RoundFile) (place : Place)
    → StandsAt files places control file place → left_at file.bytes place ≡ []

-- the place of each batch's control lies in the batch
abbrev pub AreWithin : List RoundFile → List Place → Type 0
AreWithin files places = (at : ℕ) (file : RoundFile) → slice_get files at ≡ Some file
    → (place : Place) × (slice_get places (file.control - 1) ≡ Some place) × (place.at ≤ length file.bytes)
    × (place.line ≤ place.at)

-- the places once a control has met the line behind which `next` begins
abbrev pub moved_on : List Place → ℕ → ℕ → ℕ → Bool → List Place
moved_on places control line next goes =
    slice_set places (control - 1) (record { at = next; line = line; over = not goes })
