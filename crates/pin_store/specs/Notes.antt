-- The writer's notes of the readers' pins (this project's own). A pin is odd exactly while its reader is
-- inside, and it only rises. So an odd pin that stays the same says that the reader never left, and a pin
-- that is even, or another than before, says that the reader was outside in between.
use Rattle.std.specs.Prelude.{◌≡◌, ◌≢◌, ℕ, ◌+◌, ◌≤◌, ◌<◌, ◌%◌, ◌==◌, ◌&&◌, ◌⊎◌, List, [], ◌∷◌, length}
use Rattle.std.specs.Prelude.{slice_index_or, min, Option, Some, None, Bool, true, false, if◌then◌else◌}
use Rattle.pin_store.specs.declared.view.Floor.{Floor}
use Rattle.pin_store.specs.declared.note.Note.{Note}
use Rattle.pin_store.specs.declared.note.Note.TheVariants.{Unknown, Seen, Clear}

abbrev pub is_clear : Note → Bool
is_clear Unknown = false
is_clear (Seen pin times) = false
is_clear Clear = true

abbrev pub all_clear : List Note → Bool
all_clear [] = true
all_clear (n ∷ ns) = is_clear n && all_clear ns

-- the note after an odd pin was loaded; the count stands still at 2 ^ 64 - 1
abbrev pub noted_odd : Note → ℕ → Note
noted_odd Unknown pin = Seen pin 1
noted_odd (Seen seen times) pin = if seen == pin then Seen seen (min (times + 1) 18446744073709551615)
    else Clear
noted_odd Clear pin = Clear

-- the note after a pin was loaded
abbrev pub noted : Note → ℕ → Note
noted n pin = if pin % 2 == 0 then Clear else noted_odd n pin

-- the floor is this epoch, or there is none
abbrev pub IsFresh : ℕ → Option Floor → Type 0
IsFresh epoch None = Unit {0}
IsFresh epoch (Some f) = f.epoch ≡ epoch

-- what a note says of a reader's pin and floor, in this epoch
abbrev pub IsSoundNote : ℕ → ℕ → Option Floor → Note → Type 0
IsSoundNote epoch pin floor Unknown = Unit {0}
IsSoundNote epoch pin floor (Seen seen times) = (seen ≤ pin) × (seen ≢ pin → IsFresh epoch floor)
IsSoundNote epoch pin floor Clear = IsFresh epoch floor

-- the note was taken from a pin, which is odd where the reader's state is not clear
abbrev pub IsTaken : Note → Type 0
IsTaken Unknown = ⊥
IsTaken (Seen pin times) = pin % 2 ≡ 1
IsTaken Clear = Unit {0}

-- a clear note stays, and for another the pin was loaded once
abbrev pub NotedFrom : Note → Note → Type 0
NotedFrom old new =
    ((is_clear old ≡ true) × (new ≡ old)) ⊎ ((is_clear old ≡ false) × ((pin : ℕ) × (new ≡ noted old pin)))

-- the note at i is the first that is not clear, and it is of this odd pin
abbrev pub FirstSeen : List Note → ℕ → ℕ → Type 0
FirstSeen notes i pin =
    (times : ℕ) × (i < length notes) × (slice_index_or notes i Unknown ≡ Seen pin times) × (pin % 2 ≡ 1)
    × ((j : ℕ) → j < i → is_clear (slice_index_or notes j Unknown) ≡ true)
