-- What a scan answers (this project's own).
use Rattle.std.specs.Prelude.{◌≡◌, ℕ, ◌+◌, List, true}
use Rattle.pin_store.specs.declared.note.Note.{Note}
use Rattle.pin_store.specs.declared.scan.Scan.{Scan}
use Rattle.pin_store.specs.declared.scan.Scan.TheVariants.{Quiet, Pinned}
use Rattle.pin_store.specs.Notes.{all_clear, FirstSeen}

-- Quiet says that all notes are clear; Pinned names the least reader whose note is not, and that note's pin
abbrev pub FoundIn : List Note → Scan → Type 0
FoundIn notes Quiet = all_clear notes ≡ true
FoundIn notes (Pinned reader pin) = (i : ℕ) × (reader ≡ i + 1) × FirstSeen notes i pin
