use Rattle.std.proofs.Common.{◌≡◌, ℕ, ◌<◌, get_or, true}
use Rattle.pin_store.specs.declared.note.Note.TheVariants.{Unknown}
use Rattle.pin_store.specs.Notes.{is_clear}
use Rattle.pin_store.proofs.scan.Scan.of_notes.Given as goal

abbrev pub invariant-loop-i : goal.invariant-loop-i
invariant-loop-i l = (j : ℕ) → j < l.i → is_clear (get_or l.notes j Unknown) ≡ true
