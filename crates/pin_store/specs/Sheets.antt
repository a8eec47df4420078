-- What the writer knows beside the commits: the words of the blocks, the epochs with their starts, and the
-- notes (this project's own).
use Rattle.std.specs.Prelude.{◌≡◌, ℕ, ◌+◌, ◌≤◌, [], ◌∷◌, ◌++◌, length, slice_index, slice_index_or, slice_set}
use Rattle.std.specs.Prelude.{replicate, true, false, if◌then◌else◌}
use Rattle.pin_store.specs.declared.shape.Shape.{Shape}
use Rattle.pin_store.specs.declared.note.Note.{Note}
use Rattle.pin_store.specs.declared.note.Note.TheVariants.{Unknown}
use Rattle.pin_store.specs.declared.view.Sheet.{Sheet}
use Rattle.pin_store.specs.Layout.{cell_count}
use Rattle.pin_store.specs.Notes.{all_clear, noted}

-- how many commits there were as an epoch began
abbrev pub start_of : Sheet → ℕ → ℕ
start_of d epoch = slice_index d.starts epoch

-- the base: chains that are named after this many commits or more still stand
abbrev pub base_of : Sheet → ℕ
base_of d = start_of d d.quiet

-- the note of the reader with the number i + 1
abbrev pub note_at : Sheet → ℕ → Note
note_at d i = slice_index_or d.notes i Unknown

-- the sheet of a new store: all words are 0, and the first epoch has begun
abbrev pub opening_sheet : Shape → Sheet
opening_sheet shape = record {
  cells = replicate (cell_count shape) 0;
  epoch = 0;
  starts = 0 ∷ [];
  quiet = 0;
  notes = replicate shape.readers Unknown;
  made = 0;
}

-- the sheet after a new epoch began, at this many commits
abbrev pub bumped : Sheet → ℕ → Sheet
bumped d commits = record d {
  epoch = d.epoch + 1;
  starts = d.starts ++ commits ∷ [];
  notes = replicate (length d.notes) Unknown;
}

-- the sheet after the pin of the reader with the number i + 1 was loaded
-- where that was the last note to be cleared, the present epoch is the quiet one
abbrev pub scanned : Sheet → ℕ → ℕ → Sheet
scanned d i pin = let notes = slice_set d.notes i (noted (note_at d i) pin) in
    record d { notes = notes; quiet = if all_clear notes then d.epoch else d.quiet }

-- what holds of a sheet, where there are this many commits
pub record IsSoundSheet (shape : Shape) (sheet : Sheet) (commits : ℕ) : Type 0 where
  pub whole : length sheet.cells ≡ cell_count shape
  pub noted : length sheet.notes ≡ shape.readers
  pub begun : length sheet.starts ≡ sheet.epoch + 1
  pub quiet : sheet.quiet ≤ sheet.epoch
  pub rising : (i j : ℕ) → i ≤ j → j ≤ sheet.epoch → start_of sheet i ≤ start_of sheet j
  pub recent : start_of sheet sheet.epoch ≤ commits
  pub settled : all_clear sheet.notes ≡ true → sheet.quiet ≡ sheet.epoch

-- a sheet but for the words of the blocks
pub record IsSameButCells (old new : Sheet) : Type 0 where
  pub epoch : new.epoch ≡ old.epoch
  pub starts : new.starts ≡ old.starts
  pub quiet : new.quiet ≡ old.quiet
  pub notes : new.notes ≡ old.notes
  pub made : new.made ≡ old.made

-- a sheet but for its notes and its quiet epoch
pub record IsSameButNotes (old new : Sheet) : Type 0 where
  pub cells : new.cells ≡ old.cells
  pub epoch : new.epoch ≡ old.epoch
  pub starts : new.starts ≡ old.starts
  pub made : new.made ≡ old.made
  pub count : length new.notes ≡ length old.notes

-- where all notes are clear the present epoch is the quiet one, and else the quiet one is as it was
pub record QuietAfter (old new : Sheet) : Type 0 where
  pub clear : all_clear new.notes ≡ true → new.quiet ≡ old.epoch
  pub kept : all_clear new.notes ≡ false → new.quiet ≡ old.quiet
