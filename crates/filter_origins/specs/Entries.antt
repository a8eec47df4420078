-- The accepted edits of a run, with where each was read (this project's own).
use Rattle.std.specs.Prelude.{ℕ, zero, suc, List, [], ◌∷◌, map, slice_get, Option, None, option_map}
use Rattle.filter_state.specs.declared.edit.Edit.{Edit}
use Rattle.edit_lines.specs.declared.line.Line.{Line}
use Rattle.edit_lines.specs.declared.line.LinePlace.{LinePlace}

-- an accepted edit: the control that applied it, the line of that control's batch, and the edit
pub record Entry : Type 0 where
  pub control : ℕ
  pub line : ℕ
  pub edit : Edit

-- the journal that they are
abbrev pub edits_of : List Entry → List Edit
edits_of entries = map (λ (entry : Entry). entry.edit) entries

-- the entries of a journal, each edit with its place
abbrev pub entry_at : LinePlace → Edit → Entry
entry_at place edit = record { control = place.control; line = place.line; edit = edit }

abbrev pub entries_of : List LinePlace → List Edit → List Entry
entries_of [] edits = []
entries_of (place ∷ places) [] = []
entries_of (place ∷ places) (edit ∷ edits) = entry_at place edit ∷ entries_of places edits

-- ---- lines
abbrev pub line_of : ℕ → Entry → Line
line_of number entry = record { edit = number; control = entry.control; line = entry.line }

-- THE LINE OF AN EDIT, by its number from 1
abbrev pub line_at : List Entry → ℕ → Option Line
line_at entries zero = None
line_at entries (suc place) = option_map (line_of (suc place)) (slice_get entries place)
