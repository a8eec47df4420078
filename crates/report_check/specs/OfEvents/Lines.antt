-- The command that an event's line names (this project's own).
use Rattle.std.specs.Prelude.{◌≡◌, ◌⊎◌, ℕ, ◌≤◌, Bool, List, [], Some}
use Rattle.lawful_runs.specs.declared.loaded.LoadedJob.{LoadedJob}
use Rattle.round_terms.specs.declared.place.Place.{Place}
use Rattle.round_terms.specs.Files.{files_of}
use Rattle.round_terms.specs.Turns.{IsLineFor, HasNoLine}
use Rattle.report_check.specs.declared.events.cursor.Cursor.{Cursor}
use Rattle.report_check.specs.declared.events.events.NamedLine.{NamedLine}
use Rattle.report_check.specs.OfEvents.Blanks.{control_in}
use Rattle.report_check.specs.OfEvents.Cursors.{IsNextLine, lines_left}

-- the next line names the control, whose next command this is
pub record IsNamed (loaded : LoadedJob) (bytes : List ℕ) (number : ℕ) (cursor : Cursor) (places : List Place)
    (named : NamedLine) : Type 0 where
  pub text : List ℕ
  pub is_next : IsNextLine bytes cursor text
  pub tells : control_in text ≡ Some named.control
  pub own : IsLineFor (files_of loaded number) places named.control named.next.text.now named.next.line
      named.next.next named.next.force

-- if the line names a control, that has no command left
abbrev pub TellsNone : LoadedJob → ℕ → List Place → List ℕ → Type 0
TellsNone loaded number places line = (control : ℕ) → 1 ≤ control → control_in line ≡ Some control
    → HasNoLine (files_of loaded number) places control

-- no line is left, or the next one names no control with a command left
abbrev pub NamesNone : LoadedJob → List ℕ → ℕ → Cursor → List Place → Type 0
NamesNone loaded bytes number cursor places = (lines_left bytes cursor ≡ [])
    ⊎ ((line : List ℕ) × IsNextLine bytes cursor line × TellsNone loaded number places line)

-- a control has a command left
abbrev pub SomeLeft : LoadedJob → ℕ → List Place → Type 0
SomeLeft loaded number places = (control : ℕ) × (text : List ℕ) × (line next : ℕ) × (force : Bool)
    × IsLineFor (files_of loaded number) places control text line next force

-- none has
abbrev pub NoLines : LoadedJob → ℕ → List Place → Type 0
NoLines loaded number places = (control : ℕ) → 1 ≤ control → control ≤ loaded.job.controls
    → HasNoLine (files_of loaded number) places control
