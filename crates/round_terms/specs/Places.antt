-- Places in a batch file (this project's own).
use Rattle.std.specs.Prelude.{◌≡◌, ℕ, ◌+◌, ◌≤◌, List, [], ◌∷◌, length, drop, if◌then◌else◌}
use Rattle.tc_words.specs.Lines.{lines_of, words_of}
use Rattle.batch_run.specs.Commands.{Command, commands_from}
use Rattle.round_terms.specs.declared.place.Place.{Place}

-- the commands from a byte of a file on, before which so many lines stand
abbrev pub left_from : List ℕ → ℕ → ℕ → List Command
left_from bytes at before = commands_from (before + 1) (lines_of (drop at bytes))

-- the first of them, with what is left behind it
pub record IsFound (bytes : List ℕ) (at before : ℕ) (text : List ℕ) (line next : ℕ) : Type 0 where
  pub command : left_from bytes at before
      ≡ record { line = line; words = words_of text } ∷ left_from bytes next line
  pub within : next ≤ length bytes
  pub counted : line ≤ next

-- what a control at a place has still to apply: nothing behind a line at which its batch stops
abbrev pub left_at : List ℕ → Place → List Command
left_at bytes place = if place.over then [] else left_from bytes place.at place.line
