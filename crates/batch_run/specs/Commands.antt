-- The commands of a batch file: its lines that have words, each with its number, from 1 and blank lines
-- counted (this project's own, after `tc -batch`).
use Rattle.std.specs.Prelude.{ℕ, ◌+◌, ◌-◌, ◌==◌, List, [], ◌∷◌, length, map, Option, Some, None}
use Rattle.std.specs.Prelude.{if◌then◌else◌}
use Rattle.std.specs.Borrow.{Bor}
use Rattle.tc_words.specs.Lines.{lines_of, words_of}

pub record Command : Type 0 where
  pub line : ℕ
  pub words : List (List ℕ)

abbrev pub commands_from : ℕ → List (List ℕ) → List Command
commands_from number [] = []
commands_from number (text ∷ texts) =
    if length (words_of text) == 0 then commands_from (number + 1) texts
    else record { line = number; words = words_of text } ∷ commands_from (number + 1) texts

abbrev pub commands_of : List ℕ → List Command
commands_of bytes = commands_from 1 (lines_of bytes)

-- the commands of lines that are lent
abbrev pub commands_in : List (Bor (List ℕ)) → List Command
commands_in texts = commands_from 1 (map (λ (text : Bor (List ℕ)). text.now) texts)

-- the line at which the commands pass so many, where they do
abbrev pub line_past : ℕ → List Command → Option ℕ
line_past many [] = None
line_past many (command ∷ commands) = if many == 0 then Some command.line else line_past (many - 1) commands
