-- The commands of a file from a place on, line by line.
use Rattle.std.proofs.Common.{◌≡◌, ◌∙◌, ℕ, ◌+◌, ◌==◌, Bool, true, false, List, [], ◌∷◌, length, drop, ap}
use Rattle.std.specs.Prelude.{if◌then◌else◌}
use Rattle.tc_words.specs.Lines.{lines_of, words_of}
use Rattle.batch_run.specs.Commands.{Command, commands_from}
use Rattle.round_terms.specs.Places.{left_from}

-- what is left where the first line has words, or has none
abbrev first_of : List ℕ → ℕ → List Command → Bool → List Command
first_of text line more blank = if blank then more else record { line = line; words = words_of text } ∷ more

pub past_blank : (bytes text : List ℕ) (at next line : ℕ) → lines_of (drop at bytes) ≡ text ∷ lines_of (drop next bytes) → (length (words_of text) == 0) ≡ true → left_from bytes at line ≡ left_from bytes next (line + 1)
past_blank bytes text at next line e blank = ap (commands_from (line + 1)) e ∙ ap (first_of text (line + 1) (left_from bytes next (line + 1))) blank

pub at_command : (bytes text : List ℕ) (at next line : ℕ) → lines_of (drop at bytes) ≡ text ∷ lines_of (drop next bytes) → (length (words_of text) == 0) ≡ false
    → left_from bytes at line ≡ record { line = line + 1; words = words_of text } ∷ left_from bytes next (line + 1)
at_command bytes text at next line e some = ap (commands_from (line + 1)) e ∙ ap (first_of text (line + 1) (left_from bytes next (line + 1))) some

pub no_command : (bytes : List ℕ) (at line : ℕ) → lines_of (drop at bytes) ≡ [] → left_from bytes at line ≡ []
no_command bytes at line e = ap (commands_from (line + 1)) e
