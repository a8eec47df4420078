-- The lines of a batch file, and the words of a line. The rules are this project's own, after the files that
-- `tc -batch` reads.
use Rattle.std.specs.Prelude.{ℕ, Bool, not, ◌||◌, ◌==◌, List, [], ◌∷◌, length, map, filter, take, drop}
use Rattle.std.specs.Prelude.{position, ◌+◌, Option, if◌then◌else◌}
use Rattle.std.specs.List.{slice_split}
use Rattle.std.specs.Option.{option_map, option_map_or}
use Rattle.std.specs.Str.Lines.{strip_carriage_return}

-- an empty last part is no line, since a line feed ends a line and begins none
abbrev pub without_last_empty : List (List ℕ) → List (List ℕ)
without_last_empty [] = []
without_last_empty (part ∷ []) = if length part == 0 then [] else part ∷ []
without_last_empty (part ∷ next ∷ more) = part ∷ without_last_empty (next ∷ more)

-- the lines of a file: the parts between line feeds (0x0A), each without the one carriage return (0x0D) at
-- its end
unfoldable pub lines_of : List ℕ → List (List ℕ)
lines_of bytes = map strip_carriage_return (without_last_empty (slice_split (λ b. b == 0x0a) bytes))

-- a space or a tab, and no other byte, parts words
abbrev pub is_blank : ℕ → Bool
is_blank b = b == 0x20 || b == 0x09

-- a blank ends a word, and so does a number sign `#`, at which the comment begins
abbrev pub ends_word : ℕ → Bool
ends_word b = is_blank b || b == 0x23

-- a line up to its first number sign `#`
abbrev pub uncommented : List ℕ → List ℕ
uncommented line = option_map_or (λ end. take end line) (position (λ b. b == 0x23) line) line

-- the parts of a text between blanks that are not empty
unfoldable pub parts_between_blanks : List ℕ → List (List ℕ)
parts_between_blanks text = filter (λ part. not (length part == 0)) (slice_split is_blank text)

-- the words of a line: the parts between blanks that are not empty, up to the comment
unfoldable pub words_of : List ℕ → List (List ℕ)
words_of line = parts_between_blanks (uncommented line)

-- a text cut at the first such byte: what stands before it, and what behind it
abbrev pub cut_once : ℕ → List ℕ → Option (List ℕ × List ℕ)
cut_once byte text = option_map (λ at. (take at text, drop (at + 1) text)) (position (λ b. b == byte) text)
