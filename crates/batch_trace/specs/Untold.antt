-- A TEXT WITHOUT WHAT A TRACE TELLS BESIDE (this project's own): without the lines that begin with `at ` and
-- `decided `.
use Rattle.std.specs.Prelude.{ℕ, ◌==◌, ◌||◌, Bool, List, [], ◌∷◌, ◌++◌, take, codes, if◌then◌else◌}
use Rattle.std.specs.List.{flat_map, slice_split}
use Rattle.std.specs.Str.{bytes_eq}
use Rattle.tc_words.specs.Lines.{without_last_empty}

-- the lines of a text, each without the line feed that ends it
abbrev pub lines_in : List ℕ → List (List ℕ)
lines_in text = without_last_empty (slice_split (λ (b : ℕ). b == 10) text)

abbrev pub is_told : List ℕ → Bool
is_told line = bytes_eq (take 3 line) (codes "at ") || bytes_eq (take 8 line) (codes "decided ")

-- a line with its line feed, unless it is told beside
abbrev pub untold_line : List ℕ → List ℕ
untold_line line = if is_told line then [] else line ++ (10 ∷ [])

abbrev pub without_told : List ℕ → List ℕ
without_told text = flat_map untold_line (lines_in text)
