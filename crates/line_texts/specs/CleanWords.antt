-- Words that a line may be made of.
use Rattle.std.specs.Prelude.{ℕ, Bool, not, ◌&&◌, ◌==◌, List, length}
use Rattle.std.specs.List.{list_all}
use Rattle.tc_words.specs.Lines.{is_blank}

-- a byte that parts no words and begins no comment
abbrev pub is_plain : ℕ → Bool
is_plain b = not (is_blank b) && not (b == 35)

-- this project's own: a word that stands in a line as it is
abbrev pub is_clean : List ℕ → Bool
is_clean word = not (length word == 0) && list_all is_plain word
