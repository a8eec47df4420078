-- Words that are spelled out.
use Rattle.std.specs.Prelude.{ℕ, Bool, false, ◌&&◌, ◌==◌, length, List, [], ◌∷◌}
use Rattle.std.specs.Str.{bytes_eq}

-- the words are these texts, one by one
abbrev pub words_are : List (List ℕ) → List (List ℕ) → Bool
words_are [] texts = length texts == 0
words_are (word ∷ words) [] = false
words_are (word ∷ words) (text ∷ texts) = bytes_eq word text && words_are words texts
