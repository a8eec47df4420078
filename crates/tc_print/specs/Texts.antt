-- A text that grows word by word.
use Rattle.std.specs.Prelude.{ℕ, ◌==◌, List, [], ◌∷◌, ◌++◌, length, if◌then◌else◌}

-- with a space behind, unless it is empty
abbrev pub spaced : List ℕ → List ℕ
spaced text = if length text == 0 then text else text ++ (32 ∷ [])

-- with one word more
abbrev pub onto : List ℕ → List ℕ → List ℕ
onto text word = spaced text ++ word
