-- Numbers under masks. The numbers are the words of a key, or the values of its fields.
use Rattle.std.specs.Prelude.{ℕ, Bool, List, [], ◌∷◌, bit_and}
use Rattle.std.specs.Str.{bytes_eq}

-- each number AND the mask at its place
abbrev pub each_and : List ℕ → List ℕ → List ℕ
each_and (x ∷ xs) (m ∷ ms) = bit_and x m ∷ each_and xs ms
each_and [] ms = []
each_and (x ∷ xs) [] = []

-- a frame's words under the mask are the key's, as a test (`bytes_eq` compares any two lists of numbers)
abbrev pub is_match : List ℕ → List ℕ → List ℕ → Bool
is_match frame mask key = bytes_eq (each_and frame mask) key
