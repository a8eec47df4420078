-- The first block of a chain (this project's own).
use Rattle.std.specs.Prelude.{ℕ, List, [], ◌∷◌, Option, Some, None}
use Rattle.store_history.specs.declared.history.Link.{Link}

abbrev pub first_words : List Link → Option (List ℕ)
first_words [] = None
first_words (link ∷ links) = Some link.words
