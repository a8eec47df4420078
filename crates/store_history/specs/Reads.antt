-- What the blocks of a chain read as, where something reads each (this project's own).
use Rattle.std.specs.Prelude.{ℕ, List, [], ◌∷◌, Option, Some, None}
use Rattle.store_history.specs.declared.history.Link.{Link}

-- one thing more in front, where both are there
abbrev pub in_front : {A : Type 0} → Option A → Option (List A) → Option (List A)
in_front (Some x) (Some xs) = Some (x ∷ xs)
in_front (Some x) None = None
in_front None xs = None

-- all blocks, if each reads as something
abbrev pub read_all : {A : Type 0} → (List ℕ → Option A) → List Link → Option (List A)
read_all read [] = Some []
read_all read (l ∷ ls) = in_front (read l.words) (read_all read ls)

-- the first block
abbrev pub read_first : {A : Type 0} → (List ℕ → Option A) → List Link → Option A
read_first read [] = None
read_first read (l ∷ ls) = read l.words
