-- The commits of a store, and what its roots name after them (this project's own).
use Rattle.std.specs.Prelude.{◌≡◌, ℕ, ◌+◌, ◌-◌, ◌*◌, ◌^◌, ◌≤◌, ◌==◌, List, [], ◌∷◌, length, take, slice_get}
use Rattle.std.specs.Prelude.{slice_index, Option, Some, None, if◌then◌else◌, filter_map, option_map}
use Rattle.store_history.specs.declared.history.Link.{Link}
use Rattle.store_history.specs.declared.history.Commit.{Commit}
use Rattle.store_history.specs.declared.history.Named.{Named}

-- what a root names before any commit: no block, with the stamp 0
abbrev pub empty_named : Named
empty_named = record { chain = []; stamp = 0 }

module _ {E : Type 0} where
  -- what a root names after these commits, where it named this before them
  abbrev pub named_after : ℕ → Named → List (Commit E) → Named
  named_after root before [] = before
  named_after root before (c ∷ cs) = named_after root (if c.root == root then c.named else before) cs

  -- what a root names at the end of a history; after its first n commits it is `root_of (take n h) root`
  abbrev pub root_of : List (Commit E) → ℕ → Named
  root_of h root = named_after root empty_named h

  -- the edits that the numbered commits carry, in order
  abbrev pub edits_of : List (Commit E) → List E
  edits_of h = filter_map (λ c. option_map (λ (numbered : ℕ × E). numbered.1) c.edit) h

  -- after some number of commits, b or more, some root names a chain that has this block with these words
  pub record IsNamed (b : ℕ) (h : List (Commit E)) (l : Link) : Type 0 where
    pub after : ℕ
    pub root : ℕ
    pub place : ℕ
    pub late : b ≤ after
    pub made : after ≤ length h
    pub there : slice_get (root_of (take after h) root).chain place ≡ Some l

-- how a link is stored: the first block's number plus 1, or 0 where there is no block
abbrev pub first_number : List Link → ℕ
first_number [] = 0
first_number (l ∷ ls) = l.block + 1

-- the first block's number
abbrev pub first_block : List Link → Option ℕ
first_block [] = None
first_block (l ∷ ls) = Some l.block

-- the word of a root: the first block's number plus 1, or 0, in the low half, and the stamp in the high half
abbrev pub word_of : Named → ℕ
word_of n = first_number n.chain + n.stamp * 2 ^ 32

-- the last of a block's words is the next block's number plus 1, and 0 in the last block of the chain
abbrev pub IsLinked : ℕ → List Link → Type 0
IsLinked words [] = Unit {0}
IsLinked words (l ∷ []) = slice_index l.words (words - 1) ≡ 0
IsLinked words (l ∷ m ∷ ls) = (slice_index l.words (words - 1) ≡ m.block + 1) × IsLinked words (m ∷ ls)

-- the edit of a commit with this number, or with none
abbrev pub numbered_edit : {E : Type 0} → Option ℕ → E → Option (ℕ × E)
numbered_edit None edit = None
numbered_edit (Some number) edit = Some (number, edit)
