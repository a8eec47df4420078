-- Where the words of a store stand, and what they say (this project's own). The words of the blocks come
-- first, one block behind the other, then a word for each root, the epoch, and a pin for each reader.
use Rattle.std.specs.Prelude.{◌≡◌, ℕ, zero, suc, ◌+◌, ◌*◌, ◌<◌, List, [], ◌∷◌, ◌++◌, length, map, take, drop}
use Rattle.std.specs.Prelude.{Option, Some, None}
use Rattle.store_history.specs.declared.history.Link.{Link}
use Rattle.store_history.specs.declared.history.Commit.{Commit}
use Rattle.store_history.specs.History.{numbered_edit}
use Rattle.pin_store.specs.declared.shape.Shape.{Shape}

-- how many words the blocks have; word i of block b is word b * words + i of the store, and root r is word
-- cell_count + r
abbrev pub cell_count : Shape → ℕ
cell_count s = s.blocks * s.words

abbrev pub epoch_at : Shape → ℕ
epoch_at s = cell_count s + s.roots

-- where the pin of the reader with the number i + 1 stands
abbrev pub pin_at : Shape → ℕ → ℕ
pin_at s i = epoch_at s + 1 + i

abbrev pub word_count : Shape → ℕ
word_count s = cell_count s + s.roots + 1 + s.readers

-- the words of a block, out of those of all blocks
abbrev pub block_words : Shape → List ℕ → ℕ → List ℕ
block_words shape cells block = take shape.words (drop (block * shape.words) cells)

-- the chain of these blocks, with the words that they have
abbrev pub links_of : Shape → List ℕ → List ℕ → List Link
links_of shape cells blocks = map (λ b. record { block = b; words = block_words shape cells b }) blocks

-- the commit by which the root names the chain of these blocks, with the words that they have
abbrev pub commit_of : {E : Type 0} → Shape → List ℕ → ℕ → List ℕ → ℕ → Option ℕ → E → Commit E
commit_of shape cells root blocks stamp number edit = record {
  root = root;
  named = record { chain = links_of shape cells blocks; stamp = stamp };
  edit = numbered_edit number edit;
}

-- the block lies in the store, and all its words are told
abbrev pub IsInShape : Shape → Link → Type 0
IsInShape shape l = (l.block < shape.blocks) × (length l.words ≡ shape.words)

-- how a chain of these blocks is linked to: the first one's number plus 1, or 0
abbrev pub first_of : List ℕ → ℕ
first_of [] = 0
first_of (b ∷ bs) = b + 1

-- the block that such a number links to
abbrev pub block_in : ℕ → Option ℕ
block_in zero = None
block_in (suc b) = Some b

-- 1, 2, 3 and so on, up to n
abbrev pub numbers_to : ℕ → List ℕ
numbers_to zero = []
numbers_to (suc n) = numbers_to n ++ suc n ∷ []
