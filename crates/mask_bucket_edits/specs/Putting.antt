-- Blocks that come to have filters, in front of a chain that is kept (this project's own).
use Rattle.std.specs.Prelude.{◌≡◌, ℕ, ◌<◌, List, [], ◌∷◌, ◌++◌, map, slice_get, slice_index, Option, Some}
use Rattle.std.specs.Prelude.{None}
use Rattle.std.specs.Borrow.{Bor}
use Rattle.pin_store.specs.declared.shape.Shape.{Shape}
use Rattle.pin_store.specs.Layout.{block_words}
use Rattle.block_codec.specs.declared.filter.StoredFilter.{StoredFilter}
use Rattle.mask_table.specs.Buckets.{bucket_for, IsAmong}
use Rattle.mask_table.specs.declared.mirrors.mirror.Mirror.{Mirror}
use Rattle.mask_table.specs.OfMirrors.Kept.{HoldsChain}
use Rattle.mask_table.specs.OfMirrors.Lists.{kept_in}

-- the one filter, if there is one
abbrev pub listed : Option (Bor StoredFilter) → List StoredFilter
listed None = []
listed (Some filter) = filter.now ∷ []

-- what is to be kept of filters that all have one age
abbrev pub aged : ℕ → List StoredFilter → List (ℕ × Option StoredFilter)
aged age fs = map (λ f. (age, Some f)) fs

-- no number is in both lists
abbrev pub AreApart : List ℕ → List ℕ → Type 0
AreApart xs ys = (b : ℕ) → IsAmong b xs → IsAmong b ys → ⊥

-- all filters that are kept so are of that bucket of so many
abbrev pub AreOfBucket : ℕ → ℕ → List (ℕ × Option StoredFilter) → Type 0
AreOfBucket size bucket dated = (place age : ℕ) (filter : StoredFilter)
    → slice_get dated place ≡ Some (age, Some filter) → bucket_for size filter.key.words ≡ bucket

-- blocks were filled, and what is kept of them was written
pub record AreFilled (mirror mirror2 : Mirror) (shape : Shape) (old new blocks : List ℕ) : Type 0 where
  pub others : (other : ℕ) → (IsAmong other blocks → ⊥) → other < shape.blocks
      → block_words shape new other ≡ block_words shape old other
  pub slots : mirror2.slots.items ≡ mirror.slots.items
  pub first : mirror2.first.items ≡ mirror.first.items
  pub next : (c : ℕ) → (IsAmong c blocks → ⊥) → slice_index mirror2.next.items c
      ≡ slice_index mirror.next.items c
  pub kept : (c : ℕ) → (IsAmong c blocks → ⊥) → kept_in mirror2 c ≡ kept_in mirror c

-- blocks come to have these filters with these ages, each linked to the next, in front of the chain that
-- begins with a number; `start` is the number with which the longer chain begins
pub record ArePut (mirror mirror2 : Mirror) (shape : Shape) (old new blocks : List ℕ)
    (dated : List (ℕ × Option StoredFilter)) (number start : ℕ) : Type 0 where
  pub filled : AreFilled mirror mirror2 shape old new blocks
  pub have : map (kept_in mirror2) blocks ≡ dated
  pub chain : (size bucket : ℕ) (tail : List ℕ) → AreApart tail blocks → AreOfBucket size bucket dated
      → HoldsChain mirror shape old size bucket number tail
      → HoldsChain mirror2 shape new size bucket start (blocks ++ tail)
