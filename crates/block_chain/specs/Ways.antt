-- Where a reader stands on its way along a chain (this project's own).
use Rattle.std.specs.Prelude.{◌≡◌, ℕ, ◌<◌, ◌≤◌, length, drop}
use Rattle.atomic_table.specs.declared.shared.Seat.{Seat}
use Rattle.store_history.specs.declared.history.Link.{Link}
use Rattle.store_history.specs.History.{root_of, first_number, IsNamed, IsLinked}
use Rattle.pin_store.specs.declared.shape.Shape.{Shape}
use Rattle.pin_store.specs.declared.view.View.{View}
use Rattle.pin_store.specs.Layout.{IsInShape}
use Rattle.pin_store.specs.Calls.{seen_by, floor_start}

-- the words of a block
abbrev pub block_words : ℕ
block_words = 40

-- the store has such blocks, and that root
abbrev pub HasRoot : Shape → ℕ → Type 0
HasRoot shape root = (shape.words ≡ block_words) × (root < shape.roots)

-- before the block at a place of what a root names, at the end of what the reader has seen; `next` is that
-- block's number plus 1, or 0 where the chain is over
pub record IsBefore {E : Type 0} (shape : Shape) (p : Seat (Unit {0}) (View E))
    (root place next : ℕ) : Type 0 where
  pub next_is : next ≡ first_number (drop place (root_of (seen_by p) root).chain)
  pub inside : place ≤ length (root_of (seen_by p) root).chain
  pub linked : IsLinked block_words (root_of (seen_by p) root).chain
  pub sized : (l : Link) → IsNamed (floor_start p) (seen_by p) l → IsInShape shape l
  pub recent : floor_start p ≤ length (seen_by p)
