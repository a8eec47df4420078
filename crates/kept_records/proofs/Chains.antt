-- The first block of a chain, and what it reads as.
use Rattle.std.proofs.Common.{◌≡◌, ℕ, ◌≤◌, List, [], ◌∷◌, length, slice_get, Option, Some, None, refl, subst, arith}
use Rattle.atomic_table.specs.declared.shared.Seat.{Seat}
use Rattle.store_history.specs.declared.history.Link.{Link}
use Rattle.store_history.specs.History.{root_of, first_block, first_number, IsNamed, IsLinked}
use Rattle.store_history.specs.Reads.{read_first}
use Rattle.pin_store.specs.declared.shape.Shape.{Shape}
use Rattle.pin_store.specs.declared.view.View.{View}
use Rattle.pin_store.specs.Layout.{IsInShape}
use Rattle.pin_store.specs.Calls.{seen_by, floor_start}
use Rattle.block_chain.specs.Ways.{IsBefore}
use Rattle.kept_records.specs.Blocks.{first_words}

pub first_link : (chain : List Link) (block : ℕ) → first_block chain ≡ Some block → (l : Link) × (slice_get chain 0 ≡ Some l) × (l.block ≡ block) × (first_words chain ≡ Some l.words)
first_link [] block e = absurd (cc e)
first_link (l ∷ ls) block e = (l, refl, cc e, refl)

pub no_words : (chain : List Link) → first_block chain ≡ None → first_words chain ≡ None
no_words [] e = refl
no_words (l ∷ ls) e = absurd (cc e)

module _ {A : Type 0} (read : List ℕ → Option A) where
  pub read_words : (chain : List Link) (words : List ℕ) → first_words chain ≡ Some words → read_first read chain ≡ read words
  read_words [] words e = absurd (cc e)
  read_words (l ∷ ls) words e = let same : l.words ≡ words = cc e in λ t. read (same t)

  pub read_nothing : (chain : List Link) → first_words chain ≡ None → read_first read chain ≡ None
  read_nothing [] e = refl
  read_nothing (l ∷ ls) e = absurd (cc e)

-- before the first block of what a root names
module _ {E : Type 0} (shape : Shape) (p : Seat (Unit {0}) (View E)) (root next : ℕ) where
  pub at_start : next ≡ first_number (root_of (seen_by p) root).chain → shape.words ≡ 40 → IsLinked shape.words (root_of (seen_by p) root).chain → ((l : Link) → IsNamed (floor_start p) (seen_by p) l → IsInShape shape l)
      → floor_start p ≤ length (seen_by p) → IsBefore shape p root 0 next
  at_start next_is forty linked sized recent = record {
    next_is = next_is;
    inside = omega arith;
    linked = subst (λ (w : ℕ). IsLinked w (root_of (seen_by p) root).chain) forty linked;
    sized = sized;
    recent = recent;
  }
