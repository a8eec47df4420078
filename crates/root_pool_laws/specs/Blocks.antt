-- Blocks that may be given, and those that left (this project's own).
use Rattle.std.specs.Prelude.{◌≡◌, ℕ, ◌⊎◌, List, slice_get, Some}
use Rattle.store_history.specs.declared.history.Link.{Link}
use Rattle.store_history.specs.declared.history.Named.{Named}
use Rattle.store_history.specs.declared.history.Commit.{Commit}
use Rattle.store_history.specs.History.{root_of}
use Rattle.hook_law.specs.Standing.{IsIn}

-- the block is in the chain
abbrev pub IsBlockOf : ℕ → List Link → Type 0
IsBlockOf block chain = (place : ℕ) × (l : Link) × (slice_get chain place ≡ Some l) × (l.block ≡ block)

module _ {E : Type 0} where
  -- what the root names has the block
  abbrev pub HasBlock : List (Commit E) → ℕ → ℕ → Type 0
  HasBlock h root block = IsBlockOf block (root_of h root).chain

  -- no block is in what two roots name
  abbrev pub HaveOneRoot : List (Commit E) → Type 0
  HaveOneRoot h = (r s block : ℕ) → HasBlock h r block → HasBlock h s block → r ≡ s

  -- a block that left: only roots that are gone have it
  abbrev pub IsLeft : List ℕ → List (Commit E) → ℕ → Type 0
  IsLeft gone h block = (r : ℕ) → HasBlock h r block → IsIn r gone

  -- each block of the commit's chain is one of those given to it, or its root has it already
  abbrev pub Spends : List (Commit E) → Commit E → List ℕ → Type 0
  Spends h c given = (place : ℕ) (l : Link) → slice_get c.named.chain place ≡ Some l
      → IsIn l.block given ⊎ HasBlock h c.root l.block
