-- The words of roots over a history: a root's word has the stamp and the first block of what it names (this
-- project's own).
use Rattle.std.specs.Prelude.{◌≡◌, ◌⊎◌, ℕ, ◌<◌, ◌≤◌, List, [], take, slice_get, Some}
use Rattle.store_history.specs.declared.history.Named.{Named}
use Rattle.store_history.specs.declared.history.Commit.{Commit}
use Rattle.store_history.specs.History.{root_of, first_block}

-- two roots have one word
pub record HaveOneWord (one other : Named) : Type 0 where
  pub stamp : one.stamp ≡ other.stamp
  pub first : first_block one.chain ≡ first_block other.chain

-- what a commit may put in the place of what its root named: a later stamp, or no chain and no earlier one
abbrev pub MayFollow : Named → Named → Type 0
MayFollow before now = (before.stamp < now.stamp) ⊎ ((before.stamp ≤ now.stamp) × (now.chain ≡ []))

-- EACH COMMIT OF THE HISTORY DOES
abbrev pub StampsRise : {E : Type 0} → List (Commit E) → Type 0
StampsRise {E} h = (n : ℕ) (c : Commit E) → slice_get h n ≡ Some c
    → MayFollow (root_of (take n h) c.root) c.named
