-- What an edit of actions adds to the commits and changes in pools and blocks (this project's own).
use Rattle.std.specs.Prelude.{◌≡◌, ℕ, ◌+◌, ◌<◌, List, [], ◌∷◌, ◌++◌, length, Some}
use Rattle.store_history.specs.declared.history.Commit.{Commit}
use Rattle.pin_store.specs.declared.shape.Shape.{Shape}
use Rattle.pin_store.specs.declared.view.Sheet.{Sheet}
use Rattle.pin_store.specs.Layout.{block_words}
use Rattle.filter_state.specs.declared.edit.Edit.{Edit}
use Rattle.store_history.specs.declared.places.TheConstants.{ACTION_SLOTS}
use Rattle.hook_law.specs.Places.{action_root}
use Rattle.desk_pools.specs.OfNumbers.Numbers.{PoolNumbers}
use Rattle.root_pool_laws.specs.Blocks.{HasBlock}

-- one commit more, to the root of a slot of actions, that carries the edit with this number
pub record AddsToSlot (h k : List (Commit Edit)) (number : ℕ) (y : Edit) : Type 0 where
  pub commit : Commit Edit
  pub slot : ℕ
  pub seen : k ≡ h ++ commit ∷ []
  pub root : commit.root ≡ action_root slot
  pub small : slot < ACTION_SLOTS
  pub carries : commit.edit ≡ Some (number, y)

-- so many numbers were taken out of a pool, and so many left
pub record IsCounted (old now : PoolNumbers) (taken leaving : ℕ) : Type 0 where
  pub free : length old.free ≡ length now.free + taken
  pub left : length now.left ≡ length old.left + leaving
  pub size : now.size ≡ old.size

-- what the roots named after these commits is written as it was
abbrev pub KeepsBlocks : Shape → List (Commit Edit) → Sheet → Sheet → Type 0
KeepsBlocks shape h old now = (root block : ℕ) → HasBlock h root block → block < shape.blocks
    → block_words shape now.cells block ≡ block_words shape old.cells block
