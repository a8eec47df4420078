use Rattle.std.proofs.Common.{◌≡◌, ℕ, ◌<◌, Some, slice_get}
use Rattle.block_codec.specs.declared.table.StoredTable.{StoredTable}
use Rattle.desk_heads.specs.OfHeadCommits.Built.{IsBuilt}
use Rattle.desk_heads.proofs.slots.search_slot.Given as goal

-- none of the tables so far has the mask
abbrev pub invariant-loop-place : goal.invariant-loop-place
invariant-loop-place l = (place : ℕ) (table : StoredTable) → place < l.place → slice_get l.tables place ≡ Some table → (slot : ℕ) → IsBuilt table.masks l.serial slot → ⊥
