use Rattle.std.proofs.Common.{◌≡◌, ◌≢◌, ℕ, ◌<◌, Some, slice_get}
use Rattle.visit_room.specs.declared.names.MaskName.{MaskName}
use Rattle.desk_heads.proofs.slots.find_slot.Given as goal

-- none of the names so far is the mask's
abbrev pub invariant-loop-name : goal.invariant-loop-name
invariant-loop-name l = (place : ℕ) (name : MaskName) → place < l.name-index → slice_get l.names place ≡ Some name → name.serial ≢ l.serial
