-- The names of actions and masks in a word, and the limits of their numbers (this project's own).
use Rattle.act_registry.specs.declared.limits.TheConstants.{MADE_MAX}
use Rattle.store_history.specs.declared.places.TheConstants.{ACTION_SLOTS, MASK_SLOTS}
use Rattle.std.specs.Prelude.{ℕ, ◌%◌, ◌/◌, ◌^◌, ◌<◌, ◌≤◌}
use Rattle.visit_room.specs.declared.names.ActionName.{ActionName}
use Rattle.visit_room.specs.declared.names.MaskName.{MaskName}
use Rattle.block_codec.specs.Blocks.{both}

abbrev pub action_word : ActionName → ℕ
action_word name = both name.serial name.slot

-- the action that a word names
abbrev pub action_in : ℕ → ActionName
action_in word = record { serial = word % 2 ^ 32; slot = word / 2 ^ 32 }

-- the actions that a run makes are counted from 1, and a place has one at a time
pub record IsActionName (name : ActionName) : Type 0 where
  pub serial : (1 ≤ name.serial) × (name.serial ≤ MADE_MAX)
  pub slot : name.slot < ACTION_SLOTS

abbrev pub mask_word : MaskName → ℕ
mask_word name = both name.serial name.slot

-- the mask that a word names
abbrev pub mask_in : ℕ → MaskName
mask_in word = record { serial = word % 2 ^ 32; slot = word / 2 ^ 32 }

-- a place has one mask at a time; serials have 32 bits
pub record IsMaskName (name : MaskName) : Type 0 where
  pub serial : name.serial < 2 ^ 32
  pub slot : name.slot < MASK_SLOTS
