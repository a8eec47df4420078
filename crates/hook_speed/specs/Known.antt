-- What a reader of a hook knows of a walk (this project's own).
use Rattle.std.specs.Prelude.{ℕ}
use Rattle.filter_state.specs.Sound.{Each}
use Rattle.visit_room.specs.declared.names.MaskName.{MaskName}
use Rattle.walk_steps.specs.Told.{MasksKnown}
use Rattle.walk_steps.specs.Walking.{Walking}
use Rattle.hook_reader.specs.Seats.{HookSeat}
use Rattle.hook_reader.specs.Known.{KnowsMask, KnowsAction}

-- all that the walk was told and may still ask for
abbrev pub Knows : HookSeat → Walking → Type 0
Knows reader walk = MasksKnown (λ (table : ℕ) (mask : MaskName). KnowsMask reader mask) walk.heads
    × Each (KnowsAction reader) walk.actions
