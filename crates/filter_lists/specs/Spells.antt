-- When nested lists spell a flat state.
use Rattle.filter_state.specs.States.{State}
use Rattle.filter_state.specs.Order.{SameState}
use Rattle.hook_lists.specs.declared.kept.Kept.{Kept}
use Rattle.hook_lists.specs.States.{state_of}

-- all that the lists keep is the state's, but for the order between rows of different masks
abbrev pub Spells : Kept → State → Type 0
Spells kept s = SameState (state_of kept) s
