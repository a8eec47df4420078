use Rattle.std.proofs.Common.{None, take}
use Rattle.slot_pasts.specs.Pasts.{stood}
use Rattle.slot_pasts.specs.Names.{past_of}
use Rattle.state_past.specs.Brought.{Brought}
use Rattle.state_past.specs.Told.{slots_of}
use Rattle.state_past.proofs.slots.take_slots.Given as goal

abbrev pub invariant-loop-filter : goal.invariant-loop-filter
invariant-loop-filter l = Brought l.from stood (λ name. None) (slots_of (take l.filter-index l.going)) (past_of l.fn.slots) (past_of l.slots)
