use Rattle.std.proofs.Common.{◌≡◌, ℕ, ◌-◌, ◌+◌, length}
use Rattle.slot_pasts.specs.Serials.{past_at}
use Rattle.slot_pasts.proofs.serials.SerialPasts.make_room.Given as goal

abbrev pub invariant-loop-self : goal.invariant-loop-self
invariant-loop-self g l = (other : ℕ) → past_at l.self-inside.pasts.items other ≡ past_at l.fn.self other

abbrev pub decreases-loop-self : goal.decreases-loop-self
decreases-loop-self g l = l.serial + 1 - length l.self-inside.pasts.items
