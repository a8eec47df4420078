use Rattle.std.proofs.Common.{◌-◌, ◌^◌, ◌<◌, Some}
use Rattle.slot_pasts.specs.Next.{IsSteady}
use Rattle.state_past.specs.Found.{found_at}
use Rattle.state_past.proofs.past.StatePast.other_found_after.Given as goal

-- nothing else is found so far
abbrev pub invariant-loop-next : goal.invariant-loop-next
invariant-loop-next l = record {
  behind : l.point < l.next;
  steady : IsSteady (found_at l.self l.mask l.key.words) l.point (Some l.next);
}

abbrev pub decreases-loop-next : goal.decreases-loop-next
decreases-loop-next l = 2 ^ 32 - l.next
