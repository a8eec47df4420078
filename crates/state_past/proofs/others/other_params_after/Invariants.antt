use Rattle.std.proofs.Common.{◌-◌, ◌^◌, ◌<◌, Some}
use Rattle.slot_pasts.specs.Pasts.{value_at, stood}
use Rattle.slot_pasts.specs.Serials.{past_at}
use Rattle.slot_pasts.specs.Next.{IsSteady}
use Rattle.state_past.proofs.others.other_params_after.Given as goal

-- no other parameters so far
abbrev pub invariant-loop-next : goal.invariant-loop-next
invariant-loop-next l = record {
  behind : l.point < l.next;
  steady : IsSteady (λ at. stood (value_at at (past_at l.actions l.serial))) l.point (Some l.next);
}

abbrev pub decreases-loop-next : goal.decreases-loop-next
decreases-loop-next l = 2 ^ 32 - l.next
