use Rattle.std.proofs.Common.{◌+◌, ◌-◌, ◌≤◌, Some}
use Rattle.slot_pasts.specs.Pasts.{stood}
use Rattle.slot_pasts.specs.Serials.{past_at}
use Rattle.state_past.specs.Serials.{serials_from}
use Rattle.state_past.specs.Brought.{Brought as AreBrought}
use Rattle.filter_origins.proofs.actions.put_made.Given as goal

abbrev pub invariant-loop-serial : goal.invariant-loop-serial
invariant-loop-serial l = record {
  least : l.made ≤ l.serial;
  most : l.serial - l.made ≤ l.last - l.made;
  brought : AreBrought l.by.edit stood (λ serial. Some l.by) (serials_from (l.made + 1) (l.serial - l.made)) (past_at l.fn.actions) (past_at l.actions);
}

abbrev pub decreases-loop-serial : goal.decreases-loop-serial
decreases-loop-serial l = l.last - l.serial
