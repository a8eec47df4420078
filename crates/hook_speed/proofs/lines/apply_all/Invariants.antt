use Rattle.pin_store.specs.Calls.{IsSeatOf}
use Rattle.hook_speed.proofs.lines.apply_all.Given as goal

abbrev pub invariant-loop-line : goal.invariant-loop-line
invariant-loop-line l = IsSeatOf l.store l.desk.place
