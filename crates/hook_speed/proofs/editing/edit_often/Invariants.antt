use Rattle.pin_store.specs.Calls.{IsSeatOf}
use Rattle.hook_speed.proofs.editing.edit_often.Given as goal

abbrev pub invariant-loop : goal.invariant-loop
invariant-loop l = IsSeatOf l.store l.desk.place
