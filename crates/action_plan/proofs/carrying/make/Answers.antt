use Rattle.action_plan.proofs.Carried.{make_room}
use Rattle.action_plan.proofs.carrying.make.Goals as goal

pub unreachable-requires : goal.unreachable-requires
unreachable-requires c =
    make_room c.args.params c.args.index c.args.registry.now c.in-Err.field-0 c.requires.new c.requires.room c.requires.few c.requires.in_run c.in-Err.ensures.refusal
