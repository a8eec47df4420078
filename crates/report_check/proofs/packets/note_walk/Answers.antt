use Rattle.std.proofs.Common.{subst}
use Rattle.walk_steps.specs.Told.{IsShortRun}
use Rattle.report_check.proofs.Ended.{executed_are}
use Rattle.report_check.proofs.packets.note_walk.Goals as goal

pub returns-clause-short : goal.returns-clause-short
returns-clause-short c = λ ended is.
    subst IsShortRun (executed_are c.executed.result.now c.args.room.now.walk.standing ended c.executed.ensures.same is) c.executed.ensures.short
