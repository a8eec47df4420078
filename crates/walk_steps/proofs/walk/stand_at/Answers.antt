use Rattle.walk_steps.proofs.Acts.{told_at_action}
use Rattle.walk_steps.proofs.walk.stand_at.Goals as goal

pub returns-in-AtAction : goal.returns-in-AtAction
returns-in-AtAction c =
    let old = c.args.course.now in
    let is = c.in-AtAction.is in
    let stop = rw is at c.requires.stop in
    rw is (told_at_action old.heads.tables old.hit c.actions.result.now c.in-AtAction.table c.at.result c.in-AtAction.run' stop.0
    c.at.ensures.same c.actions.ensures.same)
