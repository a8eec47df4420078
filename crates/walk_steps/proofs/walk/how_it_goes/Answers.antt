use Rattle.std.proofs.Common.{ap, length, arith}
use Rattle.walk_steps.proofs.Going.{is_going}
use Rattle.walk_steps.proofs.walk.how_it_goes.Goals as goal

pub returns-in_default : goal.returns-in_default
returns-in_default c =
    let same = ap length c.points.ensures.same in
    is_going c.args.course.now c.requires.stop c.in_default.not-Over (omega (arith, c.requires.visits, c.if-points-eq-VISITS_MAX.false))
