use Rattle.std.proofs.Common.{arith}
use Rattle.walk_steps.proofs.Visited.{one_more}
use Rattle.walk_steps.proofs.steps.head_step.Goals as goal

pub returns-clause-course : goal.returns-clause-course
returns-clause-course g c =
    let count = one_more c.args.course.now.points c.push.new.self c.head-point.result c.push.ensures in
    let course = c.requires.course in
    record {
      stop = c.first_stop-course.ensures.stop c.args.course.now.hit;
      fields = course.fields;
      executed = omega arith;
      visits = omega arith;
    }
