use Rattle.walk_steps.proofs.ends.restart.Goals as goal

pub returns-clause-course : goal.returns-clause-course
returns-clause-course c = record {
  stop = c.first_stop-course.ensures.stop c.args.course.now.hit;
  fields = c.requires.course.fields;
  executed = c.requires.course.executed;
  visits = c.requires.course.visits;
}
