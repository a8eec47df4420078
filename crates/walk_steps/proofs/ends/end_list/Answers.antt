use Rattle.std.proofs.Common.{sym, ◌∙◌}
use Rattle.walk_steps.specs.Standings.{standing_of}
use Rattle.walk_steps.proofs.Drops.{ended_at}
use Rattle.walk_steps.proofs.ends.end_list.Goals as goal

pub returns-in-Shot-clause-goes : goal.returns-in-Shot-clause-goes
returns-in-Shot-clause-goes c =
    let course = c.args.course.now in
    rw c.in-Shot.is (sym (ended_at (standing_of course) course.heads.tables c.args.table _ c.requires.table))

pub returns-in-Unspec-clause-course : goal.returns-in-Unspec-clause-course
returns-in-Unspec-clause-course c = record {
  stop = c.first_stop-course.ensures.stop c.args.course.now.hit;
  fields = c.requires.course.fields;
  executed = c.requires.course.executed;
  visits = c.requires.course.visits;
}

pub returns-in-Reclassify-clause-goes : goal.returns-in-Reclassify-clause-goes
returns-in-Reclassify-clause-goes c =
    let course = c.args.course.now in
    rw c.in-Reclassify.is (c.restart.ensures.goes ∙ sym (ended_at (standing_of course) course.heads.tables c.args.table _ c.requires.table))

pub returns-in-Goto-clause-goes : goal.returns-in-Goto-clause-goes
returns-in-Goto-clause-goes c =
    let course = c.args.course.now in
    rw c.in-Goto.is (c.restart-in-Goto.ensures.goes ∙ sym (ended_at (standing_of course) course.heads.tables c.args.table _ c.requires.table))
