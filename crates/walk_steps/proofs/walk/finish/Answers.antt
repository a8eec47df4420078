use Rattle.std.proofs.Common.{◌∙◌, sym}
use Rattle.walk_steps.proofs.Running.{leads_further, leads_to_end}
use Rattle.walk_steps.proofs.walk.finish.Goals as goal

pub loop-course-preserved : goal.loop-course-preserved
loop-course-preserved g c = record {
  course = c.step.ensures.course;
  known = c.step.ensures.known;
  leads = leads_further g.V.Visits.told c.args.visits.now c.loop-course.visits c.step.new.visits c.args.course.now c.loop-course.course c.step.new.course
      c.loop-course.invariant.leads c.step.ensures.step;
}

pub returns-clause-walk : goal.returns-clause-walk
returns-clause-walk g c =
    leads_to_end g.V.Visits.told c.args.visits.now c.loop-course.visits c.args.course.now c.loop-course.course c.loop-course.invariant.leads
    c.loop-course.invariant.course (λ going. c.in_default.not-Going (c.how_it_goes.ensures ∙ sym going))
