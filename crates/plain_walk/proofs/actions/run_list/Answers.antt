use Rattle.std.proofs.Common.{◌≡◌, ◌∙◌, get_or, sym, ap}
use Rattle.act_list.specs.Run.{Run, on, over}
use Rattle.act_list.specs.Run as runs
use Rattle.walk_steps.proofs.Acts.{goes_on, has_ended}
use Rattle.plain_walk.proofs.Turns.{ran_to}
use Rattle.plain_walk.proofs.actions.run_list.Goals as goal

pub returns-in-Ended-clause-ran : goal.returns-in-Ended-clause-ran
returns-in-Ended-clause-ran c = λ s spelled.
    c.loop-course.invariant.leads s spelled
    ∙ ran_to s c.args.serials.now c.args.came.now c.loop-course.course c.run_action-control.new.course c.loop-course.run _ c.run_action-control.result (over c.in-Ended.ending)
    c.run_action-control.ensures.left (ap (λ n. get_or c.args.serials.now n 0) c.at.ensures.same) (c.run_action-control.ensures.ran s spelled) c.loop-course.invariant.whole
    (has_ended c.in-Ended.ending _ (sym c.in-Ended.is ∙ c.next.ensures.told))

pub loop-course-preserved : goal.loop-course-preserved
loop-course-preserved c =
    let run = c.loop-course.run in
    let invariant = c.loop-course.invariant in
    let stands = goes_on run c.next.new.self c.in_default.field-0 _ (sym c.in_default.is ∙ c.next.ensures.told) c.next.ensures.moved in
    let moved : c.next.new.self ≡ runs.moved run (on c.next.new.self.at c.next.new.self.jumps) = c.next.ensures.moved ∙ ap (runs.moved run) stands in
    record {
      course = c.run_action-control.ensures.course;
      going = ap (λ (r : Run). r.ended) moved ∙ invariant.going;
      whole = ap (λ (r : Run). r.length) moved ∙ invariant.whole;
      leads = λ s spelled.
          invariant.leads s spelled
          ∙ ran_to s c.args.serials.now c.args.came.now c.loop-course.course c.run_action-control.new.course run _ c.run_action-control.result _
          c.run_action-control.ensures.left (ap (λ n. get_or c.args.serials.now n 0) c.at.ensures.same) (c.run_action-control.ensures.ran s spelled) invariant.whole stands;
    }
