use Rattle.std.proofs.Common.{sym, ◌∙◌, subst}
use Rattle.action_plan.specs.Plans.{made_of, carried, AreFit}
use Rattle.action_plan.proofs.Planning.{fit_more, planned_fits}
use Rattle.action_plan.proofs.plan.ActionPlan.add.Goals as goal

pub returns-clause-fit : goal.returns-clause-fit
returns-clause-fit c =
    let m = made_of c.args.registry.now in
    let p = c.in_ok-part.part in
    subst (AreFit m) (sym c.push.ensures)
    (fit_more m c.args.self.now p c.requires.fit
    (planned_fits (carried m c.args.self.now) c.args.line.now p c.requires.line (sym c.next.ensures ∙ c.in_ok-part.was)))
