use Rattle.std.proofs.Common.{arith, ◌∙◌, ap}
use Rattle.action_plan.specs.Plans.{made_of, made_by}
use Rattle.action_plan.proofs.Counts.{few_made}
use Rattle.action_plan.proofs.Planning.{made_planned}
use Rattle.action_plan.proofs.plan.ActionPlan.make.Goals as goal

pub next_serial-requires : goal.next_serial-requires
next_serial-requires c = record { few = omega (arith, c.self.invariant.0, c.self.invariant.1, few_made c.self.inside.parts.items) }

pub returns : goal.returns
returns c =
    made_planned (made_of c.args.registry.now) c.args.self.now c.args.kind c.args.index c.next_serial.result c.self.inside.made c.args.params c.in-Some.params
    c.in-Some.is c.next_serial.ensures (c.self.invariant.0 ∙ ap made_by c.self.view_is)
