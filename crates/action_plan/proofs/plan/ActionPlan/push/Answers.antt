use Rattle.std.proofs.Common.{arith, sym, ◌∙◌, ap, length}
use Rattle.action_plan.proofs.Counts.{few_made, made_then, unmade_then, one_longer_plan}
use Rattle.action_plan.proofs.plan.ActionPlan.push.Goals as goal

pub overflow_add-self : goal.overflow_add-self
overflow_add-self c = omega (arith, c.self.invariant.0, c.self.invariant.1, few_made c.self.inside.parts.items)

pub invariant_of-self : goal.invariant_of-self
invariant_of-self c = (
  made_then c.self.inside.parts.items c.push.new.self.items c.args.part c.self.inside.made c.push.ensures.items c.self.invariant.0 (sym c.is_some.ensures ∙ c.if-is_some.true),
  one_longer_plan c.self.inside.parts.items c.push.new.self.items c.args.part _ c.push.ensures.items (ap length c.self.view_is) c.requires.few,
)

pub invariant_of-self-else-is_some : goal.invariant_of-self-else-is_some
invariant_of-self-else-is_some c = (
  unmade_then c.self.inside.parts.items c.push.new.self.items c.args.part c.self.inside.made c.push.ensures.items c.self.invariant.0 (sym c.is_some.ensures ∙ c.if-is_some.false),
  one_longer_plan c.self.inside.parts.items c.push.new.self.items c.args.part _ c.push.ensures.items (ap length c.self.view_is) c.requires.few,
)
