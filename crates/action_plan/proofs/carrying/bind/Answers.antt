use Rattle.std.proofs.Common.{sym, ◌∙◌}
use Rattle.action_plan.proofs.Carried.{bind_room, bind_found, bound_actions}
use Rattle.action_plan.proofs.carrying.bind.Goals as goal

pub bind-requires : goal.bind-requires
bind-requires c = bind_room c.number.result c.args.index c.args.registry.now.entries c.requires.references

pub unreachable-requires : goal.unreachable-requires
unreachable-requires c =
    bind_found c.args.kind c.args.index c.number.result c.args.registry.now.entries c.in-Err.field-0 c.number.ensures c.requires.there (sym c.in-Err.is ∙ c.bind.ensures.serial)

pub returns-clause-actions : goal.returns-clause-actions
returns-clause-actions c =
    bound_actions c.args.kind c.args.index c.number.result c.args.registry.now.entries c.bind.new.self.entries c.number.ensures c.in-Ok.ensures.entries
