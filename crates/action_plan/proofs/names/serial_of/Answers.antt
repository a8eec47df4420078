use Rattle.std.proofs.Common.{◌∙◌, sym, ap}
use Rattle.std.specs.Option.{option_copied}
use Rattle.action_plan.proofs.Named.{here_carried, not_here_carried}
use Rattle.action_plan.proofs.names.serial_of.Goals as goal

pub returns-in-Some : goal.returns-in-Some
returns-in-Some c =
    here_carried c.args.kind c.args.index c.number.result c.args.registry.now c.args.parts.now c.in-Some.entry.now c.number.ensures c.requires
    (sym (ap option_copied c.in-Some.is) ∙ c.find.ensures)

pub returns-in-None : goal.returns-in-None
returns-in-None c =
    c.serial_to_make.ensures ∙ not_here_carried c.args.kind c.args.index c.number.result c.args.registry.now c.args.parts.now c.number.ensures c.requires
    (sym (ap option_copied c.in-None.is) ∙ c.find.ensures)
