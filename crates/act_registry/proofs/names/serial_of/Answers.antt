use Rattle.std.proofs.Common.{arith}
use Rattle.std.proofs.lemmas.Grind.{common_steps}
use Rattle.act_registry.proofs.Order.{no-count}
use Rattle.act_registry.proofs.names.serial_of.Goals as goal

pub returns-in_default-clause-none : goal.returns-in_default-clause-none
returns-in_default-clause-none c = no-count _ _ _ c.place_for.result c.requires c.place_for.ensures (λ within d. grind (arith, common_steps))

pub returns-in_default-2-clause-none : goal.returns-in_default-2-clause-none
returns-in_default-2-clause-none c = no-count _ _ _ c.place_for.result c.requires c.place_for.ensures (λ within d. grind (arith, common_steps))

pub returns-in_default-3-clause-none : goal.returns-in_default-3-clause-none
returns-in_default-3-clause-none c = no-count _ _ _ c.place_for.result c.requires c.place_for.ensures (λ within d. grind (arith, common_steps))
