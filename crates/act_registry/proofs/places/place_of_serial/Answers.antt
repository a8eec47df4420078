use Rattle.std.proofs.Common.{arith}
use Rattle.std.proofs.lemmas.Grind.{common_steps}
use Rattle.act_registry.proofs.Serials.{serial-only}
use Rattle.act_registry.proofs.places.place_of_serial.Goals as goal

pub returns-in-Some-clause-here : goal.returns-in-Some-clause-here
returns-in-Some-clause-here g c =
    serial-only c.args.serial c.args.entries.now c.saturating_sub-likely.result c.requires (grind (arith, common_steps)) (λ d. grind (arith, common_steps))
