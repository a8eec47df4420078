use Rattle.std.proofs.Common.{ap, sym, rules}
use Rattle.act_registry.specs.Entries.{has_serial}
use Rattle.act_registry.proofs.OnePlace.{none-find}
use Rattle.act_registry.proofs.Calls.{found}
use Rattle.act_registry.proofs.registry.Registry.of_serial.Goals as goal

pub returns-in_err-place_of_serial : goal.returns-in_err-place_of_serial
returns-in_err-place_of_serial g c =
    let none = none-find (has_serial c.args.serial) c.args.self.now.entries c.in_err-place_of_serial.ensures.none in
    search rules

pub returns : goal.returns
returns g c =
    sym (found (has_serial c.args.serial) c.args.self.now.entries c.self.inside.entries.items c.in_ok-place_of_serial.field-0 c.index.result.now
    c.in_ok-place_of_serial.ensures.here (ap (λ v. v.entries) c.self.view_is) c.index.ensures)
