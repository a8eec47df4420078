use Rattle.std.proofs.Common.{rules}
use Rattle.act_registry.proofs.Index.{none-named, named-here, named-there}
use Rattle.act_registry.proofs.places.place_of.Goals as goal

pub returns-in_err-serial-clause-none : goal.returns-in_err-serial-clause-none
returns-in_err-serial-clause-none g c =
    let none = none-named g.P.Kinded.kind_of c.args.kind c.args.index c.args.entries.now c.args.names.now c.requires.same c.in_err-serial.ensures.none in
    search rules

pub returns-clause-here : goal.returns-clause-here
returns-clause-here g c =
    named-here g.P.Kinded.kind_of c.args.kind c.args.index c.in_ok-serial.serial c.args.entries.now c.args.names.now c.place_of_serial.result
    c.requires.apart c.requires.same c.in_ok-serial.ensures.found c.place_of_serial.ensures.here

pub returns-clause-none : goal.returns-clause-none
returns-clause-none g c =
    named-there g.P.Kinded.kind_of c.args.kind c.args.index c.in_ok-serial.serial c.args.entries.now c.args.names.now c.place_of_serial.result
    c.requires.same c.in_ok-serial.ensures.found c.place_of_serial.ensures.none
