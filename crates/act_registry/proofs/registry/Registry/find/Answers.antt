use Rattle.std.proofs.Common.{ap, sym, rules}
use Rattle.act_registry.specs.Entries.{is_named}
use Rattle.act_registry.proofs.OnePlace.{none-find}
use Rattle.act_registry.proofs.Calls.{found}
use Rattle.act_registry.proofs.registry.Registry.find.Goals as goal

pub returns-in_err-place_of : goal.returns-in_err-place_of
returns-in_err-place_of g c =
    let none = none-find (is_named g.P.Kinded.kind_of c.args.kind c.args.index) c.args.self.now.entries c.in_err-place_of.ensures.none in
    search rules

pub returns : goal.returns
returns g c =
    sym (found (is_named g.P.Kinded.kind_of c.args.kind c.args.index) c.args.self.now.entries c.self.inside.entries.items c.in_ok-place_of.field-0 c.index.result.now
    c.in_ok-place_of.ensures.here (ap (λ v. v.entries) c.self.view_is) c.index.ensures)
