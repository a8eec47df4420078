use Rattle.std.proofs.Common.{◌∙◌}
use Rattle.act_registry.specs.Entries.{is_named}
use Rattle.act_registry.proofs.OnePlace.{place-any}
use Rattle.act_registry.proofs.registry.Registry.is_taken.Goals as goal

pub returns-in-Some : goal.returns-in-Some
returns-in-Some g c =
    rw c.in-Some.is
    (c.is_some.ensures ∙ place-any (is_named g.P.Kinded.kind_of c.args.kind c.in-Some.index) c.args.self.now.entries c.place_of.result c.place_of.ensures.here c.place_of.ensures.none)
