use Rattle.std.proofs.Common.{IfSome, ap, sym, subst, ◌∙◌}
use Rattle.std.specs.Option.{IfNone}
use Rattle.act_registry.specs.Entries.{AreRising, has_serial}
use Rattle.act_registry.specs.OnePlace.{OnlyAt, NoPlace}
use Rattle.act_registry.proofs.registry.Registry.place_of_serial.Goals as goal

pub place_of_serial-requires : goal.place_of_serial-requires
place_of_serial-requires g c = subst AreRising (sym c.deref.ensures.value) c.self.invariant.0.rising

pub returns-clause-here : goal.returns-clause-here
returns-clause-here g c =
    subst (λ es. IfSome c.place_of_serial.result (λ at. OnlyAt (has_serial c.args.serial) es at))
    (c.deref.ensures.value ∙ ap (λ v. v.entries) c.self.view_is) c.place_of_serial.ensures.here

pub returns-clause-none : goal.returns-clause-none
returns-clause-none g c =
    subst (λ es. IfNone c.place_of_serial.result (NoPlace (has_serial c.args.serial) es))
    (c.deref.ensures.value ∙ ap (λ v. v.entries) c.self.view_is) c.place_of_serial.ensures.none
