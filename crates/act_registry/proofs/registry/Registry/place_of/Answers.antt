use Rattle.std.proofs.Common.{IfSome, ap, sym, subst, ◌∙◌}
use Rattle.std.specs.List.{AllPairs}
use Rattle.std.specs.Option.{IfNone}
use Rattle.act_registry.specs.Entries.{AreRising, AreApart, is_named}
use Rattle.act_registry.specs.Names.{ComesBefore, AreNamesOf}
use Rattle.act_registry.specs.OnePlace.{OnlyAt, NoPlace}
use Rattle.act_registry.proofs.registry.Registry.place_of.Goals as goal

-- src/registry.rt:265:9
pub place_of-requires-clause-rising : goal.place_of-requires-clause-rising
place_of-requires-clause-rising g c = subst AreRising (sym c.deref.ensures.value) c.self.invariant.0.rising

-- src/registry.rt:265:9
pub place_of-requires-clause-apart : goal.place_of-requires-clause-apart
place_of-requires-clause-apart g c = subst (AreApart g.P.Kinded.kind_of) (sym c.deref.ensures.value) c.self.invariant.0.apart

-- src/registry.rt:265:9
pub place_of-requires-clause-sorted : goal.place_of-requires-clause-sorted
place_of-requires-clause-sorted g c = subst (AllPairs ComesBefore) (sym c.deref-2.ensures.value) c.self.invariant.1.sorted

-- src/registry.rt:265:9
pub place_of-requires-clause-same : goal.place_of-requires-clause-same
place_of-requires-clause-same g c =
    subst (λ es. AreNamesOf g.P.Kinded.kind_of es c.deref-2.result.now) (sym c.deref.ensures.value)
    (subst (AreNamesOf g.P.Kinded.kind_of c.self.inside.entries.items) (sym c.deref-2.ensures.value) c.self.invariant.1.same)

-- src/registry.rt:261:5
pub returns-clause-here : goal.returns-clause-here
returns-clause-here g c =
    subst (λ es. IfSome c.place_of.result (λ at. OnlyAt (is_named g.P.Kinded.kind_of c.args.kind c.args.index) es at))
    (c.deref.ensures.value ∙ ap (λ v. v.entries) c.self.view_is) c.place_of.ensures.here

-- src/registry.rt:261:5
pub returns-clause-none : goal.returns-clause-none
returns-clause-none g c =
    subst (λ es. IfNone c.place_of.result (NoPlace (is_named g.P.Kinded.kind_of c.args.kind c.args.index) es))
    (c.deref.ensures.value ∙ ap (λ v. v.entries) c.self.view_is) c.place_of.ensures.none
