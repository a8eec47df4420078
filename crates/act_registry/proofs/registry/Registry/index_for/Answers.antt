use Rattle.std.proofs.Common.{length, ap, arith}
use Rattle.act_registry.specs.Entries.{is_named}
use Rattle.act_registry.proofs.OnePlace.{any-none}
use Rattle.act_registry.proofs.Index.{as-many}
use Rattle.act_registry.proofs.Lowest.{lowest-from_names, lowest-is}
use Rattle.act_registry.proofs.registry.Registry.index_for.Goals as goal

pub lowest_free-requires-clause-few : goal.lowest_free-requires-clause-few
lowest_free-requires-clause-few g c =
    let many = as-many g.P.Kinded.kind_of c.self.inside.entries.items c.self.inside.names.items c.self.invariant.1.same in
    omega (arith, many, ap length c.deref.ensures.value, c.self.invariant.0.few)

pub returns-in-None-clause-lowest : goal.returns-in-None-clause-lowest
returns-in-None-clause-lowest g c =
    rw (c.in-None.is, ← ap (λ v. v.entries) c.self.view_is)
    (lowest-from_names g.P.Kinded.kind_of c.args.kind c.lowest_free.result c.self.inside.entries.items c.self.inside.names.items c.deref.result.now
    c.self.invariant.1.same c.deref.ensures.value c.lowest_free.ensures.within.0 c.lowest_free.ensures.free c.lowest_free.ensures.lowest)

pub returns-in-None-clause-free : goal.returns-in-None-clause-free
returns-in-None-clause-free g c =
    let lowest = lowest-from_names g.P.Kinded.kind_of c.args.kind c.lowest_free.result c.self.inside.entries.items c.self.inside.names.items c.deref.result.now
    c.self.invariant.1.same c.deref.ensures.value c.lowest_free.ensures.within.0 c.lowest_free.ensures.free c.lowest_free.ensures.lowest in
    rw (← ap (λ v. v.entries) c.self.view_is)
    (any-none (is_named g.P.Kinded.kind_of c.args.kind c.lowest_free.result) c.self.inside.entries.items lowest.unused)

pub returns-in-None-clause-index : goal.returns-in-None-clause-index
returns-in-None-clause-index g c =
    let many = as-many g.P.Kinded.kind_of c.self.inside.entries.items c.self.inside.names.items c.self.invariant.1.same in
    let lowest = lowest-from_names g.P.Kinded.kind_of c.args.kind c.lowest_free.result c.self.inside.entries.items c.self.inside.names.items c.deref.result.now
    c.self.invariant.1.same c.deref.ensures.value c.lowest_free.ensures.within.0 c.lowest_free.ensures.free c.lowest_free.ensures.lowest in
    rw (c.in-None.is, ← ap (λ v. v.entries) c.self.view_is)
    (lowest-is g.P.Kinded.kind_of c.args.kind c.lowest_free.result c.self.inside.entries.items lowest
    (omega (arith, many, ap length c.deref.ensures.value, c.lowest_free.ensures.within.1)))
