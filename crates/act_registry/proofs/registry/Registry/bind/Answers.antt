use Rattle.std.proofs.Common.{◌≡◌, ◌<◌, ap, refl, length, arith}
use Rattle.act_registry.specs.Entries.{is_named, bound_more}
use Rattle.act_registry.specs.Names.{name_of}
use Rattle.act_registry.proofs.OnePlace.{none-find}
use Rattle.act_registry.proofs.Calls.{found, found-if, changed, live-at, bound_more-live}
use Rattle.act_registry.proofs.Changes.{changed-live, changed-indexed}
use Rattle.act_registry.proofs.registry.Registry.bind.Goals as goal

pub returns-in_default-clause-serial : goal.returns-in_default-clause-serial
returns-in_default-clause-serial g c =
    rw (none-find (is_named g.P.Kinded.kind_of c.args.kind c.args.index) c.args.self.now.entries c.in_default.ensures.none) refl

pub bind-requires-clause-room : goal.bind-requires-clause-room
bind-requires-clause-room g c =
    let test = is_named g.P.Kinded.kind_of c.args.kind c.args.index in
    let is = found test c.args.self.now.entries c.self.inside.entries.items c.in-Some.at c.index_mut-entry.result.now
    c.in-Some.ensures.here (ap (λ v. v.entries) c.self.view_is) c.index_mut-entry.ensures.value in
    let room = found-if test c.args.self.now.entries c.index_mut-entry.result.now (λ e. e.references < 4294967295) is c.requires in
    omega (arith, room)

pub invariant_of-self : goal.invariant_of-self
invariant_of-self g c =
    let e = c.index_mut-entry.result.now in
    let read = c.index_mut-entry.ensures.value in
    let es = c.self.inside.entries.items in
    let long : length es ≡ length c.args.self.now.entries = ap (λ v. length v.entries) c.self.view_is in
    let live = live-at c.self.inside.made es c.in-Some.at e c.self.invariant.0.each (omega (arith, long, c.in-Some.ensures.here.0)) read in
    let name = ap (name_of g.P.Kinded.kind_of) read in
    rw c.bind.ensures (
      changed-live g.P.Kinded.kind_of es c.self.inside.made c.in-Some.at (bound_more e) e c.self.invariant.0 name (bound_more-live c.self.inside.made e live),
      changed-indexed g.P.Kinded.kind_of es c.self.inside.names.items c.in-Some.at (bound_more e) e c.self.invariant.1 name,
    )

pub returns-clause-serial : goal.returns-clause-serial
returns-clause-serial g c =
    let is = found (is_named g.P.Kinded.kind_of c.args.kind c.args.index) c.args.self.now.entries c.self.inside.entries.items c.in-Some.at c.index_mut-entry.result.now
    c.in-Some.ensures.here (ap (λ v. v.entries) c.self.view_is) c.index_mut-entry.ensures.value in
    rw (c.bind.ensures, is) refl

pub returns-clause-entries : goal.returns-clause-entries
returns-clause-entries g c =
    rw c.bind.ensures
    (changed (is_named g.P.Kinded.kind_of c.args.kind c.args.index) bound_more c.args.self.now.entries c.self.inside.entries.items c.in-Some.at c.index_mut-entry.result.now
    c.in-Some.ensures.here (ap (λ v. v.entries) c.self.view_is) c.index_mut-entry.ensures.value)
