use Rattle.std.proofs.Common.{◌≡◌, ◌<◌, ap, ◌∙◌, length, subst, arith}
use Rattle.std.specs.Prelude.{find}
use Rattle.std.specs.List.{All}
use Rattle.act_registry.specs.Entries.{IsLive, has_serial, bound_less}
use Rattle.act_registry.specs.Names.{name_of}
use Rattle.act_registry.proofs.Calls.{found, found-and, found-twice, none-and, live-at, bound_less-live, unbound-kept, unbound-gone}
use Rattle.act_registry.proofs.Changes.{changed-live, changed-indexed}
use Rattle.act_registry.proofs.registry.Registry.unbind.Goals as goal

pub unreachable-requires : goal.unreachable-requires
unreachable-requires g c = none-and (has_serial c.args.serial) c.args.self.now.entries (λ e. 0 < e.binds) c.in_default.ensures.none c.requires

pub unbind-requires-clause-bound : goal.unbind-requires-clause-bound
unbind-requires-clause-bound g c =
    let is = found (has_serial c.args.serial) c.args.self.now.entries c.self.inside.entries.items c.in-Some.at c.index_mut.result.now
    c.in-Some.ensures.here (ap (λ v. v.entries) c.self.view_is) c.index_mut.ensures.value in
    found-and (has_serial c.args.serial) c.args.self.now.entries c.index_mut.result.now (λ e. 0 < e.binds) is c.requires

pub invariant_of-self : goal.invariant_of-self
invariant_of-self g c =
    let e = c.index_mut.result.now in
    let read = c.index_mut.ensures.value in
    let es = c.self.inside.entries.items in
    let long : length es ≡ length c.args.self.now.entries = ap (λ v. length v.entries) c.self.view_is in
    let live = live-at c.self.inside.made es c.in-Some.at e c.self.invariant.0.each (omega (arith, long, c.in-Some.ensures.here.0)) read in
    let list = ap (λ v. v.entries) c.self.view_is in
    let now = c.args.self.now.entries in
    let first = found (has_serial c.args.serial) now es c.in-Some.at c.index.result.now c.in-Some.ensures.here list c.index.ensures in
    let second = found (has_serial c.args.serial) now es c.in-Some.at e c.in-Some.ensures.here list read in
    let several : e.references ≡ 1 → ⊥ = λ one. c.if-index-eq1.false (found-twice (find (has_serial c.args.serial) now) c.index.result.now e first second ∙ one) in
    let name = ap (name_of g.P.Kinded.kind_of) read in
    rw c.unbind.ensures (
      changed-live g.P.Kinded.kind_of es c.self.inside.made c.in-Some.at (bound_less e) e c.self.invariant.0 name (bound_less-live c.self.inside.made e live several),
      changed-indexed g.P.Kinded.kind_of es c.self.inside.names.items c.in-Some.at (bound_less e) e c.self.invariant.1 name,
    )

pub returns-then-index-eq1-clause-entries : goal.returns-then-index-eq1-clause-entries
returns-then-index-eq1-clause-entries g c =
    let list = ap (λ v. v.entries) c.self.view_is in
    let live = subst (All (IsLive c.self.inside.made)) list c.self.invariant.0.each in
    c.take_out.ensures.entries
    ∙ unbound-gone c.self.inside.made c.args.serial c.args.self.now.entries c.self.inside.entries.items c.in-Some.at c.index.result.now
    live c.in-Some.ensures.here list c.index.ensures c.if-index-eq1.true

pub returns-else-index-eq1-clause-entries : goal.returns-else-index-eq1-clause-entries
returns-else-index-eq1-clause-entries g c =
    let list = ap (λ v. v.entries) c.self.view_is in
    let live = subst (All (IsLive c.self.inside.made)) list c.self.invariant.0.each in
    let e = c.index_mut.result.now in
    let es = c.self.inside.entries.items in
    let now = c.args.self.now.entries in
    let first = found (has_serial c.args.serial) now es c.in-Some.at c.index.result.now c.in-Some.ensures.here list c.index.ensures in
    let second = found (has_serial c.args.serial) now es c.in-Some.at e c.in-Some.ensures.here list c.index_mut.ensures.value in
    let several : e.references ≡ 1 → ⊥ = λ one. c.if-index-eq1.false (found-twice (find (has_serial c.args.serial) now) c.index.result.now e first second ∙ one) in
    rw c.unbind.ensures (unbound-kept c.self.inside.made c.args.serial now es c.in-Some.at e live c.in-Some.ensures.here list c.index_mut.ensures.value several)
