use Rattle.std.proofs.Common.{ap, sym, ◌∙◌, refl}
use Rattle.std.specs.Prelude.{find}
use Rattle.act_registry.specs.Entries.{is_named}
use Rattle.act_registry.proofs.OnePlace.{none-find, only-filter}
use Rattle.act_registry.proofs.Calls.{found, delete-bound, delete-free}
use Rattle.act_registry.proofs.registry.Registry.delete.Goals as goal

pub returns-in_default-clause-refusal : goal.returns-in_default-clause-refusal
returns-in_default-clause-refusal g c =
    rw (none-find (is_named g.P.Kinded.kind_of c.args.kind c.args.index) c.args.self.now.entries c.in_default.ensures.none) refl

pub returns-then-binds-gt0-clause-refusal : goal.returns-then-binds-gt0-clause-refusal
returns-then-binds-gt0-clause-refusal g c =
    let test = is_named g.P.Kinded.kind_of c.args.kind c.args.index in
    let is = found test c.args.self.now.entries c.self.inside.entries.items c.in-Some.at c.index.result.now
    c.in-Some.ensures.here (ap (λ v. v.entries) c.self.view_is) c.index.ensures in
    delete-bound c.index.result.now (find test c.args.self.now.entries) is c.if-binds-gt0.true

pub returns-clause-refusal : goal.returns-clause-refusal
returns-clause-refusal g c =
    let test = is_named g.P.Kinded.kind_of c.args.kind c.args.index in
    let is = found test c.args.self.now.entries c.self.inside.entries.items c.in-Some.at c.index.result.now
    c.in-Some.ensures.here (ap (λ v. v.entries) c.self.view_is) c.index.ensures in
    delete-free c.index.result.now (find test c.args.self.now.entries) is c.if-binds-gt0.false

pub returns-clause-entries : goal.returns-clause-entries
returns-clause-entries g c =
    c.take_out.ensures.entries ∙ sym (only-filter (is_named g.P.Kinded.kind_of c.args.kind c.args.index) c.args.self.now.entries c.in-Some.at c.in-Some.ensures.here)
