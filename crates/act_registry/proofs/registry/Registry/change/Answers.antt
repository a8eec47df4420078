use Rattle.std.proofs.Common.{◌≡◌, true, get_or, ap, ◌∙◌, refl, length, arith}
use Rattle.act_registry.specs.Entries.{is_named, with_params}
use Rattle.act_registry.specs.Names.{name_of}
use Rattle.act_registry.proofs.OnePlace.{none-any}
use Rattle.act_registry.proofs.Calls.{changed, live-at, with_params-live, same-name}
use Rattle.act_registry.proofs.Changes.{changed-live, changed-indexed}
use Rattle.act_registry.proofs.registry.Registry.change.Goals as goal

pub returns-in_default-clause-refusal : goal.returns-in_default-clause-refusal
returns-in_default-clause-refusal g c =
    let none = none-any (is_named g.P.Kinded.kind_of c.kind.result c.args.index) c.args.self.now.entries c.in_default.ensures.none in
    rw (← c.kind.ensures, none) refl

pub invariant_of-self : goal.invariant_of-self
invariant_of-self g c =
    let kind_of = g.P.Kinded.kind_of in
    let e = c.index_mut.result.now in
    let read = c.index_mut.ensures.value in
    let es = c.self.inside.entries.items in
    let list : es ≡ c.args.self.now.entries = ap (λ v. v.entries) c.self.view_is in
    let live = live-at c.self.inside.made es c.in-Some.at e c.self.invariant.0.each (omega (arith, ap length list, c.in-Some.ensures.here.0)) read in
    let test = is_named kind_of c.kind.result c.args.index in
    let named : is_named kind_of (kind_of c.args.params) c.args.index e ≡ true =
    rw (← c.kind.ensures) (ap test (read ∙ ap (λ xs. get_or xs c.in-Some.at e) list) ∙ c.in-Some.ensures.here.1 e) in
    let name = same-name kind_of c.args.index c.args.params e named ∙ ap (name_of kind_of) read in (
      changed-live kind_of es c.self.inside.made c.in-Some.at (with_params c.args.params e) e c.self.invariant.0 name (with_params-live c.self.inside.made c.args.params e live),
      changed-indexed kind_of es c.self.inside.names.items c.in-Some.at (with_params c.args.params e) e c.self.invariant.1 name,
    )

pub returns-clause-entries : goal.returns-clause-entries
returns-clause-entries g c =
    rw (← c.kind.ensures)
    (changed (is_named g.P.Kinded.kind_of c.kind.result c.args.index) (with_params c.args.params) c.args.self.now.entries c.self.inside.entries.items c.in-Some.at c.index_mut.result.now
    c.in-Some.ensures.here (ap (λ v. v.entries) c.self.view_is) c.index_mut.ensures.value)
