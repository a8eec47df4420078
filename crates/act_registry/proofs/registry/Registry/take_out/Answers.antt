use Rattle.std.proofs.Common.{◌≡◌, ◌<◌, ◌+◌, ℕ, List, length, Vec, vec_len, sym, ap, ◌∙◌, subst, arith}
use Rattle.std.specs.List.{remove}
use Rattle.act_registry.specs.Names.{IsPlaceFor, name_of}
use Rattle.act_registry.specs.declared.names.Name.{Name}
use Rattle.act_registry.proofs.Index.{name-place}
use Rattle.act_registry.proofs.Changes.{removed-live, removed-indexed}
use Rattle.act_registry.proofs.Spare.{more_room}
use Rattle.act_registry.proofs.registry.Registry.take_out.Goals as goal

pub remove-requires : goal.remove-requires
remove-requires g c =
    let e = c.remove-entry.result in
    let es = c.self.inside.entries.items in
    let ns = c.self.inside.names.items in
    let long : length es ≡ length c.args.self.now.entries = ap (λ v. length v.entries) c.self.view_is in
    let Q : ℕ → Type 0 = λ k. IsPlaceFor k e.index c.deref.result.now c.place_for-place.result in
    let R : List Name → Type 0 = λ xs. IsPlaceFor (g.P.Kinded.kind_of e.params) e.index xs c.place_for-place.result in
    let point = subst R c.deref.ensures.value (subst Q c.kind.ensures c.place_for-place.ensures) in
    let at = name-place g.P.Kinded.kind_of es ns c.args.at c.place_for-place.result e c.self.invariant.1 (omega (arith, long, c.requires)) c.remove-entry.ensures.value point in
    omega (arith, at.0, ap length c.deref.ensures.value, c.deref.ensures.len)

pub invariant_of-self : goal.invariant_of-self
invariant_of-self g c =
    let e = c.remove-entry.result in
    let es = c.self.inside.entries.items in
    let ns = c.self.inside.names.items in
    let long : length es ≡ length c.args.self.now.entries = ap (λ v. length v.entries) c.self.view_is in
    let within : c.args.at < length es = omega (arith, long, c.requires) in
    let Q : ℕ → Type 0 = λ k. IsPlaceFor k e.index c.deref.result.now c.place_for-place.result in
    let R : List Name → Type 0 = λ xs. IsPlaceFor (g.P.Kinded.kind_of e.params) e.index xs c.place_for-place.result in
    let point = subst R c.deref.ensures.value (subst Q c.kind.ensures c.place_for-place.ensures) in
    let at = name-place g.P.Kinded.kind_of es ns c.args.at c.place_for-place.result e c.self.invariant.1 within c.remove-entry.ensures.value point in
    let n = c.remove.result in
    rw (c.remove-entry.ensures.items, c.remove.ensures.items) (
      removed-live g.P.Kinded.kind_of es c.self.inside.made c.args.at c.self.invariant.0 within,
      removed-indexed g.P.Kinded.kind_of es ns c.args.at c.place_for-place.result e n c.self.invariant.1 within at.0
          (at.1 n ∙ ap (name_of g.P.Kinded.kind_of) c.remove-entry.ensures.value),
    )

pub returns-clause-entries : goal.returns-clause-entries
returns-clause-entries g c = c.remove-entry.ensures.items ∙ ap (λ v. remove v.entries c.args.at) c.self.view_is

-- a list that is one shorter
one_less : {T A : Type 0} (old new : Vec T A) → vec_len new + 1 ≡ vec_len old → length new.items + 1 ≡ length old.items
one_less old new len = ap (λ n. n + 1) (sym new.ok.0) ∙ len ∙ old.ok.0

pub returns-clause-spare : goal.returns-clause-spare
returns-clause-spare g c =
    more_room _ _ _ _ _ _ _ _ _ (ap (λ v. v.spare) c.self.view_is)
    c.remove-entry.ensures.capacity (one_less c.self.inside.entries c.remove-entry.new.self c.remove-entry.ensures.len)
    c.remove.ensures.capacity (one_less c.self.inside.names c.remove.new.self c.remove.ensures.len)
