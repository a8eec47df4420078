use Rattle.std.proofs.Common.{◌≡◌, ◌+◌, ◌≤◌, Bool, true, false, cond, length, refl, ap, sym, ◌∙◌, subst, arith}
use Rattle.std.proofs.lemmas.List.{length_push}
use Rattle.std.proofs.lemmas.List.Edits.{length-insert}
use Rattle.act_registry.specs.declared.names.Name.{Name}
use Rattle.act_registry.specs.Entries.{is_named, new_entry}
use Rattle.act_registry.specs.Names.{IsPlaceFor, name_of}
use Rattle.act_registry.specs.OnePlace.{NoPlace}
use Rattle.act_registry.proofs.Index.{named-none}
use Rattle.act_registry.proofs.Changes.{pushed-live, pushed-indexed}
use Rattle.act_registry.proofs.Spare.{entries_room, names_room, less_room}
use Rattle.act_registry.proofs.registry.Registry.put.Goals as goal

at_most_one : (b : Bool) → cond b 1 0 ≤ 1
at_most_one true = omega arith
at_most_one false = omega arith

pub invariant_of-self : goal.invariant_of-self
invariant_of-self g c =
    let kind_of = g.P.Kinded.kind_of in
    let es = c.self.inside.entries.items in
    let ns = c.self.inside.names.items in
    let made = c.self.inside.made in
    let e = new_entry (made + 1) c.args.index c.args.params c.args.bound in
    let n : Name = record { kind = c.kind-kind.result; index = c.args.index; serial = made + 1 } in
    let list : es ≡ c.args.self.now.entries = ap (λ v. v.entries) c.self.view_is in
    let so_far : made ≡ c.args.self.now.made = ap (λ v. v.made) c.self.view_is in
    let free = subst (λ xs. NoPlace (is_named kind_of (kind_of c.args.params) c.args.index) xs) (sym list) c.requires.free in
    let free_kind = subst (λ k. NoPlace (is_named kind_of k c.args.index) es) (sym c.kind-kind.ensures) free in
    let name : n ≡ name_of kind_of e = ap (λ k. record { kind = k; index = c.args.index; serial = made + 1 }) c.kind-kind.ensures in
    let point = subst (λ xs. IsPlaceFor c.kind-kind.result c.args.index xs c.place_for-place.result) c.deref.ensures.value c.place_for-place.ensures in
    rw (c.push_within.ensures.items, c.insert_within.ensures.items, c.new.ensures) (
      pushed-live kind_of es made e c.self.invariant.0 refl (omega arith) (at_most_one c.args.bound) free
          (omega (arith, ap length list, c.requires.few)) (omega (arith, so_far, c.requires.in_run)),
      pushed-indexed kind_of es ns c.place_for-place.result e n c.self.invariant.1 name point (named-none kind_of c.kind-kind.result c.args.index es ns c.self.invariant.1.same free_kind),
    )

pub insert_within-requires-clause-room : goal.insert_within-requires-clause-room
insert_within-requires-clause-room g c = names_room _ _ _ _ _ (ap (λ v. v.spare) c.self.view_is) c.requires.room

pub insert_within-requires-clause-place : goal.insert_within-requires-clause-place
insert_within-requires-clause-place g c = subst (λ xs. c.place_for-place.result ≤ length xs) c.deref.ensures.value c.place_for-place.ensures.0

pub push_within-requires : goal.push_within-requires
push_within-requires g c = entries_room _ _ _ _ _ (ap (λ v. v.spare) c.self.view_is) c.requires.room

pub returns-clause-spare : goal.returns-clause-spare
returns-clause-spare g c =
    let within = subst (λ xs. c.place_for-place.result ≤ length xs) c.deref.ensures.value c.place_for-place.ensures.0 in
    less_room _ _ _ _ _ _ _ _ _ (ap (λ v. v.spare) c.self.view_is) c.requires.room
    c.push_within.ensures.capacity (ap length c.push_within.ensures.items ∙ length_push _ _)
    c.insert_within.ensures.capacity (ap length c.insert_within.ensures.items ∙ length-insert _ _ _ within)
