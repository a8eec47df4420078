use Rattle.std.proofs.Common.{◌∙◌, sym, ap, subst, arith, [], ◌∷◌, ◌++◌, set, Some}
use Rattle.std.specs.Prelude.{if◌then◌else◌}
use Rattle.std.specs.Str.{bytes_eq}
use Rattle.std.specs.Option.{option_copied}
use Rattle.slot_pasts.specs.Pasts.{UpTo}
use Rattle.slot_pasts.specs.declared.named.NamedPast.{NamedPast}
use Rattle.slot_pasts.specs.Names.{past_of, place_of}
use Rattle.slot_pasts.proofs.Entries.{there, nowhere, put_there, put_behind, places_stay, places_push}
use Rattle.slot_pasts.proofs.pasts.SlotPasts.put.Goals as goal

pub index_mut-requires : goal.index_mut-requires
index_mut-requires g c =
    let at = sym (c.self.invariant c.args.name) ∙ sym c.get.ensures.value ∙ ap option_copied c.in-Some.is in
    let it = there c.self.inside.entries.items c.args.name c.in-Some.place.now (record { name = []; past = [] }) at in
    omega (arith, c.self.inside.entries.ok.0, it.within)

pub put-requires : goal.put-requires
put-requires g c =
    let at = sym (c.self.invariant c.args.name) ∙ sym c.get.ensures.value ∙ ap option_copied c.in-Some.is in
    let it = there c.self.inside.entries.items c.args.name c.in-Some.place.now c.index_mut.result.now at in
    subst (λ p. UpTo c.args.from p) (ap (λ es. past_of es c.args.name) (sym c.self.view_is) ∙ it.past ∙ ap (λ e. e.past) (sym c.index_mut.ensures.value)) c.requires

pub invariant_of-self-in-Some : goal.invariant_of-self-in-Some
invariant_of-self-in-Some g c = λ name.
    let at = sym (c.self.invariant c.args.name) ∙ sym c.get.ensures.value ∙ ap option_copied c.in-Some.is in
    let items = c.self.inside.entries.items in
    let it = there items c.args.name c.in-Some.place.now c.index_mut.result.now at in
    c.self.invariant name ∙ sym (places_stay items c.in-Some.place.now c.put.new.self c.index_mut.result.now name it.within)
    ∙ ap (λ e. place_of (set items c.in-Some.place.now (record e { past = c.put.new.self })) name) (sym c.index_mut.ensures.value)

pub returns-in-Some-clause-put : goal.returns-in-Some-clause-put
returns-in-Some-clause-put g c = λ other.
    let at = sym (c.self.invariant c.args.name) ∙ sym c.get.ensures.value ∙ ap option_copied c.in-Some.is in
    let items = c.self.inside.entries.items in
    let it = there items c.args.name c.in-Some.place.now c.index_mut.result.now at in
    let same = ap (λ es. past_of es c.args.name) (sym c.self.view_is) ∙ it.past ∙ ap (λ e. e.past) (sym c.index_mut.ensures.value) in
    let grown = c.in_ok-put.ensures.put ∙ ap (λ p. p ++ (record { from = c.args.from; value = c.args.value } ∷ [])) (sym same) in
    ap (λ e. past_of (set items c.in-Some.place.now (record e { past = c.put.new.self })) other) c.index_mut.ensures.value
    ∙ put_there items c.args.name c.in-Some.place.now c.put.new.self c.index_mut.result.now at other
    ∙ ap (λ p. if bytes_eq c.args.name other then p else past_of items other) grown
    ∙ ap (λ es. if bytes_eq c.args.name other then past_of c.args.self.now c.args.name ++ (record { from = c.args.from; value = c.args.value } ∷ []) else past_of es other) c.self.view_is

pub invariant_of-self-in_err-put-2 : goal.invariant_of-self-in_err-put-2
invariant_of-self-in_err-put-2 g c = λ name. c.in_ok-reserve.ensures.entries.2 name ∙ c.self.invariant name

pub invariant_of-self-in_err-push : goal.invariant_of-self-in_err-push
invariant_of-self-in_err-push g c = λ name. c.in_ok-reserve.ensures.entries.2 name ∙ c.self.invariant name ∙ ap (λ es. place_of es name) (sym c.in_err-push.ensures.items)

pub put_place-requires-clause-new : goal.put_place-requires-clause-new
put_place-requires-clause-new g c = c.in_ok-reserve.ensures.entries.2 c.args.name ∙ sym c.get.ensures.value ∙ ap option_copied c.in_default.is

pub invariant_of-self-2 : goal.invariant_of-self-2
invariant_of-self-2 g c = λ name.
    let items = c.self.inside.entries.items in
    let none = sym (c.self.invariant c.args.name) ∙ sym c.get.ensures.value ∙ ap option_copied c.in_default.is in
    let entry : NamedPast _ = record { name = c.args.name; past = c.put-2.new.self } in
    c.put_place.ensures.updates.0 name
    ∙ ap (λ o. if bytes_eq c.args.name name then Some c.len-place.result else o) (c.in_ok-reserve.ensures.entries.2 name ∙ c.self.invariant name)
    ∙ ap (λ n. if bytes_eq c.args.name name then Some n else place_of items name) (omega (arith, c.self.inside.entries.ok.0, c.len-place.ensures))
    ∙ sym (places_push items entry name none)
    ∙ ap (λ es. place_of es name) (sym c.in_ok-push.ensures.items)

pub returns-clause-put : goal.returns-clause-put
returns-clause-put g c = λ other.
    let items = c.self.inside.entries.items in
    let none = sym (c.self.invariant c.args.name) ∙ sym c.get.ensures.value ∙ ap option_copied c.in_default.is in
    let entry : NamedPast _ = record { name = c.args.name; past = c.put-2.new.self } in
    let nothing = ap (λ es. past_of es c.args.name) (sym c.self.view_is) ∙ nowhere items c.args.name none in
    let grown = c.in_ok-put-2.ensures.put ∙ ap (λ p. p ++ (record { from = c.args.from; value = c.args.value } ∷ [])) (c.new-past.ensures ∙ sym nothing) in
    ap (λ es. past_of es other) c.in_ok-push.ensures.items
    ∙ put_behind items entry none other
    ∙ ap (λ p. if bytes_eq c.args.name other then p else past_of items other) grown
    ∙ ap (λ es. if bytes_eq c.args.name other then past_of c.args.self.now c.args.name ++ (record { from = c.args.from; value = c.args.value } ∷ []) else past_of es other) c.self.view_is
