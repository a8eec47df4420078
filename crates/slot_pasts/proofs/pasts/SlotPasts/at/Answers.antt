use Rattle.std.proofs.Common.{◌∙◌, sym, ap, arith, []}
use Rattle.std.specs.Option.{option_copied}
use Rattle.slot_pasts.specs.Pasts.{value_at, stood}
use Rattle.slot_pasts.specs.Names.{past_of}
use Rattle.slot_pasts.proofs.Entries.{there, nowhere}
use Rattle.slot_pasts.proofs.pasts.SlotPasts.at.Goals as goal

pub returns-in_err-place : goal.returns-in_err-place
returns-in_err-place g c =
    let none = sym (c.self.invariant c.args.name.now) ∙ sym c.get.ensures.value ∙ ap option_copied c.in_err-place.was in
    ap option_copied c.from_residual.ensures
    ∙ sym (ap (λ p. stood (value_at c.args.point p)) (ap (λ es. past_of es c.args.name.now) (sym c.self.view_is) ∙ nowhere c.self.inside.entries.items c.args.name.now none))

pub index-requires : goal.index-requires
index-requires g c =
    let at = sym (c.self.invariant c.args.name.now) ∙ sym c.get.ensures.value ∙ ap option_copied c.in_ok-place.was in
    let it = there c.self.inside.entries.items c.args.name.now c.in_ok-place.field-0.now (record { name = []; past = [] }) at in
    omega (arith, c.self.inside.entries.ok.0, it.within)

pub returns-in_err-at : goal.returns-in_err-at
returns-in_err-at g c =
    let at = sym (c.self.invariant c.args.name.now) ∙ sym c.get.ensures.value ∙ ap option_copied c.in_ok-place.was in
    let it = there c.self.inside.entries.items c.args.name.now c.in_ok-place.field-0.now c.index.result.now at in
    let told = c.at.ensures ∙ ap (λ e. value_at c.args.point e.past) c.index.ensures
    ∙ ap (value_at c.args.point) (sym it.past ∙ ap (λ es. past_of es c.args.name.now) c.self.view_is) in
    ap option_copied c.from_residual-in_err-at.ensures ∙ ap stood (sym (ap option_copied c.in_err-at.was) ∙ told)

pub returns : goal.returns
returns g c =
    let at = sym (c.self.invariant c.args.name.now) ∙ sym c.get.ensures.value ∙ ap option_copied c.in_ok-place.was in
    let it = there c.self.inside.entries.items c.args.name.now c.in_ok-place.field-0.now c.index.result.now at in
    let told = c.at.ensures ∙ ap (λ e. value_at c.args.point e.past) c.index.ensures
    ∙ ap (value_at c.args.point) (sym it.past ∙ ap (λ es. past_of es c.args.name.now) c.self.view_is) in
    c.as_ref.ensures.value ∙ ap stood (sym (ap option_copied c.in_ok-at.was) ∙ told)
