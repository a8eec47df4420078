use Rattle.std.proofs.Common.{◌∙◌, sym, ap, subst, arith, []}
use Rattle.std.specs.Option.{option_copied}
use Rattle.slot_pasts.specs.Names.{past_of}
use Rattle.slot_pasts.specs.Next.{IsNextPut}
use Rattle.slot_pasts.proofs.Entries.{there, nowhere}
use Rattle.slot_pasts.proofs.Next.{never_put, steady_to}
use Rattle.slot_pasts.proofs.pasts.SlotPasts.after.Goals as goal

pub returns-in_err-place : goal.returns-in_err-place
returns-in_err-place g c =
    let none = sym (c.self.invariant c.args.name.now) ∙ sym c.get.ensures.value
    ∙ ap option_copied c.in_err-place.was in
    let past = ap (λ es. past_of es c.args.name.now) (sym c.self.view_is)
    ∙ nowhere c.self.inside.entries.items c.args.name.now none in
    let next = never_put (past_of c.args.self.now c.args.name.now) c.args.point _ past
    c.from_residual.ensures in
    record { next = next; steady = steady_to _ c.args.point _ next.least }

pub index-requires : goal.index-requires
index-requires g c =
    let at = sym (c.self.invariant c.args.name.now) ∙ sym c.get.ensures.value
    ∙ ap option_copied c.in_ok-place.was in
    let it = there c.self.inside.entries.items c.args.name.now c.in_ok-place.field-0.now
    (record { name = []; past = [] }) at in
    omega (arith, c.self.inside.entries.ok.0, it.within)

pub returns : goal.returns
returns g c =
    let at = sym (c.self.invariant c.args.name.now) ∙ sym c.get.ensures.value
    ∙ ap option_copied c.in_ok-place.was in
    let it = there c.self.inside.entries.items c.args.name.now c.in_ok-place.field-0.now c.index.result.now
    at in
    let past = ap (λ e. e.past) c.index.ensures ∙ sym it.past
    ∙ ap (λ es. past_of es c.args.name.now) c.self.view_is in
    let next = subst (λ p. IsNextPut p c.args.point c.after.result) past c.after.ensures.next in
    record { next = next; steady = steady_to _ c.args.point _ next.least }
