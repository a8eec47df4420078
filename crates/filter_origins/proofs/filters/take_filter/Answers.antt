use Rattle.std.proofs.Common.{◌∙◌, sym, ap, arith}
use Rattle.std.specs.Prelude.{option_copied}
use Rattle.slot_pasts.specs.Pasts.{value_at, stood}
use Rattle.slot_pasts.specs.Names.{past_of}
use Rattle.filter_origins.specs.Noted.{taken_at}
use Rattle.filter_origins.proofs.Listed.{gone_set, gone_past}
use Rattle.filter_origins.proofs.filters.take_filter.Goals as goal

pub returns-then-place-brought : goal.returns-then-place-brought
returns-then-place-brought c =
    let at = ap (λ n. stood (value_at c.args.edit (past_of c.args.slots.now n))) (sym c.slot_name.ensures) ∙ sym c.at.ensures ∙ ap option_copied c.in-Some.is in
    gone_set c.args.edit c.in-Some.place.now c.args.brought.now _ (omega (arith, c.if-place-brought.true)) ∙ sym (ap (λ o. taken_at c.args.edit o c.args.brought.now) at)

pub returns-else-place-brought : goal.returns-else-place-brought
returns-else-place-brought c =
    let at = ap (λ n. stood (value_at c.args.edit (past_of c.args.slots.now n))) (sym c.slot_name.ensures) ∙ sym c.at.ensures ∙ ap option_copied c.in-Some.is in
    sym (gone_past c.args.edit c.in-Some.place.now c.args.brought.now (omega (arith, c.if-place-brought.false))) ∙ sym (ap (λ o. taken_at c.args.edit o c.args.brought.now) at)
