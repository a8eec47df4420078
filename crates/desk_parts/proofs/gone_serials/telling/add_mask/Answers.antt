use Rattle.std.proofs.Common.{◌∙◌, ◌++◌, List, ℕ, ap, arith}
use Rattle.filter_index.specs.Listed.{FilterRoom}
use Rattle.desk_parts.specs.OfGoneSerials.Same.{serials_at, serials_in}
use Rattle.desk_parts.proofs.OfGoneSerials.Growing.{all_of, slots_have}
use Rattle.desk_parts.proofs.gone_serials.telling.add_mask.Goals as goal

pub returns : goal.returns
returns c = c.loop-slot.invariant ∙ ap (λ (t : List ℕ). c.args.gone.now.items ++ t)
    (all_of serials_at c.slots-slots.result.now c.loop-slot.slot-index (omega (arith, c.loop-slot-test.false)) ∙ (slots_have c.slots-slots.result.now
    ∙ ap serials_in (c.slots-slots.ensures.filters ∙ ap (λ (room : FilterRoom). room.filters) c.filters.ensures)))
