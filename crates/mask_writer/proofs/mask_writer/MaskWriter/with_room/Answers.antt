use Rattle.std.proofs.Common.{◌∙◌, List, get_or, Option, None, refl, ap}
use Rattle.mask_table.specs.declared.mirrors.mirror.KeptMask.{KeptMask}
use Rattle.mask_table.proofs.OfMirrors.Keeping.{kept_none}
use Rattle.mask_writer.proofs.Showing.{seen_as, masks_are, named_shown, nothing_told}
use Rattle.mask_writer.proofs.mask_writer.MaskWriter.with_room.Goals as goal

pub invariant_of-result : goal.invariant_of-result
invariant_of-result c = nothing_told c.in_ok-mirror.mirror c.nothing-told.result.orders c.args._shape c.nothing-told.ensures c.in_ok-mirror.ensures

pub returns-clause-empty : goal.returns-clause-empty
returns-clause-empty c = λ slot. let m = c.in_ok-mirror.mirror in let os = c.nothing-told.result.orders in
    ap (λ (xs : List (Option KeptMask)). get_or xs slot None) (masks_are (seen_as m os c.in_ok-with_room-2.field-0 c.in_ok-with_room-3.field-0) m os refl) ∙ c.in_ok-mirror.ensures slot

pub returns-clause-kept : goal.returns-clause-kept
returns-clause-kept c = λ shape cells roots. let m = c.in_ok-mirror.mirror in let os = c.nothing-told.result.orders in
    named_shown (seen_as m os c.in_ok-with_room-2.field-0 c.in_ok-with_room-3.field-0) m os refl shape cells roots (kept_none m c.in_ok-mirror.ensures shape cells roots)
