use Rattle.std.proofs.Common.{◌/◌, ◌∙◌, bit_and, subst, sym}
use Rattle.filter_tables.specs.SeenMask.{plain_mask}
use Rattle.classify_walk.specs.Found.{IsMaskOf}
use Rattle.classify_walk.proofs.Searching.{found_there}
use Rattle.classify_walk.proofs.finding.mask_at.Goals as goal

pub returns-then-serial-mask : goal.returns-then-serial-mask
returns-then-serial-mask c =
    let table = c.in_ok-table.ensures.lookup in
    let list = c.in_ok-list.ensures.lookup in
    subst (λ serial. IsMaskOf c.args.lists.now serial (plain_mask c.in_ok-list.list.now)) (sym c.serial.ensures ∙ c.if-serial-mask.true)
    (found_there c.args.lists.now c.if-mask-eq0.hook c.tables.result.now (c.args.mask.slot / 32) c.in_ok-table.table.now c.as_slice.result.now (bit_and (c.args.mask.slot / 2) 15)
    c.in_ok-list.list.now c.tables.ensures.kept c.tables.ensures.tables table.3.0 table.1 c.as_slice.ensures list.3.0 list.1)
