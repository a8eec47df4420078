use Rattle.std.proofs.Common.{arith, ◌∙◌, ap, length}
use Rattle.walk_steps.proofs.Drops.{opened, within, unhit_more, unhit_last}
use Rattle.walk_steps.proofs.stops.unhit_stop.Goals as goal

pub overflow_add-mask : goal.overflow_add-mask
overflow_add-mask c =
    let head = c.index-heads-table.result in
    let here = within c.args.heads.now.tables _ c.args.table c.args.mask head c.heads.ensures c.index-heads-table.is c.requires.mask in
    let same = ap length c.as_slice-masks.ensures.same in
    record { fits = omega arith }

pub returns-then-mask-masks-clause-place : goal.returns-then-mask-masks-clause-place
returns-then-mask-masks-clause-place c = λ hit.
    let head = c.index-heads-table.result in
    let same = ap length c.as_slice-masks.ensures.same in
    rw (opened c.args.heads.now.tables _ c.args.table head c.requires.table c.heads.ensures c.index-heads-table.is)
    (unhit_more head c.args.mask c.args.ether _ (omega arith))

pub returns-clause-place : goal.returns-clause-place
returns-clause-place c = λ hit.
    let head = c.index-heads-table.result in
    let here = within c.args.heads.now.tables _ c.args.table c.args.mask head c.heads.ensures c.index-heads-table.is c.requires.mask in
    let same = ap length c.as_slice-masks.ensures.same in
    rw (opened c.args.heads.now.tables _ c.args.table head c.requires.table c.heads.ensures c.index-heads-table.is)
    (c.first_stop.ensures.place hit ∙ unhit_last head c.args.mask c.args.ether _ here (omega arith))
