use Rattle.std.proofs.Common.{refl}
use Rattle.desk_actions.specs.OfLedgers.Kept.{commits}
use Rattle.desk_parts.specs.Desk.{hook_shape, cells}
use Rattle.desk_parts.proofs.OfWays.Looked.{kept, stands, there, behind, few}
use Rattle.desk_parts.proofs.ways.seeking.later_than.Goals as goal

pub later_in_bucket-requires : goal.later_in_bucket-requires
later_in_bucket-requires c =
    let parts = c.args.parts.now in
    let d = c.requires.desk in
    let t = c.requires.there in
    let l = there parts d c.args.slot t.0.mask_serial t.2 t.0 c.args.handle t.1 refl in
    record { there = (hook_shape, cells parts.ledger, commits parts.ledger, kept parts d c.args.slot t.0.mask_serial t.2, l.0, d.masks, stands parts d c.args.slot t.0.mask_serial t.2, l.1) }

pub returns-clause-behind : goal.returns-clause-behind
returns-clause-behind c = λ row is at.
    let parts = c.args.parts.now in
    let d = c.requires.desk in
    let l = c.later_in_bucket.ensures.count hook_shape (cells parts.ledger) (commits parts.ledger) (kept parts d c.args.slot row.mask_serial at) d.masks (stands parts d c.args.slot row.mask_serial at) in
    behind parts d c.args.slot row.mask_serial at row c.args.handle c.later_in_bucket.result is refl l

pub returns-clause-few : goal.returns-clause-few
returns-clause-few c =
    let parts = c.args.parts.now in
    let d = c.requires.desk in
    let t = c.requires.there in
    let l = c.later_in_bucket.ensures.count hook_shape (cells parts.ledger) (commits parts.ledger) (kept parts d c.args.slot t.0.mask_serial t.2) d.masks (stands parts d c.args.slot t.0.mask_serial t.2) in
    few parts d c.args.slot t.0.mask_serial t.2 c.args.handle c.later_in_bucket.result l
