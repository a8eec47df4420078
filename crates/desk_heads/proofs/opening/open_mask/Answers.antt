use Rattle.std.specs.Prelude.{All}
use Rattle.std.proofs.Common.{subst, arith}
use Rattle.pin_store.specs.Sheets.{base_of}
use Rattle.pin_store.specs.Calls.{seen_by, sheet_of}
use Rattle.miniq_pair.specs.Pairs.{other_place}
use Rattle.mask_table.proofs.OfMirrors.Keeping.{same_base}
use Rattle.mask_order.specs.Fitting.{FitsBlock}
use Rattle.desk_heads.proofs.OpenMasks.{slot_empty, rows_free}
use Rattle.desk_heads.proofs.OpenSteps.{step_lawful, first_lawful, first_number, first_gives, first_lists, first_tables, first_idle, last_lawful, last_rests, last_others, last_pools, last_journal, last_masks}
use Rattle.desk_heads.proofs.opening.open_mask.Goals as goal

pub create-requires-clause-empty : goal.create-requires-clause-empty
create-requires-clause-empty g c = let seat = c.args.writer.now.place in let h = seen_by seat in let b = base_of (sheet_of seat) in let y = g.E.EditName.edit in let r = c.requires in
    let hook = c.args.hook in let slot = c.args.slot in let mask = c.args.mask.now in let filter = c.args.filter.now in let given = c.args.given.now.blocks in let point = c.args.point in
    slot_empty h b y hook slot mask filter given r.lawful r.opens c.args.masks.now c.args.store.now.shape (sheet_of seat).cells r.masks

pub create-requires-clause-rows : goal.create-requires-clause-rows
create-requires-clause-rows g c = let seat = c.args.writer.now.place in let h = seen_by seat in let b = base_of (sheet_of seat) in let y = g.E.EditName.edit in let r = c.requires in
    let hook = c.args.hook in let slot = c.args.slot in let mask = c.args.mask.now in let filter = c.args.filter.now in let given = c.args.given.now.blocks in let point = c.args.point in
    rows_free h b y hook slot mask filter given r.lawful r.opens c.args.masks.now c.args.store.now.shape (sheet_of seat).cells r.masks

pub create-requires-clause-storable : goal.create-requires-clause-storable
create-requires-clause-storable g c = let o = c.requires.opens in (subst (All FitsBlock) o.filters o.can.fit.filters 0 c.args.filter.now (omega arith)).storable

pub create-requires-clause-lawful : goal.create-requires-clause-lawful
create-requires-clause-lawful g c = let seat = c.args.writer.now.place in let h = seen_by seat in let b = base_of (sheet_of seat) in let y = g.E.EditName.edit in let r = c.requires in
    let hook = c.args.hook in let slot = c.args.slot in let mask = c.args.mask.now in let filter = c.args.filter.now in let given = c.args.given.now.blocks in let point = c.args.point in
    step_lawful h b y hook slot mask filter given r.lawful r.opens r.given.0 r.given.1 point r.point.0

pub give_tables-requires-clause-number : goal.give_tables-requires-clause-number
give_tables-requires-clause-number g c = let seat = c.args.writer.now.place in let h = seen_by seat in let b = base_of (sheet_of seat) in let y = g.E.EditName.edit in let r = c.requires in
    let hook = c.args.hook in let slot = c.args.slot in let mask = c.args.mask.now in let filter = c.args.filter.now in let given = c.args.given.now.blocks in let point = c.args.point in
    let g1 = seen_by c.create.new.writer.place in let b1 = base_of (sheet_of c.create.new.writer.place) in let base1 = same_base (sheet_of seat) (sheet_of c.create.new.writer.place) c.create.ensures.sheet in
    first_number h b y hook slot mask filter given r.lawful r.opens r.given.0 r.given.1 point r.point.0 g1 b1 c.create.ensures.seen base1

pub give_tables-requires-clause-lawful : goal.give_tables-requires-clause-lawful
give_tables-requires-clause-lawful g c = let seat = c.args.writer.now.place in let h = seen_by seat in let b = base_of (sheet_of seat) in let y = g.E.EditName.edit in let r = c.requires in
    let hook = c.args.hook in let slot = c.args.slot in let mask = c.args.mask.now in let filter = c.args.filter.now in let given = c.args.given.now.blocks in let point = c.args.point in
    let g1 = seen_by c.create.new.writer.place in let b1 = base_of (sheet_of c.create.new.writer.place) in let base1 = same_base (sheet_of seat) (sheet_of c.create.new.writer.place) c.create.ensures.sheet in
    first_lawful h b y hook slot mask filter given r.lawful r.opens r.given.0 r.given.1 point r.point.0 g1 b1 c.create.ensures.seen base1

pub give_tables-requires-clause-gives : goal.give_tables-requires-clause-gives
give_tables-requires-clause-gives g c = let seat = c.args.writer.now.place in let h = seen_by seat in let b = base_of (sheet_of seat) in let y = g.E.EditName.edit in let r = c.requires in
    let hook = c.args.hook in let slot = c.args.slot in let mask = c.args.mask.now in let filter = c.args.filter.now in let given = c.args.given.now.blocks in let point = c.args.point in
    let g1 = seen_by c.create.new.writer.place in let b1 = base_of (sheet_of c.create.new.writer.place) in let base1 = same_base (sheet_of seat) (sheet_of c.create.new.writer.place) c.create.ensures.sheet in
    first_gives h b y hook slot mask filter given r.lawful r.opens r.given.0 r.given.1 point r.point.0 g1 b1 c.create.ensures.seen base1 c.from_ref.result.now c.from_ref.ensures.value

pub give_tables-requires-clause-lists : goal.give_tables-requires-clause-lists
give_tables-requires-clause-lists g c = let seat = c.args.writer.now.place in let h = seen_by seat in let b = base_of (sheet_of seat) in let y = g.E.EditName.edit in let r = c.requires in
    let hook = c.args.hook in let slot = c.args.slot in let mask = c.args.mask.now in let filter = c.args.filter.now in let given = c.args.given.now.blocks in let point = c.args.point in
    let g1 = seen_by c.create.new.writer.place in let b1 = base_of (sheet_of c.create.new.writer.place) in let base1 = same_base (sheet_of seat) (sheet_of c.create.new.writer.place) c.create.ensures.sheet in
    first_lists h b y hook slot mask filter given r.lawful r.opens r.given.0 r.given.1 point r.point.0 g1 b1 c.create.ensures.seen base1 c.args.lists.now r.lists

pub give_tables-requires-clause-tables : goal.give_tables-requires-clause-tables
give_tables-requires-clause-tables g c = let seat = c.args.writer.now.place in let h = seen_by seat in let b = base_of (sheet_of seat) in let y = g.E.EditName.edit in let r = c.requires in
    let hook = c.args.hook in let slot = c.args.slot in let mask = c.args.mask.now in let filter = c.args.filter.now in let given = c.args.given.now.blocks in let point = c.args.point in
    let g1 = seen_by c.create.new.writer.place in let b1 = base_of (sheet_of c.create.new.writer.place) in let base1 = same_base (sheet_of seat) (sheet_of c.create.new.writer.place) c.create.ensures.sheet in
    first_tables h b y hook slot mask filter given r.lawful r.opens r.given.0 r.given.1 point r.point.0 g1 b1 c.create.ensures.seen base1 hook c.args.heads.now r.tables

pub give_tables-requires-clause-idle : goal.give_tables-requires-clause-idle
give_tables-requires-clause-idle g c = let seat = c.args.writer.now.place in let h = seen_by seat in let b = base_of (sheet_of seat) in let y = g.E.EditName.edit in let r = c.requires in
    let hook = c.args.hook in let slot = c.args.slot in let mask = c.args.mask.now in let filter = c.args.filter.now in let given = c.args.given.now.blocks in let point = c.args.point in
    let g1 = seen_by c.create.new.writer.place in let b1 = base_of (sheet_of c.create.new.writer.place) in let base1 = same_base (sheet_of seat) (sheet_of c.create.new.writer.place) c.create.ensures.sheet in
    first_idle h b y hook slot mask filter given r.lawful r.opens r.given.0 r.given.1 point r.point.0 g1 b1 c.create.ensures.seen base1 (other_place c.args.heads.now.pair.active) (omega arith) r.idle

pub returns-clause-journal : goal.returns-clause-journal
returns-clause-journal g c = let seat = c.args.writer.now.place in let h = seen_by seat in let b = base_of (sheet_of seat) in let y = g.E.EditName.edit in let r = c.requires in
    let hook = c.args.hook in let slot = c.args.slot in let mask = c.args.mask.now in let filter = c.args.filter.now in let given = c.args.given.now.blocks in let point = c.args.point in
    let g1 = seen_by c.create.new.writer.place in let b1 = base_of (sheet_of c.create.new.writer.place) in let base1 = same_base (sheet_of seat) (sheet_of c.create.new.writer.place) c.create.ensures.sheet in
    let g2 = seen_by c.give_tables.new.writer.place in let b2 = base_of (sheet_of c.give_tables.new.writer.place) in
    let base2 = same_base (sheet_of c.create.new.writer.place) (sheet_of c.give_tables.new.writer.place) c.give_tables.ensures.sheet in
    let place = other_place c.args.heads.now.pair.active in let e = c.give_tables.ensures in let tables = c.give_tables.new.heads.tables in
    last_journal h b y hook slot mask filter given r.lawful r.opens r.given.0 r.given.1 point r.point.0 g1 b1 c.create.ensures.seen base1 place tables (omega arith) c.from_ref.result.now c.from_ref.ensures.value e.given g2 b2 e.seen base2 c.args.masks.now c.args.store.now.shape (sheet_of seat).cells r.masks

pub returns-clause-lawful : goal.returns-clause-lawful
returns-clause-lawful g c = let seat = c.args.writer.now.place in let h = seen_by seat in let b = base_of (sheet_of seat) in let y = g.E.EditName.edit in let r = c.requires in
    let hook = c.args.hook in let slot = c.args.slot in let mask = c.args.mask.now in let filter = c.args.filter.now in let given = c.args.given.now.blocks in let point = c.args.point in
    let g1 = seen_by c.create.new.writer.place in let b1 = base_of (sheet_of c.create.new.writer.place) in let base1 = same_base (sheet_of seat) (sheet_of c.create.new.writer.place) c.create.ensures.sheet in
    let g2 = seen_by c.give_tables.new.writer.place in let b2 = base_of (sheet_of c.give_tables.new.writer.place) in
    let base2 = same_base (sheet_of c.create.new.writer.place) (sheet_of c.give_tables.new.writer.place) c.give_tables.ensures.sheet in
    let place = other_place c.args.heads.now.pair.active in let e = c.give_tables.ensures in let tables = c.give_tables.new.heads.tables in
    last_lawful h b y hook slot mask filter given r.lawful r.opens r.given.0 r.given.1 point r.point.0 g1 b1 c.create.ensures.seen base1 place tables (omega arith) c.from_ref.result.now c.from_ref.ensures.value e.given g2 b2 e.seen base2

pub returns-clause-rests : goal.returns-clause-rests
returns-clause-rests g c = let seat = c.args.writer.now.place in let h = seen_by seat in let b = base_of (sheet_of seat) in let y = g.E.EditName.edit in let r = c.requires in
    let hook = c.args.hook in let slot = c.args.slot in let mask = c.args.mask.now in let filter = c.args.filter.now in let given = c.args.given.now.blocks in let point = c.args.point in
    let g1 = seen_by c.create.new.writer.place in let b1 = base_of (sheet_of c.create.new.writer.place) in let base1 = same_base (sheet_of seat) (sheet_of c.create.new.writer.place) c.create.ensures.sheet in
    let g2 = seen_by c.give_tables.new.writer.place in let b2 = base_of (sheet_of c.give_tables.new.writer.place) in
    let base2 = same_base (sheet_of c.create.new.writer.place) (sheet_of c.give_tables.new.writer.place) c.give_tables.ensures.sheet in
    let place = other_place c.args.heads.now.pair.active in let e = c.give_tables.ensures in let tables = c.give_tables.new.heads.tables in
    last_rests h b y hook slot mask filter given r.lawful r.opens r.given.0 r.given.1 point r.point.0 g1 b1 c.create.ensures.seen base1 place tables (omega arith) c.from_ref.result.now c.from_ref.ensures.value e.given g2 b2 e.seen base2

pub returns-clause-others : goal.returns-clause-others
returns-clause-others g c = let seat = c.args.writer.now.place in let h = seen_by seat in let b = base_of (sheet_of seat) in let y = g.E.EditName.edit in let r = c.requires in
    let hook = c.args.hook in let slot = c.args.slot in let mask = c.args.mask.now in let filter = c.args.filter.now in let given = c.args.given.now.blocks in let point = c.args.point in
    let g1 = seen_by c.create.new.writer.place in let b1 = base_of (sheet_of c.create.new.writer.place) in let base1 = same_base (sheet_of seat) (sheet_of c.create.new.writer.place) c.create.ensures.sheet in
    let g2 = seen_by c.give_tables.new.writer.place in let b2 = base_of (sheet_of c.give_tables.new.writer.place) in
    let base2 = same_base (sheet_of c.create.new.writer.place) (sheet_of c.give_tables.new.writer.place) c.give_tables.ensures.sheet in
    let place = other_place c.args.heads.now.pair.active in let e = c.give_tables.ensures in let tables = c.give_tables.new.heads.tables in
    last_others h b y hook slot mask filter given r.lawful r.opens r.given.0 r.given.1 point r.point.0 g1 b1 c.create.ensures.seen base1 place tables (omega arith) c.from_ref.result.now c.from_ref.ensures.value e.given g2 b2 e.seen base2

pub returns-clause-pools : goal.returns-clause-pools
returns-clause-pools g c = let seat = c.args.writer.now.place in let h = seen_by seat in let b = base_of (sheet_of seat) in let y = g.E.EditName.edit in let r = c.requires in
    let hook = c.args.hook in let slot = c.args.slot in let mask = c.args.mask.now in let filter = c.args.filter.now in let given = c.args.given.now.blocks in let point = c.args.point in
    let g1 = seen_by c.create.new.writer.place in let b1 = base_of (sheet_of c.create.new.writer.place) in let base1 = same_base (sheet_of seat) (sheet_of c.create.new.writer.place) c.create.ensures.sheet in
    let g2 = seen_by c.give_tables.new.writer.place in let b2 = base_of (sheet_of c.give_tables.new.writer.place) in
    let base2 = same_base (sheet_of c.create.new.writer.place) (sheet_of c.give_tables.new.writer.place) c.give_tables.ensures.sheet in
    let place = other_place c.args.heads.now.pair.active in let e = c.give_tables.ensures in let tables = c.give_tables.new.heads.tables in
    last_pools h b y hook slot mask filter given r.lawful r.opens r.given.0 r.given.1 point r.point.0 g1 b1 c.create.ensures.seen base1 place tables (omega arith) c.from_ref.result.now c.from_ref.ensures.value e.given g2 b2 e.seen base2 r.idle

pub returns-clause-masks : goal.returns-clause-masks
returns-clause-masks g c = let seat = c.args.writer.now.place in let h = seen_by seat in let b = base_of (sheet_of seat) in let y = g.E.EditName.edit in let r = c.requires in
    let hook = c.args.hook in let slot = c.args.slot in let mask = c.args.mask.now in let filter = c.args.filter.now in let given = c.args.given.now.blocks in let point = c.args.point in
    let g1 = seen_by c.create.new.writer.place in let b1 = base_of (sheet_of c.create.new.writer.place) in let base1 = same_base (sheet_of seat) (sheet_of c.create.new.writer.place) c.create.ensures.sheet in
    let g2 = seen_by c.give_tables.new.writer.place in let b2 = base_of (sheet_of c.give_tables.new.writer.place) in
    let base2 = same_base (sheet_of c.create.new.writer.place) (sheet_of c.give_tables.new.writer.place) c.give_tables.ensures.sheet in
    let place = other_place c.args.heads.now.pair.active in let e = c.give_tables.ensures in let tables = c.give_tables.new.heads.tables in
    last_masks h b y hook slot mask filter given r.lawful r.opens r.given.0 r.given.1 point r.point.0 g1 b1 c.create.ensures.seen base1 place tables (omega arith) c.from_ref.result.now c.from_ref.ensures.value e.given g2 b2 e.seen base2 c.args.masks.now c.args.store.now.shape (sheet_of seat).cells r.masks c.create.new.self (sheet_of c.create.new.writer.place).cells (sheet_of c.give_tables.new.writer.place).cells
    c.create.ensures.kept c.create.ensures.masks c.create.ensures.list c.create.ensures.lists e.others
