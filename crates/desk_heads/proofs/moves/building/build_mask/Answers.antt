use Rattle.std.specs.Prelude.{All}
use Rattle.std.proofs.Common.{length, get_or, subst}
use Rattle.pin_store.specs.Sheets.{base_of}
use Rattle.pin_store.specs.Calls.{seen_by, sheet_of}
use Rattle.mask_order.specs.Fitting.{FitsBlock}
use Rattle.mask_table.proofs.OfMirrors.Keeping.{same_base}
use Rattle.desk_heads.proofs.OfMoves.BuiltMasks.{slot_empty, rows_free}
use Rattle.desk_heads.proofs.OfMoves.BuildSteps.{build_lawful, built_journal, built_lawful, built_ready, built_rests, built_spare, built_stored, built_tables, built_unnamed, built_pools, built_actions, built_holds}
use Rattle.desk_heads.proofs.moves.building.build_mask.Goals as goal

pub build-requires-clause-empty : goal.build-requires-clause-empty
build-requires-clause-empty g c = let seat = c.args.writer.now.place in let h = seen_by seat in let b = base_of (sheet_of seat) in let y = g.E.EditName.edit in let r = c.requires in
    let slot = c.args.slot in let mask = c.args.mask.now in let fs = c.args.filters.now in let given = c.args.given.now.blocks in let point = c.args.point in
    slot_empty h b y slot mask given (get_or given (length fs) 0) r.lawful r.ready r.can c.args.masks.now c.args.store.now.shape (sheet_of seat).cells r.holds.0 r.holds.1

pub build-requires-clause-rows : goal.build-requires-clause-rows
build-requires-clause-rows g c = let seat = c.args.writer.now.place in let h = seen_by seat in let b = base_of (sheet_of seat) in let y = g.E.EditName.edit in let r = c.requires in
    let slot = c.args.slot in let mask = c.args.mask.now in let fs = c.args.filters.now in let given = c.args.given.now.blocks in let point = c.args.point in
    rows_free h b y slot mask given (get_or given (length fs) 0) r.lawful r.ready r.can c.args.masks.now c.args.store.now.shape (sheet_of seat).cells r.holds.0 r.holds.1

pub build-requires-clause-storable : goal.build-requires-clause-storable
build-requires-clause-storable g c = let seat = c.args.writer.now.place in let h = seen_by seat in let b = base_of (sheet_of seat) in let y = g.E.EditName.edit in let r = c.requires in
    let slot = c.args.slot in let mask = c.args.mask.now in let fs = c.args.filters.now in let given = c.args.given.now.blocks in let point = c.args.point in
    λ k d less. (subst (All FitsBlock) r.filters r.can.fit.filters k d less).storable

pub build-requires-clause-lawful : goal.build-requires-clause-lawful
build-requires-clause-lawful g c = let seat = c.args.writer.now.place in let h = seen_by seat in let b = base_of (sheet_of seat) in let y = g.E.EditName.edit in let r = c.requires in
    let slot = c.args.slot in let mask = c.args.mask.now in let fs = c.args.filters.now in let given = c.args.given.now.blocks in let point = c.args.point in
    build_lawful h b y slot mask fs given r.lawful r.ready r.can r.filters r.given.0 r.given.1 point r.point.0

pub returns-clause-journal : goal.returns-clause-journal
returns-clause-journal g c = let seat = c.args.writer.now.place in let h = seen_by seat in let b = base_of (sheet_of seat) in let y = g.E.EditName.edit in let r = c.requires in
    let slot = c.args.slot in let mask = c.args.mask.now in let fs = c.args.filters.now in let given = c.args.given.now.blocks in let point = c.args.point in
    let g1 = seen_by c.build.new.writer.place in let b1 = base_of (sheet_of c.build.new.writer.place) in let base1 = same_base (sheet_of seat) (sheet_of c.build.new.writer.place) c.build.ensures.sheet in
    built_journal h b y slot mask fs given r.lawful r.ready r.can r.filters r.given.0 r.given.1 point r.point.0 g1 b1 c.build.ensures.seen base1

pub returns-clause-lawful : goal.returns-clause-lawful
returns-clause-lawful g c = let seat = c.args.writer.now.place in let h = seen_by seat in let b = base_of (sheet_of seat) in let y = g.E.EditName.edit in let r = c.requires in
    let slot = c.args.slot in let mask = c.args.mask.now in let fs = c.args.filters.now in let given = c.args.given.now.blocks in let point = c.args.point in
    let g1 = seen_by c.build.new.writer.place in let b1 = base_of (sheet_of c.build.new.writer.place) in let base1 = same_base (sheet_of seat) (sheet_of c.build.new.writer.place) c.build.ensures.sheet in
    built_lawful h b y slot mask fs given r.lawful r.ready r.can r.filters r.given.0 r.given.1 point r.point.0 g1 b1 c.build.ensures.seen base1

pub returns-clause-ready : goal.returns-clause-ready
returns-clause-ready g c = let seat = c.args.writer.now.place in let h = seen_by seat in let b = base_of (sheet_of seat) in let y = g.E.EditName.edit in let r = c.requires in
    let slot = c.args.slot in let mask = c.args.mask.now in let fs = c.args.filters.now in let given = c.args.given.now.blocks in let point = c.args.point in
    let g1 = seen_by c.build.new.writer.place in let b1 = base_of (sheet_of c.build.new.writer.place) in let base1 = same_base (sheet_of seat) (sheet_of c.build.new.writer.place) c.build.ensures.sheet in
    built_ready h b y slot mask fs given r.lawful r.ready r.can r.filters r.given.0 r.given.1 point r.point.0 g1 b1 c.build.ensures.seen base1

pub returns-clause-rests : goal.returns-clause-rests
returns-clause-rests g c = let seat = c.args.writer.now.place in let h = seen_by seat in let b = base_of (sheet_of seat) in let y = g.E.EditName.edit in let r = c.requires in
    let slot = c.args.slot in let mask = c.args.mask.now in let fs = c.args.filters.now in let given = c.args.given.now.blocks in let point = c.args.point in
    let g1 = seen_by c.build.new.writer.place in let b1 = base_of (sheet_of c.build.new.writer.place) in let base1 = same_base (sheet_of seat) (sheet_of c.build.new.writer.place) c.build.ensures.sheet in
    built_rests h b y slot mask fs given r.lawful r.ready r.can r.filters r.given.0 r.given.1 point r.point.0 g1 b1 c.build.ensures.seen base1

pub returns-clause-spare : goal.returns-clause-spare
returns-clause-spare g c = let seat = c.args.writer.now.place in let h = seen_by seat in let b = base_of (sheet_of seat) in let y = g.E.EditName.edit in let r = c.requires in
    let slot = c.args.slot in let mask = c.args.mask.now in let fs = c.args.filters.now in let given = c.args.given.now.blocks in let point = c.args.point in
    let g1 = seen_by c.build.new.writer.place in let b1 = base_of (sheet_of c.build.new.writer.place) in let base1 = same_base (sheet_of seat) (sheet_of c.build.new.writer.place) c.build.ensures.sheet in
    built_spare h b y slot mask fs given r.lawful r.ready r.can r.filters r.given.0 r.given.1 point r.point.0 g1 b1 c.build.ensures.seen base1

pub returns-clause-stored : goal.returns-clause-stored
returns-clause-stored g c = let seat = c.args.writer.now.place in let h = seen_by seat in let b = base_of (sheet_of seat) in let y = g.E.EditName.edit in let r = c.requires in
    let slot = c.args.slot in let mask = c.args.mask.now in let fs = c.args.filters.now in let given = c.args.given.now.blocks in let point = c.args.point in
    let g1 = seen_by c.build.new.writer.place in let b1 = base_of (sheet_of c.build.new.writer.place) in let base1 = same_base (sheet_of seat) (sheet_of c.build.new.writer.place) c.build.ensures.sheet in
    built_stored h b y slot mask fs given r.lawful r.ready r.can r.filters r.given.0 r.given.1 point r.point.0 g1 b1 c.build.ensures.seen base1

pub returns-clause-tables : goal.returns-clause-tables
returns-clause-tables g c = let seat = c.args.writer.now.place in let h = seen_by seat in let b = base_of (sheet_of seat) in let y = g.E.EditName.edit in let r = c.requires in
    let slot = c.args.slot in let mask = c.args.mask.now in let fs = c.args.filters.now in let given = c.args.given.now.blocks in let point = c.args.point in
    let g1 = seen_by c.build.new.writer.place in let b1 = base_of (sheet_of c.build.new.writer.place) in let base1 = same_base (sheet_of seat) (sheet_of c.build.new.writer.place) c.build.ensures.sheet in
    built_tables h b y slot mask fs given r.lawful r.ready r.can r.filters r.given.0 r.given.1 point r.point.0 g1 b1 c.build.ensures.seen base1

pub returns-clause-unnamed : goal.returns-clause-unnamed
returns-clause-unnamed g c = let seat = c.args.writer.now.place in let h = seen_by seat in let b = base_of (sheet_of seat) in let y = g.E.EditName.edit in let r = c.requires in
    let slot = c.args.slot in let mask = c.args.mask.now in let fs = c.args.filters.now in let given = c.args.given.now.blocks in let point = c.args.point in
    let g1 = seen_by c.build.new.writer.place in let b1 = base_of (sheet_of c.build.new.writer.place) in let base1 = same_base (sheet_of seat) (sheet_of c.build.new.writer.place) c.build.ensures.sheet in
    built_unnamed h b y slot mask fs given r.lawful r.ready r.can r.filters r.given.0 r.given.1 point r.point.0 g1 b1 c.build.ensures.seen base1

pub returns-clause-pools : goal.returns-clause-pools
returns-clause-pools g c = let seat = c.args.writer.now.place in let h = seen_by seat in let b = base_of (sheet_of seat) in let y = g.E.EditName.edit in let r = c.requires in
    let slot = c.args.slot in let mask = c.args.mask.now in let fs = c.args.filters.now in let given = c.args.given.now.blocks in let point = c.args.point in
    let g1 = seen_by c.build.new.writer.place in let b1 = base_of (sheet_of c.build.new.writer.place) in let base1 = same_base (sheet_of seat) (sheet_of c.build.new.writer.place) c.build.ensures.sheet in
    built_pools h b y slot mask fs given r.lawful r.ready r.can r.filters r.given.0 r.given.1 point r.point.0 g1 b1 c.build.ensures.seen base1

pub returns-clause-actions : goal.returns-clause-actions
returns-clause-actions g c = let seat = c.args.writer.now.place in let h = seen_by seat in let b = base_of (sheet_of seat) in let y = g.E.EditName.edit in let r = c.requires in
    let slot = c.args.slot in let mask = c.args.mask.now in let fs = c.args.filters.now in let given = c.args.given.now.blocks in let point = c.args.point in
    let g1 = seen_by c.build.new.writer.place in let b1 = base_of (sheet_of c.build.new.writer.place) in let base1 = same_base (sheet_of seat) (sheet_of c.build.new.writer.place) c.build.ensures.sheet in
    built_actions h b y slot mask fs given r.lawful r.ready r.can r.filters r.given.0 r.given.1 point r.point.0 g1 b1 c.build.ensures.seen base1

pub returns-clause-holds : goal.returns-clause-holds
returns-clause-holds g c = let seat = c.args.writer.now.place in let h = seen_by seat in let b = base_of (sheet_of seat) in let y = g.E.EditName.edit in let r = c.requires in
    let slot = c.args.slot in let mask = c.args.mask.now in let fs = c.args.filters.now in let given = c.args.given.now.blocks in let point = c.args.point in
    let g1 = seen_by c.build.new.writer.place in let b1 = base_of (sheet_of c.build.new.writer.place) in let base1 = same_base (sheet_of seat) (sheet_of c.build.new.writer.place) c.build.ensures.sheet in
    built_holds h b y slot mask fs given r.lawful r.ready r.can r.filters r.given.0 r.given.1 point r.point.0 g1 b1 c.build.ensures.seen base1 c.args.masks.now c.args.store.now.shape (sheet_of seat).cells c.build.new.self (sheet_of c.build.new.writer.place).cells c.build.ensures.kept c.build.ensures.masks c.build.ensures.list c.build.ensures.lists
