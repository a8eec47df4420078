use Rattle.std.proofs.Common.{ℕ, ◌+◌, ap, arith}
use Rattle.pin_store.specs.Sheets.{base_of}
use Rattle.pin_store.specs.Calls.{seen_by, sheet_of}
use Rattle.miniq_pair.specs.Pairs.{other_place}
use Rattle.mask_table.proofs.OfMirrors.Keeping.{same_base}
use Rattle.desk_heads.proofs.OfMoves.MoveSteps.{moved_lawful, moved_rests, moved_journal, moved_others, moved_stays, moved_only, moved_holds, moved_gone, moved_pools}
use Rattle.desk_heads.proofs.moves.moving.move_masks.Goals as goal

pub give_tables-requires-clause-number : goal.give_tables-requires-clause-number
give_tables-requires-clause-number g c = ap (λ (n : ℕ). n + 1) c.requires.point.0

pub returns-clause-journal : goal.returns-clause-journal
returns-clause-journal g c = let seat = c.args.writer.now.place in let h = seen_by seat in let b = base_of (sheet_of seat) in let y = g.E.EditName.edit in let r = c.requires in
    let hook = c.args.hook in let built = c.args.built.now in let point = c.args.point in
    let g2 = seen_by c.give_tables.new.writer.place in let b2 = base_of (sheet_of c.give_tables.new.writer.place) in
    let base2 = same_base (sheet_of seat) (sheet_of c.give_tables.new.writer.place) c.give_tables.ensures.sheet in
    let place = other_place c.args.heads.now.pair.active in let e = c.give_tables.ensures in let tables = c.give_tables.new.heads.tables in
    moved_journal h b y hook built r.lawful r.gives point r.point.0 place tables (omega arith) e.given g2 b2 e.seen base2

pub returns-clause-lawful : goal.returns-clause-lawful
returns-clause-lawful g c = let seat = c.args.writer.now.place in let h = seen_by seat in let b = base_of (sheet_of seat) in let y = g.E.EditName.edit in let r = c.requires in
    let hook = c.args.hook in let built = c.args.built.now in let point = c.args.point in
    let g2 = seen_by c.give_tables.new.writer.place in let b2 = base_of (sheet_of c.give_tables.new.writer.place) in
    let base2 = same_base (sheet_of seat) (sheet_of c.give_tables.new.writer.place) c.give_tables.ensures.sheet in
    let place = other_place c.args.heads.now.pair.active in let e = c.give_tables.ensures in let tables = c.give_tables.new.heads.tables in
    moved_lawful h b y hook built r.lawful r.gives point r.point.0 place tables (omega arith) e.given g2 b2 e.seen base2

pub returns-clause-rests : goal.returns-clause-rests
returns-clause-rests g c = let seat = c.args.writer.now.place in let h = seen_by seat in let b = base_of (sheet_of seat) in let y = g.E.EditName.edit in let r = c.requires in
    let hook = c.args.hook in let built = c.args.built.now in let point = c.args.point in
    let g2 = seen_by c.give_tables.new.writer.place in let b2 = base_of (sheet_of c.give_tables.new.writer.place) in
    let base2 = same_base (sheet_of seat) (sheet_of c.give_tables.new.writer.place) c.give_tables.ensures.sheet in
    let place = other_place c.args.heads.now.pair.active in let e = c.give_tables.ensures in let tables = c.give_tables.new.heads.tables in
    moved_rests h b y hook built r.lawful r.gives point r.point.0 place tables (omega arith) e.given g2 b2 e.seen base2

pub returns-clause-others : goal.returns-clause-others
returns-clause-others g c = let seat = c.args.writer.now.place in let h = seen_by seat in let b = base_of (sheet_of seat) in let y = g.E.EditName.edit in let r = c.requires in
    let hook = c.args.hook in let built = c.args.built.now in let point = c.args.point in
    let g2 = seen_by c.give_tables.new.writer.place in let b2 = base_of (sheet_of c.give_tables.new.writer.place) in
    let base2 = same_base (sheet_of seat) (sheet_of c.give_tables.new.writer.place) c.give_tables.ensures.sheet in
    let place = other_place c.args.heads.now.pair.active in let e = c.give_tables.ensures in let tables = c.give_tables.new.heads.tables in
    moved_others h b y hook built r.lawful r.gives point r.point.0 place tables (omega arith) e.given g2 b2 e.seen base2

pub returns-clause-stays : goal.returns-clause-stays
returns-clause-stays g c = let seat = c.args.writer.now.place in let h = seen_by seat in let b = base_of (sheet_of seat) in let y = g.E.EditName.edit in let r = c.requires in
    let hook = c.args.hook in let built = c.args.built.now in let point = c.args.point in
    let g2 = seen_by c.give_tables.new.writer.place in let b2 = base_of (sheet_of c.give_tables.new.writer.place) in
    let base2 = same_base (sheet_of seat) (sheet_of c.give_tables.new.writer.place) c.give_tables.ensures.sheet in
    let place = other_place c.args.heads.now.pair.active in let e = c.give_tables.ensures in let tables = c.give_tables.new.heads.tables in
    moved_stays h b y hook built r.lawful r.gives point r.point.0 place tables (omega arith) e.given g2 b2 e.seen base2

pub returns-clause-only : goal.returns-clause-only
returns-clause-only g c = let seat = c.args.writer.now.place in let h = seen_by seat in let b = base_of (sheet_of seat) in let y = g.E.EditName.edit in let r = c.requires in
    let hook = c.args.hook in let built = c.args.built.now in let point = c.args.point in
    let g2 = seen_by c.give_tables.new.writer.place in let b2 = base_of (sheet_of c.give_tables.new.writer.place) in
    let base2 = same_base (sheet_of seat) (sheet_of c.give_tables.new.writer.place) c.give_tables.ensures.sheet in
    let place = other_place c.args.heads.now.pair.active in let e = c.give_tables.ensures in let tables = c.give_tables.new.heads.tables in
    moved_only h b y hook built r.lawful r.gives point r.point.0 place tables (omega arith) e.given g2 b2 e.seen base2

pub returns-clause-masks : goal.returns-clause-masks
returns-clause-masks g c = let seat = c.args.writer.now.place in let h = seen_by seat in let b = base_of (sheet_of seat) in let y = g.E.EditName.edit in let r = c.requires in
    let hook = c.args.hook in let built = c.args.built.now in let point = c.args.point in
    let g2 = seen_by c.give_tables.new.writer.place in let b2 = base_of (sheet_of c.give_tables.new.writer.place) in
    let base2 = same_base (sheet_of seat) (sheet_of c.give_tables.new.writer.place) c.give_tables.ensures.sheet in
    let place = other_place c.args.heads.now.pair.active in let e = c.give_tables.ensures in let tables = c.give_tables.new.heads.tables in
    moved_holds h b y hook built r.lawful r.gives point r.point.0 place tables (omega arith) e.given g2 b2 e.seen base2 c.args.store.now.shape (sheet_of seat).cells (sheet_of c.give_tables.new.writer.place).cells e.others

pub returns-clause-gone : goal.returns-clause-gone
returns-clause-gone g c = let seat = c.args.writer.now.place in let h = seen_by seat in let b = base_of (sheet_of seat) in let y = g.E.EditName.edit in let r = c.requires in
    let hook = c.args.hook in let built = c.args.built.now in let point = c.args.point in
    let g2 = seen_by c.give_tables.new.writer.place in let b2 = base_of (sheet_of c.give_tables.new.writer.place) in
    let base2 = same_base (sheet_of seat) (sheet_of c.give_tables.new.writer.place) c.give_tables.ensures.sheet in
    let place = other_place c.args.heads.now.pair.active in let e = c.give_tables.ensures in let tables = c.give_tables.new.heads.tables in
    moved_gone h b y hook built r.lawful r.gives point r.point.0 place tables (omega arith) e.given g2 b2 e.seen base2 c.args.store.now.shape (sheet_of seat).cells

pub returns-clause-pools : goal.returns-clause-pools
returns-clause-pools g c = let seat = c.args.writer.now.place in let h = seen_by seat in let b = base_of (sheet_of seat) in let y = g.E.EditName.edit in let r = c.requires in
    let hook = c.args.hook in let built = c.args.built.now in let point = c.args.point in
    let g2 = seen_by c.give_tables.new.writer.place in let b2 = base_of (sheet_of c.give_tables.new.writer.place) in
    let base2 = same_base (sheet_of seat) (sheet_of c.give_tables.new.writer.place) c.give_tables.ensures.sheet in
    let place = other_place c.args.heads.now.pair.active in let e = c.give_tables.ensures in let tables = c.give_tables.new.heads.tables in
    moved_pools h b y hook built r.lawful r.gives point r.point.0 place tables (omega arith) e.given g2 b2 e.seen base2 r.idle c.args.store.now.shape (sheet_of seat).cells
