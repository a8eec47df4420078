use Rattle.std.proofs.Common.{arith}
use Rattle.pin_store.proofs.Cells.{cell_inside}
use Rattle.pin_store.proofs.Keeping.{fills}
use Rattle.pin_store.proofs.writer.Writer.fill_word.Goals as goal

pub store-requires : goal.store-requires
store-requires g c = let t = c.args.store.now in let w = t.wide in let at = c.word_at-cell.ensures in
    let i = cell_inside c.args.block t.shape.blocks t.shape.words c.args.at c.requires.within.0 c.requires.within.1 in (
      c.requires.store.table,
      omega arith,
      rw (t.about, at) (fills g.L.Law.keeps t.shape _ _ _ c.args.block c.args.at c.args.word c.args.self.now.writes c.requires.within.0 c.requires.within.1 c.requires.unread),
    )
