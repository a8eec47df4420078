use Rattle.std.proofs.Common.{◌∙◌, arith}
use Rattle.pin_store.proofs.Keeping.{joins, meets}
use Rattle.pin_store.proofs.reader.Reader.learn.Goals as goal

pub join_seat-requires : goal.join_seat-requires
join_seat-requires g c = let t = c.args.store.now in let w = t.wide in (
  c.requires.store.table,
  c.requires.receipt.table,
  c.requires.receipt.free,
  omega arith,
  rw t.about (joins g.L.Law.keeps t.shape _ _ _ _),
)

pub load-requires : goal.load-requires
load-requires g c = let t = c.args.store.now in let w = t.wide in let at = c.roots_at.ensures in (
  c.join_seat.ensures.0 ∙ c.requires.store.table,
  omega arith,
  rw t.about (meets g.L.Law.keeps t.shape _ _ _ _),
)
