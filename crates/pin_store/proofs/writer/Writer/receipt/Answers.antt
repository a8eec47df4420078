use Rattle.std.proofs.Common.{arith}
use Rattle.pin_store.proofs.Keeping.{splits_receipt}
use Rattle.pin_store.proofs.writer.Writer.receipt.Goals as goal

pub split_seat-requires : goal.split_seat-requires
split_seat-requires g c = let t = c.args.store.now in let w = t.wide in (
  c.requires.store.table,
  omega arith,
  rw t.about (splits_receipt g.L.Law.keeps t.shape _ _),
)
