use Rattle.std.proofs.Common.{arith}
use Rattle.pin_store.proofs.Keeping.{loads_pin}
use Rattle.pin_store.proofs.writer.Writer.note_pin.Goals as goal

pub load-pin-requires : goal.load-pin-requires
load-pin-requires g c = let t = c.args.store.now in let w = t.wide in let at = c.pin_at-at.ensures in (
  c.requires.store.table,
  omega arith,
  rw (t.about, at) (loads_pin g.L.Law.keeps t.shape g.L.Law.rises _ _ _ c.args.i c.requires.store.shaped c.args.self.now.writes c.requires.within),
)
