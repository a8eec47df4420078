use Rattle.std.proofs.Common.{◌∙◌, arith, ap, sym}
use Rattle.pin_store.proofs.Keeping.{joins, meets, splits_receipt, met}
use Rattle.pin_store.proofs.writer.Writer.meet.Goals as goal

pub split_seat-told-requires : goal.split_seat-told-requires
split_seat-told-requires g c = let t = c.args.store.now in let w = t.wide in (
  c.requires.reader.table,
  omega arith,
  rw t.about (splits_receipt g.L.Law.keeps t.shape _ _),
)

pub join_seat-requires : goal.join_seat-requires
join_seat-requires g c = let t = c.args.store.now in let w = t.wide in (
  c.requires.store.table,
  c.split_seat-told.ensures.3 ∙ c.requires.reader.table,
  ap (λ m. m.1) c.split_seat-told.ensures.4,
  omega arith,
  rw t.about (joins g.L.Law.keeps t.shape _ _ _ _),
)

pub load-requires : goal.load-requires
load-requires g c = let t = c.args.store.now in let w = t.wide in let at = c.roots_at.ensures in (
  c.join_seat.ensures.0 ∙ c.requires.store.table,
  omega arith,
  rw t.about (meets g.L.Law.keeps t.shape _ _ _ _),
)

pub returns-clause-met : goal.returns-clause-met
returns-clause-met g c = rw (sym (ap (λ m. m.0.seen) c.split_seat-told.ensures.4)) (met c.args.self.now.place.me.0 c.split_seat-told.result.me.0 _ _ _ _ _ c.load.ensures.2 c.join_seat.ensures.2 c.args.self.now.writes)
