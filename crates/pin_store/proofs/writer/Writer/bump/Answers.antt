use Rattle.std.proofs.Common.{ℕ, ◌<◌, ◌+◌, length, arith, ap, sym, subst}
use Rattle.pin_store.specs.declared.shape.Shape.{Shape}
use Rattle.pin_store.specs.Sheets.{IsSoundSheet}
use Rattle.pin_store.proofs.Sound.{sound_bumped}
use Rattle.pin_store.proofs.Keeping.{bumps}
use Rattle.pin_store.proofs.writer.Writer.bump.Goals as goal

pub store-requires : goal.store-requires
store-requires g c = let t = c.args.store.now in let w = t.wide in let at = c.epoch_at-epoch_at.ensures in let me = c.args.self.now in (
  c.requires.store.table,
  omega arith,
  rw (t.about, at) (bumps g.L.Law.keeps t.shape _ _ _ (me.epoch + 1) me.writes t.parts.2 (ap (λ (z : ℕ). z + 1) (sym me.present))),
)

pub invariant_of-self-clause-sound : goal.invariant_of-self-clause-sound
invariant_of-self-clause-sound g c = let me = c.args.self.now in
    subst (λ m. IsSoundSheet m.0.shape m.0.sheet (length m.0.seen)) (sym c.store.ensures.2) (sound_bumped _ _ _ (subst (λ (z : Shape). 0 < z.readers) (sym c.requires.store.shaped) c.args.store.now.parts.2) me.sound)
