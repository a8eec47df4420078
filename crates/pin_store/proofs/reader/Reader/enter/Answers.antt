use Rattle.std.proofs.Common.{◌≡◌, ℕ, ◌≤◌, ◌+◌, ◌-◌, ◌%◌, ◌∙◌, arith, ap, sym, subst}
use Rattle.pin_store.specs.declared.shape.Shape.{Shape}
use Rattle.pin_store.proofs.Keeping.{raises, loads_epoch}
use Rattle.pin_store.proofs.reader.Reader.enter.Goals as goal

pub store-requires : goal.store-requires
store-requires g c = let t = c.args.store.now in let w = t.wide in let me = c.args.self.now in let n = me.numbered.1 in let at = c.pin_at-pin_at.ensures in
    let low = subst (λ (z : Shape). me.number ≤ z.readers) c.requires.store.shaped me.numbered.2 in (
      c.requires.store.table,
      omega arith,
      rw (t.about, at) (raises g.L.Law.keeps t.shape _ _ _ (me.number - 1) (me.pin + 1) (me.numbered.0 ∙ (omega arith)) me.plain (ap (λ (z : ℕ). z + 1) (sym me.pinned.0))),
    )

pub load-requires : goal.load-requires
load-requires g c = let t = c.args.store.now in let w = t.wide in let me = c.args.self.now in let n = me.numbered.1 in let at = c.epoch_at-epoch_at.ensures in
    let s = c.store.ensures.2 in let p = me.pinned.0 in let o = c.requires.outside in let odd : (me.pin + 1) % 2 ≡ 1 = omega arith in (
      c.store.ensures.0 ∙ c.requires.store.table,
      omega arith,
      rw (t.about, at) (loads_epoch g.L.Law.keeps t.shape _ _ _ (me.number - 1) (ap (λ m. m.0.number) s ∙ (me.numbered.0 ∙ (omega arith))) (ap (λ m. m.0.writes) s ∙ me.plain) (ap (λ m. m.0.pin % 2) s ∙ odd)),
    )
