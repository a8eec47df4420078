use Rattle.std.proofs.Common.{ℕ, ◌≤◌, ◌+◌, ◌-◌, ◌∙◌, arith, ap, sym, subst}
use Rattle.pin_store.specs.declared.shape.Shape.{Shape}
use Rattle.pin_store.proofs.Keeping.{raises}
use Rattle.pin_store.proofs.reader.Reader.leave.Goals as goal

pub store-requires : goal.store-requires
store-requires g c = let t = c.args.store.now in let w = t.wide in let me = c.args.self.now in let n = me.numbered.1 in let at = c.pin_at-pin_at.ensures in
    let low = subst (λ (z : Shape). me.number ≤ z.readers) c.requires.store.shaped me.numbered.2 in (
      c.requires.store.table,
      omega arith,
      rw (t.about, at) (raises g.L.Law.keeps t.shape _ _ _ (me.number - 1) (me.pin + 1) (me.numbered.0 ∙ (omega arith)) me.plain (ap (λ (z : ℕ). z + 1) (sym me.pinned.0))),
    )
