use Rattle.std.proofs.Common.{◌-◌, ◌%◌, ◌∙◌, ◌≡◌, subst, ap, arith}
use Rattle.pin_store.specs.declared.shape.Shape.{Shape}
use Rattle.pin_store.specs.Layout.{IsInShape}
use Rattle.pin_store.proofs.Keeping.{loads_root}
use Rattle.pin_store.proofs.Inside.{floor_there, named_since}
use Rattle.pin_store.proofs.reader.Reader.load_root.Goals as goal

pub load-word-requires : goal.load-word-requires
load-word-requires g c = let t = c.args.store.now in let w = t.wide in let me = c.args.self.now in let n = me.numbered.1 in let at = c.roots_at.ensures in (
  c.requires.store.table,
  omega arith,
  rw (t.about, at) (loads_root g.L.Law.keeps t.shape g.L.Law.rises _ _ _ (me.number - 1) c.args.root c.requires.store.shaped (me.numbered.0 ∙ (omega arith)) me.plain c.requires.root),
)

pub returns-clause-sized : goal.returns-clause-sized
returns-clause-sized g c = λ l named. let me = c.args.self.now in let p = me.pinned.0 in let o = c.requires.inside in let odd : me.pin % 2 ≡ 1 = omega arith in
    let f = floor_there me.place.me.0.floor (me.floored odd) in let told = c.load-word.ensures.2 in
    subst (λ (z : Shape). IsInShape z l) c.requires.store.shaped (told.sized f.0 l f.1 (named_since _ l _ f.0 (ap (λ m. m.0.floor) told.rest ∙ f.1) named))
