use Rattle.std.proofs.Common.{ℕ, ◌<◌, ◌≡◌, ◌+◌, ◌-◌, ◌*◌, ◌%◌, ◌∙◌, arith, ap, sym, subst}
use Rattle.pin_store.specs.declared.shape.Shape.{Shape}
use Rattle.pin_store.proofs.Cells.{cell_inside}
use Rattle.pin_store.proofs.Keeping.{loads_word}
use Rattle.pin_store.proofs.Inside.{floor_there, named_since}
use Rattle.pin_store.proofs.reader.Reader.load_word.Goals as goal

pub load-requires : goal.load-requires
load-requires g c = let t = c.args.store.now in let w = t.wide in let me = c.args.self.now in let n = me.numbered.1 in let at = c.word_at-at.ensures in
    let b = cell_inside c.args.block t.shape.blocks t.shape.words c.args.word c.requires.within.0 c.requires.within.1 in (
      c.requires.store.table,
      omega arith,
      rw t.about (loads_word g.L.Law.keeps t.shape _ _ _ _ (me.number - 1) c.requires.store.shaped (me.numbered.0 ∙ (omega arith))),
    )

pub returns-clause-word : goal.returns-clause-word
returns-clause-word g c = λ l named here. let me = c.args.self.now in let p = me.pinned.0 in let o = c.requires.inside in let odd : me.pin % 2 ≡ 1 = omega arith in
    let f = floor_there me.place.me.0.floor (me.floored odd) in let s = c.requires.store.shaped in
    c.load.ensures.2.told f.0 l c.args.word f.1 (named_since _ l _ f.0 f.1 named) (subst (λ (z : Shape). c.args.word < z.words) (sym s) c.requires.within.1)
    (c.word_at-at.ensures ∙ (ap (λ (z : Shape). c.args.block * z.words + c.args.word) (sym s) ∙ ap (λ (b : ℕ). b * me.place.me.0.shape.words + c.args.word) (sym here)))
