use Rattle.std.proofs.Common.{◌+◌, ◌*◌, ◌∙◌, [], ◌∷◌, length, length-append, arith, sym, ap, subst, ℕ}
use Rattle.store_history.specs.History.{word_of}
use Rattle.pin_store.specs.Sheets.{IsSoundSheet}
use Rattle.pin_store.proofs.Cells.{first_links, first_fits, laid_links, blocks_few}
use Rattle.pin_store.proofs.Sound.{sound_longer}
use Rattle.pin_store.proofs.Keeping.{commits}
use Rattle.pin_store.proofs.writer.Writer.put.Goals as goal

pub word_naming-word-requires : goal.word_naming-word-requires
word_naming-word-requires g c = let t = c.args.store.now in first_fits t.shape.blocks c.args.chain.now c.requires.within (blocks_few t.shape t.parts.0 t.small)

pub store-requires : goal.store-requires
store-requires g c = let t = c.args.store.now in let w = t.wide in let at = c.roots_at.ensures in let cells = c.args.self.now.place.me.0.sheet.cells in let blocks = c.args.chain.now in
    let first = first_links t.shape cells blocks in (
      c.requires.store.table,
      omega arith,
      rw (t.about, at, ← c.requires.own) (commits g.L.Law.keeps t.shape _ _ _ g.C.Chosen.commit _ c.args.self.now.writes (rw c.requires.own c.requires.root)
          (c.word_naming-word.ensures ∙ (ap (λ (n : ℕ). n + c.args.stamp * 4294967296) (sym first) ∙ sym (ap word_of c.requires.named)))
          (λ k l e. laid_links t.shape cells blocks c.requires.within k l (rw c.requires.named at e)) c.requires.linked c.requires.lawful),
    )

pub invariant_of-self-clause-sound : goal.invariant_of-self-clause-sound
invariant_of-self-clause-sound g c = let old = c.args.self.now in let more = length-append old.place.me.0.seen (g.C.Chosen.commit ∷ []) in
    subst (λ m. IsSoundSheet m.0.shape m.0.sheet (length m.0.seen)) (sym c.store.ensures.2) (sound_longer _ _ _ _ (omega arith) old.sound)
