use Rattle.std.proofs.Common.{◌≡◌, length, get_or, ap, ◌∙◌, arith, refl}
use Rattle.pin_store.specs.Layout.{cell_count}
use Rattle.pin_store.proofs.Cells.{cell_inside, row_more, row_other, words_are, words_stay}
use Rattle.pin_store.proofs.Sound.{base_same, same_cells}
use Rattle.pin_store.proofs.writer.Writer.fill.Goals as goal

pub fill_word-requires-clause-unread : goal.fill_word-requires-clause-unread
fill_word-requires-clause-unread g c = rw (c.loop-at.invariant.seen, base_same _ _ c.loop-at.invariant.sheet) c.requires.free

pub loop-at-preserved : goal.loop-at-preserved
loop-at-preserved g c = let t = c.args.store.now.shape in let h = c.loop-at.invariant in let w = c.args.words.now in let at = c.loop-at.at in let old = c.loop-at.self in let cells = old.place.me.0.sheet.cells in
    let long : length cells ≡ cell_count t = old.sound.whole ∙ ap cell_count h.store.shaped in let low = c.loop-at-test.true in
    let i = cell_inside c.args.block t.blocks t.words at c.requires.within low in record {
      store = c.fill_word.ensures.store;
      seen = c.fill_word.ensures.seen ∙ h.seen;
      sheet = same_cells _ _ _ h.sheet c.fill_word.ensures.sheet;
      row = rw c.fill_word.ensures.cells (row_more t.words c.args.block at (get_or w at 0) cells w (omega arith) refl h.row);
      rest = λ b j n l. rw c.fill_word.ensures.cells (row_other t.words c.args.block at (get_or w at 0) cells b j n low l ∙ h.rest b j n l);
    }

pub returns-clause-block : goal.returns-clause-block
returns-clause-block g c = let t = c.args.store.now.shape in let h = c.loop-at.invariant in let new = c.loop-at.self in
    let long : length new.place.me.0.sheet.cells ≡ cell_count t = new.sound.whole ∙ ap cell_count h.store.shaped in let last = c.loop-at-test.false in
    words_are t.words new.place.me.0.sheet.cells c.args.words.now t.blocks c.args.block long c.requires.within c.requires.words (λ i l. h.row i (omega arith))

pub returns-clause-others : goal.returns-clause-others
returns-clause-others g c = λ b other low. let t = c.args.store.now.shape in let h = c.loop-at.invariant in let new = c.loop-at.self in let old = c.args.self.now in
    let long : length new.place.me.0.sheet.cells ≡ cell_count t = new.sound.whole ∙ ap cell_count h.store.shaped in
    let before : length old.place.me.0.sheet.cells ≡ cell_count t = old.sound.whole ∙ ap cell_count c.requires.store.shaped in
    words_stay t.words old.place.me.0.sheet.cells new.place.me.0.sheet.cells t.blocks b before long low (λ i l. h.rest b i other l)
