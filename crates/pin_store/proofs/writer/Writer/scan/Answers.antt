use Rattle.std.proofs.Common.{◌≡◌, ◌<◌, ◌∙◌, length, get_or, arith, ap, sym, true, false, List, refl, le_refl}
use Rattle.std.proofs.lemmas.List.{get_or_read_under}
use Rattle.pin_store.specs.declared.note.Note.{Note}
use Rattle.pin_store.specs.declared.note.Note.TheVariants.{Unknown}
use Rattle.pin_store.specs.Notes.{is_clear}
use Rattle.pin_store.specs.Sheets.{note_at}
use Rattle.pin_store.specs.Calls.{sheet_of}
use Rattle.pin_store.proofs.Sound.{quiet_more, same_more, taken_more, taken_still, from_more, from_still, rest_more}
use Rattle.pin_store.proofs.writer.Writer.scan.Goals as goal
use Rattle.pin_store.proofs.writer.Writer.scan.Goals.{then-not-is_clear, else-not-is_clear}

pub loop-i-preserved : goal.loop-i-preserved
loop-i-preserved g c =
    let h = c.loop-i.invariant in
    let d = sheet_of c.args.self.now.place in
    let e = sheet_of c.loop-i.self.place in
    let i = c.loop-i.i in
    let noted = c.loop-i.self.noted in
    let count = h.same.count in
    let test = c.loop-i-test.true in
    let long : i < length c.loop-i.self.notes.items = omega (arith, ap length noted, ap length c.args.self.now.noted, c.len-i-end.ensures) in
    let low : i < length e.notes = omega (arith, ap length noted) in
    let found : c.index.result.now ≡ note_at e i = get_or_read_under c.loop-i.self.notes.items i _ c.index.result.now Unknown c.index.ensures long refl ∙ ap (λ (ns : List Note). get_or ns i Unknown) (sym noted) in
    elim c.if-not-is_clear.branch [
      | then-not-is_clear w ↦
          let step = w.note_pin.ensures.sheet in
          let p = step.0 in
          let is = step.1 in
          let open_ : is_clear (note_at e i) ≡ false = ap is_clear (sym found) ∙ (sym c.is_clear.ensures ∙ w.if-not-is_clear.true) in
          rw w.self-is record {
            store = w.note_pin.ensures.store;
            seen = w.note_pin.ensures.seen ∙ h.seen;
            same = rw is (same_more d e i p h.same);
            quiet = rw is (quiet_more d e i p h.same h.quiet low open_);
            from = rw is (from_more d e i p low open_ (h.rest i (le_refl i)) h.from);
            rest = rw is (rest_more d e i p h.rest);
            taken = rw is (taken_more e i p low h.taken);
          }
      | else-not-is_clear w ↦
          let clear : is_clear (note_at e i) ≡ true = ap is_clear (sym found) ∙ (sym c.is_clear.ensures ∙ w.if-not-is_clear.false) in
          rw w.self-is record {
            store = h.store;
            seen = h.seen;
            same = h.same;
            quiet = h.quiet;
            from = from_still d e i clear (h.rest i (le_refl i)) h.from;
            rest = λ j l. h.rest j (omega arith);
            taken = taken_still e i clear h.taken;
          }
    ]
