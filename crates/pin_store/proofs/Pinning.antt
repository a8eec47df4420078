-- What holds of a reader's pin, floor and note goes on to hold at each step.
use Rattle.std.proofs.Common.{◌≡◌, ◌≢◌, ℕ, ◌+◌, ◌%◌, ◌<◌, ◌≤◌, Bool, true, false, cond, List, length, get_or, set, Option, Some, None, refl, sym, ◌∙◌, subst, arith, length-set, get_or-set_other, get_or-set_same, le_refl}
use mathlib.Core.Logic.{dite}
use native.Mathlib.Decide.{ℕ_discrete}
use Rattle.pin_store.specs.declared.shape.Shape.{Shape}
use Rattle.pin_store.specs.declared.view.Floor.{Floor}
use Rattle.pin_store.specs.declared.note.Note.{Note}
use Rattle.pin_store.specs.declared.note.Note.TheVariants.{Unknown}
use Rattle.pin_store.specs.declared.view.Sheet.{Sheet}
use Rattle.pin_store.specs.Layout.{pin_at}
use Rattle.pin_store.specs.Notes.{IsFresh, IsSoundNote, all_clear, noted}
use Rattle.pin_store.specs.Sheets.{start_of, note_at, scanned, bumped}
use Rattle.pin_store.specs.Rule.{IsSoundFloor, IsSoundReader}
use Rattle.pin_store.proofs.Noting.{noted_ok, note_raised, clear_fresh, clear_at, same_replicated}
use Rattle.pin_store.proofs.Sound.{start_bumped}

module _ (shape : Shape) where
  -- a word changes that isn't the reader's pin
  pub reader_word : (words : List ℕ) (sheet : Sheet) (i pin : ℕ) (floor : Option Floor) (c x : ℕ) → pin_at shape i ≢ c → IsSoundReader shape words sheet i pin floor → IsSoundReader shape (set words c x) sheet i pin floor
  reader_word words sheet i pin floor c x other k = record {
    word = get_or-set_other words c (pin_at shape i) x 0 other ∙ k.word;
    even = k.even;
    floored = k.floored;
    note = k.note;
    unmade = k.unmade;
  }

  -- what the readers' words say does not speak of the cells
  pub reader_cells : (words : List ℕ) (sheet : Sheet) (i pin : ℕ) (floor : Option Floor) (cells : List ℕ) → IsSoundReader shape words sheet i pin floor → IsSoundReader shape words (record sheet { cells = cells }) i pin floor
  reader_cells words sheet i pin floor cells k = record {
    word = k.word;
    even = k.even;
    floored = λ f e. let o = k.floored f e in record { late = o.late; begun = o.begun; start_is = o.start_is };
    note = k.note;
    unmade = k.unmade;
  }

  pub reader_bumped : (words : List ℕ) (sheet : Sheet) (i pin : ℕ) (floor : Option Floor) (n : ℕ) → length sheet.starts ≡ sheet.epoch + 1 → IsSoundReader shape words sheet i pin floor → IsSoundReader shape words (bumped sheet n) i pin floor
  reader_bumped words sheet i pin floor n long k = record {
    word = k.word;
    even = k.even;
    floored = λ f e. let o = k.floored f e in let b = o.begun in record { late = o.late; begun = omega arith; start_is = o.start_is ∙ sym (start_bumped sheet n f.epoch long o.begun) };
    note = subst (IsSoundNote (sheet.epoch + 1) pin floor) (sym (same_replicated (length sheet.notes) i Unknown)) tt;
    unmade = k.unmade;
  }

  scanned_note : (words : List ℕ) (sheet : Sheet) (i j pin p : ℕ) (floor : Option Floor) → i < length sheet.notes → (i ≡ j → p ≡ pin) → IsSoundReader shape words sheet i pin floor → IsSoundNote sheet.epoch pin floor (note_at (scanned sheet j p) i)
  scanned_note words sheet i j pin p floor low found k = dite (ℕ_discrete i j)
      (λ is. subst (λ (z : ℕ). IsSoundNote sheet.epoch pin floor (get_or (set sheet.notes z (noted (note_at sheet z) p)) i Unknown)) is
      (subst (IsSoundNote sheet.epoch pin floor) (sym (get_or-set_same sheet.notes i (noted (note_at sheet i) p) Unknown low))
      (subst (λ (z : ℕ). IsSoundNote sheet.epoch pin floor (noted (note_at sheet i) z)) (sym (found is)) (noted_ok sheet.epoch pin floor (note_at sheet i) k.even k.note))))
      (λ ne. subst (IsSoundNote sheet.epoch pin floor) (sym (get_or-set_other sheet.notes j i (noted (note_at sheet j) p) Unknown ne)) k.note)

  -- the pin p of the reader at j was loaded
  pub reader_scanned : (words : List ℕ) (sheet : Sheet) (i j pin p : ℕ) (floor : Option Floor) → i < length sheet.notes → (i ≡ j → p ≡ pin) → IsSoundReader shape words sheet i pin floor → IsSoundReader shape words (scanned sheet j p) i pin floor
  reader_scanned words sheet i j pin p floor low found k = let note' = scanned_note words sheet i j pin p floor low found k in let ns : List Note = set sheet.notes j (noted (note_at sheet j) p) in record {
    word = k.word;
    even = k.even;
    floored = λ f e. let o = k.floored f e in record { late = late f e (all_clear ns) refl note'; begun = o.begun; start_is = o.start_is };
    note = note';
    unmade = k.unmade;
  }
    where
      late : (f : Floor) → floor ≡ Some f → (b : Bool) → all_clear (set sheet.notes j (noted (note_at sheet j) p)) ≡ b → IsSoundNote sheet.epoch pin floor (note_at (scanned sheet j p) i) → cond b sheet.epoch sheet.quiet ≤ f.epoch
      late f e true is nok = let ns : List Note = set sheet.notes j (noted (note_at sheet j) p) in
          let low' : i < length ns = omega (arith, length-set sheet.notes j (noted (note_at sheet j) p)) in
          let fresh : IsFresh sheet.epoch (Some f) = subst (IsFresh sheet.epoch) e (clear_fresh sheet.epoch pin floor (get_or ns i Unknown) (clear_at ns i is low') nok) in omega arith
      late f e false is nok = (k.floored f e).late

  -- the reader's pin is raised by one, and it has no floor
  pub reader_raised : (words : List ℕ) (sheet : Sheet) (i pin : ℕ) (floor : Option Floor) (x : ℕ) → pin_at shape i < length words → x ≡ pin + 1 → i < sheet.made → IsSoundReader shape words sheet i pin floor → IsSoundReader shape (set words (pin_at shape i) x) sheet i x None
  reader_raised words sheet i pin floor x room up made k = record {
    word = get_or-set_same words (pin_at shape i) x 0 room;
    even = λ _. refl;
    floored = λ f e. absurd (cc e);
    note = note_raised sheet.epoch pin x floor None (note_at sheet i) (omega arith) tt k.note;
    unmade = λ l. absurd (omega arith);
  }

  -- the reader's floor is the present epoch
  pub reader_floored : (words : List ℕ) (sheet : Sheet) (i pin : ℕ) (floor : Option Floor) → pin % 2 ≡ 1 → sheet.quiet ≤ sheet.epoch → i < sheet.made → IsSoundReader shape words sheet i pin floor
      → IsSoundReader shape words sheet i pin (Some record { epoch = sheet.epoch; start = start_of sheet sheet.epoch })
  reader_floored words sheet i pin floor odd quiet made k = let F : Floor = record { epoch = sheet.epoch; start = start_of sheet sheet.epoch } in record {
    word = k.word;
    even = λ e. absurd (omega arith);
    floored = λ f e. let is : F ≡ f = cc e in subst (IsSoundFloor sheet) is record { late = quiet; begun = le_refl sheet.epoch; start_is = refl };
    note = note_raised sheet.epoch pin pin floor (Some F) (note_at sheet i) (le_refl pin) refl k.note;
    unmade = λ l. absurd (omega arith);
  }

  pub reader_made : (words : List ℕ) (sheet : Sheet) (i pin : ℕ) (floor : Option Floor) → IsSoundReader shape words sheet i pin floor → IsSoundReader shape words (record sheet { made = sheet.made + 1 }) i pin floor
  reader_made words sheet i pin floor k = record {
    word = k.word;
    even = k.even;
    floored = λ f e. let o = k.floored f e in record { late = o.late; begun = o.begun; start_is = o.start_is };
    note = k.note;
    unmade = λ l. k.unmade (omega arith);
  }
