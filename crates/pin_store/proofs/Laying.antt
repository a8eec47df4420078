-- What holds of the words, the commits and the sheet goes on to hold at each step. No seat is in it.
use Rattle.std.proofs.Common.{◌≡◌, ◌≢◌, ℕ, ◌+◌, ◌*◌, ◌/◌, ◌%◌, ◌<◌, ◌≤◌, ⊎_elim, List, [], ◌∷◌, ◌++◌, length, drop, slice_get, get_or, set, Some, refl, ap, sym, ◌∙◌, subst, arith, length-append, length-set, get_or-set_other, get_or-set_same, get_or-take, zero-le, replicate}
use mathlib.Core.Logic.{dite}
use native.Mathlib.Decide.{ℕ_discrete}
use Rattle.std.proofs.Math.Seq.{take-set-lt}
use Rattle.std.proofs.lemmas.List.{take-set-le, take_all, take-replicate, get_or-replicate, length-replicate, length-take, length-drop, get_or-drop}
use Rattle.store_history.specs.declared.history.Link.{Link}
use Rattle.store_history.specs.declared.history.Commit.{Commit}
use Rattle.store_history.specs.History.{root_of, word_of, first_number, IsNamed, IsLinked}
use Rattle.store_history.proofs.Histories.{nothing_named, named_at_end, named_push, named_later, root_own, root_other, linked_push}
use Rattle.pin_store.specs.declared.shape.Shape.{Shape}
use Rattle.pin_store.specs.declared.view.Sheet.{Sheet}
use Rattle.pin_store.specs.Layout.{cell_count, epoch_at, pin_at, word_count, block_words}
use Rattle.pin_store.specs.Sheets.{base_of, opening_sheet, scanned, bumped}
use Rattle.pin_store.specs.Rule.{Stands, IsLaidOut}
use Rattle.pin_store.proofs.Cells.{cell_inside, row_inside, cells_apart}
use Rattle.pin_store.proofs.Sound.{base_bumped, base_low, base_scanned, sound_cells, sound_longer, sound_made, sound_bumped, sound_scanned, sound_opening}

module _ {E : Type 0} (lawful : List (Commit E) → ℕ → Type 0) (shape : Shape) where
  -- a block stands though a word changes that is no cell
  stays : (words : List ℕ) (c x : ℕ) (l : Link) → cell_count shape ≤ c → Stands shape words l → Stands shape (set words c x) l
  stays words c x l past t = record {
    inside = t.inside;
    long = t.long;
    same = λ j lj. let b = cell_inside l.block shape.blocks shape.words j t.inside lj in get_or-set_other words c (l.block * shape.words + j) x 0 (λ e. omega arith) ∙ t.same j lj;
  }

  pub laid_cell : (words : List ℕ) (h : List (Commit E)) (sheet : Sheet) (block i x : ℕ) → block < shape.blocks → i < shape.words → ((l : Link) → IsNamed (base_of sheet) h l → l.block ≢ block)
      → IsLaidOut lawful shape words h sheet → IsLaidOut lawful shape (set words (block * shape.words + i) x) h (record sheet { cells = set sheet.cells (block * shape.words + i) x })
  laid_cell words h sheet block i x inside low apart r =
      let c : ℕ = block * shape.words + i in
      let here : c < cell_count shape = cell_inside block shape.blocks shape.words i inside low in record {
        few = r.few;
        wide = length-set words c x ∙ r.wide;
        cells = ap (λ (z : List ℕ). set z c x) r.cells ∙ sym (take-set-lt (cell_count shape) words c x here);
        roots = λ q l. get_or-set_other words c (cell_count shape + q) x 0 (λ e. omega arith) ∙ r.roots q l;
        epoch_is = get_or-set_other words c (epoch_at shape) x 0 (λ e. omega arith) ∙ r.epoch_is;
        chains = λ l named. let old = r.chains l named in record {
          inside = old.inside;
          long = old.long;
          same = λ j lj. get_or-set_other words c (l.block * shape.words + j) x 0 (cells_apart l.block block shape.words j i (apart l named) lj low) ∙ old.same j lj;
        };
        linked = r.linked;
        lawful = r.lawful;
        sound = sound_cells shape (length h) sheet (set sheet.cells c x) (length-set sheet.cells c x) r.sound;
      }

  pub laid_pin : (words : List ℕ) (h : List (Commit E)) (sheet : Sheet) (i x : ℕ) → IsLaidOut lawful shape words h sheet → IsLaidOut lawful shape (set words (pin_at shape i) x) h sheet
  laid_pin words h sheet i x r = let c : ℕ = pin_at shape i in record {
    few = r.few;
    wide = length-set words c x ∙ r.wide;
    cells = r.cells ∙ sym (take-set-le (cell_count shape) words c x (omega arith));
    roots = λ q l. get_or-set_other words c (cell_count shape + q) x 0 (λ e. omega arith) ∙ r.roots q l;
    epoch_is = get_or-set_other words c (epoch_at shape) x 0 (λ e. omega arith) ∙ r.epoch_is;
    chains = λ l named. stays words c x l (omega arith) (r.chains l named);
    linked = r.linked;
    lawful = r.lawful;
    sound = r.sound;
  }

  pub laid_bumped : (words : List ℕ) (h : List (Commit E)) (sheet : Sheet) (x : ℕ) → x ≡ sheet.epoch + 1 → 0 < shape.readers → IsLaidOut lawful shape words h sheet → IsLaidOut lawful shape (set words (epoch_at shape) x) h (bumped sheet (length h))
  laid_bumped words h sheet x up some_reader r =
      let c : ℕ = epoch_at shape in let wide = r.wide in
      let base : base_of (bumped sheet (length h)) ≡ base_of sheet = base_bumped sheet (length h) r.sound.begun r.sound.quiet in record {
        few = r.few;
        wide = length-set words c x ∙ r.wide;
        cells = r.cells ∙ sym (take-set-le (cell_count shape) words c x (omega arith));
        roots = λ q l. get_or-set_other words c (cell_count shape + q) x 0 (λ e. omega arith) ∙ r.roots q l;
        epoch_is = get_or-set_same words c x 0 (omega arith) ∙ up;
        chains = λ l named. stays words c x l (omega arith) (r.chains l (subst (λ (z : ℕ). IsNamed z h l) base named));
        linked = r.linked;
        lawful = subst (lawful h) (sym base) r.lawful;
        sound = sound_bumped shape (length h) sheet some_reader r.sound;
      }

  -- the pin p of the reader at j was loaded
  pub laid_scanned : ((h : List (Commit E)) (b c : ℕ) → b ≤ c → lawful h b → lawful h c) → (words : List ℕ) (h : List (Commit E)) (sheet : Sheet) (j p : ℕ) → IsLaidOut lawful shape words h sheet → IsLaidOut lawful shape words h (scanned sheet j p)
  laid_scanned rises words h sheet j p r = let up = base_scanned shape (length h) sheet j p r.sound in record {
    few = r.few;
    wide = r.wide;
    cells = r.cells;
    roots = r.roots;
    epoch_is = r.epoch_is;
    chains = λ l named. r.chains l (named_later (base_of sheet) (base_of (scanned sheet j p)) h l up named);
    linked = r.linked;
    lawful = rises h (base_of sheet) (base_of (scanned sheet j p)) up r.lawful;
    sound = sound_scanned shape (length h) sheet j p r.sound;
  }

  -- the new root word names the chain of the last commit
  pub laid_commit : (words : List ℕ) (h : List (Commit E)) (sheet : Sheet) (c : Commit E) (x : ℕ) → c.root < shape.roots → x ≡ word_of c.named → ((k : ℕ) (l : Link) → slice_get c.named.chain k ≡ Some l → (l.block < shape.blocks) × (l.words ≡ block_words shape sheet.cells l.block))
      → IsLinked shape.words c.named.chain → lawful (h ++ c ∷ []) (base_of sheet) → IsLaidOut lawful shape words h sheet → IsLaidOut lawful shape (set words (cell_count shape + c.root) x) (h ++ c ∷ []) sheet
  laid_commit words h sheet c x low value fits chained law r =
      let i : ℕ = cell_count shape + c.root in
      let wide = r.wide in
      let more : length (h ++ c ∷ []) ≡ length h + 1 = length-append h (c ∷ []) in
      let whole = r.sound.whole in
      let fresh : (l : Link) → (l.block < shape.blocks) × (l.words ≡ block_words shape sheet.cells l.block) → Stands shape words l = λ l t.
      let row : l.block * shape.words + shape.words ≤ cell_count shape = row_inside l.block shape.blocks shape.words t.0 in record {
        inside = t.0;
        long = ap length t.1 ∙ (length-take shape.words (drop (l.block * shape.words) sheet.cells) ∙ (omega (arith, length-drop (l.block * shape.words) sheet.cells)));
        same = λ j lj. let b = cell_inside l.block shape.blocks shape.words j t.0 lj in
            sym (ap (λ (z : List ℕ). get_or z j 0) t.1 ∙ (get_or-take shape.words (drop (l.block * shape.words) sheet.cells) j 0 lj ∙ (get_or-drop (l.block * shape.words) sheet.cells j 0
            ∙ (ap (λ (z : List ℕ). get_or z (l.block * shape.words + j) 0) r.cells ∙ get_or-take (cell_count shape) words (l.block * shape.words + j) 0 b))));
      } in record {
        few = r.few;
        wide = length-set words i x ∙ r.wide;
        cells = r.cells ∙ sym (take-set-le (cell_count shape) words i x (omega arith));
        roots = λ q lq. dite (ℕ_discrete c.root q)
            (λ e. subst (λ (z : ℕ). get_or (set words i x) (cell_count shape + z) 0 ≡ word_of (root_of (h ++ c ∷ []) z)) e
            (get_or-set_same words i x 0 (omega arith) ∙ (value ∙ sym (ap word_of (root_own h c)))))
            (λ ne. get_or-set_other words i (cell_count shape + q) x 0 (λ e. ne (omega arith)) ∙ (r.roots q lq ∙ sym (ap word_of (root_other h c q ne))));
        epoch_is = get_or-set_other words i (epoch_at shape) x 0 (λ e. omega arith) ∙ r.epoch_is;
        chains = λ l named. ⊎_elim (λ (old : IsNamed (base_of sheet) h l). stays words i x l (omega arith) (r.chains l old))
            (λ (new : (k : ℕ) × (slice_get c.named.chain k ≡ Some l)). stays words i x l (omega arith) (fresh l (fits new.0 l new.1)))
            (named_push (base_of sheet) h c l (base_low sheet r.sound) named);
        linked = linked_push shape.words h c r.linked chained;
        lawful = law;
        sound = sound_longer shape (length h) (length (h ++ c ∷ [])) sheet (omega arith) r.sound;
      }

  low_half : (f t n : ℕ) → f < 4294967296 → n ≡ f + t * 4294967296 → (n % 4294967296 ≡ f) × (n / 4294967296 ≡ t)
  low_half f t n h e = (omega arith, omega arith)

  number_fits : (ls : List Link) → ((l : Link) → slice_get ls 0 ≡ Some l → l.block < shape.blocks) → shape.blocks < 2147483648 → first_number ls < 4294967296
  number_fits [] h few = omega arith
  number_fits (l ∷ ls) h few = let b : l.block < shape.blocks = h l refl in omega arith

  pub root_word : (words : List ℕ) (h : List (Commit E)) (sheet : Sheet) (q : ℕ) → q < shape.roots → IsLaidOut lawful shape words h sheet
      → (get_or words (cell_count shape + q) 0 % 4294967296 ≡ first_number (root_of h q).chain) × (get_or words (cell_count shape + q) 0 / 4294967296 ≡ (root_of h q).stamp)
  root_word words h sheet q l r = low_half (first_number (root_of h q).chain) (root_of h q).stamp (get_or words (cell_count shape + q) 0)
      (number_fits (root_of h q).chain (λ k e. (r.chains k (named_at_end (base_of sheet) h q 0 k (base_low sheet r.sound) e)).inside) r.few) (r.roots q l)

  -- one more reader was made
  pub laid_made : (words : List ℕ) (h : List (Commit E)) (sheet : Sheet) (n : ℕ) → IsLaidOut lawful shape words h sheet → IsLaidOut lawful shape words h (record sheet { made = n })
  laid_made words h sheet n r = record {
    few = r.few;
    wide = r.wide;
    cells = r.cells;
    roots = r.roots;
    epoch_is = r.epoch_is;
    chains = r.chains;
    linked = r.linked;
    lawful = r.lawful;
    sound = sound_made shape (length h) sheet n r.sound;
  }

  pub laid_opening : shape.blocks < 2147483648 → lawful [] 0 → IsLaidOut lawful shape (replicate (word_count shape) 0) [] (opening_sheet shape)
  laid_opening few law = record {
    few = few;
    wide = length-replicate (word_count shape) 0;
    cells = sym (take-replicate (cell_count shape) (word_count shape) 0 (omega arith));
    roots = λ r l. get_or-replicate (word_count shape) (cell_count shape + r) 0 0 (omega arith);
    epoch_is = get_or-replicate (word_count shape) (epoch_at shape) 0 0 (omega arith);
    chains = λ l n. absurd (nothing_named 0 l n);
    linked = λ n r l. subst (λ (z : List (Commit E)). IsLinked shape.words (root_of z r).chain) (sym (take_all n [] zero-le)) tt;
    lawful = law;
    sound = sound_opening shape;
  }
