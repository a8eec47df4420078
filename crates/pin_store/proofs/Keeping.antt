-- Each kind of step keeps the store rule.
use Rattle.std.proofs.Common.{◌≡◌, ◌≢◌, ℕ, zero, suc, ◌+◌, ◌*◌, ◌%◌, ◌<◌, ◌≤◌, ◌⊎◌, inl, inr, ⊎_elim, Bool, true, false, cond, eqb, List, [], ◌∷◌, ◌++◌, length, slice_get, get_or, set, Option, Some, None, refl, ap, sym, ◌∙◌, subst, arith, eq-eqb, ne_eqb, le_refl, replicate}
use mathlib.Core.List.{IsPrefix}
use mathlib.Core.Option.{some, some-injective, some-ne-none}
use mathlib.Core.Logic.{dite}
use native.Mathlib.Decide.{ℕ_discrete}
use lib.ListN.{get_elem?}
use lib.Seq.{set-get_or}
use Rattle.std.proofs.lemmas.List.{take_all, get_or-replicate}
use Rattle.std.proofs.lemmas.List.Elements.{All-cons}
use Rattle.atomic_table.specs.Table.{State, Me, Step, keeps, stepped, Splits, Joins, opening}
use Rattle.atomic_table.proofs.Lists.{at_set, at_snoc}
use Rattle.store_history.specs.declared.history.Link.{Link}
use Rattle.store_history.specs.declared.history.Commit.{Commit}
use Rattle.store_history.specs.History.{root_of, word_of, first_number, IsNamed, IsLinked}
use Rattle.store_history.proofs.Histories.{prefix_self, prefix_none, prefix_trans, named_later, named_longer}
use Rattle.pin_store.specs.declared.shape.Shape.{Shape}
use Rattle.pin_store.specs.declared.view.View.{View}
use Rattle.pin_store.specs.declared.view.Floor.{Floor}
use Rattle.pin_store.specs.declared.view.Sheet.{Sheet}
use Rattle.pin_store.specs.declared.note.Note.TheVariants.{Unknown}
use Rattle.pin_store.specs.Layout.{cell_count, epoch_at, pin_at, word_count, block_words}
use Rattle.pin_store.specs.Notes.{IsSoundNote}
use Rattle.pin_store.specs.Sheets.{start_of, base_of, opening_sheet, scanned, bumped}
use Rattle.pin_store.specs.Rule.{IsSoundReader, Knows, IsLaidOut, IsKept, opening_view}
use Rattle.pin_store.specs.Kinds.{Fills, Commits, LoadsRoot, LoadsWord, Raises, LoadsEpoch, Bumps, LoadsPin, Meets, receipt_view, reader_view, counted_view, joined_view, spent_view, KeepsAtStore, KeepsAtLoad}
use Rattle.pin_store.specs.Calls.{IsUnnamed}
use Rattle.pin_store.proofs.Cells.{cell_inside}
use Rattle.pin_store.proofs.Noting.{same_replicated}
use Rattle.pin_store.proofs.Pinning.{reader_word, reader_cells, reader_bumped, reader_scanned, reader_raised, reader_floored, reader_made}
use Rattle.pin_store.proofs.Laying.{laid_cell, laid_pin, laid_bumped, laid_scanned, laid_commit, laid_made, laid_opening, root_word}

module _ {A : Type 0} where
  -- f, but a at i
  abbrev pub put : (ℕ → A) → ℕ → A → ℕ → A
  put f i a j = cond (eqb j i) a (f j)

  pub put_here : (f : ℕ → A) (i : ℕ) (a : A) → put f i a i ≡ a
  put_here f i a = ap (λ (b : Bool). cond b a (f i)) (eq-eqb i i refl)

  pub put_else : (f : ℕ → A) (i : ℕ) (a : A) (j : ℕ) → j ≢ i → put f i a j ≡ f j
  put_else f i a j ne = ap (λ (b : Bool). cond b a (f j)) (ne_eqb j i ne)

  pub at_end : (l : List A) (a b : A) (j : ℕ) → get_elem? (l ++ a ∷ []) j ≡ some b → (get_elem? l j ≡ some b) ⊎ ((j ≡ length l) × (a ≡ b))
  at_end [] a b zero e = inr (refl, some-injective a b e)
  at_end [] a b (suc j) e = absurd (some-ne-none b (sym e))
  at_end (x ∷ xs) a b zero e = inl e
  at_end (x ∷ xs) a b (suc j) e = ⊎_elim (λ t. inl t) (λ (t : (j ≡ length xs) × (a ≡ b)). inr (ap suc t.0, t.1)) (at_end xs a b j e)

module _ {E : Type 0} where
  -- the seats know what they knew, where one of them has a new view
  pub seats_stay : (K L : ℕ → View E → Type 0) (vs : List (View E)) (me : ℕ) (w : View E) → L me w → ((j : ℕ) (v : View E) → j ≢ me → K j v → L j v) → ((j : ℕ) (v : View E) → get_elem? vs j ≡ some v → K j v)
      → (j : ℕ) (v : View E) → get_elem? (set vs me w) j ≡ some v → L j v
  seats_stay K L vs me w mine others old j v e = ⊎_elim (λ (t : (j ≡ me) × (w ≡ v)). subst (λ (x : ℕ × View E). L x.0 x.1) (λ i. (sym t.0 i, t.1 i)) mine)
      (λ (t : (j ≢ me) × (get_elem? vs j ≡ some v)). others j v t.0 (old j v t.1)) (at_set vs me j w v e)

  -- another seat, over a step of the writer
  writer_else : (h h' : List (Commit E)) (writer : ℕ) (d d' : Sheet) (pin : ℕ → ℕ) (floor : ℕ → Option Floor) (owner : ℕ → ℕ) (n j : ℕ) (v : View E) → IsPrefix h h' → d'.made ≡ d.made → j ≢ writer
      → Knows h writer d pin floor owner n j v → Knows h' writer d' pin floor owner n j v
  writer_else h h' writer d d' pin floor owner n j v p made other k = record {
    sees = prefix_trans v.seen h h' k.sees p;
    keeps = λ q x l. prefix_trans (get_or v.kept q x) h h' (k.keeps q x l) p;
    writes = λ is. absurd (other (k.writes is).0);
    outside = k.outside;
    reads = λ i is. let t = k.reads i is in (subst (λ (z : ℕ). i < z) (sym made) t.0, t.1, t.2, t.3, t.4);
  }

  -- another seat, over a step of the reader at i
  reader_else : (h : List (Commit E)) (writer : ℕ) (d : Sheet) (pin : ℕ → ℕ) (floor : ℕ → Option Floor) (owner : ℕ → ℕ) (n i me p : ℕ) (f : Option Floor) (j : ℕ) (v : View E) → owner i ≡ me → j ≢ me
      → Knows h writer d pin floor owner n j v → Knows h writer d (put pin i p) (put floor i f) owner n j v
  reader_else h writer d pin floor owner n i me p f j v mine other k = record {
    sees = k.sees;
    keeps = k.keeps;
    writes = k.writes;
    outside = k.outside;
    reads = λ q is. let t = k.reads q is in
        let ne : q ≢ i = λ e. other (sym t.2 ∙ (ap owner e ∙ mine)) in
        (t.0, t.1, t.2, t.3 ∙ sym (put_else pin i p q ne), t.4 ∙ sym (put_else floor i f q ne));
  }

module _ {E : Type 0} (lawful : List (Commit E) → ℕ → Type 0) (shape : Shape) where
  abbrev Rule : State (Unit {0}) (View E) → Type 0
  Rule = IsKept lawful shape

  abbrev St : Type 0
  St = State (Unit {0}) (View E)

  abbrev Sat : Type 0
  Sat = Me (Unit {0}) (View E)

  -- a step of the writer
  writer_step : (s : St) (r : Rule s) (i x id : ℕ) (cs : List (ℕ × Unit {0})) (w : View E) (h : List (Commit E)) (d : Sheet) → id ≡ r.writer → IsPrefix r.history h → d.made ≡ r.sheet.made
      → IsLaidOut lawful shape (set s.words i x) h d → ((j : ℕ) → j < shape.readers → IsSoundReader shape (set s.words i x) d j (r.pin j) (r.floor j)) → Knows h r.writer d r.pin r.floor r.owner shape.readers id w
      → Rule (stepped s i x id cs w keeps)
  writer_step s r i x id cs w h d is p made laid readers mine = record {
    history = h;
    writer = r.writer;
    sheet = d;
    pin = r.pin;
    floor = r.floor;
    owner = r.owner;
    laid = laid;
    each_reader = readers;
    each_seat = seats_stay (Knows r.history r.writer r.sheet r.pin r.floor r.owner shape.readers) (Knows h r.writer d r.pin r.floor r.owner shape.readers) s.views id w mine
        (λ j v other k. writer_else r.history h r.writer r.sheet d r.pin r.floor r.owner shape.readers j v p made (λ e. other (e ∙ sym is)) k) r.each_seat;
  }

  -- what the writer knows after its step
  writer_knows : (h h' : List (Commit E)) (writer : ℕ) (d d' : Sheet) (pin : ℕ → ℕ) (floor : ℕ → Option Floor) (owner : ℕ → ℕ) (n id : ℕ) (v : View E) → v.writes ≡ true → IsPrefix h h' → d'.made ≡ d.made
      → Knows h writer d pin floor owner n id v → Knows h' writer d' pin floor owner n id record v { seen = h'; sheet = d' }
  writer_knows h h' writer d d' pin floor owner n id v writes p made k = record {
    sees = prefix_self h';
    keeps = λ q x l. prefix_trans (get_or v.kept q x) h h' (k.keeps q x l) p;
    writes = λ _. ((k.writes writes).0, refl, refl);
    outside = k.outside;
    reads = λ i is. let t = k.reads i is in (subst (λ (z : ℕ). i < z) (sym made) t.0, t.1, t.2, t.3, t.4);
  }

  -- what the writer knows, in its own words
  own : {h : List (Commit E)} {d : Sheet} (v : View E) → v.seen ≡ h → v.sheet ≡ d → (P : View E → Type 0) → P record v { seen = h; sheet = d } → P v
  own v a b P p = subst P (λ i. record v { seen = sym a i; sheet = sym b i }) p

  pub fills : (slots id : ℕ) (me : Sat) (block i x : ℕ) → me.0.writes ≡ true → block < shape.blocks → i < shape.words → IsUnnamed (base_of me.0.sheet) me.0.seen block
      → KeepsAtStore lawful shape Fills slots id me (block * shape.words + i) x
  fills slots id me block i x writes inside low apart s r _ at _ =
      let c : ℕ = block * shape.words + i in
      let here = cell_inside block shape.blocks shape.words i inside low in
      let k = r.each_seat id me.0 at in
      let mine = k.writes writes in
      let d : Sheet = record r.sheet { cells = set r.sheet.cells c x } in
      let w : View E = record me.0 { sheet = record me.0.sheet { cells = set me.0.sheet.cells c x } } in
      let is : record me.0 { seen = r.history; sheet = d } ≡ w = λ t. record me.0 { seen = sym mine.1 t; sheet = record (sym mine.2 t) { cells = set (sym mine.2 t).cells c x } } in
      let apart' : (l : Link) → IsNamed (base_of r.sheet) r.history l → l.block ≢ block = subst (λ (z : Sheet × List (Commit E)). (l : Link) → IsNamed (base_of z.0) z.1 l → l.block ≢ block) (λ t. (mine.2 t, mine.1 t)) apart in (
        w,
        keeps,
        tt,
        writer_step s r c x id me.1 w r.history d mine.0 (prefix_self r.history) refl (laid_cell lawful shape s.words r.history r.sheet block i x inside low apart' r.laid)
            (λ j l. reader_cells shape (set s.words c x) r.sheet j (r.pin j) (r.floor j) (set r.sheet.cells c x) (reader_word shape s.words r.sheet j (r.pin j) (r.floor j) c x (λ e. omega arith) (r.each_reader j l)))
            (subst (Knows r.history r.writer d r.pin r.floor r.owner shape.readers id) is (writer_knows r.history r.history r.writer r.sheet d r.pin r.floor r.owner shape.readers id me.0 writes (prefix_self r.history) refl k)),
        refl,
      )

  pub commits : (slots id : ℕ) (me : Sat) (c : Commit E) (x : ℕ) → me.0.writes ≡ true → c.root < shape.roots → x ≡ word_of c.named
      → ((k : ℕ) (l : Link) → slice_get c.named.chain k ≡ Some l → (l.block < shape.blocks) × (l.words ≡ block_words shape me.0.sheet.cells l.block)) → IsLinked shape.words c.named.chain → lawful (me.0.seen ++ c ∷ []) (base_of me.0.sheet)
      → KeepsAtStore lawful shape (Commits c) slots id me (cell_count shape + c.root) x
  commits slots id me c x writes low value fits chained law s r _ at _ =
      let i : ℕ = cell_count shape + c.root in
      let k = r.each_seat id me.0 at in
      let mine = k.writes writes in
      let h : List (Commit E) = r.history ++ c ∷ [] in
      let w : View E = record me.0 { seen = me.0.seen ++ c ∷ [] } in
      let is : record me.0 { seen = h; sheet = r.sheet } ≡ w = λ t. record me.0 { seen = sym mine.1 t ++ c ∷ []; sheet = sym mine.2 t } in
      let p : IsPrefix r.history h = (c ∷ [], refl) in (
        w,
        keeps,
        tt,
        writer_step s r i x id me.1 w h r.sheet mine.0 p refl
            (laid_commit lawful shape s.words r.history r.sheet c x low value
            (subst (λ (z : Sheet). (k : ℕ) (l : Link) → slice_get c.named.chain k ≡ Some l → (l.block < shape.blocks) × (l.words ≡ block_words shape z.cells l.block)) mine.2 fits) chained
            (subst (λ (z : Sheet × List (Commit E)). lawful (z.1 ++ c ∷ []) (base_of z.0)) (λ t. (mine.2 t, mine.1 t)) law) r.laid)
            (λ j l. reader_word shape s.words r.sheet j (r.pin j) (r.floor j) i x (λ e. omega arith) (r.each_reader j l))
            (subst (Knows h r.writer r.sheet r.pin r.floor r.owner shape.readers id) is (writer_knows r.history h r.writer r.sheet r.sheet r.pin r.floor r.owner shape.readers id me.0 writes p refl k)),
        refl,
      )

  pub bumps : (slots id : ℕ) (me : Sat) (x : ℕ) → me.0.writes ≡ true → 0 < shape.readers → x ≡ me.0.sheet.epoch + 1 → KeepsAtStore lawful shape Bumps slots id me (epoch_at shape) x
  bumps slots id me x writes some_reader up s r _ at _ =
      let k = r.each_seat id me.0 at in
      let mine = k.writes writes in
      let d : Sheet = bumped r.sheet (length r.history) in
      let w : View E = record me.0 { sheet = bumped me.0.sheet (length me.0.seen) } in
      let is : record me.0 { seen = r.history; sheet = d } ≡ w = λ t. record me.0 { seen = sym mine.1 t; sheet = bumped (sym mine.2 t) (length (sym mine.1 t)) } in (
        w,
        keeps,
        tt,
        writer_step s r (epoch_at shape) x id me.1 w r.history d mine.0 (prefix_self r.history) refl
            (laid_bumped lawful shape s.words r.history r.sheet x (up ∙ ap (λ (z : Sheet). z.epoch + 1) mine.2) some_reader r.laid)
            (λ j l. reader_bumped shape (set s.words (epoch_at shape) x) r.sheet j (r.pin j) (r.floor j) (length r.history) r.laid.sound.begun (reader_word shape s.words r.sheet j (r.pin j) (r.floor j) (epoch_at shape) x (λ e. omega arith) (r.each_reader j l)))
            (subst (Knows r.history r.writer d r.pin r.floor r.owner shape.readers id) is (writer_knows r.history r.history r.writer r.sheet d r.pin r.floor r.owner shape.readers id me.0 writes (prefix_self r.history) refl k)),
        refl,
      )

  -- a step that changes no word
  unmoved : (s : St) (i id : ℕ) (cs : List (ℕ × Unit {0})) (w : View E) → Rule record { words = s.words; homes = s.homes; views = set s.views id w } → Rule (stepped s i (get_or s.words i 0) id cs w keeps)
  unmoved s i id cs w r = subst (λ (ws : List ℕ). Rule record { words = ws; homes = s.homes; views = set s.views id w }) (sym (set-get_or s.words i 0)) r

  pub loads_pin : ((h : List (Commit E)) (b c : ℕ) → b ≤ c → lawful h b → lawful h c) → (slots id : ℕ) (me : Sat) (i : ℕ) → me.0.shape ≡ shape → me.0.writes ≡ true → i < shape.readers
      → KeepsAtLoad lawful shape LoadsPin slots id me (pin_at shape i)
  loads_pin rises slots id me i shaped writes low s r _ at _ =
      let n : ℕ = get_or s.words (pin_at shape i) 0 in
      let k = r.each_seat id me.0 at in
      let mine = k.writes writes in
      let d : Sheet = scanned r.sheet i n in
      let w : View E = record me.0 { sheet = scanned me.0.sheet i n } in
      let is : record me.0 { seen = r.history; sheet = d } ≡ w = λ t. record me.0 { seen = sym mine.1 t; sheet = scanned (sym mine.2 t) i n } in
      let noted = r.laid.sound.noted in (
        w,
        keeps,
        tt,
        unmoved s (pin_at shape i) id me.1 w record {
          history = r.history;
          writer = r.writer;
          sheet = d;
          pin = r.pin;
          floor = r.floor;
          owner = r.owner;
          laid = laid_scanned lawful shape rises s.words r.history r.sheet i n r.laid;
          each_reader = λ j l. reader_scanned shape s.words r.sheet j i (r.pin j) n (r.floor j) (omega arith)
              (λ e. ap (λ (z : ℕ). get_or s.words (pin_at shape z) 0) (sym e) ∙ (r.each_reader j l).word) (r.each_reader j l);
          each_seat = seats_stay (Knows r.history r.writer r.sheet r.pin r.floor r.owner shape.readers) (Knows r.history r.writer d r.pin r.floor r.owner shape.readers) s.views id w
              (subst (Knows r.history r.writer d r.pin r.floor r.owner shape.readers id) is (writer_knows r.history r.history r.writer r.sheet d r.pin r.floor r.owner shape.readers id me.0 writes (prefix_self r.history) refl k))
              (λ j v other q. writer_else r.history r.history r.writer r.sheet d r.pin r.floor r.owner shape.readers j v (prefix_self r.history) refl (λ e. other (e ∙ sym mine.0)) q) r.each_seat;
        },
        λ j here. let e : i ≡ j = omega (arith, ap (λ (z : Shape). pin_at z j) shaped) in ap (λ (z : ℕ). (record me.0 { sheet = scanned me.0.sheet z n }, me.1)) e,
      )

  -- a step of the reader at i, which sets its pin's word
  reader_step : (s : St) (r : Rule s) (i x id : ℕ) (f : Option Floor) (w : View E) → i < shape.readers → r.owner i ≡ id
      → IsSoundReader shape (set s.words (pin_at shape i) x) r.sheet i x f → Knows r.history r.writer r.sheet (put r.pin i x) (put r.floor i f) r.owner shape.readers id w
      → Rule record { words = set s.words (pin_at shape i) x; homes = s.homes; views = set s.views id w }
  reader_step s r i x id f w low mine ok knows = record {
    history = r.history;
    writer = r.writer;
    sheet = r.sheet;
    pin = put r.pin i x;
    floor = put r.floor i f;
    owner = r.owner;
    laid = laid_pin lawful shape s.words r.history r.sheet i x r.laid;
    each_reader = λ j l. dite (ℕ_discrete j i)
        (λ e. subst (λ (z : ℕ). IsSoundReader shape (set s.words (pin_at shape i) x) r.sheet z (put r.pin i x z) (put r.floor i f z)) (sym e)
        (subst (λ (z : ℕ × Option Floor). IsSoundReader shape (set s.words (pin_at shape i) x) r.sheet i z.0 z.1) (λ t. (sym (put_here r.pin i x) t, sym (put_here r.floor i f) t)) ok))
        (λ ne. subst (λ (z : ℕ × Option Floor). IsSoundReader shape (set s.words (pin_at shape i) x) r.sheet j z.0 z.1) (λ t. (sym (put_else r.pin i x j ne) t, sym (put_else r.floor i f j ne) t))
        (reader_word shape s.words r.sheet j (r.pin j) (r.floor j) (pin_at shape i) x (λ e. ne (omega arith)) (r.each_reader j l)));
    each_seat = seats_stay (Knows r.history r.writer r.sheet r.pin r.floor r.owner shape.readers) (Knows r.history r.writer r.sheet (put r.pin i x) (put r.floor i f) r.owner shape.readers) s.views id w knows
        (λ j v other k. reader_else r.history r.writer r.sheet r.pin r.floor r.owner shape.readers i id x f j v mine other k) r.each_seat;
  }

  -- what the reader at i knows with a new pin and a new floor, where it has seen all
  reader_knows : (h seen : List (Commit E)) (writer : ℕ) (d : Sheet) (pin : ℕ → ℕ) (floor : ℕ → Option Floor) (owner : ℕ → ℕ) (n i x id : ℕ) (f : Option Floor) (v : View E) → v.number ≡ i + 1 → v.writes ≡ false → IsPrefix seen h
      → Knows h writer d pin floor owner n id v → Knows h writer d (put pin i x) (put floor i f) owner n id record v { seen = seen; pin = x; floor = f }
  reader_knows h seen writer d pin floor owner n i x id f v number plain p k = record {
    sees = p;
    keeps = k.keeps;
    writes = λ e. absurd (cc (plain, e));
    outside = λ e. absurd (omega arith);
    reads = λ q e. let is : i ≡ q = omega arith in let t = k.reads q e in
        (t.0, t.1, t.2, sym (put_here pin q x) ∙ ap (λ (z : ℕ). put pin z x q) (sym is), sym (put_here floor q f) ∙ ap (λ (z : ℕ). put floor z f q) (sym is));
  }

  pub raises : (slots id : ℕ) (me : Sat) (i x : ℕ) → me.0.number ≡ i + 1 → me.0.writes ≡ false → x ≡ me.0.pin + 1 → KeepsAtStore lawful shape Raises slots id me (pin_at shape i) x
  raises slots id me i x number plain up s r _ at _ =
      let k = r.each_seat id me.0 at in
      let t = k.reads i number in
      let wide = r.laid.wide in let low : i < shape.readers = t.1 in let up' : x ≡ r.pin i + 1 = up ∙ ap (λ (z : ℕ). z + 1) t.3 in (
        record me.0 { pin = x; floor = None },
        keeps,
        tt,
        reader_step s r i x id None (record me.0 { pin = x; floor = None }) t.1 t.2
            (reader_raised shape s.words r.sheet i (r.pin i) (r.floor i) x (omega arith) up' t.0 (r.each_reader i t.1))
            (reader_knows r.history me.0.seen r.writer r.sheet r.pin r.floor r.owner shape.readers i x id None me.0 number plain k.sees k),
        refl,
      )

  -- a step of the reader at i that changes no word
  reader_still : (s : St) (r : Rule s) (i c id : ℕ) (cs : List (ℕ × Unit {0})) (f : Option Floor) (w : View E) → i < shape.readers → r.owner i ≡ id
      → IsSoundReader shape s.words r.sheet i (r.pin i) f → Knows r.history r.writer r.sheet (put r.pin i (r.pin i)) (put r.floor i f) r.owner shape.readers id w
      → Rule (stepped s c (get_or s.words c 0) id cs w keeps)
  reader_still s r i c id cs f w low mine ok knows =
      let same : set s.words (pin_at shape i) (r.pin i) ≡ s.words = ap (set s.words (pin_at shape i)) (sym (r.each_reader i low).word) ∙ set-get_or s.words (pin_at shape i) 0 in
      unmoved s c id cs w (subst (λ (ws : List ℕ). Rule record { words = ws; homes = s.homes; views = set s.views id w }) same
      (reader_step s r i (r.pin i) id f w low mine (subst (λ (ws : List ℕ). IsSoundReader shape ws r.sheet i (r.pin i) f) (sym same) ok) knows))

  pub loads_epoch : (slots id : ℕ) (me : Sat) (i : ℕ) → me.0.number ≡ i + 1 → me.0.writes ≡ false → me.0.pin % 2 ≡ 1 → KeepsAtLoad lawful shape LoadsEpoch slots id me (epoch_at shape)
  loads_epoch slots id me i number plain odd s r _ at _ =
      let k = r.each_seat id me.0 at in
      let t = k.reads i number in
      let F : Floor = record { epoch = r.sheet.epoch; start = start_of r.sheet r.sheet.epoch } in
      let w : View E = record me.0 { seen = r.history; floor = Some F } in
      let is : record me.0 { seen = r.history; pin = r.pin i; floor = Some F } ≡ w = λ z. record me.0 { seen = r.history; pin = sym t.3 z; floor = Some F } in (
        w,
        keeps,
        tt,
        reader_still s r i (epoch_at shape) id me.1 (Some F) w t.1 t.2
            (reader_floored shape s.words r.sheet i (r.pin i) (r.floor i) (ap (λ (z : ℕ). z % 2) (sym t.3) ∙ odd) r.laid.sound.quiet t.0 (r.each_reader i t.1))
            (subst (Knows r.history r.writer r.sheet (put r.pin i (r.pin i)) (put r.floor i (Some F)) r.owner shape.readers id) is
            (reader_knows r.history r.history r.writer r.sheet r.pin r.floor r.owner shape.readers i (r.pin i) id (Some F) me.0 number plain (prefix_self r.history) k)),
        record { floor = F; longer = k.sees; rest = refl; epoch_is = sym r.laid.epoch_is; since = r.laid.sound.recent },
      )

  -- the chains since a reader's floor stand
  pub floor_late : (s : St) (r : Rule s) (id i : ℕ) (v : View E) (f : Floor) → get_elem? s.views id ≡ some v → v.number ≡ i + 1 → v.floor ≡ Some f → (base_of r.sheet ≤ f.start) × (f.start ≤ length r.history)
  floor_late s r id i v f at number floor =
      let k = r.each_seat id v at in let t = k.reads i number in
      let o = (r.each_reader i t.1).floored f (sym t.4 ∙ floor) in
      let a = r.laid.sound.rising r.sheet.quiet f.epoch o.late o.begun in let b = r.laid.sound.rising f.epoch r.sheet.epoch o.begun (le_refl r.sheet.epoch) in let e = o.start_is in let d = r.laid.sound.recent in
      (omega arith, omega arith)

  -- a seat that has loaded one word more knows what it knew
  loaded : (h : List (Commit E)) (writer : ℕ) (d : Sheet) (pin : ℕ → ℕ) (floor : ℕ → Option Floor) (owner : ℕ → ℕ) (n id : ℕ) (v : View E) → Knows h writer d pin floor owner n id v
      → Knows h writer d pin floor owner n id record v { loads = v.loads + 1 }
  loaded h writer d pin floor owner n id v k = record { sees = k.sees; keeps = k.keeps; writes = k.writes; outside = k.outside; reads = k.reads }

  pub loads_root : ((h : List (Commit E)) (b c : ℕ) → b ≤ c → lawful h b → lawful h c) → (slots id : ℕ) (me : Sat) (i q : ℕ) → me.0.shape ≡ shape → me.0.number ≡ i + 1 → me.0.writes ≡ false → q < shape.roots
      → KeepsAtLoad lawful shape (LoadsRoot lawful) slots id me (cell_count shape + q)
  loads_root rises slots id me i q shaped number plain low s r _ at _ =
      let k = r.each_seat id me.0 at in
      let t = k.reads i number in
      let v : View E = record me.0 { loads = me.0.loads + 1 } in
      let w : View E = record me.0 { seen = r.history; loads = me.0.loads + 1 } in
      let is : record v { seen = r.history; pin = r.pin i; floor = r.floor i } ≡ w = λ z. record v { seen = r.history; pin = sym t.3 z; floor = sym t.4 z } in
      let value = root_word lawful shape s.words r.history r.sheet q low r.laid in
      let here : (p : ℕ) → cell_count shape + q ≡ cell_count me.0.shape + p → q ≡ p = λ p e. let f : cell_count me.0.shape ≡ cell_count shape = ap cell_count shaped in omega arith in (
        w,
        keeps,
        tt,
        reader_still s r i (cell_count shape + q) id me.1 (r.floor i) w t.1 t.2 (r.each_reader i t.1)
            (subst (Knows r.history r.writer r.sheet (put r.pin i (r.pin i)) (put r.floor i (r.floor i)) r.owner shape.readers id) is
            (reader_knows r.history r.history r.writer r.sheet r.pin r.floor r.owner shape.readers i (r.pin i) id (r.floor i) v number plain (prefix_self r.history)
            (loaded r.history r.writer r.sheet r.pin r.floor r.owner shape.readers id me.0 k))),
        record {
          longer = k.sees;
          rest = refl;
          lawful = λ f e. rises r.history (base_of r.sheet) f.start (floor_late s r id i me.0 f at number e).0 r.laid.lawful;
          since = λ f e. (floor_late s r id i me.0 f at number e).1;
          sized = λ f l e named. let t = r.laid.chains l (named_later (base_of r.sheet) f.start r.history l (floor_late s r id i me.0 f at number e).0 named) in
              subst (λ (z : Shape). (l.block < z.blocks) × (length l.words ≡ z.words)) (sym shaped) (t.inside, t.long);
          first = λ p e. value.0 ∙ ap (λ (z : ℕ). first_number (root_of r.history z).chain) (here p e);
          stamp = λ p e. value.1 ∙ ap (λ (z : ℕ). (root_of r.history z).stamp) (here p e);
          linked = λ p. subst (λ (z : Shape). IsLinked z.words (root_of r.history p).chain) (sym shaped) (subst (λ (z : List (Commit E)). IsLinked shape.words (root_of z p).chain) (take_all (length r.history) r.history (le_refl (length r.history))) (r.laid.linked (length r.history) p (le_refl (length r.history))));
        },
      )

  -- a seat with a new view that tells what is so
  new_view : (s : St) (r : Rule s) (id : ℕ) (w : View E) → Knows r.history r.writer r.sheet r.pin r.floor r.owner shape.readers id w → Rule record { words = s.words; homes = s.homes; views = set s.views id w }
  new_view s r id w k = record {
    history = r.history;
    writer = r.writer;
    sheet = r.sheet;
    pin = r.pin;
    floor = r.floor;
    owner = r.owner;
    laid = r.laid;
    each_reader = r.each_reader;
    each_seat = seats_stay (Knows r.history r.writer r.sheet r.pin r.floor r.owner shape.readers) (Knows r.history r.writer r.sheet r.pin r.floor r.owner shape.readers) s.views id w k (λ j u _ q. q) r.each_seat;
  }

  pub loads_word : (slots id : ℕ) (me : Sat) (c i : ℕ) → me.0.shape ≡ shape → me.0.number ≡ i + 1 → KeepsAtLoad lawful shape LoadsWord slots id me c
  loads_word slots id me c i shaped number s r _ at _ =
      let k = r.each_seat id me.0 at in
      let w : View E = record me.0 { loads = me.0.loads + 1 } in (
        w,
        keeps,
        tt,
        unmoved s c id me.1 w (new_view s r id w (loaded r.history r.writer r.sheet r.pin r.floor r.owner shape.readers id me.0 k)),
        record {
          rest = refl;
          told = λ f l j e named low here.
              let stands = r.laid.chains l (named_later (base_of r.sheet) f.start r.history l (floor_late s r id i me.0 f at number e).0 (named_longer f.start me.0.seen r.history l k.sees named)) in
              let low' : j < shape.words = subst (λ (z : Shape). j < z.words) shaped low in
              ap (λ (z : ℕ). get_or s.words z 0) (here ∙ ap (λ (z : Shape). l.block * z.words + j) shaped) ∙ stands.same j low';
        },
      )

  -- a view that has seen what v has comes in
  pub splits_receipt : (id : ℕ) (v : View E) → Splits Rule id v v (receipt_view v)
  splits_receipt id v s r at = let k = r.each_seat id v at in let K = Knows r.history r.writer r.sheet r.pin r.floor r.owner shape.readers in record {
    history = r.history;
    writer = r.writer;
    sheet = r.sheet;
    pin = r.pin;
    floor = r.floor;
    owner = r.owner;
    laid = r.laid;
    each_reader = r.each_reader;
    each_seat = λ j u e. ⊎_elim (seats_stay K K s.views id v k (λ j u _ q. q) r.each_seat j u)
        (λ (t : receipt_view v ≡ u). subst (K j) t record { sees = k.sees; keeps = λ q d l. absurd (omega arith); writes = λ is. absurd (cc is); outside = λ _. refl; reads = λ i is. absurd (omega arith) })
        (at_snoc (set s.views id v) (receipt_view v) u j e);
  }

  -- the view of the next reader comes in
  pub splits_reader : (id : ℕ) (v : View E) → v.writes ≡ true → v.sheet.made < shape.readers → Splits Rule id v (counted_view v) (reader_view v)
  splits_reader id v writes room s r at =
      let k = r.each_seat id v at in
      let mine = k.writes writes in
      let d : Sheet = record r.sheet { made = r.sheet.made + 1 } in
      let made : r.sheet.made ≡ v.sheet.made = ap (λ (z : Sheet). z.made) (sym mine.2) in
      let n : ℕ = length (set s.views id (counted_view v)) in
      let own : ℕ → ℕ = put r.owner r.sheet.made n in
      let K = Knows r.history r.writer r.sheet r.pin r.floor r.owner shape.readers in
      let L = Knows r.history r.writer d r.pin r.floor own shape.readers in
      let more : (j : ℕ) (u : View E) → K j u → (i : ℕ) → u.number ≡ i + 1 → (i < d.made) × (i < shape.readers) × (own i ≡ j) × (u.pin ≡ r.pin i) × (u.floor ≡ r.floor i) = λ j u q i is.
      let t = q.reads i is in let low : i < r.sheet.made = t.0 in
      (omega arith, t.1, put_else r.owner r.sheet.made n i (λ e. omega arith) ∙ t.2, t.3, t.4) in record {
        history = r.history;
        writer = r.writer;
        sheet = d;
        pin = r.pin;
        floor = r.floor;
        owner = own;
        laid = laid_made lawful shape s.words r.history r.sheet (r.sheet.made + 1) r.laid;
        each_reader = λ i l. reader_made shape s.words r.sheet i (r.pin i) (r.floor i) (r.each_reader i l);
        each_seat = λ j u e. ⊎_elim
            (seats_stay K L s.views id (counted_view v)
            record { sees = k.sees; keeps = k.keeps; writes = λ _. (mine.0, mine.1, λ t. record (mine.2 t) { made = (mine.2 t).made + 1 }); outside = k.outside; reads = more id v k }
            (λ j u other q. record { sees = q.sees; keeps = q.keeps; writes = λ is. absurd (other ((q.writes is).0 ∙ sym mine.0)); outside = q.outside; reads = more j u q }) r.each_seat j u)
            (λ (t : (j ≡ n) × (reader_view v ≡ u)). subst (λ (z : ℕ × View E). L z.0 z.1) (λ i. (sym t.0 i, t.1 i)) record {
              sees = k.sees;
              keeps = λ q x l. absurd (omega arith);
              writes = λ is. absurd (cc is);
              outside = λ e. absurd (omega arith);
              reads = λ i is. let here : i ≡ r.sheet.made = omega arith in let low : i < shape.readers = omega arith in let un = (r.each_reader i low).unmade (omega arith) in
                  (omega arith, low, ap (put r.owner r.sheet.made n) here ∙ put_here r.owner r.sheet.made n, sym un.0, sym un.1);
            })
            (at_end (set s.views id (counted_view v)) (reader_view v) u j e);
      }

  -- a seat of any kind sees all
  pub meets : (slots id : ℕ) (me : Sat) (i : ℕ) → KeepsAtLoad lawful shape Meets slots id me i
  meets slots id me i s r _ at _ =
      let k = r.each_seat id me.0 at in
      let w : View E = record me.0 { seen = r.history; kept = [] } in (
        w,
        keeps,
        tt,
        unmoved s i id me.1 w (new_view s r id w
            record { sees = prefix_self r.history; keeps = λ q d l. absurd (omega arith); writes = λ is. ((k.writes is).0, refl, (k.writes is).2); outside = k.outside; reads = k.reads }),
        record { longer = k.sees; rest = refl; begins = k.keeps; writers = λ is. sym (k.writes is).1 },
      )

  -- a view joined_view what another has seen, which is spent_view
  pub joins : (id : ℕ) (v : View E) (other : ℕ) (w : View E) → Joins Rule id v other w (joined_view v w) spent_view
  joins id v other w s r at apart there = let k = r.each_seat id v at in let K = Knows r.history r.writer r.sheet r.pin r.floor r.owner shape.readers in
      let m : K other w = known (at_set s.views id other (joined_view v w) w there) in record {
        history = r.history;
        writer = r.writer;
        sheet = r.sheet;
        pin = r.pin;
        floor = r.floor;
        owner = r.owner;
        laid = r.laid;
        each_reader = r.each_reader;
        each_seat = seats_stay K K (set s.views id (joined_view v w)) other spent_view
            record { sees = prefix_none r.history; keeps = λ q d l. absurd (omega arith); writes = λ t. absurd (cc t); outside = λ _. refl; reads = λ i is. absurd (omega arith) } (λ j u _ q. q)
            (seats_stay K K s.views id (joined_view v w) record { sees = k.sees; keeps = All-cons (λ l. IsPrefix l r.history) w.seen v.kept m.sees k.keeps; writes = k.writes; outside = k.outside; reads = k.reads } (λ j u _ q. q) r.each_seat);
      }
    where
      known : ((other ≡ id) × (joined_view v w ≡ w)) ⊎ ((other ≢ id) × (get_elem? s.views other ≡ some w)) → Knows r.history r.writer r.sheet r.pin r.floor r.owner shape.readers other w
      known (inl t) = absurd (apart t.0)
      known (inr t) = r.each_seat other w t.1

  alone : (K : ℕ → View E → Type 0) (w : View E) → K 0 w → (j : ℕ) (v : View E) → get_elem? (w ∷ []) j ≡ some v → K j v
  alone K w k zero v e = subst (K 0) (some-injective w v e) k
  alone K w k (suc j) v e = absurd (some-ne-none v (sym e))

  -- the rule holds of a new store
  pub opens : shape.blocks < 2147483648 → lawful [] 0 → Rule (opening (replicate (word_count shape) 0) [] (opening_view shape))
  opens few law = record {
    history = [];
    writer = 0;
    sheet = opening_sheet shape;
    pin = λ _. 0;
    floor = λ _. None;
    owner = λ _. 0;
    laid = laid_opening lawful shape few law;
    each_reader = λ i l. record {
      word = get_or-replicate (word_count shape) (pin_at shape i) 0 0 (omega arith);
      even = λ _. refl;
      floored = λ f e. absurd (cc e);
      note = subst (IsSoundNote 0 0 None) (sym (same_replicated shape.readers i Unknown)) tt;
      unmade = λ _. (refl, refl);
    };
    each_seat = alone (Knows [] 0 (opening_sheet shape) (λ _. 0) (λ _. None) (λ _. 0) shape.readers) (opening_view shape)
        record { sees = prefix_none []; keeps = λ q d l. absurd (omega arith); writes = λ _. (refl, refl, refl); outside = λ _. refl; reads = λ i is. absurd (omega arith) };
  }

-- what a writer met begins what it has seen
pub met : {E : Type 0} (v w : View E) (cs : List (ℕ × Unit {0})) (me m' : Me (Unit {0}) (View E)) (st : Step (Unit {0})) (n : ℕ) → Meets st me n m' → me ≡ (joined_view v w, cs) → v.writes ≡ true → IsPrefix w.seen v.seen
met {E} v w cs me m' st n t is writes = let u : Meets st (joined_view v w, cs) n m' = subst (λ (z : Me (Unit {0}) (View E)). Meets st z n m') is t in
    subst (λ (z : List (Commit E)). IsPrefix w.seen z) (u.writers writes) (u.begins 0 [] (omega arith))

-- what a reader inside may load is named since the base
pub held_named : {E : Type 0} (lawful : List (Commit E) → ℕ → Type 0) (shape : Shape) (s : State (Unit {0}) (View E)) (k : IsKept lawful shape s) (id i : ℕ) (v : View E) (f : Floor) (l : Link) → get_elem? s.views id ≡ some v → v.number ≡ i + 1 → v.floor ≡ Some f
    → IsNamed f.start v.seen l → IsNamed (base_of k.sheet) k.history l
held_named lawful shape s k id i v f l at number floor named =
    named_later (base_of k.sheet) f.start k.history l (floor_late lawful shape s k id i v f at number floor).0 (named_longer f.start v.seen k.history l (k.each_seat id v at).sees named)
