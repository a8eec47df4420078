-- What holds of a sheet goes on to hold as blocks are filled, commits are made, epochs begin and pins are
-- loaded.
use Rattle.std.proofs.Common.{◌≡◌, ℕ, zero, suc, ◌+◌, ◌<◌, ◌≤◌, inl, inr, Bool, true, false, cond, List, [], ◌∷◌, ◌++◌, length, get_or, set, refl, ap, sym, ◌∙◌, subst, arith, length-append, length-set, get_or-set_other, get_or-set_same, le_refl, le_trans, zero-le}
use mathlib.Core.Logic.{dite}
use native.Mathlib.Decide.{ℕ_discrete}
use Rattle.std.proofs.Math.ListN.{get_or-append}
use Rattle.std.proofs.lemmas.List.{length-replicate}
use Rattle.pin_store.specs.declared.shape.Shape.{Shape}
use Rattle.pin_store.specs.declared.note.Note.{Note}
use Rattle.pin_store.specs.declared.note.Note.TheVariants.{Unknown}
use Rattle.pin_store.specs.declared.view.Sheet.{Sheet}
use Rattle.pin_store.specs.Layout.{cell_count}
use Rattle.pin_store.specs.Notes.{is_clear, all_clear, noted, IsTaken, NotedFrom}
use Rattle.pin_store.specs.Sheets.{start_of, base_of, note_at, opening_sheet, bumped, scanned, IsSoundSheet, IsSameButCells, IsSameButNotes, QuietAfter}
use Rattle.pin_store.proofs.Noting.{not_clear_yet, none_clear, taken, taken_clear}

-- the epochs before a new one have their starts
pub start_bumped : (d : Sheet) (n e : ℕ) → length d.starts ≡ d.epoch + 1 → e ≤ d.epoch → start_of (bumped d n) e ≡ start_of d e
start_bumped d n e long le = get_or-append d.starts (n ∷ []) 0 e (omega arith)

pub start_last : (xs : List ℕ) (n e : ℕ) → length xs ≡ e → get_or (xs ++ n ∷ []) e 0 ≡ n
start_last [] n zero h = refl
start_last [] n (suc e) h = absurd (omega arith)
start_last (x ∷ xs) n zero h = absurd (omega arith)
start_last (x ∷ xs) n (suc e) h = start_last xs n e (omega arith)

pub base_bumped : (d : Sheet) (n : ℕ) → length d.starts ≡ d.epoch + 1 → d.quiet ≤ d.epoch → base_of (bumped d n) ≡ base_of d
base_bumped d n long le = start_bumped d n d.quiet long le

pub base_low : {shape : Shape} {n : ℕ} (d : Sheet) → IsSoundSheet shape d n → base_of d ≤ n
base_low d s = le_trans (s.rising d.quiet d.epoch s.quiet (le_refl d.epoch)) s.recent

module _ (shape : Shape) (n : ℕ) where
  pub sound_cells : (d : Sheet) (cells : List ℕ) → length cells ≡ length d.cells → IsSoundSheet shape d n → IsSoundSheet shape (record d { cells = cells }) n
  sound_cells d cells long s = record { whole = long ∙ s.whole; noted = s.noted; begun = s.begun; quiet = s.quiet; rising = s.rising; recent = s.recent; settled = s.settled }

  pub sound_longer : (m : ℕ) (d : Sheet) → n ≤ m → IsSoundSheet shape d n → IsSoundSheet shape d m
  sound_longer m d le s = record { whole = s.whole; noted = s.noted; begun = s.begun; quiet = s.quiet; rising = s.rising; recent = le_trans s.recent le; settled = s.settled }

  pub sound_made : (d : Sheet) (made : ℕ) → IsSoundSheet shape d n → IsSoundSheet shape (record d { made = made }) n
  sound_made d made s = record { whole = s.whole; noted = s.noted; begun = s.begun; quiet = s.quiet; rising = s.rising; recent = s.recent; settled = s.settled }

  pub sound_bumped : (d : Sheet) → 0 < shape.readers → IsSoundSheet shape d n → IsSoundSheet shape (bumped d n) n
  sound_bumped d some_reader s =
      let quiet = s.quiet in let begun = s.begun in
      let last : start_of (bumped d n) (d.epoch + 1) ≡ n = start_last d.starts n (d.epoch + 1) s.begun in record {
        whole = s.whole;
        noted = length-replicate (length d.notes) Unknown ∙ s.noted;
        begun = length-append d.starts (n ∷ []) ∙ (omega arith);
        quiet = omega arith;
        rising = λ i j le top. dite (ℕ_discrete j (d.epoch + 1))
            (λ is. let from : start_of (bumped d n) i ≤ n = dite (ℕ_discrete i (d.epoch + 1))
            (λ same. subst (λ (z : ℕ). start_of (bumped d n) z ≤ n) (sym same) (omega arith))
            (λ other. let a = start_bumped d n i s.begun (omega arith) in let b = s.rising i d.epoch (omega arith) (le_refl d.epoch) in let c = s.recent in omega arith) in
            subst (λ (z : ℕ). start_of (bumped d n) i ≤ start_of (bumped d n) z) (sym is) (omega arith))
            (λ ne. let a = start_bumped d n i s.begun (omega arith) in let b = start_bumped d n j s.begun (omega arith) in let c = s.rising i j le (omega arith) in omega arith);
        recent = omega arith;
        settled = λ clear. let some : 0 < length d.notes = let e = s.noted in omega arith in let none = none_clear (length d.notes) some in absurd (cc (clear, none));
      }

  -- the pin p of the reader at j was loaded
  pub sound_scanned : (d : Sheet) (j p : ℕ) → IsSoundSheet shape d n → IsSoundSheet shape (scanned d j p) n
  sound_scanned d j p s = let ns = set d.notes j (noted (note_at d j) p) in record {
    whole = s.whole;
    noted = length-set d.notes j (noted (note_at d j) p) ∙ s.noted;
    begun = s.begun;
    quiet = low d.quiet d.epoch s.quiet (all_clear ns);
    rising = s.rising;
    recent = s.recent;
    settled = λ clear. ap (λ (b : Bool). cond b d.epoch d.quiet) clear;
  }
    where
      low : (q e : ℕ) → q ≤ e → (b : Bool) → cond b e q ≤ e
      low q e le true = le_refl e
      low q e le false = le

  pub base_scanned : (d : Sheet) (j p : ℕ) → IsSoundSheet shape d n → base_of d ≤ base_of (scanned d j p)
  base_scanned d j p s = up (all_clear (set d.notes j (noted (note_at d j) p)))
    where
      up : (b : Bool) → start_of d d.quiet ≤ start_of d (cond b d.epoch d.quiet)
      up true = s.rising d.quiet d.epoch s.quiet (le_refl d.epoch)
      up false = le_refl (start_of d d.quiet)

pub sound_opening : (shape : Shape) → IsSoundSheet shape (opening_sheet shape) 0
sound_opening shape = record {
  whole = length-replicate (cell_count shape) 0;
  noted = length-replicate shape.readers Unknown;
  begun = refl;
  quiet = zero-le;
  rising = λ i j a b. let e : j ≡ 0 = omega arith in let f : i ≡ 0 = omega arith in subst (λ (z : ℕ × ℕ). get_or (0 ∷ []) z.0 0 ≤ get_or (0 ∷ []) z.1 0) (λ t. (sym f t, sym e t)) zero-le;
  recent = zero-le;
  settled = λ _. refl;
}

pub base_same : (d e : Sheet) → IsSameButCells d e → base_of e ≡ base_of d
base_same d e s = λ i. get_or (s.starts i) (s.quiet i) 0

pub same_cells : (c d e : Sheet) → IsSameButCells c d → IsSameButCells d e → IsSameButCells c e
same_cells c d e s t = record { epoch = t.epoch ∙ s.epoch; starts = t.starts ∙ s.starts; quiet = t.quiet ∙ s.quiet; notes = t.notes ∙ s.notes; made = t.made ∙ s.made }

-- one more pin was loaded, whose note was not clear
pub quiet_more : (d e : Sheet) (i p : ℕ) → IsSameButNotes d e → QuietAfter d e → i < length e.notes → is_clear (note_at e i) ≡ false → QuietAfter d (scanned e i p)
quiet_more d e i p same q low open_ = let was = q.kept (not_clear_yet e.notes i low open_) in
    record { clear = λ c. ap (λ (b : Bool). cond b e.epoch e.quiet) c ∙ same.epoch; kept = λ c. ap (λ (b : Bool). cond b e.epoch e.quiet) c ∙ was }

pub same_more : (d e : Sheet) (i p : ℕ) → IsSameButNotes d e → IsSameButNotes d (scanned e i p)
same_more d e i p same = record { cells = same.cells; epoch = same.epoch; starts = same.starts; made = same.made; count = length-set e.notes i (noted (note_at e i) p) ∙ same.count }

-- the notes below i + 1 were taken
pub taken_more : (e : Sheet) (i p : ℕ) → i < length e.notes → ((j : ℕ) → j < i → IsTaken (note_at e j)) → (j : ℕ) → j < i + 1 → IsTaken (note_at (scanned e i p) j)
taken_more e i p low old j l = dite (ℕ_discrete j i)
    (λ is. subst (λ (z : ℕ). IsTaken (get_or (set e.notes i (noted (note_at e i) p)) z Unknown)) (sym is) (subst IsTaken (sym (get_or-set_same e.notes i (noted (note_at e i) p) Unknown low)) (taken (note_at e i) p)))
    (λ ne. subst IsTaken (sym (get_or-set_other e.notes i j (noted (note_at e i) p) Unknown ne)) (old j (omega arith)))

pub taken_still : (e : Sheet) (i : ℕ) → is_clear (note_at e i) ≡ true → ((j : ℕ) → j < i → IsTaken (note_at e j)) → (j : ℕ) → j < i + 1 → IsTaken (note_at e j)
taken_still e i clear old j l = dite (ℕ_discrete j i)
    (λ is. subst (λ (z : ℕ). IsTaken (note_at e z)) (sym is) (taken_clear (note_at e i) clear))
    (λ ne. old j (omega arith))

-- the notes below i + 1 come from those at the start, and the others are as they were
pub from_more : (d e : Sheet) (i p : ℕ) → i < length e.notes → is_clear (note_at e i) ≡ false → note_at e i ≡ note_at d i → ((j : ℕ) → j < i → NotedFrom (note_at d j) (note_at e j)) → (j : ℕ) → j < i + 1 → NotedFrom (note_at d j) (note_at (scanned e i p) j)
from_more d e i p low open_ was old j l = dite (ℕ_discrete j i)
    (λ is. subst (λ (z : ℕ). NotedFrom (note_at d z) (get_or (set e.notes i (noted (note_at e i) p)) z Unknown)) (sym is)
    (inr (ap is_clear (sym was) ∙ open_, (p, get_or-set_same e.notes i (noted (note_at e i) p) Unknown low ∙ ap (λ (n : Note). noted n p) was))))
    (λ ne. subst (NotedFrom (note_at d j)) (sym (get_or-set_other e.notes i j (noted (note_at e i) p) Unknown ne)) (old j (omega arith)))

pub from_still : (d e : Sheet) (i : ℕ) → is_clear (note_at e i) ≡ true → note_at e i ≡ note_at d i → ((j : ℕ) → j < i → NotedFrom (note_at d j) (note_at e j)) → (j : ℕ) → j < i + 1 → NotedFrom (note_at d j) (note_at e j)
from_still d e i clear was old j l = dite (ℕ_discrete j i)
    (λ is. subst (λ (z : ℕ). NotedFrom (note_at d z) (note_at e z)) (sym is) (inl (ap is_clear (sym was) ∙ clear, was)))
    (λ ne. old j (omega arith))

pub rest_more : (d e : Sheet) (i p : ℕ) → ((j : ℕ) → i ≤ j → note_at e j ≡ note_at d j) → (j : ℕ) → i + 1 ≤ j → note_at (scanned e i p) j ≡ note_at d j
rest_more d e i p old j l = get_or-set_other e.notes i j (noted (note_at e i) p) Unknown (λ x. omega arith) ∙ old j (omega arith)

-- the base after a scan, as its answer tells the quiet epoch
pub base_after : {shape : Shape} {n : ℕ} (d e : Sheet) → IsSoundSheet shape d n → IsSameButNotes d e → QuietAfter d e → base_of d ≤ base_of e
base_after d e s same q = pick (all_clear e.notes) refl
  where
    at : (k : ℕ) → e.quiet ≡ k → start_of d d.quiet ≤ start_of d k → base_of d ≤ base_of e
    at k is le = subst (λ (z : List ℕ × ℕ). start_of d d.quiet ≤ get_or z.0 z.1 0) (λ t. (sym same.starts t, sym is t)) le

    pick : (b : Bool) → all_clear e.notes ≡ b → base_of d ≤ base_of e
    pick true is = at d.epoch (q.clear is) (s.rising d.quiet d.epoch s.quiet (le_refl d.epoch))
    pick false is = at d.quiet (q.kept is) (le_refl (start_of d d.quiet))
