-- The row of a filter that comes with a mask of its own.
use Rattle.std.proofs.Common.{◌≡◌, ◌∙◌, ℕ, ◌+◌, ◌==◌, ◌&&◌, Bool, true, false, List, [], ◌∷◌, ◌++◌, Some, None, Ok, if◌then◌else◌, refl, sym, ap, subst, eq-eqb}
use Rattle.std.proofs.lemmas.Bool.{and_from}
use Rattle.store_history.specs.declared.history.Commit.{Commit}
use Rattle.filter_state.specs.declared.edit.Edit.{Edit}
use Rattle.filter_state.specs.declared.edit.FilterLine.{FilterLine}
use Rattle.filter_state.specs.declared.refusal.Done.TheVariants as dones
use Rattle.filter_state.specs.States.{Row, State}
use Rattle.filter_state.specs.Steps.{filter_add}
use Rattle.filter_state.specs.Tables.{first_where, hook_eq, in_table, has_mask, mask_row, mask_or_next}
use Rattle.state_laws.proofs.Tests.{bytes_eq_from}
use Rattle.row_laws.proofs.OfLookups.Found.{hook_self}
use Rattle.hook_store_law.proofs.OfEffects.Accepted.{same_filter}
use Rattle.hook_store_law.proofs.OfEffects.Adding.{new_row, handle_in, added_state, adds}
use Rattle.hook_store_law.specs.OfEdits.Premises.{now, next, IsAccepted, IsAddOf}
use Rattle.hook_store_law.proofs.OfEdits.Accepted.{at_next}
use Rattle.hook_store_law.proofs.OfEdits.OneMask.{adds_line}

-- the first that passes, where the last one alone does
last_passes : {A : Type 0} (test : A → Bool) (xs : List A) (x : A) → first_where test xs ≡ None → test x ≡ true → first_where test (xs ++ x ∷ []) ≡ Some x
last_passes test [] x none is = ap (λ (t : Bool). if t then Some x else None) is
last_passes test (y ∷ ys) x none is = pick (test y) refl (λ later. last_passes test ys x later is)
  where
    pick : (t : Bool) → test y ≡ t → (first_where test ys ≡ None → first_where test (ys ++ x ∷ []) ≡ Some x) → first_where test ((y ∷ ys) ++ x ∷ []) ≡ Some x
    pick true e rest = let bad : Some y ≡ None = sym (ap (λ (u : Bool). if u then Some y else first_where test ys) e) ∙ none in absurd (cc bad)
    pick false e rest = ap (λ (u : Bool). if u then Some y else first_where test (ys ++ x ∷ [])) e
        ∙ rest (sym (ap (λ (u : Bool). if u then Some y else first_where test ys) e) ∙ none)

-- it has the mask with the next serial, and is found by the line's words
abbrev pub IsNewRow : State → FilterLine → ℕ → State → Type 0
IsNewRow s line pref t = (row : Row) × (mask_row line.hook line.chain pref line.mask.words t.rows ≡ Some row) × (row.mask_serial ≡ s.masks_made + 1)

new_row_after : (s t : State) (line : FilterLine) (pref handle : ℕ) (serials : List ℕ) → filter_add s line ≡ Ok (t, dones.Filter pref handle serials)
    → mask_row line.hook line.chain pref line.mask.words s.rows ≡ None → IsNewRow s line pref t
new_row_after s t line pref handle serials e none =
    let a = adds s t line (dones.Filter pref handle serials) e in
    let same = same_filter a.pref pref (handle_in s line a.pref) handle a.r.serials serials a.answer in
    let new : Row = new_row s line a.pref a.r.serials in
    let before = subst (λ p. mask_row line.hook line.chain p line.mask.words s.rows ≡ None) (sym same.0) none in
    let passes = and_from (in_table line.hook line.chain a.pref new) (has_mask line.mask.words new)
    (and_from (hook_eq line.hook line.hook && line.chain == line.chain) (a.pref == a.pref)
    (and_from (hook_eq line.hook line.hook) (line.chain == line.chain) (hook_self line.hook) (eq-eqb line.chain line.chain refl)) (eq-eqb a.pref a.pref refl))
    (bytes_eq_from line.mask.words line.mask.words refl) in
    let found = last_passes (λ row. in_table line.hook line.chain a.pref row && has_mask line.mask.words row) s.rows new before passes in
    subst (IsNewRow s line pref) a.after
    (subst (λ p. IsNewRow s line p (added_state s line a.pref a.r)) same.0 (new, found, ap (λ o. mask_or_next o s.masks_made) before))

pub new_row_stands : (h : List (Commit Edit)) (b : ℕ) (y : Edit) (t : State) (line : FilterLine) (pref handle : ℕ) (serials : List ℕ)
    → IsAccepted h b y t (dones.Filter pref handle serials) → IsAddOf (now h) line y → mask_row line.hook line.chain pref line.mask.words (now h).rows ≡ None
    → IsNewRow (now h) line pref (next h y)
new_row_stands h b y t line pref handle serials a is none = at_next h b y t (dones.Filter pref handle serials) a (IsNewRow (now h) line pref)
    (new_row_after (now h) t line pref handle serials (adds_line h b y t line pref handle serials a is) none)
