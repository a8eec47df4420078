-- The row that an accepted edit puts.
use Rattle.std.proofs.Common.{◌≡◌, ◌∙◌, inl, inr, ℕ, ◌==◌, ◌&&◌, Bool, true, false, List, [], ◌∷◌, ◌++◌, Option, Some, None, Ok, refl, sym, ap, subst, eq-eqb}
use Rattle.std.specs.Prelude.{filter, if◌then◌else◌}
use Rattle.std.specs.Str.{bytes_eq}
use Rattle.std.proofs.lemmas.Bool.{and_parts, and_from}
use Rattle.filter_state.specs.declared.edit.Edit.{Edit}
use Rattle.filter_state.specs.declared.edit.Edit.TheVariants as edits
use Rattle.filter_state.specs.declared.edit.FilterLine.{FilterLine}
use Rattle.filter_state.specs.declared.refusal.Done.{Done}
use Rattle.filter_state.specs.declared.refusal.Done.TheVariants as dones
use Rattle.filter_state.specs.States.{Row, State}
use Rattle.filter_state.specs.Sound.{Sound, EachPair, GoTogether}
use Rattle.filter_state.specs.Tables.{in_table, has_handle, filter_row}
use Rattle.filter_state.specs.Steps.{step, filter_add, filter_replace, replace_or_add, with_row, without_row, with_new_actions}
use Rattle.state_laws.proofs.Tests.{row_in_table_from, bytes_eq_true}
use Rattle.state_laws.proofs.Fits.{TableFits}
use Rattle.state_laws.proofs.Old.{is_old, IsOld, old_found}
use Rattle.edit_effects.proofs.OfEffects.Adding.{new_row, adds}
use Rattle.edit_effects.proofs.OfEffects.Replacing.{replaces, is_there, moved_row, fit}
use Rattle.state_past_laws.specs.OfChanges.Among.{Has, listed}
use Rattle.state_past_laws.specs.OfChanges.Going.{rows_going, line_in, IsComing, Comes, GoesOn}
use Rattle.state_past_laws.proofs.OfChanges.Among.{has_right, each_has, has_filter, filter_has}
use Rattle.state_past_laws.proofs.OfChanges.Going.{rows_go_on, handle_all, in_place}
use Rattle.filter_origins.specs.Brought.{row_with, row_put}

-- ---- rows by their names
abbrev pub SameName : Row → Row → Type 0
SameName x y = (x.hook ≡ y.hook) × (x.chain ≡ y.chain) × (x.pref ≡ y.pref) × (x.handle ≡ y.handle)

pub named_by : (x y : Row) → SameName x y → (in_table y.hook y.chain y.pref x && has_handle y.handle x) ≡ true
named_by x y same = and_from (in_table y.hook y.chain y.pref x) (has_handle y.handle x) (row_in_table_from y.hook y.chain y.pref x same.0 same.1 same.2) (eq-eqb x.handle y.handle same.3)

one_listed : (x y : Row) (o : Option Row) → Has x (listed o) → Has y (listed o) → x ≡ y
one_listed x y None has own = absurd has
one_listed x y (Some z) (inl one) (inl other) = sym one ∙ other
one_listed x y (Some z) (inr none) own = absurd none
one_listed x y (Some z) (inl one) (inr none) = absurd none

pub same_row : (rows : List Row) → EachPair GoTogether rows → (x y : Row) → SameName x y → Has x rows → Has y rows → x ≡ y
same_row rows pairs x y same has own = one_listed x y (filter_row y.hook y.chain y.pref y.handle rows)
    (handle_all y.hook y.chain y.pref y.handle rows pairs x (named_by x y same) has)
    (handle_all y.hook y.chain y.pref y.handle rows pairs y (named_by y y (refl, refl, refl, refl)) own)

-- ---- the row, found in the state behind the edit
listed_one : (x : Row) (o : Option Row) → Has x (listed o) → o ≡ Some x
listed_one x None has = absurd has
listed_one x (Some y) (inl same) = ap (λ z. Some z) same
listed_one x (Some y) (inr none) = absurd none

row_found : (line : FilterLine) (done : Done) (row : Row) (t : State) → Sound t → IsComing line done row → Has row t.rows → row_with (Some line) done t ≡ Some row
row_found line done row t sound is has =
    ap (λ (d : Done). row_with (Some line) d t) is.answer
    ∙ listed_one row (filter_row line.hook line.chain row.pref row.handle t.rows)
    (handle_all line.hook line.chain row.pref row.handle t.rows sound.together row
    (and_from (in_table line.hook line.chain row.pref row) (has_handle row.handle row) (row_in_table_from line.hook line.chain row.pref row is.hook is.chain refl) (eq-eqb row.handle row.handle refl)) has)

put_found : (o : Option FilterLine) (done : Done) (come : Option Row) (t : State) → Sound t → Comes o done come → ((row : Row) → come ≡ Some row → Has row t.rows) → row_with o done t ≡ come
put_found (Some line) done (Some row) t sound is has = row_found line done row t sound is (has row refl)
put_found None done None t sound is has = refl
put_found (Some line) done None t sound is has = absurd is
put_found None done (Some row) t sound is has = absurd is

-- ---- a row that is new
pub record IsNew (s t : State) (line : FilterLine) (done : Done) (going : List Row) (row : Row) : Type 0 where
  pub coming : IsComing line done row
  pub there : Has row t.rows
  pub anew : Has row s.rows → Has row going
  pub protocol : row.protocol ≡ line.protocol

pair_last : (rows : List Row) (row x : Row) → EachPair GoTogether (rows ++ (row ∷ [])) → Has x rows → GoTogether x row
pair_last [] row x pairs has = absurd has
pair_last (y ∷ rows) row x pairs (inl same) = subst (λ (z : Row). GoTogether z row) same (each_has (GoTogether y) (rows ++ (row ∷ [])) row pairs.0 (has_right row rows (row ∷ []) (inl refl)))
pair_last (y ∷ rows) row x pairs (inr has) = pair_last rows row x pairs.1 has

not_again : (rows : List Row) (row : Row) → EachPair GoTogether (rows ++ (row ∷ [])) → Has row rows → ⊥
not_again rows row pairs has = let go = pair_last rows row row pairs has in go.handles refl refl

new_add : (s t : State) (line : FilterLine) (done : Done) → Sound t → filter_add s line ≡ Ok (t, done) → (row : Row) × IsNew s t line done [] row
new_add s t line done sound stepped =
    let it = adds s t line done stepped in
    let row : Row = new_row s line it.pref it.r.serials in
    let rows : s.rows ++ (row ∷ []) ≡ t.rows = ap (λ (u : State). u.rows) it.after in (
      row,
      record {
        coming = record { answer = sym it.answer; hook = refl; chain = refl; mask = refl; key = refl };
        there = subst (Has row) rows (has_right row s.rows (row ∷ []) (inl refl));
        anew = λ has. absurd (not_again s.rows row (subst (EachPair GoTogether) (sym rows) sound.together) has);
        protocol = refl;
      },
    )

old_there : (rows : List Row) (old : Row) → filter (is_old old) rows ≡ old ∷ [] → Has old rows
old_there rows old only = (filter_has (is_old old) rows old (subst (Has old) (sym only) (inl refl))).0

old_again : (rows : List Row) (old x : Row) → filter (is_old old) rows ≡ old ∷ [] → is_old old x ≡ true → Has x rows → Has x (old ∷ [])
old_again rows old x only passes has = subst (Has x) only (has_filter (is_old old) rows x passes has)

is_old_itself : (old : Row) → is_old old old ≡ true
is_old_itself old = and_from (old.table == old.table) (old.handle == old.handle) (eq-eqb old.table old.table refl) (eq-eqb old.handle old.handle refl)

abbrev acting : List ℕ → Row → Row
acting serials row = record row { actions = serials }

new_by : (s t : State) (line : FilterLine) (old : Row) (done : Done) → IsOld s line old → old.protocol ≡ line.protocol → (serials : List ℕ) → dones.Filter old.pref old.handle serials ≡ done
    → (same : Bool) → (bytes_eq old.mask line.mask.words && bytes_eq old.key line.key.words) ≡ same
    → (if same then record s { rows = with_new_actions old serials s.rows } else with_row (record s { rows = without_row old s.rows }) (moved_row s line old serials)).rows ≡ t.rows
    → (row : Row) × IsNew s t line done (old ∷ []) row
new_by s t line old done is protocol serials answer true same rows =
    let parts = and_parts (bytes_eq old.mask line.mask.words) (bytes_eq old.key line.key.words) same in
    let goes = in_place s.rows old is.only serials in (
      acting serials old,
      record {
        coming = record { answer = sym answer; hook = is.hook; chain = is.chain; mask = bytes_eq_true old.mask line.mask.words parts.0; key = bytes_eq_true old.key line.key.words parts.1 };
        there = subst (Has (acting serials old)) rows (goes.comes (acting serials old) refl);
        anew = λ has. old_again s.rows old (acting serials old) is.only (is_old_itself old) has;
        protocol = protocol;
      },
    )
new_by s t line old done is protocol serials answer false same rows =
    let row : Row = moved_row s line old serials in (
      row,
      record {
        coming = record { answer = sym answer; hook = refl; chain = refl; mask = refl; key = refl };
        there = subst (Has row) rows (has_right row (without_row old s.rows) (row ∷ []) (inl refl));
        anew = λ has. old_again s.rows old row is.only (is_old_itself old) has;
        protocol = refl;
      },
    )

new_replace : (s t : State) (line : FilterLine) (o : Option Row) (done : Done) → Sound s → Sound t → is_there s line ≡ o → filter_replace s line ≡ Ok (t, done) → (row : Row) × IsNew s t line done (listed o) row
new_replace s t line None done sound after is stepped = new_add s t line done after (sym (ap (replace_or_add s line) is) ∙ stepped)
new_replace s t line (Some old) done sound after is stepped =
    let it = replaces s t line old done is stepped in
    let own = old_found s line old sound is in
    let fits = fit s line old sound own it.agrees it.room in
    let table = each_has (TableFits line.hook line.chain old.pref line.protocol old.table) s.rows old fits.tables (old_there s.rows old own.only) in
    new_by s t line old done own (table.same refl).3 it.r.serials it.answer (bytes_eq old.mask line.mask.words && bytes_eq old.key line.key.words) refl (ap (λ (u : State). u.rows) it.after)

abbrev Anew : State → State → Edit → Done → Option FilterLine → Type 0
Anew s t edit done None = Unit {0}
Anew s t edit done (Some line) = (row : Row) × IsNew s t line done (rows_going s edit) row

new_row_of : (s t : State) (edit : Edit) (done : Done) → Sound s → Sound t → step s edit ≡ Ok (t, done) → Anew s t edit done (line_in edit)
new_row_of s t edits.HookAdd done sound after e = tt
new_row_of s t edits.HookDel done sound after e = tt
new_row_of s t (edits.FilterAdd line) done sound after e = new_add s t line done after e
new_row_of s t (edits.FilterReplace line) done sound after e = new_replace s t line (is_there s line) done sound after refl e
new_row_of s t (edits.FilterDel hook protocol chain pref handle) done sound after e = tt
new_row_of s t (edits.ActionAdd line) done sound after e = tt
new_row_of s t (edits.ActionChange line) done sound after e = tt
new_row_of s t (edits.ActionDel kind index) done sound after e = tt

-- ---- WHAT AN ACCEPTED EDIT PUTS
pub record Came (s t : State) (edit : Edit) (done : Done) : Type 0 where
  pub come : Option Row
  pub go : GoesOn s.rows t.rows (rows_going s edit) come
  pub comes : Comes (line_in edit) done come
  pub put : row_put edit (Ok (t, done)) ≡ come
  pub anew : (row : Row) → come ≡ Some row → Has row s.rows → Has row (rows_going s edit)
  pub protocol : (line : FilterLine) (row : Row) → line_in edit ≡ Some line → come ≡ Some row → row.protocol ≡ line.protocol

coming_same : (line : FilterLine) (done : Done) (x y : Row) → IsComing line done x → IsComing line done y → SameName x y
coming_same line done x y one other =
    let same : dones.Filter x.pref x.handle x.actions ≡ dones.Filter y.pref y.handle y.actions = sym one.answer ∙ other.answer in
    (one.hook ∙ sym other.hook, one.chain ∙ sym other.chain, cc same, cc same)

is_the_new : (t : State) (line : FilterLine) (done : Done) (x y : Row) → Sound t → IsComing line done x → IsComing line done y → Has x t.rows → Has y t.rows → x ≡ y
is_the_new t line done x y sound one other has own = same_row t.rows sound.together x y (coming_same line done x y one other) has own

module _ (s t : State) (edit : Edit) (done : Done) (after : Sound t) where
  its_anew : (o : Option FilterLine) (come : Option Row) → Anew s t edit done o → Comes o done come → ((row : Row) → come ≡ Some row → Has row t.rows) → (row : Row) → come ≡ Some row → Has row s.rows → Has row (rows_going s edit)
  its_anew (Some line) (Some x) new is there row same has =
      let own : x ≡ row = cc same in
      let one : new.0 ≡ x = is_the_new t line done new.0 x after new.1.coming is new.1.there (there x refl) in
      let fresh = new.1.anew in
      subst (λ (z : Row). Has z s.rows → Has z (rows_going s edit)) (one ∙ own) fresh has
  its_anew (Some line) None new is there row same has = absurd is
  its_anew None (Some x) new is there row same has = absurd is
  its_anew None None new is there row same has = absurd (cc same)

  its_protocol : (o : Option FilterLine) (come : Option Row) → Anew s t edit done o → Comes o done come → ((row : Row) → come ≡ Some row → Has row t.rows) → (line : FilterLine) (row : Row) → o ≡ Some line → come ≡ Some row → row.protocol ≡ line.protocol
  its_protocol (Some l) (Some x) new is there line row named same =
      let own : x ≡ row = cc same in
      let its : l ≡ line = cc named in
      let one : new.0 ≡ x = is_the_new t l done new.0 x after new.1.coming is new.1.there (there x refl) in
      ap (λ (z : Row). z.protocol) (sym (one ∙ own)) ∙ new.1.protocol ∙ ap (λ (z : FilterLine). z.protocol) its
  its_protocol (Some l) None new is there line row named same = absurd is
  its_protocol None come new is there line row named same = absurd (cc named)

pub came : (s t : State) (edit : Edit) (done : Done) → Sound s → Sound t → step s edit ≡ Ok (t, done) → Came s t edit done
came s t edit done sound after stepped =
    let goes = rows_go_on s t edit done sound stepped in
    let new = new_row_of s t edit done sound after stepped in
    let there : (row : Row) → goes.0 ≡ Some row → Has row t.rows = λ row is. goes.1.comes row is in
    record {
      come = goes.0;
      go = goes.1;
      comes = goes.2;
      put = put_found (line_in edit) done goes.0 t after goes.2 there;
      anew = its_anew s t edit done after (line_in edit) goes.0 new goes.2 there;
      protocol = its_protocol s t edit done after (line_in edit) goes.0 new goes.2 there;
    }
