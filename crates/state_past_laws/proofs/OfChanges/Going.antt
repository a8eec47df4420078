-- How the rows go on with an accepted edit.
use Rattle.std.proofs.Common.{◌≡◌, ◌∙◌, ◌⊎◌, inl, inr, ℕ, ◌&&◌, Bool, true, false, not, cond, List, [], ◌∷◌, ◌++◌, Option, Some, None, Ok, refl, sym, ap, subst, eqb-true}
use Rattle.std.specs.Prelude.{◌+◌, filter, if◌then◌else◌}
use Rattle.std.specs.Str.{bytes_eq}
use Rattle.std.specs.Option.{unwrap_or}
use Rattle.std.proofs.lemmas.Bool.{and_parts}
use Rattle.tc_base.specs.declared.hook.Hook.{Hook}
use Rattle.tc_base.specs.declared.hook.Proto.{Proto}
use Rattle.act_kinds.specs.declared.params.Params.{Params}
use Rattle.filter_state.specs.declared.action_line.ActionLine.{ActionLine}
use Rattle.filter_state.specs.declared.edit.Edit.{Edit}
use Rattle.filter_state.specs.declared.edit.Edit.TheVariants as edits
use Rattle.filter_state.specs.declared.edit.FilterLine.{FilterLine}
use Rattle.filter_state.specs.declared.refusal.Done.{Done}
use Rattle.filter_state.specs.declared.refusal.Done.TheVariants as dones
use Rattle.filter_state.specs.declared.refusal.Refusal.TheVariants as refusals
use Rattle.filter_state.specs.States.{Row, State}
use Rattle.filter_state.specs.Actions.{change_where, is_named, is_live, index_or_free, Made, made_more}
use Rattle.filter_state.specs.Sound.{Sound, EachPair, GoTogether}
use Rattle.filter_state.specs.Tables.{in_table, has_handle, filter_row}
use Rattle.filter_state.specs.Refusals.{or_else, no_hook, hook_exists, hook_in_use, protocol_clash_if, no_such_table, no_such_filter, action_exists, no_such_action, action_bound, actions_full, counters_full}
use Rattle.filter_state.specs.Steps.{step, made_of, with_actions, with_params, make_given, change_given, taken_out, replace_or_add, filter_add, filter_replace, filter_del, with_row, without_row, with_new_actions}
use Rattle.state_laws.proofs.Answers.{err_ok}
use Rattle.state_laws.proofs.Tests.{row_in_table, bytes_eq_true}
use Rattle.state_laws.proofs.Fits.{MaskFits}
use Rattle.state_laws.proofs.Old.{is_old, IsOld, old_found}
use Rattle.edit_effects.proofs.OfEffects.Accepted.{not_unless, same_step}
use Rattle.edit_effects.proofs.OfEffects.Adding.{new_row, adds}
use Rattle.edit_effects.proofs.OfEffects.Replacing.{replaces, is_there, moved_row, fit}
use Rattle.state_past_laws.specs.OfChanges.Among.{Has, listed}
use Rattle.state_past_laws.specs.OfChanges.Going.{rows_going, line_in, IsComing, Comes, GoesOn}
use Rattle.state_past_laws.proofs.OfChanges.Among.{has_left, has_right, has_append, each_has, pair_has, has_filter, filter_has, first_has, has_first, has_map, map_has}

-- ---- all stay
pub as_before : (rows : List Row) → GoesOn rows rows [] None
as_before rows = record {
  there = λ row has. absurd has;
  stays = λ row has. inr has;
  back = λ row has. inr (has, λ going. going);
  comes = λ row is. absurd (cc is);
  one_table = λ row gone is has. absurd has;
  same_words = λ row gone is has. absurd has;
  one_mask = λ row gone is has. absurd has;
}

-- ---- one comes
pub one_comes : (rows : List Row) (row : Row) → GoesOn rows (rows ++ (row ∷ [])) [] (Some row)
one_comes rows row = record {
  there = λ x has. absurd has;
  stays = λ x has. inr (has_left x rows (row ∷ []) has);
  back = λ x has. back x (has_append x rows (row ∷ []) has);
  comes = λ x is. let same : row ≡ x = cc is in has_right x rows (row ∷ []) (inl same);
  one_table = λ x gone is has. absurd has;
  same_words = λ x gone is has. absurd has;
  one_mask = λ x gone is has. absurd has;
}
  where
    back : (x : Row) → Has x rows ⊎ Has x (row ∷ []) → (Some row ≡ Some x) ⊎ (Has x rows × (Has x [] → ⊥))
    back x (inl has) = inr (has, λ going. going)
    back x (inr (inl same)) = inl (ap (λ (y : Row). Some y) same)
    back x (inr (inr none)) = absurd none

-- ---- those go that pass a test
module _ (rows going : List Row) (gone : Row → Bool) (all : (x : Row) → gone x ≡ true → Has x rows → Has x going) (each : (x : Row) → Has x going → Has x rows × (gone x ≡ true)) where
  by_gone : (x : Row) (b : Bool) → gone x ≡ b → Has x rows → Has x going ⊎ Has x (filter (λ r. not (gone r)) rows)
  by_gone x true is has = inl (all x is has)
  by_gone x false is has = inr (has_filter (λ r. not (gone r)) rows x (ap not is) has)

  pub kept_not : (x : Row) → Has x (filter (λ r. not (gone r)) rows) → Has x rows × (Has x going → ⊥)
  kept_not x has = let kept = filter_has (λ r. not (gone r)) rows x has in
      (kept.0, λ goes. let own = each x goes in absurd (cc (kept.1, own.1)))

  pub some_go : GoesOn rows (filter (λ r. not (gone r)) rows) going None
  some_go = record {
    there = λ x has. (each x has).0;
    stays = λ x has. by_gone x (gone x) refl has;
    back = λ x has. inr (kept_not x has);
    comes = λ x is. absurd (cc is);
    one_table = λ x g is has. absurd (cc is);
    same_words = λ x g is has. absurd (cc is);
    one_mask = λ x g is has. absurd (cc is);
  }

-- the one with a handle
one_handle : (hook : Hook) (chain pref handle : ℕ) (rows : List Row) → EachPair GoTogether rows → (x y : Row) → (in_table hook chain pref x && has_handle handle x) ≡ true
    → (in_table hook chain pref y && has_handle handle y) ≡ true → Has x rows → Has y rows → x ≡ y
one_handle hook chain pref handle rows together x y one other has own = pick (pair_has GoTogether rows x y together has own)
  where
    not_two : (a b : Row) → (in_table hook chain pref a && has_handle handle a) ≡ true → (in_table hook chain pref b && has_handle handle b) ≡ true → GoTogether a b → ⊥
    not_two a b first second go =
        let p = and_parts (in_table hook chain pref a) (has_handle handle a) first in let q = and_parts (in_table hook chain pref b) (has_handle handle b) second in
        let s = row_in_table hook chain pref a p.0 in let t = row_in_table hook chain pref b q.0 in
        go.handles (go.one_table (s.0 ∙ sym t.0) (s.1 ∙ sym t.1) (s.2 ∙ sym t.2)) (eqb-true a.handle handle p.1 ∙ sym (eqb-true b.handle handle q.1))

    pick : (x ≡ y) ⊎ (GoTogether x y ⊎ GoTogether y x) → x ≡ y
    pick (inl same) = same
    pick (inr (inl go)) = absurd (not_two x y one other go)
    pick (inr (inr go)) = absurd (not_two y x other one go)

pub handle_all : (hook : Hook) (chain pref handle : ℕ) (rows : List Row) → EachPair GoTogether rows → (x : Row) → (in_table hook chain pref x && has_handle handle x) ≡ true → Has x rows
    → Has x (listed (filter_row hook chain pref handle rows))
handle_all hook chain pref handle rows together x passes has =
    let test : Row → Bool = λ row. in_table hook chain pref row && has_handle handle row in
    let f = has_first test rows x passes has in let own = first_has test rows f.0 f.1 in
    subst (λ (o : Option Row). Has x (listed o)) (sym f.1) (inl (one_handle hook chain pref handle rows together f.0 x own.1 passes own.0 has))

handle_each : (hook : Hook) (chain pref handle : ℕ) (rows : List Row) → (x : Row) → Has x (listed (filter_row hook chain pref handle rows)) → Has x rows × ((in_table hook chain pref x && has_handle handle x) ≡ true)
handle_each hook chain pref handle rows x has = pick (filter_row hook chain pref handle rows) refl has
  where
    pick : (o : Option Row) → filter_row hook chain pref handle rows ≡ o → Has x (listed o) → Has x rows × ((in_table hook chain pref x && has_handle handle x) ≡ true)
    pick None is has = absurd has
    pick (Some y) is (inl same) = first_has (λ row. in_table hook chain pref row && has_handle handle row) rows x (is ∙ ap (λ (z : Row). Some z) same)
    pick (Some y) is (inr none) = absurd none

-- ---- one is replaced
abbrev acting : List ℕ → Row → Row
acting serials row = record row { actions = serials }

module _ (rows : List Row) (old : Row) (only : filter (is_old old) rows ≡ old ∷ []) where
  old_passes : Has old rows × (is_old old old ≡ true)
  old_passes = filter_has (is_old old) rows old (subst (λ (rs : List Row). Has old rs) (sym only) (inl refl))

  old_all : (x : Row) → is_old old x ≡ true → Has x rows → Has x (old ∷ [])
  old_all x passes has = subst (λ (rs : List Row). Has x rs) only (has_filter (is_old old) rows x passes has)

  old_each : (x : Row) → Has x (old ∷ []) → Has x rows × (is_old old x ≡ true)
  old_each x (inl same) = subst (λ (y : Row). Has y rows × (is_old old y ≡ true)) same old_passes
  old_each x (inr none) = absurd none

  -- in its place
  module _ (serials : List ℕ) where
    abbrev act : Row → Row
    act row = if is_old old row then acting serials row else row

    acted : (x : Row) (b : Bool) → is_old old x ≡ b → act x ≡ (if b then acting serials x else x)
    acted x b is = ap (λ (c : Bool). if c then acting serials x else x) is

    in_place_stays : (x : Row) (b : Bool) → is_old old x ≡ b → Has x rows → Has x (old ∷ []) ⊎ Has x (change_where (is_old old) (acting serials) rows)
    in_place_stays x true is has = inl (old_all x is has)
    in_place_stays x false is has = inr (subst (λ (y : Row). Has y (change_where (is_old old) (acting serials) rows)) (acted x false is) (has_map act rows x has))

    from_old : (x y : Row) (b : Bool) → is_old old x ≡ b → Has x rows → act x ≡ y → (Some (acting serials old) ≡ Some y) ⊎ (Has y rows × (Has y (old ∷ []) → ⊥))
    from_old x y true is has same = inl (by_one (old_all x is has))
      where
        by_one : Has x (old ∷ []) → Some (acting serials old) ≡ Some y
        by_one (inl own) = ap (λ (z : Row). Some (acting serials z)) own ∙ ap (λ (z : Row). Some z) (sym (acted x true is) ∙ same)
        by_one (inr none) = absurd none
    from_old x y false is has same = let own : x ≡ y = sym (acted x false is) ∙ same in
        inr (subst (λ (z : Row). Has z rows) own has, λ goes. let was = old_each y goes in let not = sym (ap (is_old old) own) ∙ is in absurd (cc (not, was.1)))

    in_place_back : (y : Row) → Has y (change_where (is_old old) (acting serials) rows) → (Some (acting serials old) ≡ Some y) ⊎ (Has y rows × (Has y (old ∷ []) → ⊥))
    in_place_back y has = let m = map_has act rows y has in from_old m.0 y (is_old old m.0) refl m.1 m.2

    pub in_place : GoesOn rows (change_where (is_old old) (acting serials) rows) (old ∷ []) (Some (acting serials old))
    in_place = record {
      there = λ x has. (old_each x has).0;
      stays = λ x has. in_place_stays x (is_old old x) refl has;
      back = in_place_back;
      comes = λ x is. let same : acting serials old ≡ x = cc is in let own = old_passes in
          subst (λ (y : Row). Has y (change_where (is_old old) (acting serials) rows)) (acted old true own.1 ∙ same) (has_map act rows old own.0);
      one_table = λ x g is has. same_as x g is has (λ (r : Row). (r.hook ≡ g.hook) × (r.chain ≡ g.chain) × (r.pref ≡ g.pref)) (λ own. (ap (λ (r : Row). r.hook) own, ap (λ (r : Row). r.chain) own, ap (λ (r : Row). r.pref) own));
      same_words = λ x g is has serial. same_as x g is has (λ (r : Row). r.mask ≡ g.mask) (λ own. ap (λ (r : Row). r.mask) own);
      one_mask = λ x g is has words. same_as x g is has (λ (r : Row). r.mask_serial ≡ g.mask_serial) (λ own. ap (λ (r : Row). r.mask_serial) own);
    }
      where
        same_as : (x g : Row) → Some (acting serials old) ≡ Some x → Has g (old ∷ []) → (P : Row → Type 0) → (old ≡ g → P (acting serials old)) → P x
        same_as x g is (inl own) P so = let same : acting serials old ≡ x = cc is in subst P same (so own)
        same_as x g is (inr none) P so = absurd none

  -- out of its place
  module _ (row : Row) (hook : row.hook ≡ old.hook) (chain : row.chain ≡ old.chain) (pref : row.pref ≡ old.pref) (words : row.mask_serial ≡ old.mask_serial → row.mask ≡ old.mask)
      (mask : row.mask ≡ old.mask → row.mask_serial ≡ old.mask_serial) where
    abbrev left : List Row
    left = without_row old rows

    moved_stays : (x : Row) → Has x (old ∷ []) ⊎ Has x left → Has x (old ∷ []) ⊎ Has x (left ++ (row ∷ []))
    moved_stays x (inl goes) = inl goes
    moved_stays x (inr has) = inr (has_left x left (row ∷ []) has)

    moved_back : (x : Row) → Has x left ⊎ Has x (row ∷ []) → (Some row ≡ Some x) ⊎ (Has x rows × (Has x (old ∷ []) → ⊥))
    moved_back x (inl has) = inr (kept_not rows (old ∷ []) (is_old old) old_all old_each x has)
    moved_back x (inr (inl same)) = inl (ap (λ (y : Row). Some y) same)
    moved_back x (inr (inr none)) = absurd none

    pub moved : GoesOn rows (without_row old rows ++ (row ∷ [])) (old ∷ []) (Some row)
    moved = record {
      there = λ x has. (old_each x has).0;
      stays = λ x has. moved_stays x (by_gone rows (old ∷ []) (is_old old) old_all old_each x (is_old old x) refl has);
      back = λ x has. moved_back x (has_append x left (row ∷ []) has);
      comes = λ x is. let same : row ≡ x = cc is in has_right x left (row ∷ []) (inl same);
      one_table = λ x g is has. as_row x g is has (λ (r o : Row). (r.hook ≡ o.hook) × (r.chain ≡ o.chain) × (r.pref ≡ o.pref)) (hook, chain, pref);
      same_words = λ x g is has. as_row x g is has (λ (r o : Row). r.mask_serial ≡ o.mask_serial → r.mask ≡ o.mask) words;
      one_mask = λ x g is has. as_row x g is has (λ (r o : Row). r.mask ≡ o.mask → r.mask_serial ≡ o.mask_serial) mask;
    }
      where
        as_row : (x g : Row) → Some row ≡ Some x → Has g (old ∷ []) → (P : Row → Row → Type 0) → P row old → P x g
        as_row x g is (inl own) P so = let same : row ≡ x = cc is in subst (λ (y : Row). P y g) same (subst (λ (o : Row). P row o) own so)
        as_row x g is (inr none) P so = absurd none

-- ---- edits
abbrev pub RowsGoOn : State → State → Edit → Done → Type 0
RowsGoOn s t edit done = (come : Option Row) × GoesOn s.rows t.rows (rows_going s edit) come × Comes (line_in edit) done come

add_rows : (s t : State) (line : FilterLine) (done : Done) → filter_add s line ≡ Ok (t, done) → (row : Row) × GoesOn s.rows t.rows [] (Some row) × IsComing line done row
add_rows s t line done stepped =
    let it = adds s t line done stepped in
    let row : Row = new_row s line it.pref it.r.serials in
    let rows : s.rows ++ (row ∷ []) ≡ t.rows = ap (λ (u : State). u.rows) it.after in (
      row,
      subst (λ (rs : List Row). GoesOn s.rows rs [] (Some row)) rows (one_comes s.rows row),
      record { answer = sym it.answer; hook = refl; chain = refl; mask = refl; key = refl },
    )

by_same : (s t : State) (line : FilterLine) (old : Row) (done : Done) → IsOld s line old → MaskFits old.table line.mask.words (moved_row s line old []).mask_serial old → (serials : List ℕ)
    → dones.Filter old.pref old.handle serials ≡ done → (same : Bool) → (bytes_eq old.mask line.mask.words && bytes_eq old.key line.key.words) ≡ same
    → (if same then record s { rows = with_new_actions old serials s.rows } else with_row (record s { rows = without_row old s.rows }) (moved_row s line old serials)).rows ≡ t.rows
    → (row : Row) × GoesOn s.rows t.rows (old ∷ []) (Some row) × IsComing line done row
by_same s t line old done is fits serials answer true same rows =
    let parts = and_parts (bytes_eq old.mask line.mask.words) (bytes_eq old.key line.key.words) same in (
      acting serials old,
      subst (λ (rs : List Row). GoesOn s.rows rs (old ∷ []) (Some (acting serials old))) rows (in_place s.rows old is.only serials),
      record { answer = sym answer; hook = is.hook; chain = is.chain; mask = bytes_eq_true old.mask line.mask.words parts.0; key = bytes_eq_true old.key line.key.words parts.1 },
    )
by_same s t line old done is fits serials answer false same rows =
    let row : Row = moved_row s line old serials in (
      row,
      subst (λ (rs : List Row). GoesOn s.rows rs (old ∷ []) (Some row)) rows
          (moved s.rows old is.only row (sym is.hook) (sym is.chain) refl (λ serial. let own = fits.same (sym serial) in sym own.1) (λ words. sym (fits.one refl (sym words)))),
      record { answer = sym answer; hook = refl; chain = refl; mask = refl; key = refl },
    )

replace_rows : (s t : State) (line : FilterLine) (o : Option Row) (done : Done) → Sound s → is_there s line ≡ o → filter_replace s line ≡ Ok (t, done)
    → (row : Row) × GoesOn s.rows t.rows (listed o) (Some row) × IsComing line done row
replace_rows s t line None done sound is stepped = add_rows s t line done (sym (ap (replace_or_add s line) is) ∙ stepped)
replace_rows s t line (Some old) done sound is stepped =
    let it = replaces s t line old done is stepped in
    let own = old_found s line old sound is in
    let fits = fit s line old sound own it.agrees it.room in
    let mask : MaskFits old.table line.mask.words (moved_row s line old []).mask_serial old = each_has (MaskFits old.table line.mask.words (moved_row s line old []).mask_serial) s.rows old fits.masks (old_passes s.rows old own.only).0 in
    by_same s t line old done own mask it.r.serials it.answer (bytes_eq old.mask line.mask.words && bytes_eq old.key line.key.words) refl (ap (λ (u : State). u.rows) it.after)

some_gone : (s t : State) (gone : Row → Bool) (going : List Row) → taken_out s gone ≡ t → ((x : Row) → gone x ≡ true → Has x s.rows → Has x going) → ((x : Row) → Has x going → Has x s.rows × (gone x ≡ true))
    → GoesOn s.rows t.rows going None
some_gone s t gone going is all each = subst (λ (u : State). GoesOn s.rows u.rows going None) is (some_go s.rows going gone all each)

del_rows : (s t : State) (hook : Hook) (protocol : Option Proto) (chain pref : ℕ) (handle : Option ℕ) (done : Done) → Sound s → filter_del s hook protocol chain pref handle ≡ Ok (t, done)
    → GoesOn s.rows t.rows (rows_going s (edits.FilterDel hook protocol chain pref handle)) None
del_rows s t hook protocol chain pref (Some handle) done sound stepped =
    let gone : Row → Bool = λ row. in_table hook chain pref row && has_handle handle row in
    let accepted = not_unless (or_else (no_hook s) (or_else (protocol_clash_if s hook chain pref protocol) (or_else (no_such_table s hook chain pref) (no_such_filter s hook chain pref handle)))) _ (t, done) stepped in
    some_gone s t gone (listed (filter_row hook chain pref handle s.rows)) (same_step (taken_out s gone) t dones.FilterGone done accepted.1).0
    (handle_all hook chain pref handle s.rows sound.together) (handle_each hook chain pref handle s.rows)
del_rows s t hook protocol chain pref None done sound stepped =
    let accepted = not_unless (or_else (no_hook s) (or_else (protocol_clash_if s hook chain pref protocol) (no_such_table s hook chain pref))) _ (t, done) stepped in
    some_gone s t (in_table hook chain pref) (filter (in_table hook chain pref) s.rows) (same_step (taken_out s (in_table hook chain pref)) t dones.TableGone done accepted.1).0
    (λ x passes has. has_filter (in_table hook chain pref) s.rows x passes has) (λ x has. filter_has (in_table hook chain pref) s.rows x has)

same_rows : (s t : State) → s.rows ≡ t.rows → GoesOn s.rows t.rows [] None
same_rows s t is = subst (λ (rs : List Row). GoesOn s.rows rs [] None) is (as_before s.rows)

action_rows : (s t : State) (line : ActionLine) (o : Option Params) (done : Done) → make_given s line o ≡ Ok (t, done) → s.rows ≡ t.rows
action_rows s t line (Some params) done e =
    let at : ℕ = index_or_free line.index line.kind s.actions in
    let next : Made = made_more (made_of s) params at 0 in
    let first = not_unless (or_else (actions_full next) (counters_full next)) (Ok (with_actions s next, dones.ActionMade at (s.actions_made + 1))) (t, done) e in
    ap (λ (u : State). u.rows) (same_step (with_actions s next) t (dones.ActionMade at (s.actions_made + 1)) done first.1).0
action_rows s t line None done e = absurd (err_ok (refusals.NoSuchAction line.kind (unwrap_or line.index 0)) (t, done) e)

given_rows : (s t : State) (line : ActionLine) (index : ℕ) (o : Option Params) (done : Done) → change_given s line index o ≡ Ok (t, done) → s.rows ≡ t.rows
given_rows s t line index (Some params) done e = ap (λ (u : State). u.rows) (same_step (with_params s line.kind index params) t dones.ActionChanged done e).0
given_rows s t line index None done e = absurd (err_ok (refusals.NoSuchAction line.kind index) (t, done) e)

change_rows : (s t : State) (line : ActionLine) (index : ℕ) (b : Bool) (done : Done) → cond b (change_given s line index line.params) (make_given s line line.params) ≡ Ok (t, done) → s.rows ≡ t.rows
change_rows s t line index true done e = given_rows s t line index line.params done e
change_rows s t line index false done e = action_rows s t line line.params done e

pub rows_go_on : (s t : State) (edit : Edit) (done : Done) → Sound s → step s edit ≡ Ok (t, done) → RowsGoOn s t edit done
rows_go_on s t edits.HookAdd done sound e = let first = not_unless (hook_exists s) (Ok (record s { hooked = true }, dones.Hooked)) (t, done) e in
    let both = same_step (record s { hooked = true }) t dones.Hooked done first.1 in (None, subst (λ (u : State). GoesOn s.rows u.rows [] None) both.0 (as_before s.rows), tt)
rows_go_on s t edits.HookDel done sound e = let first = not_unless (or_else (no_hook s) (hook_in_use s)) (Ok (record s { hooked = false }, dones.Unhooked)) (t, done) e in
    let both = same_step (record s { hooked = false }) t dones.Unhooked done first.1 in (None, subst (λ (u : State). GoesOn s.rows u.rows [] None) both.0 (as_before s.rows), tt)
rows_go_on s t (edits.FilterAdd line) done sound e = let it = add_rows s t line done e in (Some it.0, it.1, it.2)
rows_go_on s t (edits.FilterReplace line) done sound e = let it = replace_rows s t line (is_there s line) done sound refl e in (Some it.0, it.1, it.2)
rows_go_on s t (edits.FilterDel hook protocol chain pref handle) done sound e = (None, del_rows s t hook protocol chain pref handle done sound e, tt)
rows_go_on s t (edits.ActionAdd line) done sound e = (None, same_rows s t (action_rows s t line line.params done (not_unless (action_exists s line.kind line.index) (make_given s line line.params) (t, done) e).1), tt)
rows_go_on s t (edits.ActionChange line) done sound e = (None, same_rows s t (change_rows s t line (unwrap_or line.index 0) (is_live line.kind (unwrap_or line.index 0) s.actions) done e), tt)
rows_go_on s t (edits.ActionDel kind index) done sound e = let left : State = record s { actions = filter (λ action. not (is_named kind index action)) s.actions } in
    let first = not_unless (or_else (no_such_action s kind index) (action_bound s kind index)) (Ok (left, dones.ActionGone)) (t, done) e in
    (None, same_rows s t (ap (λ (u : State). u.rows) (same_step left t dones.ActionGone done first.1).0), tt)
