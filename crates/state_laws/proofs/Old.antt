-- The filter that a line replaces: the one with its table and handle.
use Rattle.std.proofs.Common.{◌≡◌, ℕ, ◌==◌, Bool, true, false, not, cond, ◌&&◌, List, [], ◌∷◌, Option, Some, None, refl, sym, ◌∙◌, subst, arith, eqb-true, eq-eqb}
use Rattle.std.specs.Prelude.{filter}
use Rattle.std.specs.Str.{bytes_eq}
use Rattle.std.specs.Option.{unwrap_or}
use Rattle.std.proofs.lemmas.Bool.{false≢true, and_parts, and_from, not-true, not_from_false, false_from_ne_true}
use Rattle.tc_base.specs.declared.hook.Hook.{Hook}
use Rattle.filter_state.specs.declared.edit.FilterLine.{FilterLine}
use Rattle.filter_state.specs.States.{State, Row}
use Rattle.filter_state.specs.Tables.{in_table, has_mask, has_match, has_handle, first_where, table_row, mask_row, filter_row, table_or_next, mask_or_next}
use Rattle.filter_state.specs.Refusals.{protocol_clash, masks_full}
use Rattle.filter_state.specs.Steps.{row_of, mask_serial_for}
use Rattle.filter_state.specs.Sound.{Sound, Each, GoTogether}
use Rattle.filter_state.proofs.Pairs.{each_weaker, pairs_weaker, found}
use Rattle.state_laws.proofs.Tests.{row_in_table, row_in_table_from, bytes_eq_true}
use Rattle.state_laws.proofs.Fits.{Akin, all_akin, TableFits, MaskFits, WithinTables, WithinMasks, table_fits, mask_fits, mask_of, goes_together}
use Rattle.state_laws.proofs.Rows.{IsPlain}
use Rattle.state_laws.proofs.Places.{NotBoth, only_one, first_same}
use Rattle.state_laws.proofs.Ranges.{IsNext, mask_next}
use Rattle.state_laws.proofs.Room.{MaskRoom, mask_there, room_for_mask}
use Rattle.state_laws.proofs.NewRow.{OtherMatch, match_from}
use Rattle.state_laws.proofs.Whole.{rows_of}

abbrev pub is_old : Row → Row → Bool
is_old old row = row.table == old.table && row.handle == old.handle

pub record IsOld (s : State) (line : FilterLine) (old : Row) : Type 0 where
  pub hook : old.hook ≡ line.hook
  pub chain : old.chain ≡ line.chain
  pub plain : IsPlain s.tables_made s.masks_made old
  pub akin : Each (Akin old) s.rows
  pub first : first_where (is_old old) s.rows ≡ Some old
  pub only : filter (is_old old) s.rows ≡ old ∷ []

-- ---- the test by table and handle finds what the test by hook, chain, pref and handle finds
same_bools : (a b : Bool) → (a ≡ true → b ≡ true) → (b ≡ true → a ≡ true) → a ≡ b
same_bools true b there back = sym (there refl)
same_bools false b there back = sym (false_from_ne_true b (λ is. false≢true (back is)))

same_tests : (hook : Hook) (chain pref handle : ℕ) (old : Row) → (in_table hook chain pref old && has_handle handle old) ≡ true → (x : Row) → Akin old x
    → (in_table hook chain pref x && has_handle handle x) ≡ is_old old x
same_tests hook chain pref handle old is x a =
    let parts = and_parts (in_table hook chain pref old) (has_handle handle old) is in
    let at = row_in_table hook chain pref old parts.0 in
    let numbered = eqb-true old.handle handle parts.1 in
    same_bools (in_table hook chain pref x && has_handle handle x) (is_old old x)
    (λ there.
    let both = and_parts (in_table hook chain pref x) (has_handle handle x) there in
    let here = row_in_table hook chain pref x both.0 in
    and_from (x.table == old.table) (x.handle == old.handle)
    (eq-eqb x.table old.table (sym (a.one_table (at.0 ∙ sym here.0) (at.1 ∙ sym here.1) (at.2 ∙ sym here.2))))
    (eq-eqb x.handle old.handle (eqb-true x.handle handle both.1 ∙ sym numbered)))
    (λ there.
    let both = and_parts (x.table == old.table) (x.handle == old.handle) there in
    let same = a.same_table (sym (eqb-true x.table old.table both.0)) in
    and_from (in_table hook chain pref x) (has_handle handle x)
    (row_in_table_from hook chain pref x (sym same.0 ∙ at.0) (sym same.1 ∙ at.1) (sym same.2 ∙ at.2))
    (eq-eqb x.handle handle (eqb-true x.handle old.handle both.1 ∙ numbered)))

one_at_most : (old x y : Row) → GoTogether x y → NotBoth (is_old old) x y
one_at_most old x y g first second =
    let one = and_parts (x.table == old.table) (x.handle == old.handle) first in
    let two = and_parts (y.table == old.table) (y.handle == old.handle) second in
    g.handles (eqb-true x.table old.table one.0 ∙ sym (eqb-true y.table old.table two.0)) (eqb-true x.handle old.handle one.1 ∙ sym (eqb-true y.handle old.handle two.1))

pub old_found : (s : State) (line : FilterLine) (old : Row) → Sound s → filter_row line.hook line.chain (unwrap_or line.pref 0) (unwrap_or line.handle 0) s.rows ≡ Some old → IsOld s line old
old_found s line old sound e =
    let pref : ℕ = unwrap_or line.pref 0 in
    let handle : ℕ = unwrap_or line.handle 0 in
    let test : Row → Bool = λ row. in_table line.hook line.chain pref row && has_handle handle row in
    let rows = rows_of s sound in
    let akin = found (λ x. Each (Akin x) s.rows) test s.rows old (all_akin s.rows rows.together) e in
    let plain = found (IsPlain s.tables_made s.masks_made) test s.rows old rows.plain e in
    let at = row_in_table line.hook line.chain pref old (and_parts (in_table line.hook line.chain pref old) (has_handle handle old) akin.1).0 in
    let first : first_where (is_old old) s.rows ≡ Some old =
    sym (first_same test (is_old old) s.rows (each_weaker (Akin old) (λ x. test x ≡ is_old old x) (same_tests line.hook line.chain pref handle old akin.1) s.rows akin.0)) ∙ e in record {
      hook = at.0;
      chain = at.1;
      plain = plain.0;
      akin = akin.0;
      first = first;
      only = only_one (is_old old) s.rows old (pairs_weaker GoTogether (NotBoth (is_old old)) (one_at_most old) s.rows rows.together) first;
    }

-- ---- its table
pub old_table : (s : State) (line : FilterLine) (old : Row) → Sound s → IsOld s line old → protocol_clash s line.hook line.chain old.pref line.protocol ≡ None
    → Each (TableFits line.hook line.chain old.pref line.protocol old.table) s.rows
old_table s line old sound is fine =
    let rows = rows_of s sound in
    let low = each_weaker (IsPlain s.tables_made s.masks_made) (WithinTables s.tables_made) (λ x p. let t = p.table in t.1) s.rows rows.plain in
    let o : Option Row = table_row line.hook line.chain old.pref s.rows in
    let fits = table_fits line.hook line.chain old.pref line.protocol s.tables_made s.rows o refl fine low rows.together in
    let mine = found (TableFits line.hook line.chain old.pref line.protocol (table_or_next o s.tables_made)) (is_old old) s.rows old fits is.first in
    subst (λ table. Each (TableFits line.hook line.chain old.pref line.protocol table) s.rows) (sym (mine.0.one is.hook is.chain refl)) fits

-- ---- the mask that it gets
pub record HasMask (s : State) (line : FilterLine) (old : Row) (serial : ℕ) : Type 0 where
  pub fits : Each (MaskFits old.table line.mask.words serial) s.rows
  pub next : IsNext s.masks_made serial
  pub room : MaskRoom line.hook line.chain old.pref s.rows serial

own_mask : (s : State) (line : FilterLine) (old : Row) → IsOld s line old → bytes_eq old.mask line.mask.words ≡ true → HasMask s line old old.mask_serial
own_mask s line old is same = let p = is.plain in let range = p.mask in record {
  fits = each_weaker (Akin old) (MaskFits old.table line.mask.words old.mask_serial) (mask_of old old.table line.mask.words refl (bytes_eq_true old.mask line.mask.words same)) s.rows is.akin;
  next = (range.0, omega arith);
  room = mask_there line.hook line.chain old.pref (is_old old) s.rows old is.first (row_in_table_from line.hook line.chain old.pref old is.hook is.chain refl);
}

other_mask : (s : State) (line : FilterLine) (old : Row) → Sound s → IsOld s line old → Each (TableFits line.hook line.chain old.pref line.protocol old.table) s.rows
    → masks_full s line.hook line.chain old.pref line.mask.words ≡ None → HasMask s line old (mask_or_next (mask_row old.hook old.chain old.pref line.mask.words s.rows) s.masks_made)
other_mask s line old sound is fits full =
    let rows = rows_of s sound in
    let under = each_weaker (IsPlain s.tables_made s.masks_made) (WithinMasks s.masks_made) (λ x p. let m = p.mask in m.1) s.rows rows.plain in
    subst (λ hook. HasMask s line old (mask_or_next (mask_row hook old.chain old.pref line.mask.words s.rows) s.masks_made)) (sym is.hook)
    (subst (λ chain. HasMask s line old (mask_or_next (mask_row line.hook chain old.pref line.mask.words s.rows) s.masks_made)) (sym is.chain)
    (let o : Option Row = mask_row line.hook line.chain old.pref line.mask.words s.rows in record {
      fits = mask_fits line.hook line.chain old.pref line.protocol old.table line.mask.words s.masks_made s.rows o refl fits under rows.together;
      next = mask_next s.tables_made s.masks_made (λ row. in_table line.hook line.chain old.pref row && has_mask line.mask.words row) s.rows o refl rows.plain;
      room = room_for_mask s line.hook line.chain old.pref line.mask.words o refl full;
    }))

mask_case : (s : State) (line : FilterLine) (old : Row) (b : Bool) (serial : ℕ) → (b ≡ true → HasMask s line old old.mask_serial) → HasMask s line old serial → HasMask s line old (cond b old.mask_serial serial)
mask_case s line old true serial own other = own refl
mask_case s line old false serial own other = other

pub old_mask : (s : State) (line : FilterLine) (old : Row) → Sound s → IsOld s line old → Each (TableFits line.hook line.chain old.pref line.protocol old.table) s.rows
    → masks_full s line.hook line.chain old.pref line.mask.words ≡ None → HasMask s line old (mask_serial_for s line old)
old_mask s line old sound is fits full =
    mask_case s line old (bytes_eq old.mask line.mask.words) (mask_or_next (mask_row old.hook old.chain old.pref line.mask.words s.rows) s.masks_made)
    (own_mask s line old is) (other_mask s line old sound is fits full)

-- ---- the others go with the new one
kept_differs : (old x : Row) → not (is_old old x) ≡ true → x.table ≡ old.table → x.handle ≡ old.handle → ⊥
kept_differs old x keep table handle =
    false≢true (sym (not-true (is_old old x) keep) ∙ and_from (x.table == old.table) (x.handle == old.handle) (eq-eqb x.table old.table table) (eq-eqb x.handle old.handle handle))

pub kept_goes : (line : FilterLine) (old : Row) (mask : ℕ) (serials : List ℕ) (x : Row) → TableFits line.hook line.chain old.pref line.protocol old.table x → MaskFits old.table line.mask.words mask x
    → not (is_old old x) ≡ true → OtherMatch line.hook line.chain old.pref (Some old.handle) line.mask.words line.key.words x → GoTogether x (row_of line old.pref old.table mask old.handle serials)
kept_goes line old mask serials x t m keep e =
    goes_together x (row_of line old.pref old.table mask old.handle serials) t m (kept_differs old x keep)
    (λ at same_mask same_key.
    let s = t.same at in
    let apart = not_from_false (x.handle == old.handle) (false_from_ne_true (x.handle == old.handle) (λ same. kept_differs old x keep at (eqb-true x.handle old.handle same))) in
    false≢true (sym e ∙ and_from (in_table line.hook line.chain old.pref x) (has_match line.mask.words line.key.words x && not (x.handle == old.handle)) (row_in_table_from line.hook line.chain old.pref x s.0 s.1 s.2)
    (and_from (has_match line.mask.words line.key.words x) (not (x.handle == old.handle)) (match_from line.mask.words line.key.words x same_mask same_key) apart)))
