-- What the rows have in common with a new one, by the table and the mask that it gets.
use Rattle.std.proofs.Common.{◌≡◌, ℕ, ◌+◌, ◌≤◌, Bool, true, false, not, ◌&&◌, List, Option, Some, None, refl, sym, ◌∙◌, arith}
use Rattle.std.proofs.lemmas.Bool.{false≢true, and_parts, and_from}
use Rattle.tc_base.specs.declared.hook.Hook.{Hook}
use Rattle.tc_base.specs.declared.hook.Proto.{Proto}
use Rattle.filter_state.specs.declared.refusal.Refusal.TheVariants as refusals
use Rattle.filter_state.specs.States.{Row}
use Rattle.filter_state.specs.Tables.{in_table, has_mask, protocol_eq, first_where, table_or_next, mask_or_next}
use Rattle.filter_state.specs.Refusals.{clash_with}
use Rattle.filter_state.specs.Sound.{Each, EachPair, GoTogether}
use Rattle.state_laws.proofs.Answers.{not_refused, not_not}
use Rattle.filter_state.proofs.Pairs.{each_weaker, each_both, pairs_all, pairs_weaker, found, none_passes}
use Rattle.state_laws.proofs.Tests.{row_in_table, row_in_table_from, protocol_eq_true, bytes_eq_true, bytes_eq_from}

-- ---- rows of one table and of one mask, also a row and itself
pub record Akin (x y : Row) : Type 0 where
  pub same_table : x.table ≡ y.table → (x.hook ≡ y.hook) × (x.chain ≡ y.chain) × (x.pref ≡ y.pref) × (x.protocol ≡ y.protocol)
  pub one_table : x.hook ≡ y.hook → x.chain ≡ y.chain → x.pref ≡ y.pref → x.table ≡ y.table
  pub same_mask : x.mask_serial ≡ y.mask_serial → (x.table ≡ y.table) × (x.mask ≡ y.mask)
  pub one_mask : x.table ≡ y.table → x.mask ≡ y.mask → x.mask_serial ≡ y.mask_serial

akin_self : (x : Row) → Akin x x
akin_self x = record {
  same_table = λ e. (refl, refl, refl, refl);
  one_table = λ h c p. refl;
  same_mask = λ e. (refl, refl);
  one_mask = λ t m. refl;
}

akin_turned : (x y : Row) → Akin x y → Akin y x
akin_turned x y a = record {
  same_table = λ e. let s = a.same_table (sym e) in (sym s.0, sym s.1, sym s.2, sym s.3);
  one_table = λ h c p. sym (a.one_table (sym h) (sym c) (sym p));
  same_mask = λ e. let s = a.same_mask (sym e) in (sym s.0, sym s.1);
  one_mask = λ t m. sym (a.one_mask (sym t) (sym m));
}

akin : (x y : Row) → GoTogether x y → Akin x y
akin x y g = record { same_table = g.same_table; one_table = g.one_table; same_mask = g.same_mask; one_mask = g.one_mask }

pub all_akin : (rows : List Row) → EachPair GoTogether rows → Each (λ x. Each (Akin x) rows) rows
all_akin rows pairs = pairs_all Akin akin_self akin_turned rows (pairs_weaker GoTogether Akin akin rows pairs)

-- ---- the table
pub record TableFits (hook : Hook) (chain pref : ℕ) (protocol : Proto) (table : ℕ) (x : Row) : Type 0 where
  pub same : x.table ≡ table → (x.hook ≡ hook) × (x.chain ≡ chain) × (x.pref ≡ pref) × (x.protocol ≡ protocol)
  pub one : x.hook ≡ hook → x.chain ≡ chain → x.pref ≡ pref → x.table ≡ table

abbrev pub WithinTables : ℕ → Row → Type 0
WithinTables made x = x.table ≤ made

abbrev pub WithinMasks : ℕ → Row → Type 0
WithinMasks made x = x.mask_serial ≤ made

table_of : (hook : Hook) (chain pref : ℕ) (protocol : Proto) (t : Row) → in_table hook chain pref t ≡ true → t.protocol ≡ protocol → (x : Row) → Akin t x → TableFits hook chain pref protocol t.table x
table_of hook chain pref protocol t is same x a = let at = row_in_table hook chain pref t is in record {
  same = λ e. let s = a.same_table (sym e) in (sym s.0 ∙ at.0, sym s.1 ∙ at.1, sym s.2 ∙ at.2, sym s.3 ∙ same);
  one = λ h c p. sym (a.one_table (at.0 ∙ sym h) (at.1 ∙ sym c) (at.2 ∙ sym p));
}

new_table : (hook : Hook) (chain pref : ℕ) (protocol : Proto) (made : ℕ) (x : Row) → WithinTables made x → in_table hook chain pref x ≡ false → TableFits hook chain pref protocol (made + 1) x
new_table hook chain pref protocol made x low is = record {
  same = λ e. absurd (omega arith);
  one = λ h c p. absurd (false≢true (sym is ∙ row_in_table_from hook chain pref x h c p));
}

pub table_fits : (hook : Hook) (chain pref : ℕ) (protocol : Proto) (made : ℕ) (rows : List Row) (o : Option Row) → first_where (in_table hook chain pref) rows ≡ o → clash_with protocol o ≡ None
    → Each (WithinTables made) rows → EachPair GoTogether rows → Each (TableFits hook chain pref protocol (table_or_next o made)) rows
table_fits hook chain pref protocol made rows (Some t) is fine low pairs =
    let there = found (λ x. Each (Akin x) rows) (in_table hook chain pref) rows t (all_akin rows pairs) is in
    let same = protocol_eq_true t.protocol protocol (not_not (protocol_eq t.protocol protocol) (not_refused (not (protocol_eq t.protocol protocol)) (refusals.ProtocolClash t.protocol) fine)) in
    each_weaker (Akin t) (TableFits hook chain pref protocol t.table) (table_of hook chain pref protocol t there.1 same) rows there.0
table_fits hook chain pref protocol made rows None is fine low pairs =
    each_both (WithinTables made) (λ x. in_table hook chain pref x ≡ false) (TableFits hook chain pref protocol (made + 1)) (new_table hook chain pref protocol made) rows low
    (none_passes (in_table hook chain pref) rows is)

-- ---- the mask
pub record MaskFits (table : ℕ) (mask : List ℕ) (serial : ℕ) (x : Row) : Type 0 where
  pub same : x.mask_serial ≡ serial → (x.table ≡ table) × (x.mask ≡ mask)
  pub one : x.table ≡ table → x.mask ≡ mask → x.mask_serial ≡ serial

pub mask_of : (m : Row) (table : ℕ) (mask : List ℕ) → m.table ≡ table → m.mask ≡ mask → (x : Row) → Akin m x → MaskFits table mask m.mask_serial x
mask_of m table mask at same x a = record {
  same = λ e. let s = a.same_mask (sym e) in (sym s.0 ∙ at, sym s.1 ∙ same);
  one = λ t w. sym (a.one_mask (at ∙ sym t) (same ∙ sym w));
}

new_mask : (hook : Hook) (chain pref : ℕ) (protocol : Proto) (table : ℕ) (mask : List ℕ) (made : ℕ) (x : Row) → WithinMasks made x → TableFits hook chain pref protocol table x
    → (in_table hook chain pref x && has_mask mask x) ≡ false → MaskFits table mask (made + 1) x
new_mask hook chain pref protocol table mask made x low fits is = record {
  same = λ e. absurd (omega arith);
  one = λ t w. let s = fits.same t in
      absurd (false≢true (sym is ∙ and_from (in_table hook chain pref x) (has_mask mask x) (row_in_table_from hook chain pref x s.0 s.1 s.2) (bytes_eq_from x.mask mask w)));
}

pub mask_fits : (hook : Hook) (chain pref : ℕ) (protocol : Proto) (table : ℕ) (mask : List ℕ) (made : ℕ) (rows : List Row) (o : Option Row)
    → first_where (λ row. in_table hook chain pref row && has_mask mask row) rows ≡ o → Each (TableFits hook chain pref protocol table) rows → Each (WithinMasks made) rows → EachPair GoTogether rows
    → Each (MaskFits table mask (mask_or_next o made)) rows
mask_fits hook chain pref protocol table mask made rows (Some m) is fits low pairs =
    let test : Row → Bool = λ row. in_table hook chain pref row && has_mask mask row in
    let there = found (λ x. Each (Akin x) rows) test rows m (all_akin rows pairs) is in
    let mine = found (TableFits hook chain pref protocol table) test rows m fits is in
    let parts = and_parts (in_table hook chain pref m) (has_mask mask m) there.1 in
    let at = row_in_table hook chain pref m parts.0 in
    each_weaker (Akin m) (MaskFits table mask m.mask_serial) (mask_of m table mask (mine.0.one at.0 at.1 at.2) (bytes_eq_true m.mask mask parts.1)) rows there.0
mask_fits hook chain pref protocol table mask made rows None is fits low pairs =
    let test : Row → Bool = λ row. in_table hook chain pref row && has_mask mask row in
    each_both (λ x. WithinMasks made x × TableFits hook chain pref protocol table x) (λ x. test x ≡ false) (MaskFits table mask (made + 1))
    (λ x both no. new_mask hook chain pref protocol table mask made x both.0 both.1 no) rows
    (each_both (WithinMasks made) (TableFits hook chain pref protocol table) (λ x. WithinMasks made x × TableFits hook chain pref protocol table x) (λ x l f. (l, f)) rows low fits)
    (none_passes test rows is)

-- ---- a row and a new one
pub goes_together : (x new : Row) → TableFits new.hook new.chain new.pref new.protocol new.table x → MaskFits new.table new.mask new.mask_serial x
    → (x.table ≡ new.table → x.handle ≡ new.handle → ⊥) → (x.table ≡ new.table → x.mask ≡ new.mask → x.key ≡ new.key → ⊥) → GoTogether x new
goes_together x new t m handles matches = record {
  same_table = t.same;
  one_table = t.one;
  same_mask = m.same;
  one_mask = m.one;
  handles = handles;
  matches = matches;
}
