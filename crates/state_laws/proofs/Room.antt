-- A table or a mask has filters already, or there is room for another.
use Rattle.std.proofs.Common.{◌≡◌, ℕ, ◌<◌, ◌==◌, ◌⊎◌, inl, inr, Bool, true, false, not, cond, ◌&&◌, List, [], ◌∷◌, Option, Some, None, is_some, refl, sym, ◌∙◌, ap, arith, eq-eqb, leb-false}
use Rattle.std.specs.Prelude.{nat_le}
use Rattle.std.specs.List.{list_any}
use Rattle.std.proofs.lemmas.Bool.{false≢true, and_parts, and_from, or_left, or_right}
use Rattle.std.proofs.lemmas.Option.{none-some, same_Some}
use Rattle.tc_base.specs.declared.hook.Hook.{Hook}
use Rattle.filter_state.specs.declared.refusal.Refusal.TheVariants as refusals
use Rattle.filter_state.specs.States.{State, Row}
use Rattle.filter_state.specs.Tables.{in_hook, in_chain, in_table, has_mask, first_where, table_or_next, mask_or_next, table_count, mask_count, table_row, mask_row}
use Rattle.filter_state.specs.Refusals.{tables_full, masks_full}
use Rattle.state_laws.proofs.Answers.{not_refused}
use Rattle.filter_state.proofs.Pairs.{each_of, found, none_passes, any_none}
use Rattle.state_laws.proofs.Counts.{numbers, has_number, table_count_is, mask_count_is}

-- what the first that passes one test passes, one passes
found_step : {X : Type 0} (p : X → Bool) (b : Bool) (x y : X) (xs : List X) (rest : Option X) → p y ≡ true → (rest ≡ Some y → list_any p xs ≡ true) → cond b (Some x) rest ≡ Some y → list_any p (x ∷ xs) ≡ true
found_step p true x y xs rest is more e = or_left (p x) (list_any p xs) (ap p (same_Some x y e) ∙ is)
found_step p false x y xs rest is more e = or_right (p x) (list_any p xs) (more e)

pub found_any : {X : Type 0} (test p : X → Bool) (xs : List X) (y : X) → first_where test xs ≡ Some y → p y ≡ true → list_any p xs ≡ true
found_any test p [] y e is = absurd (none-some y e)
found_any test p (x ∷ xs) y e is = found_step p (test x) x y xs (first_where test xs) is (λ rest. found_any test p xs y rest is) e

pub first_passes : {X : Type 0} (test : X → Bool) (xs : List X) (y : X) → first_where test xs ≡ Some y → test y ≡ true
first_passes test xs y e = (found (λ x. Unit {0}) test xs y (each_of (λ x. Unit {0}) (λ x. tt) xs) e).1

below_limit : (b : Bool) (limit n : ℕ) → b ≡ false → (not b && nat_le limit n) ≡ false → n < limit
below_limit true limit n is e = absurd (false≢true (sym is))
below_limit false limit n is e = leb-false limit n e

-- ---- tables
abbrev pub TableRoom : Hook → List Row → ℕ → Type 0
TableRoom hook rows serial = (has_number (λ (r : Row). r.table) (in_hook hook) serial rows ≡ true) ⊎ (numbers (λ (r : Row). r.table) (in_hook hook) rows < 256)

pub table_there : (hook : Hook) (chain pref : ℕ) (test : Row → Bool) (rows : List Row) (t : Row) → first_where test rows ≡ Some t → in_table hook chain pref t ≡ true → TableRoom hook rows t.table
table_there hook chain pref test rows t is at =
    let parts = and_parts (in_chain hook chain t) (t.pref == pref) at in
    let outer = and_parts (in_hook hook t) (t.chain == chain) parts.0 in
    inl (found_any test (λ row. in_hook hook row && row.table == t.table) rows t is (and_from (in_hook hook t) (t.table == t.table) outer.0 (eq-eqb t.table t.table refl)))

pub room_for_table : (s : State) (hook : Hook) (chain pref : ℕ) (o : Option Row) → table_row hook chain pref s.rows ≡ o → tables_full s hook chain pref ≡ None → TableRoom hook s.rows (table_or_next o s.tables_made)
room_for_table s hook chain pref (Some t) is full = table_there hook chain pref (in_table hook chain pref) s.rows t is (first_passes (in_table hook chain pref) s.rows t is)
room_for_table s hook chain pref None is full =
    let any : Bool = list_any (in_table hook chain pref) s.rows in
    let none = any_none (in_table hook chain pref) s.rows (none_passes (in_table hook chain pref) s.rows is) in
    let same = table_count_is hook s.rows in
    let less = below_limit any 256 (table_count hook s.rows) none (not_refused (not any && nat_le 256 (table_count hook s.rows)) refusals.TablesFull full) in
    inr (omega arith)

-- ---- masks
abbrev pub MaskRoom : Hook → ℕ → ℕ → List Row → ℕ → Type 0
MaskRoom hook chain pref rows serial = (has_number (λ (r : Row). r.mask_serial) (in_table hook chain pref) serial rows ≡ true) ⊎ (numbers (λ (r : Row). r.mask_serial) (in_table hook chain pref) rows < 16)

pub mask_there : (hook : Hook) (chain pref : ℕ) (test : Row → Bool) (rows : List Row) (m : Row) → first_where test rows ≡ Some m → in_table hook chain pref m ≡ true → MaskRoom hook chain pref rows m.mask_serial
mask_there hook chain pref test rows m is at =
    inl (found_any test (λ row. in_table hook chain pref row && row.mask_serial == m.mask_serial) rows m is
    (and_from (in_table hook chain pref m) (m.mask_serial == m.mask_serial) at (eq-eqb m.mask_serial m.mask_serial refl)))

pub room_for_mask : (s : State) (hook : Hook) (chain pref : ℕ) (mask : List ℕ) (o : Option Row) → mask_row hook chain pref mask s.rows ≡ o → masks_full s hook chain pref mask ≡ None
    → MaskRoom hook chain pref s.rows (mask_or_next o s.masks_made)
room_for_mask s hook chain pref mask (Some m) is full =
    let test : Row → Bool = λ row. in_table hook chain pref row && has_mask mask row in
    mask_there hook chain pref test s.rows m is (and_parts (in_table hook chain pref m) (has_mask mask m) (first_passes test s.rows m is)).0
room_for_mask s hook chain pref mask None is full =
    let some : Bool = is_some (mask_row hook chain pref mask s.rows) in
    let same = mask_count_is hook chain pref s.rows in
    let less = below_limit some 16 (mask_count hook chain pref s.rows) (ap (λ (o : Option Row). is_some o) is) (not_refused (not some && nat_le 16 (mask_count hook chain pref s.rows)) refusals.MasksFull full) in
    inr (omega arith)
