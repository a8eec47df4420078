-- The tables of a hook in a sound state are kept whole.
use Rattle.std.proofs.Common.{◌≡◌, ◌∙◌, ℕ, ◌==◌, Bool, true, false, List, [], ◌∷◌, refl, sym, subst, eqb-true, eq-eqb}
use Rattle.std.specs.Prelude.{filter}
use Rattle.std.specs.List.{list_any}
use Rattle.std.proofs.lemmas.Bool.{and_parts, or_left, or_right}
use Rattle.tc_base.specs.declared.hook.Hook.{Hook}
use Rattle.tc_base.specs.declared.hook.Hook.TheVariants as hooks
use Rattle.filter_state.specs.States.{Row, State}
use Rattle.filter_state.specs.Tables.{hook_eq, in_hook}
use Rattle.filter_state.specs.Order.{of_mask}
use Rattle.filter_state.specs.Sound.{Sound, Each, GoTogether}
use Rattle.filter_state.proofs.Pairs.{each_weaker, each_of, pairs_all, pairs_weaker}
use Rattle.row_laws.specs.OfOrder.Sorted.{sorted}
use Rattle.row_laws.specs.OfOrder.Rows.{row_before}
use Rattle.row_laws.proofs.OfOrder.Sorting.{sorted_in_order}
use Rattle.row_laws.proofs.OfOrder.Orders.{row_order}
use Rattle.walk_rules.specs.Questions.{Head}
use Rattle.walk_rules.specs.Heads.{heads_on}
use Rattle.walk_rules.proofs.Listed.{kept_have, unkept, any_has, sorted_have, unsorted, each_both, pairs_of_all}
use Rattle.walk_rules.proofs.Deciding.{is_among, IsKept}
use Rattle.walk_rules.proofs.Grouped.{Agree, agree_self, agree_turn, agree_together, is_of, IsHeadOf, AreHeadsOf, grouped}

hook_true : (a b : Hook) → hook_eq a b ≡ true → a ≡ b
hook_true hooks.Ingress hooks.Ingress e = refl
hook_true hooks.Egress hooks.Egress e = refl
hook_true hooks.Ingress hooks.Egress e = absurd (cc e)
hook_true hooks.Egress hooks.Ingress e = absurd (cc e)

true_hook : (a b : Hook) → a ≡ b → hook_eq a b ≡ true
true_hook hooks.Ingress hooks.Ingress e = refl
true_hook hooks.Egress hooks.Egress e = refl
true_hook hooks.Ingress hooks.Egress e = absurd (cc e)
true_hook hooks.Egress hooks.Ingress e = absurd (cc e)

same_tests : (b c : Bool) → (b ≡ true → c ≡ true) → (c ≡ true → b ≡ true) → b ≡ c
same_tests true true there back = refl
same_tests false false there back = refl
same_tests true false there back = sym (there refl)
same_tests false true there back = back refl

-- ---- the rows of a hook, in order
abbrev pub rows_on : Hook → List Row → List Row
rows_on hook rows = sorted row_before (filter (in_hook hook) rows)

pub on_have : (P : Row → Type 0) (hook : Hook) (rows : List Row) → Each P rows → Each (λ row. (row.hook ≡ hook) × P row) (rows_on hook rows)
on_have P hook rows all =
    sorted_have (λ row. (row.hook ≡ hook) × P row) row_before (filter (in_hook hook) rows)
    (kept_have P (λ row. (row.hook ≡ hook) × P row) (in_hook hook) (λ row is has. (hook_true row.hook hook is, has)) rows all)

have_on : (P : Row → Type 0) (hook : Hook) (rows : List Row) → Each P (rows_on hook rows) → Each (λ row. row.hook ≡ hook → P row) rows
have_on P hook rows all =
    each_weaker (λ row. in_hook hook row ≡ true → P row) (λ row. row.hook ≡ hook → P row) (λ row has is. has (true_hook row.hook hook is)) rows
    (unkept P (in_hook hook) rows (unsorted P row_before (filter (in_hook hook) rows) all))

-- ---- from the rows of the hook to all
among_has : (P : ℕ → Type 0) (n : ℕ) (ns : List ℕ) → Each P ns → is_among n ns ≡ true → P n
among_has P n ns all among = let one = any_has P (λ m. n == m) ns all among in subst P (sym (eqb-true n one.0 one.1)) one.2

-- the mask of each row has a row
masks_there : (rows : List Row) → Each (λ row. list_any (of_mask row.mask_serial) rows ≡ true) rows
masks_there [] = tt
masks_there (row ∷ rows) = (
  or_left (row.mask_serial == row.mask_serial) (list_any (of_mask row.mask_serial) rows) (eq-eqb row.mask_serial row.mask_serial refl),
  each_weaker (λ r. list_any (of_mask r.mask_serial) rows ≡ true) (λ r. list_any (of_mask r.mask_serial) (row ∷ rows) ≡ true)
      (λ r some. or_right (of_mask r.mask_serial row) (list_any (of_mask r.mask_serial) rows) some) rows (masks_there rows),
)

module _ (hook : Hook) (rows : List Row) (agrees : Each (λ row. Each (Agree row) rows) rows) (head : Head) (is : IsHeadOf (rows_on hook rows) head) where
  stand_there : (mask : ℕ) → list_any (is_of head.serial mask) (rows_on hook rows) ≡ true → list_any (of_mask mask) rows ≡ true
  stand_there mask some =
      let one = any_has (λ row. (row.hook ≡ hook) × (list_any (of_mask row.mask_serial) rows ≡ true)) (is_of head.serial mask) (rows_on hook rows)
      (on_have (λ row. list_any (of_mask row.mask_serial) rows ≡ true) hook rows (masks_there rows)) some in
      let tests = and_parts (one.0.mask_serial == mask) (one.0.table == head.serial) one.1 in
      subst (λ m. list_any (of_mask m) rows ≡ true) (eqb-true one.0.mask_serial mask tests.0) one.2.1

  -- a row of the table is on the hook, so its mask is one of the table's
  mask_among : (row : Row) → Each (Agree row) rows → (row.hook ≡ hook → row.table ≡ head.serial → is_among row.mask_serial head.masks ≡ true) →
      (row.table == head.serial) ≡ true → is_among row.mask_serial head.masks ≡ true
  mask_among row agree among test =
      let of_table : row.table ≡ head.serial = eqb-true row.table head.serial test in
      let one = any_has (λ r. (r.hook ≡ hook) × Agree row r) (λ r. r.table == head.serial) (rows_on hook rows) (on_have (Agree row) hook rows agree) is.some in
      let same : row.table ≡ one.0.table = of_table ∙ sym (eqb-true one.0.table head.serial one.1) in
      let there = one.2.1 in
      among ((there.place same).0 ∙ one.2.0) of_table

  -- a row with one of the table's masks is of the table
  of_table : (row : Row) → Each (Agree row) rows → is_among row.mask_serial head.masks ≡ true → (row.table == head.serial) ≡ true
  of_table row agree among =
      let some : list_any (is_of head.serial row.mask_serial) (rows_on hook rows) ≡ true =
      among_has (λ mask. list_any (is_of head.serial mask) (rows_on hook rows) ≡ true) row.mask_serial head.masks is.stand among in
      let one = any_has (λ r. (r.hook ≡ hook) × Agree row r) (is_of head.serial row.mask_serial) (rows_on hook rows) (on_have (Agree row) hook rows agree) some in
      let tests = and_parts (one.0.mask_serial == row.mask_serial) (one.0.table == head.serial) one.1 in
      let there = one.2.1 in
      eq-eqb row.table head.serial (there.mask (sym (eqb-true one.0.mask_serial row.mask_serial tests.0)) ∙ eqb-true one.0.table head.serial tests.1)

  kept_one : IsKept rows head
  kept_one = record {
    stand =
        each_weaker (λ mask. list_any (is_of head.serial mask) (rows_on hook rows) ≡ true) (λ mask. list_any (of_mask mask) rows ≡ true) stand_there head.masks is.stand;
    rising = is.rising;
    whole =
        each_weaker (λ row. Each (Agree row) rows × (row.hook ≡ hook → row.table ≡ head.serial → is_among row.mask_serial head.masks ≡ true))
        (λ row. (row.table == head.serial) ≡ is_among row.mask_serial head.masks)
        (λ row both. same_tests (row.table == head.serial) (is_among row.mask_serial head.masks) (mask_among row both.0 both.1) (of_table row both.0)) rows
        (each_both (λ row. Each (Agree row) rows) (λ row. row.hook ≡ hook → row.table ≡ head.serial → is_among row.mask_serial head.masks ≡ true) rows agrees
        (have_on (λ row. row.table ≡ head.serial → is_among row.mask_serial head.masks ≡ true) hook rows is.whole));
  }

-- ---- a sound state
pub rows_agree : (s : State) → Sound s → Each (λ row. Each (Agree row) s.rows) s.rows
rows_agree s sound = pairs_all Agree agree_self agree_turn s.rows (pairs_weaker GoTogether Agree agree_together s.rows sound.together)

pub heads_grouped : (hook : Hook) (s : State) → Sound s → AreHeadsOf (rows_on hook s.rows) (heads_on hook s)
heads_grouped hook s sound =
    let across : Each (λ row. Each (Agree row) (rows_on hook s.rows)) (rows_on hook s.rows) =
    each_weaker (λ row. (row.hook ≡ hook) × Each (Agree row) (rows_on hook s.rows)) (λ row. Each (Agree row) (rows_on hook s.rows)) (λ row both. both.1) (rows_on hook s.rows)
    (on_have (λ row. Each (Agree row) (rows_on hook s.rows)) hook s.rows
    (each_weaker (λ row. Each (Agree row) s.rows) (λ row. Each (Agree row) (rows_on hook s.rows))
    (λ row agree. each_weaker (λ r. (r.hook ≡ hook) × Agree row r) (Agree row) (λ r both. both.1) (rows_on hook s.rows) (on_have (Agree row) hook s.rows agree)) s.rows
    (rows_agree s sound))) in
    let on : Each (λ row. row.hook ≡ hook) (rows_on hook s.rows) =
    each_weaker (λ row. (row.hook ≡ hook) × Unit {0}) (λ row. row.hook ≡ hook) (λ row both. both.0) (rows_on hook s.rows)
    (on_have (λ row. Unit {0}) hook s.rows (each_of (λ row. Unit {0}) (λ row. tt) s.rows)) in
    grouped hook (rows_on hook s.rows) on (pairs_of_all Agree (rows_on hook s.rows) across) (sorted_in_order row_before row_order (filter (in_hook hook) s.rows))

pub heads_kept : (hook : Hook) (s : State) → Sound s → Each (IsKept s.rows) (heads_on hook s)
heads_kept hook s sound =
    let are = heads_grouped hook s sound in
    each_weaker (IsHeadOf (rows_on hook s.rows)) (IsKept s.rows) (λ head is. kept_one hook s.rows (rows_agree s sound) head is) (heads_on hook s) are.each
