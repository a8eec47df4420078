-- In a sound state a mask stands at one place of one table of one hook.
use Rattle.std.proofs.Common.{◌≡◌, ◌∙◌, ℕ, zero, suc, ◌<◌, ◌==◌, true, List, [], ◌∷◌, Some, refl, sym, ap, subst, eqb-true, arith}
use Rattle.std.specs.List.{list_any}
use Rattle.std.proofs.lemmas.Bool.{and_parts}
use Rattle.std.proofs.lemmas.Option.{none-some, same_Some}
use Rattle.tc_base.specs.declared.hook.Hook.{Hook}
use Rattle.filter_state.specs.States.{Row, State}
use Rattle.filter_state.specs.Sound.{Sound, Each, EachPair}
use Rattle.filter_tables.specs.Places.{item_at}
use Rattle.row_laws.proofs.OfLookups.Found.{item_each}
use Rattle.walk_rules.specs.Questions.{Head}
use Rattle.walk_rules.specs.Heads.{heads_on}
use Rattle.walk_rules.proofs.Listed.{any_has}
use Rattle.walk_rules.proofs.Grouped.{Agree, is_of, IsHeadOf}
use Rattle.walk_rules.proofs.KeptHeads.{rows_on, on_have, rows_agree, heads_grouped}
use Rattle.head_laws.specs.Heads.{IsMaskAt}

-- ---- one element at two places
one_place : {X : Type 0} (R : X → X → Type 0) (xs : List X) (i j : ℕ) (x y : X) → EachPair R xs → item_at xs i ≡ Some x → item_at xs j ≡ Some y →
    (R x y → ⊥) → (R y x → ⊥) → i ≡ j
one_place R [] i j x y pairs at there none turned = absurd (none-some x at)
one_place R (z ∷ zs) zero zero x y pairs at there none turned = refl
one_place R (z ∷ zs) zero (suc j) x y pairs at there none turned =
    absurd (none (subst (λ w. R w y) (same_Some z x at) (item_each (R z) zs j y pairs.0 there)))
one_place R (z ∷ zs) (suc i) zero x y pairs at there none turned =
    absurd (turned (subst (λ w. R w x) (same_Some z y there) (item_each (R z) zs i x pairs.0 at)))
one_place R (z ∷ zs) (suc i) (suc j) x y pairs at there none turned = ap suc (one_place R zs i j x y pairs.1 at there none turned)

not_below : (n : ℕ) → n < n → ⊥
not_below n less = absurd (omega arith)

-- ---- a row of the mask
row_of_mask : (P : Row → Type 0) (hook : Hook) (s : State) (head : Head) (place mask : ℕ) → Each P s.rows → IsHeadOf (rows_on hook s.rows) head → item_at head.masks place ≡ Some mask →
    (row : Row) × (row.mask_serial ≡ mask) × (row.table ≡ head.serial) × (row.hook ≡ hook) × P row
row_of_mask P hook s head place mask all is at =
    let some : list_any (is_of head.serial mask) (rows_on hook s.rows) ≡ true =
    item_each (λ m. list_any (is_of head.serial m) (rows_on hook s.rows) ≡ true) head.masks place mask is.stand at in
    let one = any_has (λ row. (row.hook ≡ hook) × P row) (is_of head.serial mask) (rows_on hook s.rows) (on_have P hook s.rows all) some in
    let tests = and_parts (one.0.mask_serial == mask) (one.0.table == head.serial) one.1 in
    (one.0, eqb-true one.0.mask_serial mask tests.0, eqb-true one.0.table head.serial tests.1, one.2.0, one.2.1)

-- ---- two places of the mask
module _ (s : State) (sound : Sound s) (hook other : Hook) (mask : ℕ) where
  one_table : (head there : Head) (k l : ℕ) → IsHeadOf (rows_on hook s.rows) head → IsHeadOf (rows_on other s.rows) there →
      item_at head.masks k ≡ Some mask → item_at there.masks l ≡ Some mask → (hook ≡ other) × (head.serial ≡ there.serial)
  one_table head there k l is also at more =
      let x = row_of_mask (λ row. Each (Agree row) s.rows) hook s head k mask (rows_agree s sound) is at in
      let y = row_of_mask (Agree x.0) other s there l mask x.4 also more in
      let agree : Agree x.0 y.0 = y.4 in
      let table : x.0.table ≡ y.0.table = agree.mask (x.1 ∙ sym y.1) in
      let place = agree.place table in
      (sym x.3 ∙ place.0 ∙ y.3, sym x.2 ∙ table ∙ y.2)

  pub mask_once : (i j k l : ℕ) → IsMaskAt (heads_on hook s) i k mask → IsMaskAt (heads_on other s) j l mask → (hook ≡ other) × (i ≡ j) × (k ≡ l)
  mask_once i j k l first second =
      let here = heads_grouped hook s sound in
      let away = heads_grouped other s sound in
      let head : IsHeadOf (rows_on hook s.rows) first.head = item_each (IsHeadOf (rows_on hook s.rows)) (heads_on hook s) i first.head here.each first.table_there in
      let there : IsHeadOf (rows_on other s.rows) second.head = item_each (IsHeadOf (rows_on other s.rows)) (heads_on other s) j second.head away.each second.table_there in
      let one = one_table first.head second.head k l head there first.mask_there second.mask_there in
      let at : item_at (heads_on hook s) j ≡ Some second.head = subst (λ h. item_at (heads_on h s) j ≡ Some second.head) (sym one.0) second.table_there in
      let place : i ≡ j =
      one_place (λ (a b : Head). a.serial ≡ b.serial → ⊥) (heads_on hook s) i j first.head second.head here.apart first.table_there at
      (λ differ. differ one.1) (λ differ. differ (sym one.1)) in
      let table : first.head ≡ second.head = same_Some first.head second.head (sym first.table_there ∙ ap (item_at (heads_on hook s)) place ∙ at) in
      let mask_at : item_at first.head.masks l ≡ Some mask = subst (λ (h : Head). item_at h.masks l ≡ Some mask) (sym table) second.mask_there in
      (one.0, place, one_place ◌<◌ first.head.masks k l mask mask head.rising first.mask_there mask_at (not_below mask) (not_below mask))
