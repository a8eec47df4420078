-- Rows in order, and the tables that they are grouped into: each table has all its rows, with their masks
-- rising.
use Rattle.std.proofs.Common.{◌≡◌, ◌∙◌, ℕ, ◌<◌, ◌≤◌, ◌==◌, ◌&&◌, ◌||◌, nat_lt, Bool, true, false, cond, List, [], ◌∷◌, refl, sym, subst, eqb-true, eq-eqb, arith}
use Rattle.std.specs.List.{list_any}
use Rattle.std.proofs.lemmas.Bool.{eqb-false, and_parts, and_from, or_left, or_right}
use Rattle.std.proofs.lemmas.Bool.Decides.{nat_tests}
use Rattle.tc_base.specs.declared.hook.Hook.{Hook}
use Rattle.tc_base.specs.declared.hook.Hook.TheVariants as hooks
use Rattle.filter_state.specs.States.{Row}
use Rattle.filter_state.specs.Tables.{hook_eq}
use Rattle.filter_state.specs.Sound.{Each, EachPair, GoTogether}
use Rattle.filter_state.proofs.Pairs.{each_weaker}
use Rattle.row_laws.specs.OfOrder.Sorted.{InOrder}
use Rattle.row_laws.specs.OfOrder.Rows.{hook_before, row_before}
use Rattle.row_laws.proofs.OfOrder.Orders.{by_number}
use Rattle.walk_rules.specs.Questions.{Head}
use Rattle.walk_rules.specs.Heads.{head_with, in_front, with_row, heads_in}
use Rattle.walk_rules.proofs.Listed.{any_has, each_both}
use Rattle.walk_rules.proofs.Deciding.{is_among}

-- ---- two rows of a sound state, or one twice
pub record Agree (x y : Row) : Type 0 where
  pub place : x.table ≡ y.table → (x.hook ≡ y.hook) × (x.chain ≡ y.chain) × (x.pref ≡ y.pref)
  pub table : x.hook ≡ y.hook → x.chain ≡ y.chain → x.pref ≡ y.pref → x.table ≡ y.table
  pub mask : x.mask_serial ≡ y.mask_serial → x.table ≡ y.table

pub agree_self : (x : Row) → Agree x x
agree_self x = record { place = λ e. (refl, refl, refl); table = λ hook chain pref. refl; mask = λ e. refl }

pub agree_turn : (x y : Row) → Agree x y → Agree y x
agree_turn x y agree = record {
  place = λ e. let at = agree.place (sym e) in (sym at.0, sym at.1, sym at.2);
  table = λ hook chain pref. sym (agree.table (sym hook) (sym chain) (sym pref));
  mask = λ e. sym (agree.mask (sym e));
}

pub agree_together : (x y : Row) → GoTogether x y → Agree x y
agree_together x y go = record {
  place = λ e. let same = go.same_table e in (same.0, same.1, same.2);
  table = go.one_table;
  mask = λ e. (go.same_mask e).0;
}

-- ---- a row that stands behind another of its hook
record IsBehind (x y : Row) : Type 0 where
  pub chain : x.chain ≤ y.chain
  pub pref : x.chain ≡ y.chain → x.pref ≤ y.pref
  pub mask : x.chain ≡ y.chain → x.pref ≡ y.pref → x.mask_serial ≤ y.mask_serial

next_of_hook : (a b : Hook) (next : Bool) → a ≡ b → (hook_before b a || (hook_eq b a && next)) ≡ false → next ≡ false
next_of_hook hooks.Ingress hooks.Ingress next same e = e
next_of_hook hooks.Egress hooks.Egress next same e = e
next_of_hook hooks.Ingress hooks.Egress next same e = absurd (cc same)
next_of_hook hooks.Egress hooks.Ingress next same e = absurd (cc same)

number_behind : (a b : ℕ) (next : Bool) → by_number b a next ≡ false → (a ≤ b) × (a ≡ b → next ≡ false)
number_behind a b true e = (grind (arith, nat_tests, e), λ same. absurd (grind (arith, nat_tests, e, same)))
number_behind a b false e = (grind (arith, nat_tests, e), λ same. refl)

behind : (x y : Row) → x.hook ≡ y.hook → row_before y x ≡ false → IsBehind x y
behind x y same e =
    let by_mask : Bool = nat_lt y.mask_serial x.mask_serial in
    let by_pref : Bool = by_number y.pref x.pref by_mask in
    let chains = number_behind x.chain y.chain by_pref (next_of_hook x.hook y.hook (by_number y.chain x.chain by_pref) same e) in
    record {
      chain = chains.0;
      pref = λ chain. (number_behind x.pref y.pref by_mask (chains.1 chain)).0;
      mask = λ chain pref. let after : by_mask ≡ false = (number_behind x.pref y.pref by_mask (chains.1 chain)).1 pref in grind (arith, nat_tests, after);
    }

-- ---- a table of some rows
abbrev pub is_of : ℕ → ℕ → Row → Bool
is_of table mask row = row.mask_serial == mask && row.table == table

pub record IsHeadOf (rows : List Row) (head : Head) : Type 0 where
  pub some : list_any (λ row. row.table == head.serial) rows ≡ true
  pub stand : Each (λ mask. list_any (is_of head.serial mask) rows ≡ true) head.masks
  pub rising : EachPair ◌<◌ head.masks
  pub whole : Each (λ row. row.table ≡ head.serial → is_among row.mask_serial head.masks ≡ true) rows

abbrev OtherSerials : Head → Head → Type 0
OtherSerials a b = a.serial ≡ b.serial → ⊥

pub record AreHeadsOf (rows : List Row) (heads : List Head) : Type 0 where
  pub each : Each (IsHeadOf rows) heads
  pub apart : EachPair OtherSerials heads

-- the first table is that of the first row
abbrev AreLedBy : List Row → List Head → Type 0
AreLedBy [] [] = Unit {0}
AreLedBy (row ∷ rows) (head ∷ heads) = head.serial ≡ row.table
AreLedBy rows heads = ⊥

led_at : (b : Bool) (row : Row) (rows : List Row) (masks : List ℕ) (head : Head) (heads : List Head) →
    AreLedBy (row ∷ rows) (cond b (head_with row masks ∷ heads) (head_with row (row.mask_serial ∷ []) ∷ head ∷ heads))
led_at true row rows masks head heads = refl
led_at false row rows masks head heads = refl

led_with : (row : Row) (rows : List Row) (heads : List Head) → AreLedBy (row ∷ rows) (with_row row heads)
led_with row rows [] = refl
led_with row rows (head ∷ heads) = led_at (head.serial == row.table) row rows (in_front row.mask_serial head.masks) head heads

led : (rows : List Row) → AreLedBy rows (heads_in rows)
led [] = tt
led (row ∷ rows) = led_with row rows (heads_in rows)

-- ---- a mask in front of others
in_front_some : (mask first : ℕ) (masks : List ℕ) (b : Bool) → (first == mask) ≡ b → is_among mask (cond b (first ∷ masks) (mask ∷ first ∷ masks)) ≡ true
in_front_some mask first masks true is = or_left (mask == first) (is_among mask masks) (eq-eqb mask first (sym (eqb-true first mask is)))
in_front_some mask first masks false is = or_left (mask == mask) (is_among mask (first ∷ masks)) (eq-eqb mask mask refl)

front_among : (mask : ℕ) (masks : List ℕ) → is_among mask (in_front mask masks) ≡ true
front_among mask [] = or_left (mask == mask) false (eq-eqb mask mask refl)
front_among mask (first ∷ masks) = in_front_some mask first masks (first == mask) refl

in_front_more : (n mask first : ℕ) (masks : List ℕ) (b : Bool) → is_among n (first ∷ masks) ≡ true → is_among n (cond b (first ∷ masks) (mask ∷ first ∷ masks)) ≡ true
in_front_more n mask first masks true among = among
in_front_more n mask first masks false among = or_right (n == mask) (is_among n (first ∷ masks)) among

still_among : (n mask : ℕ) (masks : List ℕ) → is_among n masks ≡ true → is_among n (in_front mask masks) ≡ true
still_among n mask [] among = absurd (cc among)
still_among n mask (first ∷ masks) among = in_front_more n mask first masks (first == mask) among

in_front_have : (P : ℕ → Type 0) (mask first : ℕ) (masks : List ℕ) (b : Bool) → P mask → Each P (first ∷ masks) → Each P (cond b (first ∷ masks) (mask ∷ first ∷ masks))
in_front_have P mask first masks true here all = all
in_front_have P mask first masks false here all = (here, all)

front_have : (P : ℕ → Type 0) (mask : ℕ) (masks : List ℕ) → P mask → Each P masks → Each P (in_front mask masks)
front_have P mask [] here all = (here, tt)
front_have P mask (first ∷ masks) here all = in_front_have P mask first masks (first == mask) here all

in_front_rising : (mask first : ℕ) (masks : List ℕ) (b : Bool) → (first == mask) ≡ b → mask ≤ first → EachPair ◌<◌ (first ∷ masks) → EachPair ◌<◌ (cond b (first ∷ masks) (mask ∷ first ∷ masks))
in_front_rising mask first masks true is least rising = rising
in_front_rising mask first masks false is least rising =
    let less : mask < first = grind (arith, nat_tests, is, least) in
    ((less, each_weaker (λ m. first < m) (λ m. mask < m) (λ m above. omega (arith, less, above)) masks rising.0), rising)

front_rising : (mask : ℕ) (masks : List ℕ) → Each (λ m. mask ≤ m) masks → EachPair ◌<◌ masks → EachPair ◌<◌ (in_front mask masks)
front_rising mask [] least rising = (tt, tt)
front_rising mask (first ∷ masks) least rising = in_front_rising mask first masks (first == mask) refl least.0 rising

-- ---- a row in front of others
module _ (row : Row) (rows : List Row) (agrees : Each (Agree row) rows) (after : Each (IsBehind row) rows) where
  here : list_any (λ r. r.table == row.table) (row ∷ rows) ≡ true
  here = or_left (row.table == row.table) (list_any (λ r. r.table == row.table) rows) (eq-eqb row.table row.table refl)

  stands : list_any (is_of row.table row.mask_serial) (row ∷ rows) ≡ true
  stands =
      or_left (is_of row.table row.mask_serial row) (list_any (is_of row.table row.mask_serial) rows)
      (and_from (row.mask_serial == row.mask_serial) (row.table == row.table) (eq-eqb row.mask_serial row.mask_serial refl) (eq-eqb row.table row.table refl))

  -- a table that isn't the row's stays
  stays : (head : Head) → (row.table ≡ head.serial → ⊥) → IsHeadOf rows head → IsHeadOf (row ∷ rows) head
  stays head other is = record {
    some = or_right (row.table == head.serial) (list_any (λ r. r.table == head.serial) rows) is.some;
    stand =
        each_weaker (λ mask. list_any (is_of head.serial mask) rows ≡ true) (λ mask. list_any (is_of head.serial mask) (row ∷ rows) ≡ true)
        (λ mask some. or_right (is_of head.serial mask row) (list_any (is_of head.serial mask) rows) some) head.masks is.stand;
    rising = is.rising;
    whole = (λ e. absurd (other e), is.whole);
  }

  all_stay : (heads : List Head) → Each (λ head. row.table ≡ head.serial → ⊥) heads → Each (IsHeadOf rows) heads → Each (IsHeadOf (row ∷ rows)) heads
  all_stay [] others all = tt
  all_stay (head ∷ heads) others all = (stays head others.0 all.0, all_stay heads others.1 all.1)

  -- a mask of the row's table is no older than the row's
  least_mask : Each (λ r. row.table ≡ r.table → row.mask_serial ≤ r.mask_serial) rows
  least_mask =
      each_weaker (λ r. Agree row r × IsBehind row r) (λ r. row.table ≡ r.table → row.mask_serial ≤ r.mask_serial)
      (λ r both same. let agree = both.0 in let after = both.1 in let at = agree.place same in after.mask at.1 at.2) rows (each_both (Agree row) (IsBehind row) rows agrees after)

  masks_above : (head : Head) → head.serial ≡ row.table → IsHeadOf rows head → Each (λ mask. row.mask_serial ≤ mask) head.masks
  masks_above head same is =
      each_weaker (λ mask. list_any (is_of head.serial mask) rows ≡ true) (λ mask. row.mask_serial ≤ mask)
      (λ mask some.
      let one = any_has (λ r. row.table ≡ r.table → row.mask_serial ≤ r.mask_serial) (is_of head.serial mask) rows least_mask some in
      let tests = and_parts (one.0.mask_serial == mask) (one.0.table == head.serial) one.1 in
      let of_table : one.0.table ≡ head.serial = eqb-true one.0.table head.serial tests.1 in
      let of_mask : one.0.mask_serial ≡ mask = eqb-true one.0.mask_serial mask tests.0 in
      let least = one.2 (sym (of_table ∙ same)) in
      omega (arith, least, of_mask)) head.masks is.stand

  -- the row goes into its table
  joins : (head : Head) → head.serial ≡ row.table → IsHeadOf rows head → IsHeadOf (row ∷ rows) (head_with row (in_front row.mask_serial head.masks))
  joins head same is = record {
    some = here;
    stand =
        front_have (λ mask. list_any (is_of row.table mask) (row ∷ rows) ≡ true) row.mask_serial head.masks stands
        (each_weaker (λ mask. list_any (is_of head.serial mask) rows ≡ true) (λ mask. list_any (is_of row.table mask) (row ∷ rows) ≡ true)
        (λ mask some. or_right (is_of row.table mask row) (list_any (is_of row.table mask) rows) (subst (λ table. list_any (is_of table mask) rows ≡ true) same some)) head.masks is.stand);
    rising = front_rising row.mask_serial head.masks (masks_above head same is) is.rising;
    whole = (
      λ e. front_among row.mask_serial head.masks,
      each_weaker (λ r. r.table ≡ head.serial → is_among r.mask_serial head.masks ≡ true) (λ r. r.table ≡ row.table → is_among r.mask_serial (in_front row.mask_serial head.masks) ≡ true)
          (λ r among e. still_among r.mask_serial row.mask_serial head.masks (among (e ∙ sym same))) rows is.whole,
    );
  }

  -- the row makes a table, where no other row is of it
  begins : Each (λ r. r.table ≡ row.table → ⊥) rows → IsHeadOf (row ∷ rows) (head_with row (row.mask_serial ∷ []))
  begins others = record {
    some = here;
    stand = (stands, tt);
    rising = (tt, tt);
    whole = (
      λ e. front_among row.mask_serial [],
      each_weaker (λ r. r.table ≡ row.table → ⊥) (λ r. r.table ≡ row.table → is_among r.mask_serial (row.mask_serial ∷ []) ≡ true) (λ r other e. absurd (other e)) rows others,
    );
  }

  others_of : Each (λ r. r.table ≡ row.table → ⊥) rows → (head : Head) → IsHeadOf rows head → row.table ≡ head.serial → ⊥
  others_of others head is same =
      let one = any_has (λ r. r.table ≡ row.table → ⊥) (λ r. r.table == head.serial) rows others is.some in
      one.2 (eqb-true one.0.table head.serial one.1 ∙ sym same)

-- ---- rows of another table than the first of them that follow it
between_rows : (row first later : Row) → Agree row first → Agree row later → row.hook ≡ first.hook → IsBehind row first → IsBehind first later → (first.table ≡ row.table → ⊥) → later.table ≡ row.table → ⊥
between_rows row first later agree agrees hook after more other same =
    let at = agrees.place (sym same) in
    let low = after.chain in
    let high = more.chain in
    let far : row.chain ≡ later.chain = at.1 in
    let chain : row.chain ≡ first.chain = omega (arith, low, high, far) in
    let low_pref = after.pref chain in
    let high_pref = more.pref (sym chain ∙ far) in
    let far_pref : row.pref ≡ later.pref = at.2 in
    let pref : row.pref ≡ first.pref = omega (arith, low_pref, high_pref, far_pref) in
    other (sym (agree.table hook chain pref))

-- ---- rows in order
abbrev AreOn : Hook → List Row → Type 0
AreOn hook rows = Each (λ row. row.hook ≡ hook) rows

all_behind : (hook : Hook) (row : Row) (rows : List Row) → row.hook ≡ hook → AreOn hook rows → Each (λ r. row_before r row ≡ false) rows → Each (IsBehind row) rows
all_behind hook row rows is on order =
    each_weaker (λ r. (r.hook ≡ hook) × (row_before r row ≡ false)) (IsBehind row) (λ r both. behind row r (is ∙ sym both.0) both.1) rows
    (each_both (λ r. r.hook ≡ hook) (λ r. row_before r row ≡ false) rows on order)

other_rows : (hook : Hook) (row : Row) (rows : List Row) → row.hook ≡ hook → AreOn hook rows → Each (Agree row) rows → Each (IsBehind row) rows → InOrder row_before rows →
    (head : Head) (heads : List Head) → AreLedBy rows (head ∷ heads) → (head.serial ≡ row.table → ⊥) → Each (λ r. r.table ≡ row.table → ⊥) rows
other_rows hook row [] is on agrees after order head heads leads other = tt
other_rows hook row (first ∷ rows) is on agrees after order head heads leads other =
    let none : first.table ≡ row.table → ⊥ = λ e. other (leads ∙ e) in (
      none,
      each_weaker (λ r. Agree row r × IsBehind first r) (λ r. r.table ≡ row.table → ⊥)
          (λ r both. between_rows row first r agrees.0 both.0 (is ∙ sym on.0) after.0 both.1 none) rows
          (each_both (Agree row) (IsBehind first) rows agrees.1 (all_behind hook first rows on.0 on.1 order.0)),
    )

module _ (hook : Hook) (row : Row) (rows : List Row) (is : row.hook ≡ hook) (on : AreOn hook rows) (agrees : Each (Agree row) rows) (after : Each (IsBehind row) rows) (order : InOrder row_before rows) where
  one_in_front : (b : Bool) (head : Head) (heads : List Head) → (head.serial == row.table) ≡ b → AreLedBy rows (head ∷ heads) → AreHeadsOf rows (head ∷ heads) →
      AreHeadsOf (row ∷ rows) (cond b (head_with row (in_front row.mask_serial head.masks) ∷ heads) (head_with row (row.mask_serial ∷ []) ∷ head ∷ heads))
  one_in_front true head heads test leads are =
      let same : head.serial ≡ row.table = eqb-true head.serial row.table test in
      let others : Each (λ other. row.table ≡ other.serial → ⊥) heads =
      each_weaker (OtherSerials head) (λ other. row.table ≡ other.serial → ⊥) (λ other differ e. differ (same ∙ e)) heads are.apart.0 in
      record {
        each = (joins row rows agrees after head same are.each.0, all_stay row rows agrees after heads others are.each.1);
        apart = (others, are.apart.1);
      }
  one_in_front false head heads test leads are =
      let other : head.serial ≡ row.table → ⊥ = eqb-false head.serial row.table test in
      let rows_other = other_rows hook row rows is on agrees after order head heads leads other in
      let others : Each (λ h. row.table ≡ h.serial → ⊥) (head ∷ heads) =
      each_weaker (IsHeadOf rows) (λ h. row.table ≡ h.serial → ⊥) (λ h of e. others_of row rows agrees after rows_other h of e) (head ∷ heads) are.each in
      record {
        each = (begins row rows agrees after rows_other, all_stay row rows agrees after (head ∷ heads) others are.each);
        apart = (others, are.apart);
      }

  in_front_of : (heads : List Head) → AreLedBy rows heads → AreHeadsOf rows heads → AreHeadsOf (row ∷ rows) (with_row row heads)
  in_front_of (head ∷ heads) leads are = one_in_front (head.serial == row.table) head heads refl leads are
  in_front_of [] leads are = record { each = (begins row rows agrees after (none rows leads), tt); apart = (tt, tt) }
    where
      none : (rs : List Row) → AreLedBy rs [] → Each (λ r. r.table ≡ row.table → ⊥) rs
      none [] leads = tt
      none (r ∷ rs) leads = absurd leads

pub grouped : (hook : Hook) (rows : List Row) → AreOn hook rows → EachPair Agree rows → InOrder row_before rows → AreHeadsOf rows (heads_in rows)
grouped hook [] on agrees order = record { each = tt; apart = tt }
grouped hook (row ∷ rows) on agrees order =
    in_front_of hook row rows on.0 on.1 agrees.0 (all_behind hook row rows on.0 on.1 order.0) order.1 (heads_in rows) (led rows) (grouped hook rows on.1 agrees.1 order.1)
