-- What stands in slots and under masks when the rows have gone on.
use Rattle.std.proofs.Common.{◌≡◌, ◌∙◌, ◌⊎◌, inl, inr, ℕ, ◌==◌, ◌&&◌, Bool, true, false, List, [], Option, Some, None, refl, sym, ap, subst, eqb-true, eq-eqb}
use Rattle.std.specs.Str.{bytes_eq}
use Rattle.std.proofs.lemmas.Bool.{and_parts, and_from}
use Rattle.filter_state.specs.States.{Row, State}
use Rattle.filter_state.specs.Order.{SameRows, none, keep, exchange, joined, of_mask, SameState}
use Rattle.filter_state.specs.Sound.{Sound, Each, EachPair, GoTogether}
use Rattle.filter_state.specs.Tables.{in_table, has_mask, first_where, mask_row}
use Rattle.state_laws.proofs.OfOrder.Same.{same_sym}
use Rattle.state_laws.proofs.Tests.{row_in_table, row_in_table_from, bytes_eq_true, bytes_eq_from}
use Rattle.state_laws.proofs.Fits.{Akin, all_akin}
use Rattle.edit_effects.specs.OfEffects.Parts.{words_in, words_of}
use Rattle.state_past_laws.specs.Slots.{is_slot, actions_or, slot_in}
use Rattle.state_past_laws.specs.OfChanges.Among.{Has}
use Rattle.state_past_laws.specs.OfChanges.Going.{GoesOn}
use Rattle.state_past_laws.proofs.OfChanges.Among.{each_has, pair_has, first_has, has_first, look_same}

-- ---- two rows of one state
pub akin_has : (rows : List Row) → EachPair GoTogether rows → (x y : Row) → Has x rows → Has y rows → Akin x y
akin_has rows pairs x y one other = each_has (Akin x) rows y (each_has (λ z. Each (Akin z) rows) rows x (all_akin rows pairs) one) other

pub slot_parts : (mask : ℕ) (key : List ℕ) (row : Row) → is_slot mask key row ≡ true → (row.mask_serial ≡ mask) × (row.key ≡ key)
slot_parts mask key row is =
    let parts = and_parts (row.mask_serial == mask) (bytes_eq row.key key) is in (eqb-true row.mask_serial mask parts.0, bytes_eq_true row.key key parts.1)

pub slot_from : (mask : ℕ) (key : List ℕ) (row : Row) → row.mask_serial ≡ mask → row.key ≡ key → is_slot mask key row ≡ true
slot_from mask key row serial same = and_from (row.mask_serial == mask) (bytes_eq row.key key) (eq-eqb row.mask_serial mask serial) (bytes_eq_from row.key key same)

pub one_slot : (mask : ℕ) (key : List ℕ) (rows : List Row) → EachPair GoTogether rows → (x y : Row) → is_slot mask key x ≡ true → is_slot mask key y ≡ true → Has x rows → Has y rows → x ≡ y
one_slot mask key rows pairs x y one other has own = pick (pair_has GoTogether rows x y pairs has own)
  where
    not_two : (a b : Row) → is_slot mask key a ≡ true → is_slot mask key b ≡ true → GoTogether a b → ⊥
    not_two a b first second go =
        let p = slot_parts mask key a first in let q = slot_parts mask key b second in
        let same = go.same_mask (p.0 ∙ sym q.0) in go.matches same.0 same.1 (p.1 ∙ sym q.1)

    pick : (x ≡ y) ⊎ (GoTogether x y ⊎ GoTogether y x) → x ≡ y
    pick (inl same) = same
    pick (inr (inl go)) = absurd (not_two x y one other go)
    pick (inr (inr go)) = absurd (not_two y x other one go)

alike_words : (mask : ℕ) (rows : List Row) → EachPair GoTogether rows → (x y : Row) → of_mask mask x ≡ true → of_mask mask y ≡ true → Has x rows → Has y rows → x.mask ≡ y.mask
alike_words mask rows pairs x y one other has own =
    let akin = akin_has rows pairs x y has own in (akin.same_mask (eqb-true x.mask_serial mask one ∙ sym (eqb-true y.mask_serial mask other))).1

-- the words of a mask that has a row
its_words : (mask : ℕ) (rows : List Row) → EachPair GoTogether rows → (x : Row) → of_mask mask x ≡ true → Has x rows → words_in (first_where (of_mask mask) rows) ≡ x.mask
its_words mask rows pairs x is has =
    let f = has_first (of_mask mask) rows x is has in let own = first_has (of_mask mask) rows f.0 f.1 in
    ap words_in f.1 ∙ alike_words mask rows pairs f.0 x own.1 is own.0 has

not_both : (b : Bool) → b ≡ true → b ≡ false → ⊥
not_both b holds fails = cc (sym holds ∙ fails)

module _ (rows others going : List Row) (come : Option Row) (go : GoesOn rows others going come) (pairs : EachPair GoTogether rows) (after : EachPair GoTogether others) where
  -- ---- slots
  pub slot_comes : (row : Row) → come ≡ Some row → slot_in others row.mask_serial row.key ≡ Some row.actions
  slot_comes row is =
      let self = slot_from row.mask_serial row.key row refl refl in
      let f = has_first (is_slot row.mask_serial row.key) others row self (go.comes row is) in let own = first_has (is_slot row.mask_serial row.key) others f.0 f.1 in
      ap actions_or f.1 ∙ ap (λ (r : Row). Some r.actions) (one_slot row.mask_serial row.key others after f.0 row own.1 self own.0 (go.comes row is))

  pub slot_goes : (g : Row) → Has g going → ((row : Row) → come ≡ Some row → is_slot g.mask_serial g.key row ≡ false) → slot_in others g.mask_serial g.key ≡ None
  slot_goes g goes other = pick (first_where (is_slot g.mask_serial g.key) others) refl
    where
      from : (r : Row) → is_slot g.mask_serial g.key r ≡ true → (come ≡ Some r) ⊎ (Has r rows × (Has r going → ⊥)) → ⊥
      from r passes (inl is) = not_both (is_slot g.mask_serial g.key r) passes (other r is)
      from r passes (inr old) = old.1 (subst (λ (x : Row). Has x going) (one_slot g.mask_serial g.key rows pairs g r (slot_from g.mask_serial g.key g refl refl) passes (go.there g goes) old.0) goes)

      pick : (o : Option Row) → first_where (is_slot g.mask_serial g.key) others ≡ o → actions_or o ≡ None
      pick None is = refl
      pick (Some r) is = let own = first_has (is_slot g.mask_serial g.key) others r is in absurd (from r own.1 (go.back r own.0))

  pub slot_stays : (mask : ℕ) (key : List ℕ) → ((g : Row) → Has g going → is_slot mask key g ≡ false) → ((row : Row) → come ≡ Some row → is_slot mask key row ≡ false) → slot_in others mask key ≡ slot_in rows mask key
  slot_stays mask key not_going not_coming = look_same actions_or (is_slot mask key) rows others (λ x passes has. there x passes (go.stays x has)) (λ y passes has. back y passes (go.back y has))
      (λ x y one other has own. ap (λ (r : Row). Some r.actions) (one_slot mask key rows pairs x y one other has own))
    where
      there : (x : Row) → is_slot mask key x ≡ true → Has x going ⊎ Has x others → Has x others
      there x passes (inl goes) = absurd (not_both (is_slot mask key x) passes (not_going x goes))
      there x passes (inr has) = has

      back : (y : Row) → is_slot mask key y ≡ true → (come ≡ Some y) ⊎ (Has y rows × (Has y going → ⊥)) → Has y rows
      back y passes (inl is) = absurd (not_both (is_slot mask key y) passes (not_coming y is))
      back y passes (inr old) = old.0

  -- ---- masks
  pub words_come : (row : Row) → come ≡ Some row → words_in (first_where (of_mask row.mask_serial) others) ≡ row.mask
  words_come row is = its_words row.mask_serial others after row (eq-eqb row.mask_serial row.mask_serial refl) (go.comes row is)

  abbrev has_words : (g row : Row) → Type 0
  has_words g row = (in_table g.hook g.chain g.pref row && has_mask g.mask row) ≡ true

  words_at : (g r : Row) → r.hook ≡ g.hook → r.chain ≡ g.chain → r.pref ≡ g.pref → r.mask ≡ g.mask → has_words g r
  words_at g r hook chain pref mask = and_from (in_table g.hook g.chain g.pref r) (has_mask g.mask r) (row_in_table_from g.hook g.chain g.pref r hook chain pref) (bytes_eq_from r.mask g.mask mask)

  pub words_go : (g : Row) → Has g going → mask_row g.hook g.chain g.pref g.mask others ≡ None → words_in (first_where (of_mask g.mask_serial) others) ≡ []
  words_go g goes missing = pick (first_where (of_mask g.mask_serial) others) refl
    where
      found : (r : Row) → r.mask_serial ≡ g.mask_serial → (come ≡ Some r) ⊎ (Has r rows × (Has r going → ⊥)) → has_words g r
      found r serial (inl is) = let at = go.one_table r g is goes in words_at g r at.0 at.1 at.2 (go.same_words r g is goes serial)
      found r serial (inr old) = let akin = akin_has rows pairs r g old.0 (go.there g goes) in let same = akin.same_mask serial in let at = akin.same_table same.0 in words_at g r at.0 at.1 at.2 same.1

      pick : (o : Option Row) → first_where (of_mask g.mask_serial) others ≡ o → words_in o ≡ []
      pick None is = refl
      pick (Some r) is =
          let own = first_has (of_mask g.mask_serial) others r is in
          let f = has_first (λ row. in_table g.hook g.chain g.pref row && has_mask g.mask row) others r (found r (eqb-true r.mask_serial g.mask_serial own.1) (go.back r own.0)) own.0 in absurd (cc (missing, f.1))

  pub words_left : (g r : Row) → Has g going → mask_row g.hook g.chain g.pref g.mask others ≡ Some r → words_in (first_where (of_mask g.mask_serial) others) ≡ g.mask
  words_left g r goes is =
      let own = first_has (λ row. in_table g.hook g.chain g.pref row && has_mask g.mask row) others r is in
      let parts = and_parts (in_table g.hook g.chain g.pref r) (has_mask g.mask r) own.1 in
      let at = row_in_table g.hook g.chain g.pref r parts.0 in let mask = bytes_eq_true r.mask g.mask parts.1 in
      its_words g.mask_serial others after r (eq-eqb r.mask_serial g.mask_serial (serial at.0 at.1 at.2 mask (go.back r own.0))) own.0
      ∙ mask
    where
      serial : r.hook ≡ g.hook → r.chain ≡ g.chain → r.pref ≡ g.pref → r.mask ≡ g.mask → (come ≡ Some r) ⊎ (Has r rows × (Has r going → ⊥)) → r.mask_serial ≡ g.mask_serial
      serial hook chain pref mask (inl coming) = go.one_mask r g coming goes mask
      serial hook chain pref mask (inr old) = let akin = akin_has rows pairs r g old.0 (go.there g goes) in akin.one_mask (akin.one_table hook chain pref) mask

  pub words_stay : (mask : ℕ) → ((g : Row) → Has g going → of_mask mask g ≡ false) → ((row : Row) → come ≡ Some row → of_mask mask row ≡ false)
      → words_in (first_where (of_mask mask) others) ≡ words_in (first_where (of_mask mask) rows)
  words_stay mask not_going not_coming = look_same words_in (of_mask mask) rows others (λ x passes has. there x passes (go.stays x has)) (λ y passes has. back y passes (go.back y has))
      (λ x y one other has own. alike_words mask rows pairs x y one other has own)
    where
      there : (x : Row) → of_mask mask x ≡ true → Has x going ⊎ Has x others → Has x others
      there x passes (inl goes) = absurd (not_both (of_mask mask x) passes (not_going x goes))
      there x passes (inr has) = has

      back : (y : Row) → of_mask mask y ≡ true → (come ≡ Some y) ⊎ (Has y rows × (Has y going → ⊥)) → Has y rows
      back y passes (inl is) = absurd (not_both (of_mask mask y) passes (not_coming y is))
      back y passes (inr old) = old.0

  -- ---- the mask of the row that comes, by its words
  pub come_found : (row : Row) → come ≡ Some row → mask_row row.hook row.chain row.pref row.mask others ≡ None → ⊥
  come_found row is missing =
      let f = has_first (λ r. in_table row.hook row.chain row.pref r && has_mask row.mask r) others row (words_at row row refl refl refl refl) (go.comes row is) in cc (missing, f.1)

  pub come_serial : (row r : Row) → come ≡ Some row → mask_row row.hook row.chain row.pref row.mask others ≡ Some r → r.mask_serial ≡ row.mask_serial
  come_serial row r is first =
      let own = first_has (λ x. in_table row.hook row.chain row.pref x && has_mask row.mask x) others r first in
      let parts = and_parts (in_table row.hook row.chain row.pref r) (has_mask row.mask r) own.1 in
      let at = row_in_table row.hook row.chain row.pref r parts.0 in let mask = bytes_eq_true r.mask row.mask parts.1 in
      let akin = akin_has others after r row own.0 (go.comes row is) in akin.one_mask (akin.one_table at.0 at.1 at.2) mask

-- ---- states that differ in the order of rows alone
has_same : {xs ys : List Row} → SameRows xs ys → (x : Row) → Has x xs → Has x ys
has_same none x has = has
has_same (keep same) x (inl is) = inl is
has_same (keep same) x (inr has) = inr (has_same same x has)
has_same (exchange other) x (inl is) = inr (inl is)
has_same (exchange other) x (inr (inl is)) = inl is
has_same (exchange other) x (inr (inr has)) = inr (inr has)
has_same (joined one two) x has = has_same two x (has_same one x has)

pub slot_same : (s t : State) → Sound s → SameState s t → (mask : ℕ) (key : List ℕ) → slot_in t.rows mask key ≡ slot_in s.rows mask key
slot_same s t sound same mask key = look_same actions_or (is_slot mask key) s.rows t.rows (λ x passes has. has_same same.rows x has) (λ y passes has. has_same (same_sym same.rows) y has)
    (λ x y one other has own. ap (λ (r : Row). Some r.actions) (one_slot mask key s.rows sound.together x y one other has own))

pub words_same : (s t : State) → Sound s → SameState s t → (mask : ℕ) → words_of t mask ≡ words_of s mask
words_same s t sound same mask = look_same words_in (of_mask mask) s.rows t.rows (λ x passes has. has_same same.rows x has) (λ y passes has. has_same (same_sym same.rows) y has)
    (λ x y one other has own. alike_words mask s.rows sound.together x y one other has own)
