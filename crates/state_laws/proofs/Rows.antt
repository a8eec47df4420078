-- The rows of a state, apart from the actions that they name: some taken out, one put at the end, one given
-- other actions.
use Rattle.std.proofs.Common.{◌≡◌, ℕ, ◌<◌, ◌≤◌, ◌==◌, ◌⊎◌, inl, inr, Bool, true, false, cond, if◌then◌else◌, ◌&&◌, List, [], ◌∷◌, ◌++◌, length, map, refl, sym, ◌∙◌, ap, subst, arith, length-append}
use Rattle.std.specs.Prelude.{filter}
use Rattle.std.specs.List.{list_any}
use Rattle.std.proofs.lemmas.Bool.{false≢true}
use Rattle.tc_base.specs.declared.hook.Hook.{Hook}
use Rattle.act_kinds.specs.Ranges.{IsChain}
use Rattle.filter_state.specs.Fields.{AreKeys}
use Rattle.filter_state.specs.Lines.{IsPref, IsIndex, IsProtocol}
use Rattle.filter_state.specs.States.{Row}
use Rattle.filter_state.specs.Actions.{change_where}
use Rattle.filter_state.specs.Tables.{in_hook, in_table, table_count, mask_count}
use Rattle.filter_state.specs.Sound.{Each, EachPair, GoTogether}
use Rattle.filter_state.proofs.Pairs.{each_of, each_weaker, each_append, each_filter, each_map, pairs_push, pairs_filter, pairs_map, any_map, any_same}
use Rattle.state_laws.proofs.Tests.{hook_eq_true, row_in_table}
use Rattle.filter_state.proofs.Free.{length_filter_le}
use Rattle.state_laws.proofs.Free.{length_mapped}
use Rattle.state_laws.proofs.Counts.{numbers, has_number, numbers_within, put_within, put_more, table_count_is, mask_count_is, filter_any}

-- one row, where so many tables and masks were made
pub record IsPlain (tables masks : ℕ) (added : Row) : Type 0 where
  pub chain : IsChain added.chain
  pub pref : IsPref added.pref
  pub protocol : IsProtocol added.protocol
  pub handle : IsIndex added.handle
  pub keys : AreKeys added.key added.mask
  pub table : (1 ≤ added.table) × (added.table ≤ tables)
  pub mask : (1 ≤ added.mask_serial) × (added.mask_serial ≤ masks)
  pub most : length added.actions ≤ 16

pub record AreRows (tables_made masks_made : ℕ) (rows : List Row) : Type 0 where
  pub plain : Each (IsPlain tables_made masks_made) rows
  pub together : EachPair GoTogether rows
  pub tables : (hook : Hook) → table_count hook rows ≤ 256
  pub masks : (hook : Hook) (chain pref : ℕ) → mask_count hook chain pref rows ≤ 16
  pub filters : length rows ≤ 4096

-- each test that passes one of the first passes one of the others
abbrev pub AreSome : List Row → List Row → Type 0
AreSome kept rows = (test : Row → Bool) → list_any test kept ≡ true → list_any test rows ≡ true

fewer_tables : (kept rows : List Row) (hook : Hook) → AreSome kept rows → table_count hook rows ≤ 256 → table_count hook kept ≤ 256
fewer_tables kept rows hook some few =
    let a = table_count_is hook kept in
    let b = table_count_is hook rows in
    let less = numbers_within (λ (r : Row). r.table) (in_hook hook) kept rows (λ n there. some (λ added. in_hook hook added && added.table == n) there) in
    omega arith

fewer_masks : (kept rows : List Row) (hook : Hook) (chain pref : ℕ) → AreSome kept rows → mask_count hook chain pref rows ≤ 16 → mask_count hook chain pref kept ≤ 16
fewer_masks kept rows hook chain pref some few =
    let a = mask_count_is hook chain pref kept in
    let b = mask_count_is hook chain pref rows in
    let less = numbers_within (λ (r : Row). r.mask_serial) (in_table hook chain pref) kept rows (λ n there. some (λ added. in_table hook chain pref added && added.mask_serial == n) there) in
    omega arith

-- ---- some taken out
pub rows_filter : (tables masks : ℕ) (keep : Row → Bool) (rows : List Row) → AreRows tables masks rows → AreRows tables masks (filter keep rows)
rows_filter tables masks keep rows r = record {
  plain = each_filter (IsPlain tables masks) keep rows r.plain;
  together = pairs_filter GoTogether keep rows r.together;
  tables = λ hook. fewer_tables (filter keep rows) rows hook (λ test. filter_any test keep rows) (r.tables hook);
  masks = λ hook chain pref. fewer_masks (filter keep rows) rows hook chain pref (λ test. filter_any test keep rows) (r.masks hook chain pref);
  filters = let less = length_filter_le keep rows in let few = r.filters in omega arith;
}

-- ---- one more, of a number that rows have already or where there is room for another
abbrev pub HasRoom : (Row → ℕ) → (Row → Bool) → List Row → Row → ℕ → Type 0
HasRoom number test rows added most = (has_number number test (number added) rows ≡ true) ⊎ (numbers number test rows < most)

room_taken : (number : Row → ℕ) (test : Row → Bool) (rows kept : List Row) (added : Row) (most : ℕ) → AreSome kept rows → numbers number test rows ≤ most
    → HasRoom number test rows added most → numbers number test (kept ++ added ∷ []) ≤ most
room_taken number test rows kept added most some few (inl there) =
    let less = put_within number test kept rows added (λ n is. some (λ r. test r && number r == n) is) (λ _. there) in omega arith
room_taken number test rows kept added most some few (inr less) =
    let more = put_more number test kept rows added (λ n is. some (λ r. test r && number r == n) is) in omega arith

room_case : (number : Row → ℕ) (test : Row → Bool) (rows kept : List Row) (added : Row) (most : ℕ) → AreSome kept rows → numbers number test rows ≤ most
    → (b : Bool) → test added ≡ b → (b ≡ true → HasRoom number test rows added most) → numbers number test (kept ++ added ∷ []) ≤ most
room_case number test rows kept added most some few false is room =
    let less = put_within number test kept rows added (λ n there. some (λ r. test r && number r == n) there) (λ at. absurd (false≢true (sym is ∙ at))) in
    omega arith
room_case number test rows kept added most some few true is room = room_taken number test rows kept added most some few (room refl)

put_tables : (rows kept : List Row) (added : Row) (hook : Hook) → AreSome kept rows → HasRoom (λ (r : Row). r.table) (in_hook added.hook) rows added 256 → table_count hook rows ≤ 256
    → table_count hook (kept ++ added ∷ []) ≤ 256
put_tables rows kept added hook some room few =
    let a = table_count_is hook (kept ++ added ∷ []) in
    let b = table_count_is hook rows in
    let put = room_case (λ (r : Row). r.table) (in_hook hook) rows kept added 256 some (omega arith) (in_hook hook added) refl
    (λ at. subst (λ h. HasRoom (λ (r : Row). r.table) (in_hook h) rows added 256) (hook_eq_true added.hook hook at) room) in
    omega arith

pub masks_at : (rows : List Row) (added : Row) (hook : Hook) (chain pref : ℕ) → HasRoom (λ (r : Row). r.mask_serial) (in_table added.hook added.chain added.pref) rows added 16
    → (added.hook ≡ hook) × (added.chain ≡ chain) × (added.pref ≡ pref) → HasRoom (λ (r : Row). r.mask_serial) (in_table hook chain pref) rows added 16
masks_at rows added hook chain pref room at =
    subst (λ p. HasRoom (λ (r : Row). r.mask_serial) (in_table hook chain p) rows added 16) at.2
    (subst (λ c. HasRoom (λ (r : Row). r.mask_serial) (in_table hook c added.pref) rows added 16) at.1
    (subst (λ h. HasRoom (λ (r : Row). r.mask_serial) (in_table h added.chain added.pref) rows added 16) at.0 room))

put_masks : (rows kept : List Row) (added : Row) (hook : Hook) (chain pref : ℕ) → AreSome kept rows → HasRoom (λ (r : Row). r.mask_serial) (in_table added.hook added.chain added.pref) rows added 16
    → mask_count hook chain pref rows ≤ 16 → mask_count hook chain pref (kept ++ added ∷ []) ≤ 16
put_masks rows kept added hook chain pref some room few =
    let a = mask_count_is hook chain pref (kept ++ added ∷ []) in
    let b = mask_count_is hook chain pref rows in
    let put = room_case (λ (r : Row). r.mask_serial) (in_table hook chain pref) rows kept added 16 some (omega arith) (in_table hook chain pref added) refl
    (λ at. masks_at rows added hook chain pref room (row_in_table hook chain pref added at)) in
    omega arith

plain_more : (tables masks more_tables more_masks : ℕ) → tables ≤ more_tables → masks ≤ more_masks → (added : Row) → IsPlain tables masks added → IsPlain more_tables more_masks added
plain_more tables masks more_tables more_masks low under added p = let t = p.table in let m = p.mask in record {
  chain = p.chain;
  pref = p.pref;
  protocol = p.protocol;
  handle = p.handle;
  keys = p.keys;
  table = (t.0, omega arith);
  mask = (m.0, omega arith);
  most = p.most;
}

-- the new one, and that it goes with those that are kept
pub record CanPut (tables masks next_tables next_masks : ℕ) (rows kept : List Row) (added : Row) : Type 0 where
  pub more_tables : tables ≤ next_tables
  pub more_masks : masks ≤ next_masks
  pub plain : IsPlain next_tables next_masks added
  pub goes : Each (λ x. GoTogether x added) kept
  pub table_room : HasRoom (λ (r : Row). r.table) (in_hook added.hook) rows added 256
  pub mask_room : HasRoom (λ (r : Row). r.mask_serial) (in_table added.hook added.chain added.pref) rows added 16
  pub filter_room : length kept < 4096

pub rows_put : (tables masks more_tables more_masks : ℕ) (rows kept : List Row) (added : Row) → AreRows tables masks rows → AreRows tables masks kept → AreSome kept rows
    → CanPut tables masks more_tables more_masks rows kept added → AreRows more_tables more_masks (kept ++ added ∷ [])
rows_put tables masks more_tables more_masks rows kept added r k some can = record {
  plain = each_append (IsPlain more_tables more_masks) kept (added ∷ [])
      (each_weaker (IsPlain tables masks) (IsPlain more_tables more_masks) (plain_more tables masks more_tables more_masks can.more_tables can.more_masks) kept k.plain) (can.plain, tt);
  together = pairs_push GoTogether kept added k.together can.goes;
  tables = λ hook. put_tables rows kept added hook some can.table_room (r.tables hook);
  masks = λ hook chain pref. put_masks rows kept added hook chain pref some can.mask_room (r.masks hook chain pref);
  filters = let long = length-append kept (added ∷ []) in let few = can.filter_room in omega arith;
}

-- ---- one with other actions
abbrev pub put_actions : List ℕ → Row → Row
put_actions serials added = record added { actions = serials }

plain_either : (tables masks : ℕ) (serials : List ℕ) → length serials ≤ 16 → (b : Bool) (added : Row) → IsPlain tables masks added → IsPlain tables masks (cond b (put_actions serials added) added)
plain_either tables masks serials few true added p =
    record { chain = p.chain; pref = p.pref; protocol = p.protocol; handle = p.handle; keys = p.keys; table = p.table; mask = p.mask; most = few }
plain_either tables masks serials few false added p = p

together_either : (serials : List ℕ) (b c : Bool) (x y : Row) → GoTogether x y → GoTogether (cond b (put_actions serials x) x) (cond c (put_actions serials y) y)
together_either serials true true x y g =
    record { same_table = g.same_table; one_table = g.one_table; same_mask = g.same_mask; one_mask = g.one_mask; handles = g.handles; matches = g.matches }
together_either serials true false x y g =
    record { same_table = g.same_table; one_table = g.one_table; same_mask = g.same_mask; one_mask = g.one_mask; handles = g.handles; matches = g.matches }
together_either serials false true x y g =
    record { same_table = g.same_table; one_table = g.one_table; same_mask = g.same_mask; one_mask = g.one_mask; handles = g.handles; matches = g.matches }
together_either serials false false x y g = g

-- a count sees no actions
number_either : (number : Row → ℕ) (test : Row → Bool) (n : ℕ) (serials : List ℕ) → ((added : Row) → number (put_actions serials added) ≡ number added) → ((added : Row) → test (put_actions serials added) ≡ test added)
    → (b : Bool) (added : Row) → (test (cond b (put_actions serials added) added) && number (cond b (put_actions serials added) added) == n) ≡ (test added && number added == n)
number_either number test n serials same alike true added = ap (λ b. b && number (put_actions serials added) == n) (alike added) ∙ ap (λ k. test added && k == n) (same added)
number_either number test n serials same alike false added = refl

numbers_changed : (number : Row → ℕ) (test chosen : Row → Bool) (serials : List ℕ) (rows : List Row) → ((added : Row) → number (put_actions serials added) ≡ number added) → ((added : Row) → test (put_actions serials added) ≡ test added)
    → numbers number test (change_where chosen (put_actions serials) rows) ≤ numbers number test rows
numbers_changed number test chosen serials rows same alike =
    let change : Row → Row = λ added. if chosen added then put_actions serials added else added in
    numbers_within number test (map change rows) rows
    (λ n there. sym (any_map (λ added. test added && number added == n) change rows
    ∙ any_same (λ added. test (change added) && number (change added) == n) (λ added. test added && number added == n) rows
    (each_of (λ added. (test (change added) && number (change added) == n) ≡ (test added && number added == n)) (λ added. number_either number test n serials same alike (chosen added) added) rows)) ∙ there)

pub rows_changed : (tables masks : ℕ) (chosen : Row → Bool) (serials : List ℕ) (rows : List Row) → length serials ≤ 16 → AreRows tables masks rows
    → AreRows tables masks (change_where chosen (put_actions serials) rows)
rows_changed tables masks chosen serials rows few r =
    let change : Row → Row = λ added. if chosen added then put_actions serials added else added in record {
      plain = each_map (IsPlain tables masks) change rows
          (each_weaker (IsPlain tables masks) (λ added. IsPlain tables masks (change added)) (λ added p. plain_either tables masks serials few (chosen added) added p) rows r.plain);
      together = pairs_map GoTogether change (λ x y g. together_either serials (chosen x) (chosen y) x y g) rows r.together;
      tables = λ hook.
          let a = table_count_is hook (map change rows) in
          let b = table_count_is hook rows in
          let less = numbers_changed (λ (r : Row). r.table) (in_hook hook) chosen serials rows (λ added. refl) (λ added. refl) in
          let most = r.tables hook in
          omega arith;
      masks = λ hook chain pref.
          let a = mask_count_is hook chain pref (map change rows) in
          let b = mask_count_is hook chain pref rows in
          let less = numbers_changed (λ (r : Row). r.mask_serial) (in_table hook chain pref) chosen serials rows (λ added. refl) (λ added. refl) in
          let most = r.masks hook chain pref in
          omega arith;
      filters = let long = length_mapped change rows in let most = r.filters in omega arith;
    }
