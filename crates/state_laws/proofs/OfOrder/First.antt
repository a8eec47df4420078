-- Facts of each row and of each two rows hold in another order too. The first row that passes a test may be
-- another one there, but what is read of it is the same, where two rows that pass have the same of it.
use Rattle.std.proofs.Common.{List, sym, ◌≡◌, ℕ, Bool, true, false, ◌==◌, ◌&&◌, not, cond, Option, Some, refl, ◌∙◌, ap, eqb-true}
use Rattle.filter_state.specs.States.{Row}
use Rattle.filter_state.specs.Sound.{Each, EachPair, GoTogether}
use Rattle.filter_state.specs.Order.{SameRows, none, keep, exchange, joined}
use Rattle.std.specs.Prelude.{is_some}
use Rattle.std.specs.Option.{option_map}
use Rattle.std.specs.Str.{bytes_eq}
use Rattle.std.proofs.lemmas.Bool.{false≢true, and_parts}
use Rattle.std.proofs.lemmas.Slice.Eq.{bytes_eq-Decides}
use Rattle.tc_base.specs.declared.hook.Hook.{Hook}
use Rattle.tc_base.specs.declared.hook.Proto.{Proto}
use Rattle.filter_state.specs.Tables.{hook_eq, protocol_eq, in_chain, in_table, has_mask, has_match, has_handle, first_where, table_or_next, mask_or_next, table_row, mask_row, filter_row}
use Rattle.filter_state.specs.Refusals.{when, clash_with, is_left_out}
use Rattle.tc_base.specs.declared.hook.Hook.TheVariants as hooks
use Rattle.filter_state.specs.declared.refusal.Refusal.TheVariants as refusals

pub each_same : (P : Row → Type 0) {xs ys : List Row} → SameRows xs ys → Each P xs → Each P ys
each_same P none all = tt
each_same P (keep s) all = (all.0, each_same P s all.1)
each_same P (exchange differ) all = (all.1.0, (all.0, all.1.1))
each_same P (joined s t) all = each_same P t (each_same P s all)

-- it doesn't matter which of two rows stands first
together_turn : (x y : Row) → GoTogether x y → GoTogether y x
together_turn x y go = record {
  same_table = λ e. (sym (go.same_table (sym e)).0, sym (go.same_table (sym e)).1, sym (go.same_table (sym e)).2, sym (go.same_table (sym e)).3);
  one_table = λ hook chain pref. sym (go.one_table (sym hook) (sym chain) (sym pref));
  same_mask = λ e. (sym (go.same_mask (sym e)).0, sym (go.same_mask (sym e)).1);
  one_mask = λ table mask. sym (go.one_mask (sym table) (sym mask));
  handles = λ table handle. go.handles (sym table) (sym handle);
  matches = λ table mask key. go.matches (sym table) (sym mask) (sym key);
}

pub pairs_same : {xs ys : List Row} → SameRows xs ys → EachPair GoTogether xs → EachPair GoTogether ys
pairs_same none pairs = tt
pairs_same (keep {x = x} s) pairs = (each_same (GoTogether x) s pairs.0, pairs_same s pairs.1)
pairs_same (exchange {x = x} {y = y} differ) pairs = ((together_turn x y pairs.0.0, pairs.1.0), (pairs.0.1, pairs.1.1))
pairs_same (joined s t) pairs = pairs_same t (pairs_same s pairs)

-- ---- what is read of the first row that passes
-- two rows that pass have the same of what is read
abbrev pub Agree : {V : Type 0} → (Row → Bool) → (Option Row → V) → Type 0
Agree test read = (x y : Row) → GoTogether x y → test x ≡ true → test y ≡ true → read (Some x) ≡ read (Some y)

kept : {V : Type 0} (read : Option Row → V) (b : Bool) (x : Row) (o p : Option Row) → read o ≡ read p → read (cond b (Some x) o) ≡ read (cond b (Some x) p)
kept read true x o p e = refl
kept read false x o p e = e

crossed : {V : Type 0} (read : Option Row → V) (b c : Bool) (x y : Row) (rest : Option Row) → (b ≡ true → c ≡ true → read (Some x) ≡ read (Some y)) →
    read (cond b (Some x) (cond c (Some y) rest)) ≡ read (cond c (Some y) (cond b (Some x) rest))
crossed read true true x y rest agree = agree refl refl
crossed read true false x y rest agree = refl
crossed read false true x y rest agree = refl
crossed read false false x y rest agree = refl

first_same : {V : Type 0} (test : Row → Bool) (read : Option Row → V) → Agree test read → {xs ys : List Row} → SameRows xs ys → EachPair GoTogether xs →
    read (first_where test xs) ≡ read (first_where test ys)
first_same test read agree none pairs = refl
first_same test read agree (keep {x = x} {xs = xs} {ys = ys} s) pairs =
    kept read (test x) x (first_where test xs) (first_where test ys) (first_same test read agree s pairs.1)
first_same test read agree (exchange {x = x} {y = y} {xs = xs} differ) pairs =
    crossed read (test x) (test y) x y (first_where test xs) (agree x y pairs.0.0)
first_same test read agree (joined s t) pairs = first_same test read agree s pairs ∙ first_same test read agree t (pairs_same s pairs)

-- ---- two rows of one hook, chain and pref are of one table
hook_eq_true : (a b : Hook) → hook_eq a b ≡ true → a ≡ b
hook_eq_true hooks.Ingress hooks.Ingress e = refl
hook_eq_true hooks.Egress hooks.Egress e = refl
hook_eq_true a b e = absurd (false≢true e)

in_place : (hook : Hook) (chain pref : ℕ) (row : Row) → in_table hook chain pref row ≡ true → (row.hook ≡ hook) × (row.chain ≡ chain) × (row.pref ≡ pref)
in_place hook chain pref row e =
    let outer = and_parts (in_chain hook chain row) (row.pref == pref) e in
    let inner = and_parts (hook_eq row.hook hook) (row.chain == chain) outer.0 in
    (hook_eq_true row.hook hook inner.0, eqb-true row.chain chain inner.1, eqb-true row.pref pref outer.1)

one_table : (hook : Hook) (chain pref : ℕ) (x y : Row) → GoTogether x y → in_table hook chain pref x ≡ true → in_table hook chain pref y ≡ true → x.table ≡ y.table
one_table hook chain pref x y go here there =
    let a = in_place hook chain pref x here in
    let b = in_place hook chain pref y there in
    go.one_table (a.0 ∙ sym b.0) (a.1 ∙ sym b.1) (a.2 ∙ sym b.2)

same_words : (a b words : List ℕ) → bytes_eq a words ≡ true → bytes_eq b words ≡ true → a ≡ b
same_words a b words e f = (bytes_eq-Decides a words).0 e ∙ sym ((bytes_eq-Decides b words).0 f)

-- ---- a row of a table: its protocol and serial
pub clash_same : (hook : Hook) (chain pref : ℕ) (protocol : Proto) {xs ys : List Row} → SameRows xs ys → EachPair GoTogether xs →
    clash_with protocol (table_row hook chain pref xs) ≡ clash_with protocol (table_row hook chain pref ys)
clash_same hook chain pref protocol =
    first_same (in_table hook chain pref) (clash_with protocol)
    (λ x y go here there. ap (λ said. when (not (protocol_eq said protocol)) (refusals.ProtocolClash said)) (go.same_table (one_table hook chain pref x y go here there)).3)

pub table_same : (hook : Hook) (chain pref made : ℕ) {xs ys : List Row} → SameRows xs ys → EachPair GoTogether xs →
    table_or_next (table_row hook chain pref xs) made ≡ table_or_next (table_row hook chain pref ys) made
table_same hook chain pref made = first_same (in_table hook chain pref) (λ o. table_or_next o made) (one_table hook chain pref)

-- ---- a row of a mask: its serial
one_mask : (hook : Hook) (chain pref : ℕ) (mask : List ℕ) (x y : Row) → GoTogether x y → (in_table hook chain pref x && has_mask mask x) ≡ true → (in_table hook chain pref y && has_mask mask y) ≡ true →
    x.mask_serial ≡ y.mask_serial
one_mask hook chain pref mask x y go here there =
    let a = and_parts (in_table hook chain pref x) (has_mask mask x) here in
    let b = and_parts (in_table hook chain pref y) (has_mask mask y) there in
    go.one_mask (one_table hook chain pref x y go a.0 b.0) (same_words x.mask y.mask mask a.1 b.1)

pub mask_same : (hook : Hook) (chain pref : ℕ) (mask : List ℕ) (made : ℕ) {xs ys : List Row} → SameRows xs ys → EachPair GoTogether xs →
    mask_or_next (mask_row hook chain pref mask xs) made ≡ mask_or_next (mask_row hook chain pref mask ys) made
mask_same hook chain pref mask made =
    first_same (λ row. in_table hook chain pref row && has_mask mask row) (λ o. mask_or_next o made) (one_mask hook chain pref mask)

pub some_mask_same : (hook : Hook) (chain pref : ℕ) (mask : List ℕ) {xs ys : List Row} → SameRows xs ys → EachPair GoTogether xs →
    is_some (mask_row hook chain pref mask xs) ≡ is_some (mask_row hook chain pref mask ys)
some_mask_same hook chain pref mask =
    first_same (λ row. in_table hook chain pref row && has_mask mask row) (λ o. is_some o) (λ x y go here there. refl)

-- ---- the filter of a handle, and the handle of a filter that matches alike: there is one at most
not_two : (hook : Hook) (chain pref handle : ℕ) (x y : Row) → GoTogether x y → (in_table hook chain pref x && has_handle handle x) ≡ true → (in_table hook chain pref y && has_handle handle y) ≡ true → ⊥
not_two hook chain pref handle x y go here there =
    let a = and_parts (in_table hook chain pref x) (has_handle handle x) here in
    let b = and_parts (in_table hook chain pref y) (has_handle handle y) there in
    go.handles (one_table hook chain pref x y go a.0 b.0) (eqb-true x.handle handle a.1 ∙ sym (eqb-true y.handle handle b.1))

pub row_same : (hook : Hook) (chain pref handle : ℕ) {xs ys : List Row} → SameRows xs ys → EachPair GoTogether xs →
    filter_row hook chain pref handle xs ≡ filter_row hook chain pref handle ys
row_same hook chain pref handle =
    first_same (λ row. in_table hook chain pref row && has_handle handle row) (λ o. o)
    (λ x y go here there. absurd (not_two hook chain pref handle x y go here there))

abbrev is_other : Hook → ℕ → ℕ → Option ℕ → List ℕ → List ℕ → Row → Bool
is_other hook chain pref replaced mask key row = in_table hook chain pref row && (has_match mask key row && not (is_left_out replaced row))

not_alike : (hook : Hook) (chain pref : ℕ) (replaced : Option ℕ) (mask key : List ℕ) (x y : Row) → GoTogether x y → is_other hook chain pref replaced mask key x ≡ true →
    is_other hook chain pref replaced mask key y ≡ true → ⊥
not_alike hook chain pref replaced mask key x y go here there =
    let a = and_parts (in_table hook chain pref x) (has_match mask key x && not (is_left_out replaced x)) here in
    let b = and_parts (in_table hook chain pref y) (has_match mask key y && not (is_left_out replaced y)) there in
    let c = and_parts (has_mask mask x) (bytes_eq x.key key) (and_parts (has_match mask key x) (not (is_left_out replaced x)) a.1).0 in
    let d = and_parts (has_mask mask y) (bytes_eq y.key key) (and_parts (has_match mask key y) (not (is_left_out replaced y)) b.1).0 in
    go.matches (one_table hook chain pref x y go a.0 b.0) (same_words x.mask y.mask mask c.0 d.0) (same_words x.key y.key key c.1 d.1)

pub exists_same : (hook : Hook) (chain pref : ℕ) (replaced : Option ℕ) (mask key : List ℕ) {xs ys : List Row} → SameRows xs ys → EachPair GoTogether xs →
    option_map (λ (row : Row). refusals.Exists row.handle) (first_where (is_other hook chain pref replaced mask key) xs)
    ≡ option_map (λ (row : Row). refusals.Exists row.handle) (first_where (is_other hook chain pref replaced mask key) ys)
exists_same hook chain pref replaced mask key =
    first_same (is_other hook chain pref replaced mask key) (λ o. option_map (λ (row : Row). refusals.Exists row.handle) o)
    (λ x y go here there. absurd (not_alike hook chain pref replaced mask key x y go here there))
