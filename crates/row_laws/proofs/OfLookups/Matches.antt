-- The filter that has a mask and a key: the masks of a table differ in words, so that it stands in one mask.
use Rattle.std.proofs.Common.{◌≡◌, ℕ, Bool, true, false, not, cond, ◌==◌, ◌&&◌, ◌<◌, List, [], ◌∷◌, map, Option, Some, None, option_map, is_some, refl, sym, ◌∙◌, ap, subst, arith}
use Rattle.std.specs.Prelude.{filter, find}
use Rattle.std.specs.List.{list_any, flat_map}
use Rattle.std.specs.Str.{bytes_eq}
use Rattle.std.proofs.lemmas.Bool.{and_from}
use Rattle.std.proofs.lemmas.List.{append-nil}
use Rattle.std.proofs.lemmas.Option.{none-some, same_Some}
use Rattle.tc_base.specs.declared.hook.Hook.{Hook}
use Rattle.filter_state.specs.States.{Row}
use Rattle.filter_state.specs.Sound.{Each, EachPair, GoTogether}
use Rattle.filter_state.specs.Tables.{in_table, has_mask, has_match, first_where}
use Rattle.filter_state.specs.Refusals.{is_left_out}
use Rattle.filter_index.specs.declared.filter.Filter.{Filter}
use Rattle.filter_index.specs.Listed as listed
use Rattle.filter_tables.specs.Plain.{PlainMask, PlainTable}
use Rattle.filter_tables.specs.Places.{item_at, place_where}
use Rattle.filter_tables.specs.Changes.{has_words, is_table}
use Rattle.filter_tables.specs.Whole.{IsFull}
use Rattle.filter_tables.specs.Rows.{BothHooks, BothWhole, tables_on, row_of, rows_of_mask, rows_of_table, all_rows}
use Rattle.row_laws.specs.OfLookups.Asked.{unless_left_out}
use Rattle.filter_state.proofs.Pairs.{each_passing}
use Rattle.row_laws.proofs.OfLookups.Heads.{head_of, first_and, filter_and, find_head, none_kept}
use Rattle.row_laws.proofs.OfLookups.Blocks.{each_map}
use Rattle.row_laws.proofs.OfLookups.Pairs.{pairs_both, pairs_blocks}
use Rattle.row_laws.proofs.OfLookups.Among.{NotBoth, among_at, among_found, one_kept}
use Rattle.row_laws.proofs.OfLookups.Placed.{place_head, place_any}
use Rattle.row_laws.proofs.OfLookups.Found.{rows_found, rows_missing}
use Rattle.row_laws.proofs.OfLookups.Tables.{full_at}
use Rattle.row_laws.proofs.OfLookups.Masks.{words_kept, some_filters}
use Rattle.row_laws.proofs.OfLookups.Together.{bytes_eq_true, table_together, matches_apart}
use Rattle.row_laws.proofs.OfLookups.Handles.{row_among}

-- a row has the mask and the key, and isn't the one to be left out
abbrev pub is_match : Option ℕ → List ℕ → List ℕ → Row → Bool
is_match left words key row = has_match words key row && not (is_left_out left row)

-- the first such row, among those of the table that have the mask and the key
abbrev first_kept : Option ℕ → List Row → Option ℕ
first_kept left rows = option_map (λ (row : Row). row.handle) (first_where (λ row. not (is_left_out left row)) rows)

-- ---- the masks of a table differ in words
abbrev IsOf : PlainTable → PlainMask → Row → Type 0
IsOf t m row = (row.mask ≡ m.mask) × (row.mask_serial ≡ m.serial) × (row.table ≡ t.serial)

abbrev OneSerial : PlainMask → PlainMask → Type 0
OneSerial m n = m.mask ≡ n.mask → m.serial ≡ n.serial

one_serial : (t : PlainTable) (m n : PlainMask) (x y : Row) → IsOf t m x → IsOf t n y → GoTogether x y → OneSerial m n
one_serial t m n x y of too together same = sym of.1 ∙ together.one_mask (of.2 ∙ sym too.2) (of.0 ∙ same ∙ sym too.0) ∙ too.1

not_less : (m n : ℕ) → m < n → m ≡ n → ⊥
not_less m n less same = omega arith

other_words : (words : List ℕ) (m n : PlainMask) → OneSerial m n → m.serial < n.serial → NotBoth (has_words words) m n
other_words words m n one less here there = not_less m.serial n.serial less (one (bytes_eq_true m.mask words here ∙ sym (bytes_eq_true n.mask words there)))

pub words_apart : (words : List ℕ) (hook : Hook) (t : PlainTable) → IsFull t → EachPair GoTogether (rows_of_table hook t) → EachPair (NotBoth (has_words words)) t.masks
words_apart words hook t full together =
    pairs_both OneSerial (λ (m n : PlainMask). m.serial < n.serial) (NotBoth (has_words words)) (other_words words) t.masks
    (pairs_blocks GoTogether (IsOf t) OneSerial (rows_of_mask hook t)
    (λ m. each_map (row_of hook t m) (IsOf t m) (λ f. (refl, refl, refl)) m.filters) (one_serial t) t.masks (some_filters hook t t.masks full.each) together)
    full.rising

-- ---- the words that the mask at the first place has
head_each : {X : Type 0} (P : X → Type 0) (xs : List X) (x : X) → Each P xs → head_of xs ≡ Some x → P x
head_each P [] x all e = absurd (none-some x e)
head_each P (y ∷ ys) x all e = subst P (same_Some y x e) all.0

words_at : (words : List ℕ) (masks : List PlainMask) (at : ℕ) (m : PlainMask) → place_where (has_words words) masks ≡ Some at → item_at masks at ≡ Some m → has_words words m ≡ true
words_at words masks at m placed there =
    head_each (λ (n : PlainMask). has_words words n ≡ true) (filter (has_words words) masks) m (each_passing (has_words words) masks) (place_head (has_words words) masks at m placed there)

-- ---- a mask without a filter of that key
none_from_head : {X : Type 0} (xs : List X) → head_of xs ≡ None → xs ≡ []
none_from_head [] e = refl
none_from_head (x ∷ xs) e = absurd (none-some x (sym e))

keys_step : (b : Bool) (hook : Hook) (t : PlainTable) (m : PlainMask) (f : Filter) (fs : List Filter) (rows : List Row) → rows ≡ map (row_of hook t m) fs →
    cond b (row_of hook t m f ∷ rows) rows ≡ map (row_of hook t m) (cond b (f ∷ fs) fs)
keys_step true hook t m f fs rows e = ap (λ rs. row_of hook t m f ∷ rs) e
keys_step false hook t m f fs rows e = e

keys_kept : (hook : Hook) (t : PlainTable) (m : PlainMask) (key : List ℕ) (fs : List Filter) →
    filter (λ (r : Row). bytes_eq r.key key) (map (row_of hook t m) fs) ≡ map (row_of hook t m) (filter (listed.has_key key) fs)
keys_kept hook t m key [] = refl
keys_kept hook t m key (f ∷ fs) =
    keys_step (listed.has_key key f) hook t m f (filter (listed.has_key key) fs) (filter (λ (r : Row). bytes_eq r.key key) (map (row_of hook t m) fs)) (keys_kept hook t m key fs)

no_key : (hook : Hook) (t : PlainTable) (m : PlainMask) (words key : List ℕ) → filter (has_words words) t.masks ≡ m ∷ [] → find (listed.has_key key) m.filters ≡ None →
    filter (has_match words key) (rows_of_table hook t) ≡ []
no_key hook t m words key one none =
    filter_and (has_mask words) (λ (r : Row). bytes_eq r.key key) (rows_of_table hook t)
    ∙ ap (filter (λ (r : Row). bytes_eq r.key key)) (words_kept hook t words ∙ ap (flat_map (rows_of_mask hook t)) one ∙ append-nil (rows_of_mask hook t m))
    ∙ keys_kept hook t m key m.filters
    ∙ ap (map (row_of hook t m)) (none_from_head (filter (listed.has_key key) m.filters) (sym (find_head (listed.has_key key) m.filters) ∙ none))

-- ---- the one row, where it isn't left out
left_step : (b : Bool) (row : Row) → option_map (λ (r : Row). r.handle) (cond (not b) (Some row) None) ≡ cond b None (Some row.handle)
left_step true row = refl
left_step false row = refl

one_left : (left : Option ℕ) (hook : Hook) (t : PlainTable) (m : PlainMask) (f : Filter) → first_kept left (row_of hook t m f ∷ []) ≡ unless_left_out left (Some f)
one_left None hook t m f = refl
one_left (Some handle) hook t m f = left_step (f.handle == handle) (row_of hook t m f)

unless_none : (left : Option ℕ) → None ≡ unless_left_out left None
unless_none None = refl
unless_none (Some handle) = refl

-- a table whose rows go together, with the mask at the first place that has the words
match_in : (hook : Hook) (t : PlainTable) (m : PlainMask) (at : ℕ) (left : Option ℕ) (words key : List ℕ) (found : Option Filter) → IsFull t → EachPair GoTogether (rows_of_table hook t) →
    item_at t.masks at ≡ Some m → has_words words m ≡ true → find (listed.has_key key) m.filters ≡ found →
    first_kept left (filter (has_match words key) (rows_of_table hook t)) ≡ unless_left_out left found
match_in hook t m at left words key None full together there has none =
    ap (first_kept left) (no_key hook t m words key (one_kept (has_words words) m t.masks (among_at t.masks at m there) has (words_apart words hook t full together)) none)
    ∙ unless_none left
match_in hook t m at left words key (Some f) full together there has found =
    let of = among_found (listed.has_key key) m.filters f found in
    ap (first_kept left) (one_kept (has_match words key) (row_of hook t m f) (rows_of_table hook t) (row_among hook t m f at there of.0)
    (and_from (has_words words m) (listed.has_key key f) has of.1) (matches_apart words key hook t together))
    ∙ one_left left hook t m f

-- ---- asked of all rows
match_is : (hook : Hook) (chain pref : ℕ) (left : Option ℕ) (words key : List ℕ) (rows mine : List Row) → filter (in_table hook chain pref) rows ≡ mine →
    first_where (λ row. in_table hook chain pref row && is_match left words key row) rows ≡ first_where (λ row. not (is_left_out left row)) (filter (has_match words key) mine)
match_is hook chain pref left words key rows mine kept =
    first_and (in_table hook chain pref) (is_match left words key) rows
    ∙ ap (first_where (is_match left words key)) kept
    ∙ first_and (has_match words key) (λ row. not (is_left_out left row)) mine

pub match_found : (both : BothHooks) (hook : Hook) (place at : ℕ) (left : Option ℕ) (words key : List ℕ) (t : PlainTable) (m : PlainMask) →
    BothWhole both → EachPair GoTogether (all_rows both) → item_at (tables_on hook both) place ≡ Some t →
    place_where (has_words words) t.masks ≡ Some at → item_at t.masks at ≡ Some m →
    option_map (λ (row : Row). row.handle) (first_where (λ row. in_table hook t.chain t.pref row && is_match left words key row) (all_rows both))
    ≡ unless_left_out left (find (listed.has_key key) m.filters)
match_found both hook place at left words key t m whole together here placed there =
    ap (option_map (λ (row : Row). row.handle)) (match_is hook t.chain t.pref left words key (all_rows both) (rows_of_table hook t) (rows_found both hook place t whole here))
    ∙ match_in hook t m at left words key (find (listed.has_key key) m.filters) (full_at both hook place t whole here) (table_together both hook place t whole together here)
    there (words_at words t.masks at m placed there) refl

no_words : (hook : Hook) (t : PlainTable) (words key : List ℕ) → place_where (has_words words) t.masks ≡ None → filter (has_match words key) (rows_of_table hook t) ≡ []
no_words hook t words key none =
    filter_and (has_mask words) (λ (r : Row). bytes_eq r.key key) (rows_of_table hook t)
    ∙ ap (filter (λ (r : Row). bytes_eq r.key key)) (words_kept hook t words
    ∙ ap (flat_map (rows_of_mask hook t)) (none_kept (has_words words) t.masks (sym (place_any (has_words words) t.masks) ∙ ap is_some none)))

pub match_missing : (both : BothHooks) (hook : Hook) (place : ℕ) (left : Option ℕ) (words key : List ℕ) (t : PlainTable) →
    BothWhole both → item_at (tables_on hook both) place ≡ Some t → place_where (has_words words) t.masks ≡ None →
    first_where (λ row. in_table hook t.chain t.pref row && is_match left words key row) (all_rows both) ≡ None
match_missing both hook place left words key t whole here none =
    match_is hook t.chain t.pref left words key (all_rows both) (rows_of_table hook t) (rows_found both hook place t whole here)
    ∙ ap (first_where (λ row. not (is_left_out left row))) (no_words hook t words key none)

pub match_nowhere : (both : BothHooks) (hook : Hook) (chain pref : ℕ) (left : Option ℕ) (words key : List ℕ) → list_any (is_table chain pref) (tables_on hook both) ≡ false →
    first_where (λ row. in_table hook chain pref row && is_match left words key row) (all_rows both) ≡ None
match_nowhere both hook chain pref left words key missing =
    match_is hook chain pref left words key (all_rows both) [] (rows_missing both hook chain pref missing)
