-- The mask of a row, and how many masks a table has.
use Rattle.std.proofs.Common.{◌≡◌, ℕ, false, not, ◌<◌, List, [], ◌∷◌, length, Option, Some, None, option_map, is_some, refl, sym, ◌∙◌, ap, arith}
use Rattle.std.specs.Prelude.{filter}
use Rattle.std.specs.List.{list_any, flat_map}
use Rattle.std.proofs.lemmas.Option.{none-some, same_Some}
use Rattle.tc_base.specs.declared.hook.Hook.{Hook}
use Rattle.filter_state.specs.States.{Row}
use Rattle.filter_state.specs.Sound.{Each, EachPair, GoTogether}
use Rattle.filter_state.specs.Tables.{in_table, has_mask, first_where, mask_row, mask_or_next, mask_count, masks_of, distinct}
use Rattle.filter_tables.specs.Plain.{PlainMask, PlainTable}
use Rattle.filter_tables.specs.Places.{item_at, place_where}
use Rattle.filter_tables.specs.Changes.{has_words, is_table}
use Rattle.filter_tables.specs.Whole.{HasSome, IsFull}
use Rattle.filter_tables.specs.Rows.{BothHooks, BothWhole, tables_on, row_of, rows_of_mask, rows_of_table, all_rows}
use Rattle.row_laws.proofs.OfLookups.Heads.{head_of, first_head, first_and, any_left, some_left, head_says, head_front}
use Rattle.filter_state.proofs.Pairs.{each_weaker, each_filter}
use Rattle.row_laws.proofs.OfLookups.Blocks.{each_map, filter_blocks, some_map, left_blocks}
use Rattle.row_laws.proofs.OfLookups.Pairs.{pairs_both}
use Rattle.row_laws.proofs.OfLookups.Numbers.{count_blocks, masks_blocks, masks_each, some_masks}
use Rattle.row_laws.proofs.OfLookups.Placed.{place_head, place_any}
use Rattle.row_laws.proofs.OfLookups.Found.{rows_found, rows_missing}
use Rattle.row_laws.proofs.OfLookups.Tables.{full_at}

-- ---- the rows of masks
pub words_kept : (hook : Hook) (t : PlainTable) (words : List ℕ) → filter (has_mask words) (rows_of_table hook t) ≡ flat_map (rows_of_mask hook t) (filter (has_words words) t.masks)
words_kept hook t words =
    filter_blocks (has_mask words) (has_words words) (rows_of_mask hook t)
    (λ m. each_map (row_of hook t m) (λ (r : Row). has_mask words r ≡ has_words words m) (λ f. refl) m.filters) t.masks

pub some_filters : (hook : Hook) (t : PlainTable) (masks : List PlainMask) → Each (λ (m : PlainMask). HasSome m.filters) masks → Each (λ m. HasSome (rows_of_mask hook t m)) masks
some_filters hook t masks full =
    each_weaker (λ (m : PlainMask). HasSome m.filters) (λ m. HasSome (rows_of_mask hook t m)) (λ m some. some_map (row_of hook t m) m.filters some) masks full

mask_row_is : (both : BothHooks) (hook : Hook) (place : ℕ) (words : List ℕ) (t : PlainTable) → BothWhole both → item_at (tables_on hook both) place ≡ Some t →
    mask_row hook t.chain t.pref words (all_rows both) ≡ head_of (flat_map (rows_of_mask hook t) (filter (has_words words) t.masks))
mask_row_is both hook place words t whole at =
    first_and (in_table hook t.chain t.pref) (has_mask words) (all_rows both)
    ∙ ap (first_where (has_mask words)) (rows_found both hook place t whole at)
    ∙ first_head (has_mask words) (rows_of_table hook t) ∙ ap head_of (words_kept hook t words)

-- ---- the serial of the first mask's first row
first_serial : (hook : Hook) (t : PlainTable) (masks : List PlainMask) (m : PlainMask) → Each (λ (n : PlainMask). HasSome n.filters) masks → head_of masks ≡ Some m →
    option_map (λ (r : Row). r.mask_serial) (head_of (flat_map (rows_of_mask hook t) masks)) ≡ Some m.serial
first_serial hook t [] m full first = absurd (none-some m first)
first_serial hook t (n ∷ masks) m full first =
    let some = some_map (row_of hook t n) n.filters full.0 in
    ap (option_map (λ (r : Row). r.mask_serial)) (head_front (rows_of_mask hook t n) (flat_map (rows_of_mask hook t) masks) some)
    ∙ head_says (λ (r : Row). r.mask_serial) n.serial (rows_of_mask hook t n) some (each_map (row_of hook t n) (λ (r : Row). r.mask_serial ≡ n.serial) (λ f. refl) n.filters)
    ∙ ap (option_map (λ (k : PlainMask). k.serial)) first

serial_said : (row : Option Row) (made serial : ℕ) → option_map (λ (r : Row). r.mask_serial) row ≡ Some serial → mask_or_next row made ≡ serial
serial_said None made serial e = absurd (none-some serial e)
serial_said (Some row) made serial e = same_Some row.mask_serial serial e

pub mask_found : (both : BothHooks) (hook : Hook) (place at made : ℕ) (words : List ℕ) (t : PlainTable) (m : PlainMask) →
    BothWhole both → EachPair GoTogether (all_rows both) → item_at (tables_on hook both) place ≡ Some t →
    place_where (has_words words) t.masks ≡ Some at → item_at t.masks at ≡ Some m →
    mask_or_next (mask_row hook t.chain t.pref words (all_rows both)) made ≡ m.serial
mask_found both hook place at made words t m whole together here placed there =
    let full : IsFull t = full_at both hook place t whole here in
    serial_said (mask_row hook t.chain t.pref words (all_rows both)) made m.serial
    (ap (option_map (λ (r : Row). r.mask_serial)) (mask_row_is both hook place words t whole here)
    ∙ first_serial hook t (filter (has_words words) t.masks) m (each_filter (λ (n : PlainMask). HasSome n.filters) (has_words words) t.masks full.each)
    (place_head (has_words words) t.masks at m placed there))

pub mask_some : (both : BothHooks) (hook : Hook) (place : ℕ) (words : List ℕ) (t : PlainTable) → BothWhole both → item_at (tables_on hook both) place ≡ Some t →
    is_some (mask_row hook t.chain t.pref words (all_rows both)) ≡ is_some (place_where (has_words words) t.masks)
mask_some both hook place words t whole here =
    let full : IsFull t = full_at both hook place t whole here in
    let mine : List PlainMask = filter (has_words words) t.masks in
    ap is_some (mask_row_is both hook place words t whole here)
    ∙ some_left (flat_map (rows_of_mask hook t) mine)
    ∙ ap not (left_blocks (rows_of_mask hook t) mine (some_filters hook t mine (each_filter (λ (n : PlainMask). HasSome n.filters) (has_words words) t.masks full.each)))
    ∙ sym (any_left (has_words words) t.masks) ∙ sym (place_any (has_words words) t.masks)

pub mask_missing : (both : BothHooks) (hook : Hook) (chain pref : ℕ) (words : List ℕ) → list_any (is_table chain pref) (tables_on hook both) ≡ false →
    mask_row hook chain pref words (all_rows both) ≡ None
mask_missing both hook chain pref words missing =
    first_and (in_table hook chain pref) (has_mask words) (all_rows both) ∙ ap (first_where (has_mask words)) (rows_missing both hook chain pref missing)

-- ---- how many there are
other_serial : (m n : PlainMask) → m.serial < n.serial → m.serial ≡ n.serial → ⊥
other_serial m n less same = omega arith

serials_apart : (masks : List PlainMask) → EachPair (λ (m n : PlainMask). m.serial < n.serial) masks → EachPair (λ (m n : PlainMask). m.serial ≡ n.serial → ⊥) masks
serials_apart masks rising =
    pairs_both (λ (m n : PlainMask). m.serial < n.serial) (λ (m n : PlainMask). m.serial < n.serial) (λ (m n : PlainMask). m.serial ≡ n.serial → ⊥)
    (λ m n less _. other_serial m n less) masks rising rising

pub masks_counted : (both : BothHooks) (hook : Hook) (place : ℕ) (t : PlainTable) → BothWhole both → item_at (tables_on hook both) place ≡ Some t →
    mask_count hook t.chain t.pref (all_rows both) ≡ length t.masks
masks_counted both hook place t whole here =
    let full : IsFull t = full_at both hook place t whole here in
    ap (λ rows. length (distinct (masks_of rows))) (rows_found both hook place t whole here)
    ∙ ap (λ ns. length (distinct ns)) (masks_blocks (rows_of_mask hook t) t.masks)
    ∙ count_blocks (λ m. masks_of (rows_of_mask hook t m)) (λ (m : PlainMask). m.serial) t.masks
    (each_weaker (λ m. HasSome (rows_of_mask hook t m)) (λ m. HasSome (masks_of (rows_of_mask hook t m))) (λ m some. some_masks (rows_of_mask hook t m) some) t.masks
    (some_filters hook t t.masks full.each))
    (λ m. masks_each (λ n. n ≡ m.serial) (rows_of_mask hook t m) (each_map (row_of hook t m) (λ (r : Row). r.mask_serial ≡ m.serial) (λ f. refl) m.filters))
    (serials_apart t.masks full.rising)
