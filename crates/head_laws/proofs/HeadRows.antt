-- The rows of tables that are kept whole are told as heads: one a table, with its masks.
use Rattle.std.proofs.Common.{◌≡◌, ◌∙◌, ℕ, ◌<◌, ◌==◌, true, false, List, [], ◌∷◌, ◌++◌, append_assoc, refl, sym, ap, arith}
use Rattle.std.specs.Prelude.{map}
use Rattle.std.specs.List.{flat_map}
use Rattle.std.proofs.lemmas.Bool.Decides.{nat_tests}
use Rattle.tc_base.specs.declared.hook.Hook.{Hook}
use Rattle.filter_index.specs.declared.filter.Filter.{Filter}
use Rattle.filter_state.specs.States.{Row}
use Rattle.filter_state.specs.Sound.{Each, EachPair}
use Rattle.filter_tables.specs.Plain.{PlainMask, PlainTable}
use Rattle.filter_tables.specs.Whole.{HasSome, IsFull}
use Rattle.filter_tables.specs.Rows.{row_of, rows_of_mask, rows_of_table, rows_of}
use Rattle.walk_rules.specs.Questions.{Head}
use Rattle.walk_rules.specs.Heads.{with_row, heads_in}
use Rattle.head_laws.specs.Heads.{serials_of, head_of}

-- ---- numbers
pub one_number : (n : ℕ) → (n == n) ≡ true
one_number n = grind (arith, nat_tests)

two_numbers : (m n : ℕ) → (m ≡ n → ⊥) → (m == n) ≡ false
two_numbers m n differ = grind (arith, nat_tests, differ)

-- ---- one row in front
abbrev head_at : PlainTable → List ℕ → Head
head_at t masks = record { serial = t.serial; chain = t.chain; pref = t.pref; protocol = t.protocol; masks = masks }

-- the first of some heads is another table's
abbrev IsOther : ℕ → List Head → Type 0
IsOther serial [] = Unit {0}
IsOther serial (head ∷ heads) = head.serial ≡ serial → ⊥

same_mask : (hook : Hook) (t : PlainTable) (m : PlainMask) (f : Filter) (masks : List ℕ) (heads : List Head) →
    with_row (row_of hook t m f) (head_at t (m.serial ∷ masks) ∷ heads) ≡ head_at t (m.serial ∷ masks) ∷ heads
same_mask hook t m f masks heads = rw (one_number t.serial, one_number m.serial) refl

next_mask : (hook : Hook) (t : PlainTable) (m : PlainMask) (f : Filter) (first : ℕ) (masks : List ℕ) (heads : List Head) → (first ≡ m.serial → ⊥) →
    with_row (row_of hook t m f) (head_at t (first ∷ masks) ∷ heads) ≡ head_at t (m.serial ∷ first ∷ masks) ∷ heads
next_mask hook t m f first masks heads differ = rw (one_number t.serial, two_numbers first m.serial differ) refl

next_table : (hook : Hook) (t : PlainTable) (m : PlainMask) (f : Filter) (heads : List Head) → IsOther t.serial heads →
    with_row (row_of hook t m f) heads ≡ head_at t (m.serial ∷ []) ∷ heads
next_table hook t m f [] other = refl
next_table hook t m f (head ∷ heads) other = rw (two_numbers head.serial t.serial other) refl

-- ---- the rows of a mask in front
mask_rows : (hook : Hook) (t : PlainTable) (m : PlainMask) (filters : List Filter) (rest : List Row) (masks : List ℕ) (heads : List Head) → HasSome filters →
    ((f : Filter) → with_row (row_of hook t m f) (heads_in rest) ≡ head_at t (m.serial ∷ masks) ∷ heads) →
    heads_in (map (row_of hook t m) filters ++ rest) ≡ head_at t (m.serial ∷ masks) ∷ heads
mask_rows hook t m [] rest masks heads some first = absurd some
mask_rows hook t m (f ∷ []) rest masks heads some first = first f
mask_rows hook t m (f ∷ g ∷ filters) rest masks heads some first =
    ap (with_row (row_of hook t m f)) (mask_rows hook t m (g ∷ filters) rest masks heads tt first) ∙ same_mask hook t m f masks heads

-- ---- the rows of a table in front
behind : (a b : ℕ) → a < b → b ≡ a → ⊥
behind a b less same = absurd (omega arith)

table_rows : (hook : Hook) (t : PlainTable) (m : PlainMask) (masks : List PlainMask) (rest : List Row) (heads : List Head) →
    Each (λ (n : PlainMask). HasSome n.filters) (m ∷ masks) → EachPair (λ (n o : PlainMask). n.serial < o.serial) (m ∷ masks) → heads_in rest ≡ heads → IsOther t.serial heads →
    heads_in (flat_map (rows_of_mask hook t) (m ∷ masks) ++ rest) ≡ head_at t (serials_of (m ∷ masks)) ∷ heads
table_rows hook t m [] rest heads some rising so_far other =
    ap heads_in (append_assoc (rows_of_mask hook t m) [] rest)
    ∙ mask_rows hook t m m.filters rest [] heads some.0 (λ f. ap (with_row (row_of hook t m f)) so_far ∙ next_table hook t m f heads other)
table_rows hook t m (n ∷ masks) rest heads some rising so_far other =
    let more : List Row = flat_map (rows_of_mask hook t) (n ∷ masks) in
    ap heads_in (append_assoc (rows_of_mask hook t m) more rest)
    ∙ mask_rows hook t m m.filters (more ++ rest) (serials_of (n ∷ masks)) heads some.0
    (λ f. ap (with_row (row_of hook t m f)) (table_rows hook t n masks rest heads some.1 rising.1 so_far other)
    ∙ next_mask hook t m f n.serial (serials_of masks) heads (behind m.serial n.serial rising.0.0))

full_table : (hook : Hook) (t : PlainTable) (masks : List PlainMask) (rest : List Row) (heads : List Head) → HasSome masks →
    Each (λ (n : PlainMask). HasSome n.filters) masks → EachPair (λ (n o : PlainMask). n.serial < o.serial) masks → heads_in rest ≡ heads → IsOther t.serial heads →
    heads_in (flat_map (rows_of_mask hook t) masks ++ rest) ≡ head_at t (serials_of masks) ∷ heads
full_table hook t [] rest heads has some rising so_far other = absurd has
full_table hook t (m ∷ masks) rest heads has some rising so_far other = table_rows hook t m masks rest heads some rising so_far other

-- ---- the rows of all tables
abbrev AreOthers : PlainTable → PlainTable → Type 0
AreOthers t u = t.serial ≡ u.serial → ⊥

first_other : (t : PlainTable) (tables : List PlainTable) → Each (AreOthers t) tables → IsOther t.serial (map head_of tables)
first_other t [] others = tt
first_other t (u ∷ tables) others = λ same. others.0 (sym same)

pub tables_told : (hook : Hook) (tables : List PlainTable) → Each IsFull tables → EachPair AreOthers tables → heads_in (rows_of hook tables) ≡ map head_of tables
unfolding rows_of
tables_told hook [] full others = refl
tables_told hook (t ∷ tables) full others =
    let here = full.0 in
    full_table hook t t.masks (flat_map (rows_of_table hook) tables) (map head_of tables) here.some here.each here.rising (tables_told hook tables full.1 others.1) (first_other t tables others.0)
