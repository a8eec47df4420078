-- The chain of blocks that tables fill is the one that a swap commits.
use Rattle.std.proofs.Common.{◌≡◌, ◌∙◌, ℕ, zero, suc, ◌+◌, ◌<◌, ◌≤◌, List, [], ◌∷◌, ◌++◌, length, slice_get, Option, Some, None, Bool, true, false, refl, ap, subst, arith}
use Rattle.std.specs.Prelude.{◌==◌, if◌then◌else◌, All}
use Rattle.std.specs.List.{range_with_len}
use Rattle.std.proofs.lemmas.List.{length-map}
use Rattle.store_history.specs.declared.history.Link.{Link}
use Rattle.store_history.specs.History.{IsLinked}
use Rattle.pin_store.specs.declared.shape.Shape.{Shape}
use Rattle.pin_store.specs.Layout.{block_words, links_of}
use Rattle.block_codec.specs.declared.table.StoredTable.{StoredTable}
use Rattle.block_codec.specs.Blocks.{block}
use Rattle.block_codec.specs.Names.{mask_word}
use Rattle.block_codec.specs.Tables.{table_words}
use Rattle.block_codec.proofs.Standing.{block_link}
use Rattle.miniq_pair.specs.Pairs.{table_links, link_at}

-- each block has its table's words
abbrev pub AreFilled : Shape → List ℕ → ℕ → List StoredTable → Type 0
AreFilled shape cells first tables = (place : ℕ) (table : StoredTable) → slice_get tables place ≡ Some table
    → block_words shape cells (first + place) ≡ block (table_words table) (link_at first place (length tables))

link_shift : (first place count : ℕ) → link_at first (suc place) (suc count) ≡ link_at (first + 1) place count
link_shift first place count = by (suc place + 1 == suc count) (place + 1 == count) refl refl
  where
    by : (a b : Bool) → (suc place + 1 == suc count) ≡ a → (place + 1 == count) ≡ b
        → ◌≡◌ {A = Option ℕ} (if a then None else Some (first + suc place + 1)) (if b then None else Some (first + 1 + place + 1))
    by true true e f = refl
    by false false e f = ap Some (omega arith)
    by true false e f = absurd (grind (arith, e, f))
    by false true e f = absurd (grind (arith, e, f))

link_more : (first count : ℕ) → link_at first 0 (suc (suc count)) ≡ Some (first + 1)
link_more first count = by (0 + 1 == suc (suc count)) refl
  where
    by : (t : Bool) → (0 + 1 == suc (suc count)) ≡ t → ◌≡◌ {A = Option ℕ} (if t then None else Some (first + 0 + 1)) (Some (first + 1))
    by true e = absurd (grind (arith, e))
    by false e = ap Some (omega arith)

-- what is so of the tables behind the first one
behind : (shape : Shape) (cells : List ℕ) (first : ℕ) (table : StoredTable) (tables : List StoredTable) → AreFilled shape cells first (table ∷ tables) → AreFilled shape cells (first + 1) tables
behind shape cells first table tables filled = λ place t there. let at : first + 1 + place ≡ first + suc place = omega arith in
    ap (block_words shape cells) at ∙ (filled (suc place) t there ∙ ap (block (table_words t)) (link_shift first place (length tables)))

one_link : (first : ℕ) (words other : List ℕ) → words ≡ other → ◌≡◌ {A = Link} (record { block = first; words = words }) (record { block = first; words = other })
one_link first words other e = λ t. record { block = first; words = e t }

pub links_are : (shape : Shape) (cells : List ℕ) (first : ℕ) (tables : List StoredTable) → AreFilled shape cells first tables
    → links_of shape cells (range_with_len first (length tables)) ≡ table_links first tables
links_are shape cells first [] filled = refl
links_are shape cells first (table ∷ []) filled = let at : first ≡ first + 0 = omega arith in
    ap (λ l. l ∷ []) (one_link first _ _ (ap (block_words shape cells) at ∙ filled 0 table refl))
links_are shape cells first (table ∷ next ∷ tables) filled = let at : first ≡ first + 0 = omega arith in
    let here = one_link first _ _ (ap (block_words shape cells) at ∙ (filled 0 table refl ∙ ap (block (table_words table)) (link_more first (length tables)))) in
    let rest = links_are shape cells (first + 1) (next ∷ tables) (behind shape cells first table (next ∷ tables) filled) in
    λ t. here t ∷ rest t

-- ---- the links
few_words : (table : StoredTable) → length table.masks ≤ 16 → length (table_words table) ≤ 39
few_words table few = let n = length-map table.masks mask_word in omega arith

pub linked : (first : ℕ) (tables : List StoredTable) → ((place : ℕ) (table : StoredTable) → slice_get tables place ≡ Some table → length table.masks ≤ 16) → IsLinked 40 (table_links first tables)
linked first [] few = tt
linked first (table ∷ []) few = block_link (table_words table) None (few_words table (few 0 table refl))
linked first (table ∷ next ∷ []) few = (block_link (table_words table) (Some (first + 1)) (few_words table (few 0 table refl)), linked (first + 1) (next ∷ []) (λ place t there. few (suc place) t there))
linked first (table ∷ next ∷ more ∷ tables) few = (block_link (table_words table) (Some (first + 1)) (few_words table (few 0 table refl)), linked (first + 1) (next ∷ more ∷ tables) (λ place t there. few (suc place) t there))

-- all numbers from one on are below another
pub range_below : (first count most : ℕ) → first + count ≤ most → All (λ b. b < most) (range_with_len first count)
range_below first zero most low k d less = absurd (omega arith)
range_below first (suc count) most low zero d less = omega arith
range_below first (suc count) most low (suc k) d less = range_below (first + 1) count most (omega arith) k d (omega arith)

-- one number more
pub range_more : (first count : ℕ) → range_with_len first (count + 1) ≡ range_with_len first count ++ (first + count) ∷ []
range_more first zero = ap (λ n. n ∷ []) (omega arith)
range_more first (suc count) = let more : suc count + 1 ≡ suc (count + 1) = omega arith in let at : first + 1 + count ≡ first + suc count = omega arith in
    ap (range_with_len first) more ∙ ap (λ ns. first ∷ ns) (range_more (first + 1) count ∙ ap (λ n. range_with_len (first + 1) count ++ n ∷ []) at)

-- the numbers of a chain that was filled so name the links of the tables
pub chain_is : (shape : Shape) (cells : List ℕ) (first told : ℕ) (tables slice other : List StoredTable) (numbers : List ℕ) → told ≡ first → slice ≡ tables → other ≡ tables
    → numbers ≡ range_with_len told (length other) → AreFilled shape cells told slice → links_of shape cells numbers ≡ table_links first tables
chain_is shape cells first told tables slice other numbers same this that are filled =
    ap (links_of shape cells) (are ∙ (λ t. range_with_len (same t) (length (that t)))) ∙ links_are shape cells first tables
    (subst (λ (n : ℕ). AreFilled shape cells n tables) same (subst (AreFilled shape cells told) this filled))
