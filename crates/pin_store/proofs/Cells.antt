-- Where the cells of blocks stand, and what blocks and chains have as their words.
use Rattle.std.proofs.Common.{◌≡◌, ◌≢◌, ℕ, zero, suc, ◌+◌, ◌*◌, ◌<◌, ◌≤◌, List, [], ◌∷◌, ◌++◌, map, length, take, drop, slice_get, get_or, set, Some, refl, ap, sym, ◌∙◌, subst, arith, length-drop, get_or-take, get_or-set_other, get_or-set_same, mul-le-mul_left, mul-le-mul_right, suc-mul}
use mathlib.Core.Logic.{dite}
use native.Mathlib.Decide.{dec_le, ℕ_discrete}
use Rattle.std.specs.Prelude.{All}
use Rattle.std.proofs.lemmas.List.{ext_get_or, length-take-le, get_or-drop, map-append}
use Rattle.std.proofs.lemmas.List.Elements.{All-head, All-tail}
use Rattle.store_history.specs.declared.history.Link.{Link}
use Rattle.store_history.specs.History.{first_number, first_block}
use Rattle.pin_store.specs.declared.shape.Shape.{Shape}
use Rattle.pin_store.specs.Layout.{word_count, block_words, links_of, first_of, block_in, numbers_to}

-- a cell of one of n blocks of w words lies among their cells
pub cell_inside : (b n w i : ℕ) → b < n → i < w → b * w + i < n * w
cell_inside b n w i h l = let m : suc b * w ≤ n * w = mul-le-mul_right w h in omega (arith, suc-mul b w)

pub row_inside : (b n w : ℕ) → b < n → b * w + w ≤ n * w
row_inside b n w h = let m : suc b * w ≤ n * w = mul-le-mul_right w h in omega (arith, suc-mul b w)

below : (a b w i j : ℕ) → a < b → i < w → a * w + i ≢ b * w + j
below a b w i j h l e = let m : suc a * w ≤ b * w = mul-le-mul_right w h in omega (arith, suc-mul a w)

-- cells of different blocks are different
pub cells_apart : (a b w i j : ℕ) → a ≢ b → i < w → j < w → a * w + i ≢ b * w + j
cells_apart a b w i j n li lj e = dite (dec_le b a)
    (λ (le : b ≤ a). below b a w j i (omega arith) lj (sym e))
    (λ (gt : b ≤ a → ⊥). below a b w i j (omega arith) li e)

-- a row of cells, after one more word is written
pub row_more : (w b at x : ℕ) (cells words : List ℕ) → b * w + at < length cells → x ≡ get_or words at 0 → ((j : ℕ) → j < at → get_or cells (b * w + j) 0 ≡ get_or words j 0)
    → (j : ℕ) → j < at + 1 → get_or (set cells (b * w + at) x) (b * w + j) 0 ≡ get_or words j 0
row_more w b at x cells words room is old j lj = dite (ℕ_discrete j at)
    (λ e. ap (λ (z : ℕ). get_or (set cells (b * w + at) x) (b * w + z) 0) e ∙ (get_or-set_same cells (b * w + at) x 0 room ∙ (is ∙ ap (λ (z : ℕ). get_or words z 0) (sym e))))
    (λ ne. get_or-set_other cells (b * w + at) (b * w + j) x 0 (λ e. ne (omega arith)) ∙ old j (omega arith))

pub row_other : (w b at x : ℕ) (cells : List ℕ) (a i : ℕ) → a ≢ b → at < w → i < w → get_or (set cells (b * w + at) x) (a * w + i) 0 ≡ get_or cells (a * w + i) 0
row_other w b at x cells a i n l m = get_or-set_other cells (b * w + at) (a * w + i) x 0 (cells_apart a b w i at n m l)

pub first_links : (shape : Shape) (cells blocks : List ℕ) → first_number (links_of shape cells blocks) ≡ first_of blocks
first_links shape cells [] = refl
first_links shape cells (b ∷ bs) = refl

-- the blocks of a chain have the words of the cells
pub laid_links : (shape : Shape) (cells blocks : List ℕ) → All (λ b. b < shape.blocks) blocks → (k : ℕ) (l : Link) → slice_get (links_of shape cells blocks) k ≡ Some l → (l.block < shape.blocks) × (l.words ≡ block_words shape cells l.block)
laid_links shape cells [] all k l e = absurd (cc e)
laid_links shape cells (b ∷ bs) all zero l e = let h = All-head (λ b. b < shape.blocks) b bs all in
    let is : record { block = b; words = block_words shape cells b } ≡ l = cc e in subst (λ (z : Link). (z.block < shape.blocks) × (z.words ≡ block_words shape cells z.block)) is (h, refl)
laid_links shape cells (b ∷ bs) all (suc k) l e = laid_links shape cells bs (All-tail (λ b. b < shape.blocks) b bs all) k l e

-- a block's words, where its cells are these
pub words_are : (w : ℕ) (cells words : List ℕ) (blocks b : ℕ) → length cells ≡ blocks * w → b < blocks → length words ≡ w → ((i : ℕ) → i < w → get_or cells (b * w + i) 0 ≡ get_or words i 0) → take w (drop (b * w) cells) ≡ words
words_are w cells words blocks b long low same at =
    let row = row_inside b blocks w low in
    let l : length (take w (drop (b * w) cells)) ≡ w = length-take-le w (drop (b * w) cells) (omega (arith, length-drop (b * w) cells)) in
    ext_get_or 0 (take w (drop (b * w) cells)) words (l ∙ sym same) (λ i less. let inside : i < w = omega arith in get_or-take w (drop (b * w) cells) i 0 inside ∙ (get_or-drop (b * w) cells i 0 ∙ at i inside))

-- a block's words, where its cells are as they were
pub words_stay : (w : ℕ) (old new : List ℕ) (blocks b : ℕ) → length old ≡ blocks * w → length new ≡ blocks * w → b < blocks → ((i : ℕ) → i < w → get_or new (b * w + i) 0 ≡ get_or old (b * w + i) 0)
    → take w (drop (b * w) new) ≡ take w (drop (b * w) old)
words_stay w old new blocks b long1 long2 low at =
    let row = row_inside b blocks w low in
    words_are w new (take w (drop (b * w) old)) blocks b long2 low (length-take-le w (drop (b * w) old) (omega (arith, length-drop (b * w) old)))
    (λ i less. at i less ∙ sym (get_or-take w (drop (b * w) old) i 0 less ∙ get_or-drop (b * w) old i 0))

-- the number in the low half of a root's word links to the chain's first block
pub block_linked : (ls : List Link) → block_in (first_number ls) ≡ first_block ls
block_linked [] = refl
block_linked (l ∷ ls) = let e : l.block + 1 ≡ suc l.block = omega arith in ap block_in e

pub blocks_few : (shape : Shape) → 0 < shape.words → word_count shape < 2147483648 → shape.blocks < 2147483648
blocks_few shape wide few = let m : shape.blocks * 1 ≤ shape.blocks * shape.words = mul-le-mul_left shape.blocks wide in omega arith

pub first_fits : (n : ℕ) (blocks : List ℕ) → All (λ b. b < n) blocks → n < 2147483648 → first_of blocks < 4294967296
first_fits n [] all few = omega arith
first_fits n (b ∷ bs) all few = let low : b < n = All-head (λ b. b < n) b bs all in omega arith

-- the numbers of the readers, after one more was made
pub numbers_pushed : {A : Type 0} (f : A → ℕ) (xs : List A) (a : A) (n : ℕ) → map f xs ≡ numbers_to n → f a ≡ n + 1 → map f (xs ++ a ∷ []) ≡ numbers_to (n + 1)
numbers_pushed f xs a n old is = let e : n + 1 ≡ suc n = omega arith in
    map-append f xs (a ∷ []) ∙ ((λ t. old t ++ (is ∙ e) t ∷ []) ∙ ap numbers_to (sym e))
