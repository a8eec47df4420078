-- Chains of blocks in which filters are kept, and what becomes of them as another block is filled.
use Rattle.std.proofs.Common.{◌≡◌, ◌∙◌, ℕ, zero, suc, ◌+◌, ◌<◌, ◌≤◌, List, [], ◌∷◌, length, map, get_or, slice_get, Option, Some, None, refl, sym, ap, subst, arith, length-append}
use Rattle.std.proofs.lemmas.List.{length-map}
use Rattle.store_history.specs.declared.history.Link.{Link}
use Rattle.store_history.specs.History.{first_block, IsLinked}
use Rattle.store_history.specs.declared.places.TheConstants.{POOL_BLOCKS}
use Rattle.pin_store.specs.declared.shape.Shape.{Shape}
use Rattle.pin_store.specs.Layout.{block_words, links_of, first_of, block_in}
use Rattle.block_codec.specs.declared.filter.StoredFilter.{StoredFilter}
use Rattle.block_codec.specs.Blocks.{plus_one}
use Rattle.block_codec.specs.Names.{action_word}
use Rattle.block_codec.specs.Filters.{filter_words, IsFilterBlock}
use Rattle.block_codec.proofs.Standing.{block_link}
use Rattle.mask_table.specs.OfMirrors.Kept.{Spells, HoldFilters}

-- the numbers that are kept are those of links
pub first_spelled : (next : List ℕ) (number : ℕ) (bs : List ℕ) → Spells next number bs → number ≡ first_of bs
first_spelled next number [] s = s
first_spelled next number (b ∷ bs) s = s.0

pub one_behind : (b : ℕ) → block_in (b + 1) ≡ Some b
one_behind b = let more : b + 1 ≡ suc b = omega arith in ap block_in more

pub first_link_of : (shape : Shape) (cells bs : List ℕ) → block_in (first_of bs) ≡ first_block (links_of shape cells bs)
first_link_of shape cells [] = refl
first_link_of shape cells (b ∷ bs) = one_behind b

linked_number : (n : ℕ) → plus_one (block_in n) ≡ n
linked_number zero = refl
linked_number (suc n) = omega arith

pub spelled_low : (next : List ℕ) (number : ℕ) (bs : List ℕ) → Spells next number bs → (place b : ℕ) → slice_get bs place ≡ Some b → b < POOL_BLOCKS
spelled_low next number [] s place b e = absurd (cc e)
spelled_low next number (c ∷ cs) s zero b e = let same : c ≡ b = cc in let low = s.1 in omega arith
spelled_low next number (c ∷ cs) s (suc place) b e = spelled_low next (get_or next c 0) cs s.2 place b e

-- ---- the links of blocks
pub link_there : (shape : Shape) (cells bs : List ℕ) (place b : ℕ) → slice_get bs place ≡ Some b → slice_get (links_of shape cells bs) place ≡ Some (record { block = b; words = block_words shape cells b })
link_there shape cells [] place b e = absurd (cc e)
link_there shape cells (c ∷ cs) zero b e = let same : c ≡ b = cc in ap (λ (k : ℕ). Some (record { block = k; words = block_words shape cells k })) same
link_there shape cells (c ∷ cs) (suc place) b e = link_there shape cells cs place b e

pub block_there : (shape : Shape) (cells bs : List ℕ) (place : ℕ) (l : Link) → slice_get (links_of shape cells bs) place ≡ Some l → slice_get bs place ≡ Some l.block
block_there shape cells [] place l e = absurd (cc e)
block_there shape cells (c ∷ cs) zero l e = let front : Link = record { block = c; words = block_words shape cells c } in let same : front ≡ l = cc in ap (λ (x : Link). Some x.block) same
block_there shape cells (c ∷ cs) (suc place) l e = block_there shape cells cs place l e

-- ---- what stays as another block is filled
pub links_same : (shape : Shape) (old new bs : List ℕ) → ((place b : ℕ) → slice_get bs place ≡ Some b → block_words shape new b ≡ block_words shape old b) → links_of shape new bs ≡ links_of shape old bs
links_same shape old new [] same = refl
links_same shape old new (b ∷ bs) same = let one = same 0 b refl in let rest = links_same shape old new bs (λ place c e. same (suc place) c e) in
    λ t. record { block = b; words = one t } ∷ rest t

pub spells_same : (old new : List ℕ) (number : ℕ) (bs : List ℕ) → ((place b : ℕ) → slice_get bs place ≡ Some b → get_or new b 0 ≡ get_or old b 0) → Spells old number bs → Spells new number bs
spells_same old new number [] same s = s
spells_same old new number (b ∷ bs) same s = (s.0, s.1, subst (λ (k : ℕ). Spells new k bs) (sym (same 0 b refl)) (spells_same old new (get_or old b 0) bs (λ place c e. same (suc place) c e) s.2))

pub hold_same : (shape : Shape) (old new : List ℕ) (filters others : List (Option StoredFilter)) (size bucket : ℕ) (bs : List ℕ)
    → ((place b : ℕ) → slice_get bs place ≡ Some b → block_words shape new b ≡ block_words shape old b)
    → ((place b : ℕ) → slice_get bs place ≡ Some b → get_or others b None ≡ get_or filters b None)
    → HoldFilters filters shape old size bucket bs → HoldFilters others shape new size bucket bs
hold_same shape old new filters others size bucket [] words kept s = tt
hold_same shape old new filters others size bucket (b ∷ bs) words kept s = (
  record {
    filter = s.0.filter;
    kept = kept 0 b refl ∙ s.0.kept;
    hashed = s.0.hashed;
    there = subst (λ (ws : List ℕ). IsFilterBlock ws (s.0.filter, block_in (first_of bs))) (sym (words 0 b refl)) s.0.there;
  },
  hold_same shape old new filters others size bucket bs (λ place c e. words (suc place) c e) (λ place c e. kept (suc place) c e) s.1,
)

-- ---- the links of such a chain
few_words : (words : List ℕ) (filter : StoredFilter) (link : Option ℕ) → IsFilterBlock words (filter, link) → length (filter_words filter) ≤ 39
few_words words filter link is = let key = is.key in let few = is.few in let n = length-map filter.actions action_word in
    let all = length-append filter.key.words (map action_word filter.actions) in omega arith

pub filter_link : (words : List ℕ) (filter : StoredFilter) (number : ℕ) → IsFilterBlock words (filter, block_in number) → get_or words 39 0 ≡ number
filter_link words filter number is = ap (λ (ws : List ℕ). get_or ws 39 0) is.words_are
    ∙ (block_link (filter_words filter) (block_in number) (few_words words filter (block_in number) is) ∙ linked_number number)

pub linked_filters : (filters : List (Option StoredFilter)) (shape : Shape) (cells : List ℕ) (size bucket : ℕ) (bs : List ℕ) → HoldFilters filters shape cells size bucket bs → IsLinked 40 (links_of shape cells bs)
linked_filters filters shape cells size bucket [] s = tt
linked_filters filters shape cells size bucket (b ∷ []) s = filter_link (block_words shape cells b) s.0.filter 0 s.0.there
linked_filters filters shape cells size bucket (b ∷ c ∷ bs) s = (filter_link (block_words shape cells b) s.0.filter (c + 1) s.0.there, linked_filters filters shape cells size bucket (c ∷ bs) s.1)
