-- What the blocks of a kept chain read as: the filters that are kept for them.
use Rattle.std.proofs.Common.{◌≡◌, ◌∙◌, ℕ, zero, suc, List, [], ◌∷◌, length, map, take, get_or, slice_get, Option, Some, None, refl, sym, ap, subst, arith, length-append}
use Rattle.std.proofs.lemmas.List.{length-map}
use Rattle.store_history.specs.declared.history.Link.{Link}
use Rattle.store_history.specs.Reads.{in_front, read_all}
use Rattle.pin_store.specs.declared.shape.Shape.{Shape}
use Rattle.pin_store.specs.Layout.{block_words, links_of, first_of, block_in}
use Rattle.block_codec.specs.declared.filter.StoredFilter.{StoredFilter}
use Rattle.block_codec.specs.Blocks.{IsTheOnly}
use Rattle.block_codec.specs.Names.{action_word}
use Rattle.block_codec.specs.Filters.{filter_words, IsFilterBlock}
use Rattle.block_codec.proofs.Standing.{length_block}
use Rattle.block_codec.specs.OfReadings.Read.{filter_in}
use Rattle.block_codec.proofs.OfReadings.Only.{filter_only}
use Rattle.block_codec.proofs.OfReadings.Values.{filter_some}
use Rattle.mask_table.specs.OfMirrors.Kept.{HoldsFilter, HoldFilters}
use Rattle.mask_table.proofs.OfMirrors.Chains.{link_there, block_there}

-- a block of a filter reads as that filter
pub reads_as : (words : List ℕ) (it : StoredFilter × Option ℕ) → IsFilterBlock words it → filter_in words ≡ Some it.0
reads_as words it is = let key = is.key in let few = is.few in let n = length-map it.0.actions action_word in let all = length-append it.0.key.words (map action_word it.0.actions) in
    let wide : length words ≡ 40 = ap length is.words_are ∙ length_block (filter_words it.0) it.1 (omega arith) in let only = filter_only words wide in
    sym (filter_some words it wide (subst (IsTheOnly (IsFilterBlock words)) (only.only it is) only))

-- what is kept of a block at a place of a chain
pub held : (filters : List (Option StoredFilter)) (shape : Shape) (cells : List ℕ) (size bucket : ℕ) (bs : List ℕ) → HoldFilters filters shape cells size bucket bs
    → (place b : ℕ) → slice_get bs place ≡ Some b → (link : Option ℕ) × HoldsFilter filters shape cells size bucket b link
held filters shape cells size bucket [] s place b e = absurd (cc e)
held filters shape cells size bucket (c ∷ cs) s zero b e = let same : c ≡ b = cc in (block_in (first_of cs), subst (λ (x : ℕ). HoldsFilter filters shape cells size bucket x (block_in (first_of cs))) same s.0)
held filters shape cells size bucket (c ∷ cs) s (suc place) b e = held filters shape cells size bucket cs s.1 place b e

-- the first blocks read as the filters that are kept for them
pub record AreRead (filters : List (Option StoredFilter)) (shape : Shape) (cells bs : List ℕ) : Type 0 where
  pub fs : List StoredFilter
  pub read : read_all filter_in (links_of shape cells bs) ≡ Some fs
  pub kept : map (λ (b : ℕ). get_or filters b None) bs ≡ map Some fs

pub first_read : (filters : List (Option StoredFilter)) (shape : Shape) (cells : List ℕ) (size bucket : ℕ) (bs : List ℕ) → HoldFilters filters shape cells size bucket bs → (n : ℕ) → AreRead filters shape cells (take n bs)
first_read filters shape cells size bucket bs s zero = record { fs = []; read = refl; kept = refl }
first_read filters shape cells size bucket [] s (suc n) = record { fs = []; read = refl; kept = refl }
first_read filters shape cells size bucket (b ∷ bs) s (suc n) =
    let rest = first_read filters shape cells size bucket bs s.1 n in let one = reads_as (block_words shape cells b) (s.0.filter, block_in (first_of bs)) s.0.there in let kept = s.0.kept in record {
      fs = s.0.filter ∷ rest.fs;
      read = (λ t. in_front (one t) (rest.read t));
      kept = (λ t. kept t ∷ rest.kept t);
    }

-- a link of a chain of blocks has the words of its block
pub link_words : (shape : Shape) (cells bs : List ℕ) (place : ℕ) (l : Link) → slice_get (links_of shape cells bs) place ≡ Some l → l.words ≡ block_words shape cells l.block
link_words shape cells bs place l e =
    let own : Link = record { block = l.block; words = block_words shape cells l.block } in
    let there : slice_get (links_of shape cells bs) place ≡ Some own = link_there shape cells bs place l.block (block_there shape cells bs place l e) in
    let same : own ≡ l = cc (sym there ∙ e) in sym (ap (λ (x : Link). x.words) same)
