-- One more filter laid in front of its bucket's chain; and what the links of laid chains are.
use Rattle.std.proofs.Common.{◌≡◌, ◌≢◌, ◌∙◌, ◌⊎◌, inl, inr, ℕ, zero, suc, ◌+◌, ◌<◌, Bool, true, false, cond, eqb, List, [], ◌∷◌, ◌++◌, map, get_or, slice_get, Option, Some, None, refl, sym, ap, subst, arith, append_assoc, get_or-set_other, get_or-set_same}
use mathlib.Core.List.{append-nil}
use Rattle.std.specs.List.{IsDistinct}
use Rattle.std.proofs.lemmas.Bool.Decides.{eqb_tells}
use Rattle.std.proofs.lemmas.List.{map-append}
use Rattle.store_history.specs.History.{first_block}
use Rattle.store_history.specs.declared.places.TheConstants.{BUCKET_ROOTS}
use Rattle.pin_store.specs.declared.shape.Shape.{Shape}
use Rattle.pin_store.specs.Layout.{links_of}
use Rattle.block_codec.specs.declared.filter.StoredFilter.{StoredFilter}
use Rattle.block_codec.specs.declared.mask.StoredMask.{StoredMask}
use Rattle.block_codec.specs.Blocks.{block}
use Rattle.block_codec.specs.Filters.{filter_words}
use Rattle.block_codec.specs.Masks.{IsStorableMask}
use Rattle.mask_table.specs.Buckets.{IsAmong, bucket_for}
use Rattle.mask_table.specs.declared.mirrors.mirror.Mirror.{Mirror}
use Rattle.mask_table.specs.OfMirrors.Kept.{bucket_at, HoldFilters, HoldsChain}
use Rattle.mask_table.specs.OfMirrors.Linked.{Placed, placed_in, linked}
use Rattle.mask_table.specs.OfMirrors.Lists.{kept_in, dated_in}
use Rattle.mask_table.specs.OfMirrors.Changes.{IsFilled, IsRenamed}
use Rattle.mask_table.proofs.OfMirrors.Chains.{first_link_of}
use Rattle.mask_table.proofs.OfMirrors.Dates.{dated_append}
use Rattle.mask_table.proofs.OfMirrors.Keeping.{at_root, place_low, chain_same}
use Rattle.mask_table.proofs.OfMirrors.Lasting.{kept_same}
use Rattle.mask_build.specs.Laid.{Laid, places, dates, laid_blocks, blocks_in, IsLaid}
use Rattle.mask_build.proofs.Aside.{bucket_once, chain_stays, all_stay}

-- ---- those of a bucket
placed_append : (size bucket : ℕ) (ps qs : List Placed) → placed_in size bucket (ps ++ qs) ≡ placed_in size bucket qs ++ placed_in size bucket ps
placed_append size bucket [] qs = sym (append-nil (placed_in size bucket qs))
placed_append size bucket (p ∷ ps) qs = let own = cond (eqb (bucket_for size p.filter.key.words) bucket) (p ∷ []) [] in
    ap (λ (front : List Placed). front ++ own) (placed_append size bucket ps qs) ∙ append_assoc (placed_in size bucket qs) (placed_in size bucket ps) own

-- the latest comes first
blocks_more : (size bucket : ℕ) (xs : List Laid) (x : Laid) → blocks_in size bucket (xs ++ x ∷ []) ≡ cond (eqb (bucket_for size x.filter.key.words) bucket) (x.block ∷ blocks_in size bucket xs) (blocks_in size bucket xs)
blocks_more size bucket xs x = ap (λ (ps : List Placed). map (λ (p : Placed). p.block) (placed_in size bucket ps)) (map-append (λ (y : Laid). record { block = y.block; filter = y.filter }) xs (x ∷ []))
    ∙ (ap (map (λ (p : Placed). p.block)) (placed_append size bucket (places xs) (places (x ∷ []))) ∙ pick (eqb (bucket_for size x.filter.key.words) bucket))
  where
    pick : (t : Bool) → map (λ (p : Placed). p.block) (cond t (places (x ∷ [])) [] ++ placed_in size bucket (places xs)) ≡ cond t (x.block ∷ blocks_in size bucket xs) (blocks_in size bucket xs)
    pick true = refl
    pick false = refl

dates_more : (size bucket : ℕ) (xs : List Laid) (x : Laid) → dated_in size bucket (dates (xs ++ x ∷ []))
    ≡ cond (eqb (bucket_for size x.filter.key.words) bucket) ((x.age, Some x.filter) ∷ dated_in size bucket (dates xs)) (dated_in size bucket (dates xs))
dates_more size bucket xs x = ap (dated_in size bucket) (map-append (λ (y : Laid). record { age = y.age; filter = y.filter }) xs (x ∷ []))
    ∙ (dated_append size bucket (dates xs) (dates (x ∷ [])) ∙ pick (eqb (bucket_for size x.filter.key.words) bucket))
  where
    pick : (t : Bool) → cond t ((x.age, Some x.filter) ∷ []) [] ++ dated_in size bucket (dates xs) ≡ cond t ((x.age, Some x.filter) ∷ dated_in size bucket (dates xs)) (dated_in size bucket (dates xs))
    pick true = refl
    pick false = refl

-- a bucket's blocks are some of all
split : (x : ℕ) (xs ys : List ℕ) (place : ℕ) → slice_get (xs ++ ys) place ≡ Some x → IsAmong x xs ⊎ IsAmong x ys
split x [] ys place e = inr (place, e)
split x (z ∷ zs) ys zero e = inl (0, e)
split x (z ∷ zs) ys (suc place) e = more (split x zs ys place e)
  where
    more : IsAmong x zs ⊎ IsAmong x ys → IsAmong x (z ∷ zs) ⊎ IsAmong x ys
    more (inl a) = inl (suc a.0, a.1)
    more (inr b) = inr b

pub in_blocks : (size bucket : ℕ) (xs : List Laid) (c : ℕ) → IsAmong c (blocks_in size bucket xs) → IsAmong c (laid_blocks xs)
in_blocks size bucket [] c i = i
in_blocks size bucket (x ∷ xs) c i =
    let own = cond (eqb (bucket_for size x.filter.key.words) bucket) (places (x ∷ [])) [] in
    let there : slice_get (blocks_in size bucket xs ++ map (λ (p : Placed). p.block) own) i.0 ≡ Some c = subst (λ (bs : List ℕ). slice_get bs i.0 ≡ Some c) (map-append (λ (p : Placed). p.block) (placed_in size bucket (places xs)) own) i.1 in
    pick (in_blocks size bucket xs c) (split c (blocks_in size bucket xs) (map (λ (p : Placed). p.block) own) i.0 there)
  where
    one : (t : Bool) → IsAmong c (map (λ (p : Placed). p.block) (cond t (places (x ∷ [])) [])) → IsAmong c (laid_blocks (x ∷ xs))
    one true (zero, e) = (0, e)
    one true (suc place, e) = absurd (cc e)
    one false (place, e) = absurd (cc e)

    pick : (IsAmong c (blocks_in size bucket xs) → IsAmong c (laid_blocks xs)) → IsAmong c (blocks_in size bucket xs) ⊎ IsAmong c (map (λ (p : Placed). p.block) (cond (eqb (bucket_for size x.filter.key.words) bucket) (places (x ∷ [])) []))
        → IsAmong c (laid_blocks (x ∷ xs))
    pick more (inl a) = let r = more a in (suc r.0, r.1)
    pick more (inr b) = one (eqb (bucket_for size x.filter.key.words) bucket) b

-- ---- the links of chains that are kept
-- where each block has its filter, the links are those filters'
links_held : (filters : List (Option StoredFilter)) (shape : Shape) (cells : List ℕ) (size bucket : ℕ) (ps : List Placed) → HoldFilters filters shape cells size bucket (map (λ (p : Placed). p.block) ps)
    → map (λ (p : Placed). get_or filters p.block None) ps ≡ map (λ (p : Placed). Some p.filter) ps → links_of shape cells (map (λ (p : Placed). p.block) ps) ≡ linked ps []
links_held filters shape cells size bucket [] hold same = refl
links_held filters shape cells size bucket (p ∷ ps) hold same =
    let one : get_or filters p.block None ≡ Some p.filter = cc in let more : map (λ (q : Placed). get_or filters q.block None) ps ≡ map (λ (q : Placed). Some q.filter) ps = cc in
    let rest = links_held filters shape cells size bucket ps hold.1 more in
    let filter : Some hold.0.filter ≡ Some p.filter = sym hold.0.kept ∙ one in let is : hold.0.filter ≡ p.filter = cc in
    let link = first_link_of shape cells (map (λ (q : Placed). q.block) ps) ∙ ap first_block rest in
    let words = hold.0.there.words_are ∙ (λ t. block (filter_words (is t)) (link t)) in
    λ t. record { block = p.block; words = words t } ∷ rest t

filters_in : (size bucket : ℕ) (xs : List Laid) → map (λ (d : ℕ × Option StoredFilter). d.1) (dated_in size bucket (dates xs)) ≡ map (λ (p : Placed). Some p.filter) (placed_in size bucket (places xs))
filters_in size bucket [] = refl
filters_in size bucket (x ∷ xs) = let test = eqb (bucket_for size x.filter.key.words) bucket in
    map-append (λ (d : ℕ × Option StoredFilter). d.1) (dated_in size bucket (dates xs)) (cond test ((x.age, Some x.filter) ∷ []) [])
    ∙ ((λ t. filters_in size bucket xs t ++ one test t)
    ∙ sym (map-append (λ (p : Placed). Some p.filter) (placed_in size bucket (places xs)) (cond test (places (x ∷ [])) [])))
  where
    one : (t : Bool) → map (λ (d : ℕ × Option StoredFilter). d.1) (cond t ((x.age, Some x.filter) ∷ []) []) ≡ map (λ (p : Placed). Some p.filter) (cond t (places (x ∷ [])) [])
    one true = refl
    one false = refl

filters_kept : (mirror : Mirror) (ps : List Placed) → map (λ (d : ℕ × Option StoredFilter). d.1) (map (kept_in mirror) (map (λ (p : Placed). p.block) ps)) ≡ map (λ (p : Placed). get_or mirror.filters.items p.block None) ps
filters_kept mirror [] = refl
filters_kept mirror (p ∷ ps) = ap (λ (fs : List (Option StoredFilter)). get_or mirror.filters.items p.block None ∷ fs) (filters_kept mirror ps)

pub links_laid : (mirror : Mirror) (shape : Shape) (cells : List ℕ) (mask : StoredMask) (xs : List Laid) → IsLaid mirror shape cells mask xs → (bucket : ℕ) → bucket < mask.size
    → links_of shape cells (blocks_in mask.size bucket xs) ≡ linked (placed_in mask.size bucket (places xs)) []
links_laid mirror shape cells mask xs laid bucket less = let ps = placed_in mask.size bucket (places xs) in
    links_held mirror.filters.items shape cells mask.size bucket ps (laid.chain bucket less).hold
    (sym (filters_kept mirror ps) ∙ (ap (map (λ (d : ℕ × Option StoredFilter). d.1)) (laid.kept bucket less) ∙ filters_in mask.size bucket xs))

-- ---- where no bucket has a block, nothing was laid
pub laid_none : (mirror : Mirror) (mask : StoredMask) → ((bucket : ℕ) → bucket < mask.size → get_or mirror.first.items (bucket_at mask bucket) 0 ≡ 0) → (shape : Shape) (cells : List ℕ) → IsLaid mirror shape cells mask []
laid_none mirror mask zero_first shape cells = record {
  chain = λ bucket less. record { spelled = zero_first bucket less; hold = tt };
  kept = λ bucket less. refl;
}

-- ---- as a block is filled that has none of them, what was laid stays
pub laid_filled : (mirror : Mirror) (shape : Shape) (old new : List ℕ) (b : ℕ) (mask : StoredMask) (xs : List Laid) → IsFilled mirror mirror shape old new b → (IsAmong b (laid_blocks xs) → ⊥) → IsLaid mirror shape old mask xs → IsLaid mirror shape new mask xs
laid_filled mirror shape old new b mask xs filled apart laid = record {
  chain = λ bucket less. chain_same mirror mirror shape old new b filled mask.size bucket (get_or mirror.first.items (bucket_at mask bucket) 0) (blocks_in mask.size bucket xs)
      (λ k c e is. apart (subst (λ (x : ℕ). IsAmong x (laid_blocks xs)) is (in_blocks mask.size bucket xs c (k, e)))) (laid.chain bucket less);
  kept = laid.kept;
}

-- ---- one more filter
module _ (mirror mid mirror2 : Mirror) (shape : Shape) (old new : List ℕ) (mask : StoredMask) (filter : StoredFilter) (b age place number : ℕ) (xs : List Laid)
    (storable : IsStorableMask mask) (different : IsDistinct eqb mask.rows) (some : bucket_for mask.size filter.key.words < mask.size)
    (filled : IsFilled mirror mid shape old new b) (begun : IsRenamed mid mirror2 place (b + 1)) (at : place ≡ bucket_at mask (bucket_for mask.size filter.key.words))
    (was : number ≡ get_or mirror.first.items place 0) (dated : kept_in mid b ≡ (age, Some filter)) (apart : IsAmong b (laid_blocks xs) → ⊥) (laid : IsLaid mirror shape old mask xs)
    (extends : (blocks : List ℕ) → ((k c : ℕ) → slice_get blocks k ≡ Some c → c ≢ b) → HoldsChain mirror shape old mask.size (bucket_for mask.size filter.key.words) number blocks
    → HoldsChain mid shape new mask.size (bucket_for mask.size filter.key.words) (b + 1) (b ∷ blocks)) where
  abbrev own : ℕ
  own = bucket_for mask.size filter.key.words

  abbrev more : List Laid
  more = xs ++ record { block = b; filter = filter; age = age } ∷ []

  away : (bucket k c : ℕ) → slice_get (blocks_in mask.size bucket xs) k ≡ Some c → c ≢ b
  away bucket k c e is = apart (subst (λ (x : ℕ). IsAmong x (laid_blocks xs)) is (in_blocks mask.size bucket xs c (k, e)))

  abbrev first_at : Mirror → ℕ → ℕ
  first_at m bucket = get_or m.first.items (bucket_at mask bucket) 0

  own_first : first_at mirror2 own ≡ b + 1
  own_first = let long = mid.first_long in let low = place_low mask own storable some in
      ap (λ (k : ℕ). get_or mirror2.first.items k 0) (sym at) ∙ (ap (λ (ns : List ℕ). get_or ns place 0) begun.first ∙ get_or-set_same mid.first.items place (b + 1) 0 (omega (arith, at)))

  other_first : (bucket : ℕ) → bucket < mask.size → own ≢ bucket → first_at mirror2 bucket ≡ first_at mirror bucket
  other_first bucket less other =
      let far : bucket_at mask bucket ≢ place = λ e. other (bucket_once mask storable different own bucket some less
      (at_root mask own ∙ (ap (λ (k : ℕ). BUCKET_ROOTS + k) (sym at ∙ sym e) ∙ sym (at_root mask bucket)))) in
      ap (λ (ns : List ℕ). get_or ns (bucket_at mask bucket) 0) begun.first
      ∙ (get_or-set_other mid.first.items place (bucket_at mask bucket) (b + 1) 0 far ∙ ap (λ (ns : List ℕ). get_or ns (bucket_at mask bucket) 0) filled.first)

  own_chain : HoldsChain mirror2 shape new mask.size own (first_at mirror2 own) (b ∷ blocks_in mask.size own xs)
  own_chain = let before = subst (λ (n : ℕ). HoldsChain mirror shape old mask.size own n (blocks_in mask.size own xs)) (sym (was ∙ ap (λ (k : ℕ). get_or mirror.first.items k 0) at)) (laid.chain own some) in
      subst (λ (n : ℕ). HoldsChain mirror2 shape new mask.size own n (b ∷ blocks_in mask.size own xs)) (sym own_first)
      (chain_stays mid mirror2 begun.next begun.filters shape new mask.size own (b + 1) (b ∷ blocks_in mask.size own xs) (extends (blocks_in mask.size own xs) (away own) before))

  other_chain : (bucket : ℕ) → bucket < mask.size → own ≢ bucket → HoldsChain mirror2 shape new mask.size bucket (first_at mirror2 bucket) (blocks_in mask.size bucket xs)
  other_chain bucket less other = subst (λ (n : ℕ). HoldsChain mirror2 shape new mask.size bucket n (blocks_in mask.size bucket xs)) (sym (other_first bucket less other))
      (chain_stays mid mirror2 begun.next begun.filters shape new mask.size bucket (first_at mirror bucket) (blocks_in mask.size bucket xs)
      (chain_same mirror mid shape old new b filled mask.size bucket (first_at mirror bucket) (blocks_in mask.size bucket xs) (away bucket) (laid.chain bucket less)))

  chain_more : (bucket : ℕ) → bucket < mask.size → HoldsChain mirror2 shape new mask.size bucket (first_at mirror2 bucket) (blocks_in mask.size bucket more)
  chain_more bucket less = subst (HoldsChain mirror2 shape new mask.size bucket (first_at mirror2 bucket)) (sym (blocks_more mask.size bucket xs (record { block = b; filter = filter; age = age }))) (pick (eqb_tells own bucket))
    where
      pick : ((eqb own bucket ≡ true) × (own ≡ bucket)) ⊎ ((eqb own bucket ≡ false) × (own ≢ bucket))
          → HoldsChain mirror2 shape new mask.size bucket (first_at mirror2 bucket) (cond (eqb own bucket) (b ∷ blocks_in mask.size bucket xs) (blocks_in mask.size bucket xs))
      pick (inl (e, is)) = subst (λ (t : Bool). HoldsChain mirror2 shape new mask.size bucket (first_at mirror2 bucket) (cond t (b ∷ blocks_in mask.size bucket xs) (blocks_in mask.size bucket xs))) (sym e)
          (subst (λ (k : ℕ). HoldsChain mirror2 shape new mask.size k (first_at mirror2 k) (b ∷ blocks_in mask.size k xs)) is own_chain)
      pick (inr (e, is)) = subst (λ (t : Bool). HoldsChain mirror2 shape new mask.size bucket (first_at mirror2 bucket) (cond t (b ∷ blocks_in mask.size bucket xs) (blocks_in mask.size bucket xs))) (sym e)
          (other_chain bucket less is)

  -- what is kept of the blocks is as it was, and is the filter and its age for the new one
  kept_before : (bucket : ℕ) → bucket < mask.size → map (kept_in mirror2) (blocks_in mask.size bucket xs) ≡ dated_in mask.size bucket (dates xs)
  kept_before bucket less = all_stay mid mirror2 begun.next begun.filters begun.ages (blocks_in mask.size bucket xs)
      ∙ (kept_same mirror mid (blocks_in mask.size bucket xs) (λ k c e. let other = away bucket k c e in let older = filled.ages c other in let same = filled.filters c other in λ t. (older t, same t))
      ∙ laid.kept bucket less)

  kept_now : kept_in mirror2 b ≡ (age, Some filter)
  kept_now = (λ t. (get_or (begun.ages t) b 0, get_or (begun.filters t) b None)) ∙ dated

  kept_more : (bucket : ℕ) → bucket < mask.size → map (kept_in mirror2) (blocks_in mask.size bucket more) ≡ dated_in mask.size bucket (dates more)
  kept_more bucket less = let x : Laid = record { block = b; filter = filter; age = age } in
      ap (map (kept_in mirror2)) (blocks_more mask.size bucket xs x) ∙ (pick (eqb own bucket) ∙ sym (dates_more mask.size bucket xs x))
    where
      pick : (t : Bool) → map (kept_in mirror2) (cond t (b ∷ blocks_in mask.size bucket xs) (blocks_in mask.size bucket xs)) ≡ cond t ((age, Some filter) ∷ dated_in mask.size bucket (dates xs)) (dated_in mask.size bucket (dates xs))
      pick true = λ t. kept_now t ∷ kept_before bucket less t
      pick false = kept_before bucket less

  pub laid_more : IsLaid mirror2 shape new mask more
  laid_more = record { chain = chain_more; kept = kept_more }
