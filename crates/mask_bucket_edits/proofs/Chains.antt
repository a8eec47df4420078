-- The chain in which a filter was found: it is kept, with the filter's block at its place, and what is behind
-- is kept too.
use Rattle.std.proofs.Common.{◌≡◌, ◌∙◌, ℕ, zero, suc, ◌+◌, ◌<◌, List, [], ◌∷◌, ◌++◌, length, map, take, drop, get_or, slice_get, Option, Some, None, refl, sym, ap, subst, arith}
use Rattle.std.proofs.lemmas.List.{take-map}
use Rattle.std.proofs.lemmas.Option.{slice_get_within, slice_get-get_or}
use Rattle.std.proofs.lemmas.Nat.{mod_below}
use Rattle.flow_mask.specs.Hashes.{hash_of}
use Rattle.store_history.specs.declared.history.Link.{Link}
use Rattle.store_history.specs.declared.history.Named.{Named}
use Rattle.store_history.specs.History.{first_block}
use Rattle.store_history.specs.Reads.{read_all}
use Rattle.store_history.specs.declared.places.TheConstants.{BUCKET_ROOTS, POOL_BLOCKS}
use Rattle.pin_store.specs.declared.shape.Shape.{Shape}
use Rattle.pin_store.specs.Layout.{block_words, links_of}
use Rattle.block_codec.specs.declared.filter.StoredFilter.{StoredFilter}
use Rattle.block_codec.specs.Blocks.{block}
use Rattle.block_codec.specs.Filters.{filter_words}
use Rattle.block_codec.specs.OfReadings.Read.{filter_in}
use Rattle.mask_table.specs.Buckets.{bucket_for}
use Rattle.mask_table.specs.declared.mirrors.mirror.Mirror.{Mirror}
use Rattle.mask_table.specs.declared.mirrors.mirror.KeptMask.{KeptMask}
use Rattle.mask_table.specs.OfMirrors.Kept.{HasFilter, bucket_at, Stands, Spells, HoldFilters, HoldsChain, BucketAt, Names, KeepsBucket, IsKept}
use Rattle.mask_table.specs.OfMirrors.Changing.{root_for}
use Rattle.mask_table.specs.OfMirrors.Linked.{placed, linked}
use Rattle.mask_table.proofs.OfMirrors.Spelling.{few_blocks}
use Rattle.mask_table.proofs.OfMirrors.Keeping.{at_root, names_each}
use Rattle.mask_table.proofs.OfMirrors.Chains.{first_link_of, spelled_low, block_there}
use Rattle.mask_table.proofs.OfMirrors.Forgetting.{link_blocks}
use Rattle.mask_bucket_edits.specs.Finding.{IsFound}
use Rattle.mask_bucket_edits.proofs.Reading.{reads_as, held, first_read, link_words}

-- ---- what is behind a block
spelled_behind : (next : List ℕ) (number : ℕ) (bs : List ℕ) (n b : ℕ) → Spells next number bs → slice_get bs n ≡ Some b → Spells next (get_or next b 0) (drop (suc n) bs)
spelled_behind next number [] n b s e = absurd (cc e)
spelled_behind next number (c ∷ cs) zero b s e = let same : c ≡ b = cc e in subst (λ (k : ℕ). Spells next (get_or next k 0) cs) same s.2
spelled_behind next number (c ∷ cs) (suc n) b s e = spelled_behind next (get_or next c 0) cs n b s.2 e

hold_behind : (filters : List (Option StoredFilter)) (shape : Shape) (cells : List ℕ) (size bucket : ℕ) (bs : List ℕ) (n : ℕ) → HoldFilters filters shape cells size bucket bs → HoldFilters filters shape cells size bucket (drop n bs)
hold_behind filters shape cells size bucket bs zero s = s
hold_behind filters shape cells size bucket [] (suc n) s = s
hold_behind filters shape cells size bucket (b ∷ bs) (suc n) s = hold_behind filters shape cells size bucket bs n s.1

-- ---- the links of blocks that have filters are those of the filters put into them
pub links_put : (filters : List (Option StoredFilter)) (shape : Shape) (cells : List ℕ) (size bucket : ℕ) (bs tail : List ℕ) (fs : List StoredFilter) → map (λ (b : ℕ). get_or filters b None) bs ≡ map Some fs
    → HoldFilters filters shape cells size bucket (bs ++ tail) → links_of shape cells (bs ++ tail) ≡ linked (placed bs fs) (links_of shape cells tail)
links_put filters shape cells size bucket [] tail fs e s = refl
links_put filters shape cells size bucket (b ∷ bs) tail [] e s = absurd (cc e)
links_put filters shape cells size bucket (b ∷ bs) tail (f ∷ fs) e s =
    let first : get_or filters b None ≡ Some f = cc e in let others : map (λ (x : ℕ). get_or filters x None) bs ≡ map Some fs = cc e in
    let rest = links_put filters shape cells size bucket bs tail fs others s.1 in
    let own : s.0.filter ≡ f = cc (s.0.kept, first) in
    let link = first_link_of shape cells (bs ++ tail) ∙ ap first_block rest in
    let words = s.0.there.words_are ∙ (λ t. block (filter_words (own t)) (link t)) in
    λ t. record { block = b; words = words t } ∷ rest t

-- ---- the chain in which a filter was found
module _ (mirror : Mirror) (shape : Shape) (cells : List ℕ) (roots : ℕ → Named) (slot : ℕ) (kept : KeptMask) (stands : Stands mirror slot kept) (keeps : IsKept mirror shape cells roots) (handle place count : ℕ) (blocks : List ℕ)
    (found : IsFound roots kept.mask handle place count blocks) where
  abbrev pub own : BucketAt mirror (BUCKET_ROOTS + place)
  own = record { slot = slot; bucket = found.there.bucket; kept = kept; stands = stands; within = found.there.within; same = found.there.is_root }

  pub place_is : place ≡ bucket_at kept.mask found.there.bucket
  place_is = let root = found.there.is_root in let at = at_root kept.mask found.there.bucket in omega arith

  abbrev was : KeepsBucket mirror shape cells roots kept.mask found.there.bucket
  was = keeps.buckets (BUCKET_ROOTS + place) own

  blocks_are : was.blocks ≡ blocks
  blocks_are = sym (link_blocks shape cells was.blocks) ∙ (ap (map (λ (l : Link). l.block)) (sym (ap (λ (r : ℕ). (roots r).chain) found.there.is_root ∙ was.named)) ∙ found.blocks_are)

  pub chain : HoldsChain mirror shape cells kept.mask.size found.there.bucket (get_or mirror.first.items place 0) blocks
  chain = subst (HoldsChain mirror shape cells kept.mask.size found.there.bucket (get_or mirror.first.items place 0)) blocks_are
      (subst (λ (p : ℕ). HoldsChain mirror shape cells kept.mask.size found.there.bucket (get_or mirror.first.items p 0) was.blocks) (sym place_is) was.chain)

  pub named : (roots (BUCKET_ROOTS + place)).chain ≡ links_of shape cells blocks
  named = ap (λ (r : ℕ). (roots r).chain) found.there.is_root ∙ (was.named ∙ ap (links_of shape cells) blocks_are)

  pub names : (k b : ℕ) → slice_get blocks k ≡ Some b → Names roots (BUCKET_ROOTS + place) b
  names = names_each roots (BUCKET_ROOTS + place) shape cells blocks named

  pub low : (k b : ℕ) → slice_get blocks k ≡ Some b → b < POOL_BLOCKS
  low = spelled_low mirror.next.items (get_or mirror.first.items place 0) blocks chain.spelled

  pub has : (k b : ℕ) → slice_get blocks k ≡ Some b → HasFilter mirror.filters.items b
  has k b e = let h = held mirror.filters.items shape cells kept.mask.size found.there.bucket blocks chain.hold k b e in record { pool = low k b e; filter = h.1.filter; kept = h.1.kept; storable = h.1.there.storable }

  -- the block of the filter
  link_at : slice_get (links_of shape cells blocks) count ≡ Some found.there.link
  link_at = subst (λ (n : ℕ). slice_get (links_of shape cells blocks) n ≡ Some found.there.link) found.counted (subst (λ (ls : List Link). slice_get ls (length found.front) ≡ Some found.there.link) named found.there.there)

  pub within : count < length blocks
  within = slice_get_within blocks count found.there.link.block (block_there shape cells blocks count found.there.link link_at)

  pub short : count < POOL_BLOCKS
  short = let inside = within in let few = few_blocks mirror.next.items (get_or mirror.first.items place 0) blocks chain.spelled in omega arith

  pub there : slice_get blocks count ≡ Some (get_or blocks count 0)
  there = slice_get-get_or blocks count 0 within

  pub behind : HoldsChain mirror shape cells kept.mask.size found.there.bucket (get_or mirror.next.items (get_or blocks count 0) 0) (drop (suc count) blocks)
  behind = record {
    spelled = spelled_behind mirror.next.items (get_or mirror.first.items place 0) blocks count (get_or blocks count 0) chain.spelled there;
    hold = hold_behind mirror.filters.items shape cells kept.mask.size found.there.bucket blocks (suc count) chain.hold;
  }

  -- a filter whose root is the bucket's is one of the bucket
  pub in_bucket : (f : StoredFilter) → BUCKET_ROOTS + place ≡ root_for kept.mask f → bucket_for kept.mask.size f.key.words ≡ found.there.bucket
  in_bucket f root = let less = found.there.within in
      let at : BucketAt mirror (BUCKET_ROOTS + place) = record { slot = slot; bucket = bucket_for kept.mask.size f.key.words; kept = kept; stands = stands; within = mod_below (hash_of f.key.words) kept.mask.size (omega arith); same = root } in
      (keeps.apart (BUCKET_ROOTS + place) at own).1

  -- the filters are those that are read
  pub one_kept : get_or mirror.filters.items (get_or blocks count 0) None ≡ Some found.filter
  one_kept =
      let h = held mirror.filters.items shape cells kept.mask.size found.there.bucket blocks chain.hold count (get_or blocks count 0) there in
      let at : Some (get_or blocks count 0) ≡ Some found.there.link.block = sym there ∙ block_there shape cells blocks count found.there.link link_at in
      let same : get_or blocks count 0 ≡ found.there.link.block = cc at in
      let read = reads_as (block_words shape cells (get_or blocks count 0)) (h.1.filter, h.0) h.1.there in
      let words = link_words shape cells blocks count found.there.link link_at ∙ ap (block_words shape cells) (sym same) in
      let both : Some h.1.filter ≡ Some found.filter = sym read ∙ (ap filter_in (sym words) ∙ found.there.read) in
      h.1.kept ∙ both

  pub front_kept : (front : List StoredFilter) → read_all filter_in (take count (roots (BUCKET_ROOTS + place)).chain) ≡ Some front → map (λ (b : ℕ). get_or mirror.filters.items b None) (take count blocks) ≡ map Some front
  front_kept front e =
      let r = first_read mirror.filters.items shape cells kept.mask.size found.there.bucket blocks chain.hold count in
      let links = ap (take count) named ∙ take-map (λ (x : ℕ). record { block = x; words = block_words shape cells x }) count blocks in
      let both : Some r.fs ≡ Some front = sym r.read ∙ (ap (read_all filter_in) (sym links) ∙ e) in
      let same : r.fs ≡ front = cc both in r.kept ∙ ap (map Some) same
