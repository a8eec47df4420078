-- What follows from the words for what stands at a writer: a slot has one mask and one list of filters, and
-- what roots name is read as these.
use Rattle.std.proofs.Common.{◌≡◌, ◌∙◌, ℕ, zero, suc, ◌<◌, ◌≤◌, List, [], ◌∷◌, length, map, drop, slice_get, get_or, Some, refl, sym, ap, subst, arith}
use Rattle.std.specs.List.{All}
use Rattle.std.proofs.lemmas.List.{length-map}
use Rattle.std.proofs.lemmas.Option.{slice_get-get_or}
use Rattle.std.proofs.lemmas.Nat.{mod_below}
use Rattle.flow_mask.specs.Hashes.{hash_of}
use Rattle.store_history.specs.declared.history.Link.{Link}
use Rattle.store_history.specs.declared.history.Named.{Named}
use Rattle.store_history.specs.History.{first_block}
use Rattle.store_history.specs.Reads.{in_front, read_all, read_first}
use Rattle.store_history.specs.declared.places.TheConstants.{MASK_SLOTS}
use Rattle.pin_store.specs.declared.shape.Shape.{Shape}
use Rattle.pin_store.specs.Layout.{block_words, links_of}
use Rattle.block_codec.specs.declared.filter.StoredFilter.{StoredFilter}
use Rattle.block_codec.specs.Blocks.{IsLink}
use Rattle.block_codec.specs.Masks.{IsStorableMask}
use Rattle.block_codec.specs.OfReadings.Read.{filter_in, mask_of_words}
use Rattle.block_codec.proofs.OfReadings.MaskReads.{mask_block_reads}
use Rattle.mask_table.specs.Buckets.{mask_root, bucket_root, bucket_for, bucket_of}
use Rattle.mask_table.proofs.Buckets.{in_bucket}
use Rattle.mask_table.specs.declared.mirrors.mirror.KeptMask.{KeptMask}
use Rattle.mask_table.specs.OfMirrors.Linked.{Placed}
use Rattle.mask_table.proofs.OfMirrors.Keeping.{some_buckets}
use Rattle.mask_table.proofs.OfMirrors.Forgetting.{link_blocks}
use Rattle.mask_order.specs.Fitting.{FitsBlock}
use Rattle.mask_bucket_edits.proofs.Reading.{reads_as}
use Rattle.mask_writer.specs.Masks.{Order, Masks}
use Rattle.mask_writer.specs.Standing.{mask_in, masks_of, chain_at, StandsAt, IsEmptyAt, Holds, AreFiled, first_in, NamesChain, AreNamed}

-- so many slots there are
pub slots_count : (writer : Masks) (shape : Shape) (cells : List ℕ) (roots : ℕ → Named) → AreNamed writer shape cells roots → length (masks_of writer) ≡ MASK_SLOTS
slots_count writer shape cells roots named = length-map writer.at mask_in ∙ named.slots

-- one mask stands at a slot
pub one_mask : (writer : Masks) (slot : ℕ) (kept more : KeptMask) → StandsAt writer slot kept → StandsAt writer slot more → kept ≡ more
one_mask writer slot kept more one two = let both : Some kept ≡ Some more = sym one ∙ two in cc both

-- a slot that has filters has a mask
pub mask_of_filters : (writer : Masks) (slot last : ℕ) (fs : List StoredFilter) → Holds writer slot last fs → (kept : KeptMask) × StandsAt writer slot kept
mask_of_filters writer slot last fs has = (has.kept, has.stands)

-- no filters are where no mask stands
pub none_held : (writer : Masks) (slot last : ℕ) (fs : List StoredFilter) → IsEmptyAt writer slot → Holds writer slot last fs → ⊥
none_held writer slot last fs empty has = let stands = has.stands in absurd (cc (sym empty ∙ stands))

-- a mask has its filters in one order alone
pub one_list : (writer : Masks) (slot last other : ℕ) (fs gs : List StoredFilter) → Holds writer slot last fs → Holds writer slot other gs → fs ≡ gs
one_list writer slot last other fs gs one two = let both : Some one.order ≡ Some two.order = sym one.told ∙ two.told in let same : one.order ≡ two.order = cc both in
    sym one.filters ∙ (ap (λ (o : Order). o.filters) same ∙ two.filters)

-- no later edit has brought one of them either
pub held_later : (writer : Masks) (slot last later : ℕ) (fs : List StoredFilter) → last ≤ later → Holds writer slot last fs → Holds writer slot later fs
held_later writer slot last later fs less has = record {
  kept = has.kept;
  stands = has.stands;
  order = has.order;
  told = has.told;
  filters = has.filters;
  late = (let late = has.late in omega arith);
  buckets = has.buckets;
}

-- ---- what the blocks of a chain are read as
module _ (shape : Shape) (cells : List ℕ) (size bucket : ℕ) where
  filed_read : (ps : List Placed) → AreFiled shape cells size bucket ps → read_all filter_in (links_of shape cells (map (λ (p : Placed). p.block) ps)) ≡ Some (map (λ (p : Placed). p.filter) ps)
  filed_read [] are = refl
  filed_read (p ∷ ps) are = let one = reads_as (block_words shape cells p.block) (p.filter, first_in ps) are.0.there in let rest = filed_read ps are.1 in λ t. in_front (one t) (rest t)

  filed_fit : (ps : List Placed) → AreFiled shape cells size bucket ps → (k : ℕ) (f : StoredFilter) → slice_get (map (λ (p : Placed). p.filter) ps) k ≡ Some f → FitsBlock f
  filed_fit [] are k f e = absurd (cc e)
  filed_fit (p ∷ ps) are zero f e = let same : p.filter ≡ f = cc e in let is = are.0.there in subst FitsBlock same (record { storable = is.storable; key = is.key; few = is.few })
  filed_fit (p ∷ ps) are (suc k) f e = filed_fit ps are.1 k f e

  -- each part of it can be linked to
  filed_link : (ps : List Placed) → AreFiled shape cells size bucket ps → (place : ℕ) → IsLink (first_block (drop place (links_of shape cells (map (λ (p : Placed). p.block) ps))))
  filed_link [] are zero = tt
  filed_link [] are (suc place) = tt
  filed_link (p ∷ ps) are zero = let low = are.0.pool in omega arith
  filed_link (p ∷ ps) are (suc place) = filed_link ps are.1 place

-- blocks with their filters are told by both
same_placed : (ps qs : List Placed) → map (λ (p : Placed). p.block) ps ≡ map (λ (p : Placed). p.block) qs → map (λ (p : Placed). p.filter) ps ≡ map (λ (p : Placed). p.filter) qs → ps ≡ qs
same_placed [] [] blocks filters = refl
same_placed [] (q ∷ qs) blocks filters = absurd (cc blocks)
same_placed (p ∷ ps) [] blocks filters = absurd (cc blocks)
same_placed (p ∷ ps) (q ∷ qs) blocks filters = let block : p.block ≡ q.block = cc blocks in let filter : p.filter ≡ q.filter = cc filters in
    let more : map (λ (p : Placed). p.block) ps ≡ map (λ (p : Placed). p.block) qs = cc blocks in let rest : map (λ (p : Placed). p.filter) ps ≡ map (λ (p : Placed). p.filter) qs = cc filters in
    let all = same_placed ps qs more rest in λ t. record { block = block t; filter = filter t } ∷ all t

-- a root tells the chain that it names
pub same_chain : (shape : Shape) (cells cells2 : List ℕ) (roots roots2 : ℕ → Named) (root size bucket : ℕ) (ps qs : List Placed) → NamesChain shape cells roots root size bucket ps
    → NamesChain shape cells2 roots2 root size bucket qs → (roots2 root).chain ≡ (roots root).chain → qs ≡ ps
same_chain shape cells cells2 roots roots2 root size bucket ps qs one two same =
    let links = sym two.named ∙ (same ∙ one.named) in
    let read = sym (filed_read shape cells2 size bucket qs two.filed) ∙ (ap (read_all filter_in) links ∙ filed_read shape cells size bucket ps one.filed) in
    let filters : map (λ (p : Placed). p.filter) qs ≡ map (λ (p : Placed). p.filter) ps = cc read in
    same_placed qs ps (sym (link_blocks shape cells2 (map (λ (p : Placed). p.block) qs)) ∙ (ap (map (λ (l : Link). l.block)) links ∙ link_blocks shape cells (map (λ (p : Placed). p.block) ps))) filters

module _ (writer : Masks) (shape : Shape) (cells : List ℕ) (roots : ℕ → Named) (named : AreNamed writer shape cells roots) (slot : ℕ) where
  module _ (kept : KeptMask) (stands : StandsAt writer slot kept) where
    -- the slot's root is read as the mask that stands
    pub record_read : read_first mask_of_words (roots (mask_root slot)).chain ≡ Some kept.mask
    record_read = let is = named.masks slot kept stands in
        ap (read_first mask_of_words) is.named ∙ (ap mask_of_words is.there.words_are ∙ mask_block_reads kept.mask is.there.storable is.there.serial is.there.mask)

    pub mask_storable : IsStorableMask kept.mask
    mask_storable = (named.masks slot kept stands).there.storable

    pub chain_named : (bucket : ℕ) → bucket < kept.mask.size → NamesChain shape cells roots (bucket_root kept.mask bucket) kept.mask.size bucket (chain_at writer slot bucket)
    chain_named bucket less = named.buckets (bucket_root kept.mask bucket) (record { slot = slot; bucket = bucket; kept = kept; stands = stands; within = less; same = refl })

    -- each part of a bucket's chain can be linked to
    pub chain_link : (bucket place : ℕ) → bucket < kept.mask.size → IsLink (first_block (drop place (roots (bucket_root kept.mask bucket)).chain))
    chain_link bucket place less = let is = chain_named bucket less in
        subst (λ (ls : List Link). IsLink (first_block (drop place ls))) (sym is.named) (filed_link shape cells kept.mask.size bucket (chain_at writer slot bucket) is.filed place)

    module _ (last : ℕ) (fs : List StoredFilter) (has : Holds writer slot last fs) where
      own : (bucket : ℕ) → bucket < kept.mask.size → map (λ (p : Placed). p.filter) (chain_at writer slot bucket) ≡ bucket_of kept.mask.size bucket fs
      own = subst (λ (k : KeptMask). (bucket : ℕ) → bucket < k.mask.size → map (λ (p : Placed). p.filter) (chain_at writer slot bucket) ≡ bucket_of k.mask.size bucket fs)
          (one_mask writer slot has.kept kept has.stands stands) has.buckets

      -- each bucket's root is read as the filters of that bucket, the latest first
      pub bucket_read : (bucket : ℕ) → bucket < kept.mask.size → read_all filter_in (roots (bucket_root kept.mask bucket)).chain ≡ Some (bucket_of kept.mask.size bucket fs)
      bucket_read bucket less = let is = chain_named bucket less in
          ap (read_all filter_in) is.named ∙ (filed_read shape cells kept.mask.size bucket (chain_at writer slot bucket) is.filed ∙ ap Some (own bucket less))

      -- all filters of a mask fit into blocks
      pub filters_fit : All FitsBlock fs
      filters_fit i d within = let f = get_or fs i d in let size = kept.mask.size in let home = bucket_for size f.key.words in
          let less : home < size = mod_below (hash_of f.key.words) size (some_buckets kept.mask mask_storable) in
          let among = in_bucket size home fs f i refl (slice_get-get_or fs i d within) in
          filed_fit shape cells size home (chain_at writer slot home) (chain_named home less).filed among.0 f
          (subst (λ (gs : List StoredFilter). slice_get gs among.0 ≡ Some f) (sym (own home less)) among.1)
