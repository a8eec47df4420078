-- What is kept of a standing mask: its chains read as the filters of its buckets, all of which fit into
-- blocks.
use Rattle.std.proofs.Common.{◌≡◌, ◌∙◌, ℕ, zero, suc, ◌<◌, List, [], ◌∷◌, map, drop, get_or, Option, Some, None, IfSome, sym, ap, subst, arith}
use Rattle.std.specs.List.{AllByRecursion, All}
use Rattle.std.proofs.lemmas.Simd.{map-map}
use Rattle.std.proofs.lemmas.List.Elements.{All-map, All-from_recursion, recursion_from_All}
use Rattle.std.proofs.lemmas.List.Sorted.{All-permutation}
use Rattle.store_history.specs.declared.history.Link.{Link}
use Rattle.store_history.specs.declared.history.Named.{Named}
use Rattle.store_history.specs.History.{first_block}
use Rattle.store_history.specs.Reads.{read_all}
use Rattle.pin_store.specs.declared.shape.Shape.{Shape}
use Rattle.pin_store.specs.Layout.{links_of}
use Rattle.block_codec.specs.declared.filter.StoredFilter.{StoredFilter}
use Rattle.block_codec.specs.Blocks.{IsLink}
use Rattle.block_codec.specs.OfReadings.Read.{filter_in}
use Rattle.mask_table.specs.Buckets.{bucket_root, bucket_of}
use Rattle.mask_table.specs.declared.mirrors.mirror.Mirror.{Mirror}
use Rattle.mask_table.specs.declared.mirrors.mirror.KeptMask.{KeptMask}
use Rattle.mask_table.specs.OfMirrors.Kept.{Stands, Spells, HoldFilters, IsKept}
use Rattle.mask_table.specs.OfMirrors.Lists.{Dated, kept_as, kept_in, HasFilters}
use Rattle.mask_table.specs.OfMirrors.Forgetting.{bucket_blocks}
use Rattle.mask_table.proofs.OfMirrors.Forgetting.{bucket}
use Rattle.mask_order.specs.Fitting.{FitsBlock}
use Rattle.mask_order.proofs.Buckets.{all_to, all_dated, bucket_dated}
use Rattle.mask_order.proofs.ChainsRead.{links_read}
use Rattle.mask_order.proofs.Placing.{dated_filters}

-- the block has a filter that fits
abbrev HasFitting : List (Option StoredFilter) → ℕ → Type 0
HasFitting filters b = IfSome (get_or filters b None) FitsBlock

held_fit : (filters : List (Option StoredFilter)) (shape : Shape) (cells : List ℕ) (size k : ℕ) (bs : List ℕ) → HoldFilters filters shape cells size k bs → AllByRecursion (HasFitting filters) bs
held_fit filters shape cells size k [] s = tt
held_fit filters shape cells size k (b ∷ bs) s = let is = s.0.there in
    (subst (λ (found : Option StoredFilter). IfSome found FitsBlock) (sym s.0.kept) (record { storable = is.storable; key = is.key; few = is.few }), held_fit filters shape cells size k bs s.1)

dated_fit : (ds : List Dated) → AllByRecursion (λ (p : ℕ × Option StoredFilter). IfSome p.1 FitsBlock) (map kept_as ds) → AllByRecursion FitsBlock (map (λ (d : Dated). d.filter) ds)
dated_fit [] all = tt
dated_fit (d ∷ ds) all = (all.0, dated_fit ds all.1)

-- a part of a chain whose blocks are spelled can be linked to
spelled_link : (next : List ℕ) (number : ℕ) (shape : Shape) (cells bs : List ℕ) (place : ℕ) → Spells next number bs → IsLink (first_block (drop place (links_of shape cells bs)))
spelled_link next number shape cells [] zero s = tt
spelled_link next number shape cells [] (suc place) s = tt
spelled_link next number shape cells (b ∷ bs) zero s = let low = s.1 in omega arith
spelled_link next number shape cells (b ∷ bs) (suc place) s = spelled_link next (get_or next b 0) shape cells bs place s.2

module _ (mirror : Mirror) (shape : Shape) (cells : List ℕ) (roots : ℕ → Named) (slot : ℕ) (kept : KeptMask) (stands : Stands mirror slot kept) (keeps : IsKept mirror shape cells roots) where
  pub kept_link : (k place : ℕ) → k < kept.mask.size → IsLink (first_block (drop place (roots (bucket_root kept.mask k)).chain))
  kept_link k place less = let own = bucket mirror shape cells roots slot kept stands keeps k less in
      subst (λ (ls : List Link). IsLink (first_block (drop place ls))) (sym own.named) (spelled_link mirror.next.items _ shape cells own.blocks place own.chain.spelled)

  module _ (last : ℕ) (fs : List StoredFilter) (has : HasFilters mirror slot last fs) where
    pub kept_reads : (k : ℕ) → k < kept.mask.size → read_all filter_in (roots (bucket_root kept.mask k)).chain ≡ Some (bucket_of kept.mask.size k fs)
    kept_reads k less = let own = bucket mirror shape cells roots slot kept stands keeps k less in let size = kept.mask.size in
        ap (read_all filter_in) own.named
        ∙ links_read mirror.filters.items shape cells size k own.blocks (bucket_of size k fs) own.chain.hold
        (ap (λ (gs : List StoredFilter). map Some (bucket_of size k gs)) (sym has.filters)
        ∙ (dated_filters size k has.dated
        ∙ (ap (map (λ (p : ℕ × Option StoredFilter). p.1)) (sym (bucket_dated mirror shape cells roots slot kept stands keeps last fs has k less))
        ∙ map-map (λ (p : ℕ × Option StoredFilter). p.1) (kept_in mirror) own.blocks)))

    pub kept_fit : All FitsBlock fs
    kept_fit = let blocks = bucket_blocks roots kept.mask kept.mask.size in
        let each = all_to mirror shape cells roots slot kept stands keeps (HasFitting mirror.filters.items)
        (λ k less. let own = bucket mirror shape cells roots slot kept stands keeps k less in
        All-from_recursion (HasFitting mirror.filters.items) own.blocks (held_fit mirror.filters.items shape cells kept.mask.size k own.blocks own.chain.hold)) kept.mask.size (omega arith) in
        let all = All-permutation (λ (p : ℕ × Option StoredFilter). IfSome p.1 FitsBlock) (map (kept_in mirror) blocks) (map kept_as has.dated)
        (all_dated mirror shape cells roots slot kept stands keeps last fs has) (All-map (λ (p : ℕ × Option StoredFilter). IfSome p.1 FitsBlock) (kept_in mirror) blocks each) in
        subst (All FitsBlock) has.filters (All-from_recursion FitsBlock (map (λ (d : Dated). d.filter) has.dated)
        (dated_fit has.dated (recursion_from_All (λ (p : ℕ × Option StoredFilter). IfSome p.1 FitsBlock) (map kept_as has.dated) all)))
