-- The filter that a reader finds in a bucket's chain is kept there, and the other way round.
use Rattle.std.proofs.Common.{◌≡◌, ◌∙◌, ℕ, ◌+◌, ◌<◌, List, length, map, take, get_or, slice_get, Some, None, sym, ap, subst, arith}
use Rattle.std.proofs.lemmas.List.{length-map, length-take-le, take-map}
use Rattle.std.proofs.lemmas.Option.{slice_get_within}
use Rattle.store_history.specs.declared.history.Link.{Link}
use Rattle.store_history.specs.declared.history.Named.{Named}
use Rattle.store_history.specs.Reads.{read_all}
use Rattle.store_history.specs.declared.places.TheConstants.{BUCKET_ROOTS}
use Rattle.pin_store.specs.declared.shape.Shape.{Shape}
use Rattle.pin_store.specs.Layout.{block_words, links_of}
use Rattle.block_codec.specs.declared.filter.StoredFilter.{StoredFilter}
use Rattle.block_codec.specs.declared.mask.StoredMask.{StoredMask}
use Rattle.block_codec.specs.OfReadings.Read.{filter_in}
use Rattle.mask_table.specs.declared.mirrors.mirror.Mirror.{Mirror}
use Rattle.mask_table.specs.declared.mirrors.mirror.KeptMask.{KeptMask}
use Rattle.mask_table.specs.OfMirrors.Kept.{bucket_at, Stands, Spells, IsKept}
use Rattle.mask_table.specs.OfMirrors.Changing.{FilterAt}
use Rattle.mask_table.proofs.OfMirrors.Keeping.{at_root}
use Rattle.mask_table.proofs.OfMirrors.Chains.{link_there, block_there}
use Rattle.mask_table.proofs.OfMirrors.Forgetting.{bucket, link_blocks}
use Rattle.mask_bucket_edits.specs.Finding.{HasHandle, IsInBucket, IsFound}
use Rattle.mask_bucket_edits.proofs.Reading.{reads_as, held, first_read, link_words}

module _ (mirror : Mirror) (shape : Shape) (cells : List ℕ) (roots : ℕ → Named) (slot : ℕ) (kept : KeptMask) (stands : Stands mirror slot kept) (keeps : IsKept mirror shape cells roots) (handle : ℕ) where
  -- what is read is kept
  pub is_kept : (root : ℕ) (front : List StoredFilter) (filter : StoredFilter) (f : FilterAt roots kept.mask handle root front filter) → IsInBucket mirror kept handle f.bucket
  is_kept root front filter f =
      let was = bucket mirror shape cells roots slot kept stands keeps f.bucket f.within in let n = length front in
      let there : slice_get (links_of shape cells was.blocks) n ≡ Some f.link = subst (λ (ls : List Link). slice_get ls n ≡ Some f.link) (ap (λ (r : ℕ). (roots r).chain) f.is_root ∙ was.named) f.there in
      let at_place = block_there shape cells was.blocks n f.link there in
      let own = held mirror.filters.items shape cells kept.mask.size f.bucket was.blocks was.chain.hold n f.link.block at_place in
      let read = ap filter_in (link_words shape cells was.blocks n f.link there) ∙ reads_as (block_words shape cells f.link.block) (own.1.filter, own.0) own.1.there in
      let same : own.1.filter ≡ filter = cc (sym read ∙ f.read) in record {
        blocks = was.blocks;
        spelled = was.chain.spelled;
        place = n;
        block = f.link.block;
        there = at_place;
        has = record { filter = own.1.filter; kept = own.1.kept; named = ap (λ (x : StoredFilter). x.handle) same ∙ f.named };
      }

  -- what is kept is read
  pub is_found : (k : ℕ) → k < kept.mask.size → (place : ℕ) → place ≡ bucket_at kept.mask k → (room : List ℕ) → ((blocks : List ℕ) → Spells mirror.next.items (get_or mirror.first.items place 0) blocks → room ≡ blocks)
      → (count b : ℕ) → slice_get room count ≡ Some b → HasHandle mirror.filters.items handle b → IsFound roots kept.mask handle place count room
  is_found k less place is room gathered count b e has =
      let was = bucket mirror shape cells roots slot kept stands keeps k less in
      let same : room ≡ was.blocks = gathered was.blocks (subst (λ (p : ℕ). Spells mirror.next.items (get_or mirror.first.items p 0) was.blocks) (sym is) was.chain.spelled) in
      let root = ap (λ (p : ℕ). BUCKET_ROOTS + p) is ∙ sym (at_root kept.mask k) in
      let named : (roots (BUCKET_ROOTS + place)).chain ≡ links_of shape cells was.blocks = ap (λ (r : ℕ). (roots r).chain) root ∙ was.named in
      let there : slice_get was.blocks count ≡ Some b = subst (λ (bs : List ℕ). slice_get bs count ≡ Some b) same e in
      let read = first_read mirror.filters.items shape cells kept.mask.size k was.blocks was.chain.hold count in
      let within = slice_get_within was.blocks count b there in
      let long : length read.fs ≡ count = sym (length-map read.fs Some) ∙ (ap length (sym read.kept) ∙ (length-map (take count was.blocks) (λ (x : ℕ). get_or mirror.filters.items x None) ∙ length-take-le count was.blocks (omega arith))) in
      let own = held mirror.filters.items shape cells kept.mask.size k was.blocks was.chain.hold count b there in
      let link : Link = record { block = b; words = block_words shape cells b } in
      let filter_is : own.1.filter ≡ has.filter = cc (own.1.kept, has.kept) in record {
        front = read.fs;
        filter = own.1.filter;
        there = record {
          bucket = k;
          within = less;
          is_root = root;
          before = ap (λ (ls : List Link). read_all filter_in (take (length read.fs) ls)) named
              ∙ (ap (λ (n : ℕ). read_all filter_in (take n (links_of shape cells was.blocks))) long
              ∙ (ap (read_all filter_in) (take-map (λ (x : ℕ). record { block = x; words = block_words shape cells x }) count was.blocks) ∙ read.read));
          link = link;
          there = ap (λ (ls : List Link). slice_get ls (length read.fs)) named ∙ (ap (slice_get (links_of shape cells was.blocks)) long ∙ link_there shape cells was.blocks count b there);
          read = reads_as (block_words shape cells b) (own.1.filter, own.0) own.1.there;
          named = ap (λ (x : StoredFilter). x.handle) filter_is ∙ has.named;
        };
        counted = long;
        blocks_are = ap (map (λ (l : Link). l.block)) named ∙ (link_blocks shape cells was.blocks ∙ sym same);
      }

-- ---- what was found
module _ (roots : ℕ → Named) (mask : StoredMask) (handle place count : ℕ) (blocks : List ℕ) (found : IsFound roots mask handle place count blocks) where
  pub front_read : read_all filter_in (take count (roots (BUCKET_ROOTS + place)).chain) ≡ Some found.front
  front_read = ap (λ (n : ℕ). read_all filter_in (take n (roots (BUCKET_ROOTS + place)).chain)) (sym found.counted) ∙ found.there.before

  pub front_is : (front : List StoredFilter) → read_all filter_in (take count (roots (BUCKET_ROOTS + place)).chain) ≡ Some front → front ≡ found.front
  front_is front e = let both : Some front ≡ Some found.front = sym e ∙ front_read in cc both

  -- the blocks up to the filter's
  pub blocks_left : (left : List ℕ) → left ≡ take (count + 1) blocks → left ≡ map (λ (l : Link). l.block) (take (length found.front + 1) (roots (BUCKET_ROOTS + place)).chain)
  blocks_left left e = e ∙ ((λ t. take (sym found.counted t + 1) (sym found.blocks_are t)) ∙ take-map (λ (l : Link). l.block) (length found.front + 1) (roots (BUCKET_ROOTS + place)).chain)
