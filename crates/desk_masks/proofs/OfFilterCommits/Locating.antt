-- A mask that stands, in the law's terms: the rows of its buckets, and where one of its filters is.
use Rattle.std.proofs.Common.{◌≡◌, ◌∙◌, ℕ, suc, ◌+◌, ◌/◌, ◌%◌, ◌<◌, ◌≤◌, List, [], ◌∷◌, ◌++◌, length, map, take, drop, slice_get, Option, Some, None, refl, sym, ap, subst, arith}
use Rattle.std.specs.Prelude.{slice_index, All}
use Rattle.std.specs.List.{IsDistinct, AllByRecursion}
use Rattle.std.specs.Option.{option_map}
use Rattle.std.specs.Prelude.{eqb}
use Rattle.std.proofs.lemmas.List.{map-append}
use Rattle.std.proofs.lemmas.List.Elements.{All-take, All-from_recursion, recursion_from_All}
use Rattle.std.proofs.lemmas.Nat.{mod_below}
use Rattle.std.proofs.lemmas.Option.{slice_get-get_or}
use Rattle.std.proofs.Math.Seq.{take-append_seam}
use Rattle.store_history.specs.declared.history.Commit.{Commit}
use Rattle.store_history.specs.declared.history.Link.{Link}
use Rattle.store_history.specs.History.{root_of, first_block}
use Rattle.store_history.specs.Reads.{in_front, read_all, read_first}
use Rattle.store_history.specs.declared.places.TheConstants.{ROWS, POOL_BLOCKS}
use Rattle.pin_store.specs.declared.shape.Shape.{Shape}
use Rattle.flow_mask.specs.Hashes.{hash_of}
use Rattle.filter_state.specs.declared.edit.Edit.{Edit}
use Rattle.block_codec.specs.declared.filter.StoredFilter.{StoredFilter}
use Rattle.block_codec.specs.declared.mask.StoredMask.{StoredMask}
use Rattle.block_codec.specs.Blocks.{IsLink}
use Rattle.block_codec.specs.OfReadings.Read.{filter_in, mask_of_words}
use Rattle.mask_table.specs.Buckets.{bucket_root, bucket_for, bucket_of}
use Rattle.mask_table.proofs.Limits.{IsWithin, within}
use Rattle.mask_table.specs.declared.mirrors.mirror.KeptMask.{KeptMask}
use Rattle.mask_table.specs.OfMirrors.Changing.{FilterAt}
use Rattle.mask_table.specs.OfMirrors.Linked.{Placed, placed}
use Rattle.mask_table.proofs.OfMirrors.Forgetting.{link_blocks}
use Rattle.mask_order.specs.Fitting.{FitsBlock}
use Rattle.mask_order.proofs.ChainsRead.{Fits, read_split}
use Rattle.mask_order.proofs.Placing.{bucket_every}
use Rattle.mask_writer.specs.Masks.{Masks}
use Rattle.mask_writer.specs.Standing.{StandsAt, Holds, NamesChain, chain_at}
use Rattle.mask_writer.proofs.Standing as writer
use Rattle.hook_law.specs.Places.{mask_root}
use Rattle.hook_law.specs.Records.{StatedFilter}
use Rattle.hook_law.specs.Chains as chains
use Rattle.hook_law.specs.Meaning.{point_of}
use Rattle.hook_law.specs.Standing.{Region, IsIn, IsMaskAt, IsRowAt, region_of}
use Rattle.hook_store_law.specs.Stated.{filters_at}
use Rattle.hook_store_law.specs.Blocks.{mask_record, filter_record, hook_codec}
use Rattle.hook_store_law.specs.Told.{with_slots}
use Rattle.hook_store_law.proofs.Reading.{first_maps}
use Rattle.hook_store_law.specs.OfEdits.Premises.{now, HaveOthers}
use Rattle.desk_masks.specs.OfMaskResizes.Resized.{stored_now}
use Rattle.desk_masks.specs.Masks.{HasMasks}
use Rattle.desk_masks.specs.OfFilterCommits.Edits.{HasLater}
use Rattle.desk_masks.proofs.OfFilterCommits.Splitting.{IsAround, around_one, bucket_around, one_split, others_stored, bucket_count, stored_split, reads_at}
use Rattle.desk_masks.proofs.OfFilterCommits.Spending.{blocks_of, chain_blocks, chain_different, chain_small}

-- the row of a bucket
row_there : (mask : StoredMask) (k : ℕ) → IsWithin mask → k < mask.size → (slice_get mask.rows (k / 16) ≡ Some (slice_index mask.rows (k / 16))) × (slice_index mask.rows (k / 16) < ROWS)
row_there mask k is less = let rows = is.rows in let inside : k / 16 < length mask.rows = omega (arith, rows, less) in (slice_get-get_or mask.rows (k / 16) 0 inside, is.small (k / 16) 0 inside)

-- ---- filters put into given blocks
pub all_fit : (given : List ℕ) (fs : List StoredFilter) → AllByRecursion FitsBlock fs → ((place b : ℕ) → slice_get given place ≡ Some b → b < 4294967296) → AllByRecursion Fits (placed given fs)
all_fit [] fs fits low = tt
all_fit (b ∷ bs) [] fits low = tt
all_fit (b ∷ bs) (f ∷ fs) fits low = (record { filter = fits.0; low = low 0 b refl }, all_fit bs fs fits.1 (λ place c e. low (suc place) c e))

pub placed_filters : (given : List ℕ) (fs : List StoredFilter) → length fs ≤ length given → map (λ (p : Placed). p.filter) (placed given fs) ≡ fs
placed_filters [] [] enough = refl
placed_filters [] (f ∷ fs) enough = absurd (omega (arith, enough))
placed_filters (b ∷ bs) [] enough = refl
placed_filters (b ∷ bs) (f ∷ fs) enough = ap (λ (gs : List StoredFilter). f ∷ gs) (placed_filters bs fs (omega (arith, enough)))

-- ---- blocks that are read as records
in_front_maps : (o : Option StoredFilter) (os : Option (List StoredFilter)) → in_front (option_map filter_record o) (option_map (map filter_record) os) ≡ option_map (map filter_record) (in_front o os)
in_front_maps (Some x) (Some xs) = refl
in_front_maps (Some x) None = refl
in_front_maps None os = refl

all_records : (chain : List Link) → read_all hook_codec.filter chain ≡ option_map (map filter_record) (read_all filter_in chain)
all_records [] = refl
all_records (l ∷ ls) = ap (in_front (option_map filter_record (filter_in l.words))) (all_records ls) ∙ in_front_maps (filter_in l.words) (read_all filter_in ls)

-- chains that read as the same filters read as the same records
pub same_records : (one two : List Link) (fs : List StoredFilter) → read_all filter_in one ≡ Some fs → read_all filter_in two ≡ Some fs → read_all hook_codec.filter one ≡ read_all hook_codec.filter two
same_records one two fs e d = all_records one ∙ (ap (option_map (map filter_record)) (e ∙ sym d) ∙ sym (all_records two))

module _ (h : List (Commit Edit)) (masks : Masks) (shape : Shape) (cells : List ℕ) (has : HasMasks masks shape cells h) (slot : ℕ) (kept : KeptMask) (stands : StandsAt masks slot kept) where
  abbrev serial : ℕ
  serial = kept.mask.serial

  abbrev size : ℕ
  size = kept.mask.size

  pub at_slot : IsMaskAt hook_codec h serial slot
  at_slot = has.only slot kept stands

  -- a mask that the heads name at the slot is this one
  pub own_serial : (mask : ℕ) → IsMaskAt hook_codec h mask slot → serial ≡ mask
  own_serial mask at = let it = has.has mask slot at in sym (ap (λ (x : KeptMask). x.mask.serial) (writer.one_mask masks slot it.kept kept it.stands stands)) ∙ it.serial

  pub holds : Holds masks slot (point_of h) (stored_now h serial)
  holds = (has.has serial slot at_slot).holds

  reads : read_first mask_of_words (root_of h (mask_root slot)).chain ≡ Some kept.mask
  reads = writer.record_read masks shape cells (root_of h) has.named slot kept stands

  limits : IsWithin kept.mask
  limits = within (root_of h (mask_root slot)).chain kept.mask reads

  pub home_less : (key : List ℕ) → bucket_for size key < size
  home_less key = mod_below (hash_of key) size limits.some

  abbrev pub region : Region
  region = region_of slot serial (root_of h (mask_root slot)).stamp (mask_record kept.mask)

  abbrev pub row : ℕ → ℕ
  row k = slice_index kept.mask.rows (k / 16)

  pub row_at : (k : ℕ) → k < size → IsRowAt hook_codec h region k (row k)
  row_at k less = record {
    mask = mask_record kept.mask;
    at_mask = at_slot;
    read = first_maps mask_record mask_of_words (root_of h (mask_root slot)).chain kept.mask reads;
    stamped = refl;
    sized = refl;
    inside = less;
    there = (row_there kept.mask k limits less).0;
    small = (row_there kept.mask k limits less).1;
  }

  pub link_at : (k place : ℕ) → k < size → IsLink (first_block (drop place (root_of h (bucket_root kept.mask k)).chain))
  link_at k place less = writer.chain_link masks shape cells (root_of h) has.named slot kept stands k place less

  pub bucket_reads : (k : ℕ) → k < size → read_all filter_in (root_of h (bucket_root kept.mask k)).chain ≡ Some (bucket_of size k (stored_now h serial))
  bucket_reads k less = writer.bucket_read masks shape cells (root_of h) has.named slot kept stands (point_of h) (stored_now h serial) holds k less

  -- ---- the blocks of a bucket's chain
  names_chain : (k : ℕ) → k < size → NamesChain shape cells (root_of h) (bucket_root kept.mask k) size k (chain_at masks slot k)
  names_chain k less = writer.chain_named masks shape cells (root_of h) has.named slot kept stands k less

  chain_is : (k : ℕ) → k < size → blocks_of (chain_at masks slot k) ≡ chain_blocks (root_of h (bucket_root kept.mask k)).chain
  chain_is k less = sym (ap chain_blocks (names_chain k less).named ∙ link_blocks shape cells (blocks_of (chain_at masks slot k)))

  pub different_at : (k : ℕ) → k < size → IsDistinct eqb (chain_blocks (root_of h (bucket_root kept.mask k)).chain)
  different_at k less = subst (IsDistinct eqb) (chain_is k less) (chain_different shape cells size k (chain_at masks slot k) (names_chain k less).filed)

  pub small_at : (k : ℕ) → k < size → (x : ℕ) → IsIn x (chain_blocks (root_of h (bucket_root kept.mask k)).chain) → x < POOL_BLOCKS
  small_at k less x at = chain_small shape cells size k (chain_at masks slot k) (names_chain k less).filed x (subst (λ (l : List ℕ). IsIn x l) (sym (chain_is k less)) at)

  -- ---- a filter that is found, which has its handle alone
  module _ (handle : ℕ) (earlier : List StatedFilter) (filter : StatedFilter) (later : List StatedFilter) (whole : filters_at (now h) serial ≡ earlier ++ filter ∷ later)
      (front_others : HaveOthers handle earlier) (back_others : HaveOthers handle later) where
    abbrev stored : List StatedFilter → List StoredFilter
    stored fs = map (with_slots h) fs

    stored_whole : stored_now h serial ≡ stored earlier ++ with_slots h filter ∷ stored later
    stored_whole = ap (map (with_slots h)) whole ∙ map-append (with_slots h) earlier (filter ∷ later)

    -- wherever there is one with the handle, it is this one
    pub this_one : (xs : List StoredFilter) (x : StoredFilter) (ys : List StoredFilter) → stored_now h serial ≡ xs ++ x ∷ ys → x.handle ≡ handle → (stored earlier ≡ xs) × (with_slots h filter ≡ x) × (stored later ≡ ys)
    this_one xs x ys e named = one_split handle (stored earlier) (with_slots h filter) (stored later) xs x ys (sym stored_whole ∙ e) named (others_stored h handle earlier front_others) (others_stored h handle later back_others)

    module _ (root : ℕ) (front : List StoredFilter) (old : StoredFilter) (at : FilterAt (root_of h) kept.mask handle root front old) where
      chain_reads : read_all filter_in (root_of h root).chain ≡ Some (bucket_of size at.bucket (stored_now h serial))
      chain_reads = ap (λ (r : ℕ). read_all filter_in (root_of h r).chain) at.is_root ∙ bucket_reads at.bucket at.within

      parts : (behind : List StoredFilter) × (bucket_of size at.bucket (stored_now h serial) ≡ front ++ old ∷ behind)
      parts = read_split filter_in (root_of h root).chain front at.link old (bucket_of size at.bucket (stored_now h serial)) at.before at.there at.read chain_reads

      around : IsAround size at.bucket (stored_now h serial) front old parts.0
      around = around_one size at.bucket (stored_now h serial) front old parts.0 parts.1

      same : (stored earlier ≡ around.earlier) × (with_slots h filter ≡ old) × (stored later ≡ around.later)
      same = this_one around.earlier old around.later around.whole at.named

      pub found_home : hash_of filter.key % size ≡ at.bucket
      found_home = ap (λ (f : StoredFilter). bucket_for size f.key.words) same.1 ∙ around.home

      pub found_front : bucket_of size at.bucket (stored later) ≡ front
      found_front = ap (bucket_of size at.bucket) same.2 ∙ around.before

      pub found_count : length front ≡ length (chains.bucket_of hash_of size at.bucket later)
      found_count = sym (ap length found_front) ∙ bucket_count h size at.bucket later

      -- the filters in front fit into blocks
      pub front_fits : All FitsBlock front
      front_fits = let every = All-from_recursion FitsBlock (bucket_of size at.bucket (stored_now h serial)) (bucket_every FitsBlock size at.bucket (stored_now h serial)
          (recursion_from_All FitsBlock (stored_now h serial) (writer.filters_fit masks shape cells (root_of h) has.named slot kept stands (point_of h) (stored_now h serial) holds))) in
          subst (All FitsBlock) (ap (take (length front)) parts.1 ∙ take-append_seam front (old ∷ parts.0)) (All-take FitsBlock (length front) (bucket_of size at.bucket (stored_now h serial)) every)

      -- what is behind it can be linked to
      pub link_behind : IsLink (first_block (drop (length front + 1) (root_of h root).chain))
      link_behind = subst (λ (r : ℕ). IsLink (first_block (drop (length front + 1) (root_of h r).chain))) (sym at.is_root) (link_at at.bucket (length front + 1) at.within)

      -- so many later ones there are
      pub later_count : (count : ℕ) → HasLater size handle (filters_at (now h) serial) count → length front ≡ count
      later_count count l = let split = ap (map (with_slots h)) l.whole ∙ map-append (with_slots h) l.earlier (l.filter ∷ l.later) in
          let s = this_one (stored l.earlier) (with_slots h l.filter) (stored l.later) split l.named in
          let home : hash_of l.filter.key % size ≡ at.bucket = ap (λ (f : StoredFilter). bucket_for size f.key.words) (sym s.1) ∙ found_home in
          sym (ap length found_front) ∙ (ap (λ (fs : List StoredFilter). length (bucket_of size at.bucket fs)) s.2 ∙ (bucket_count h size at.bucket l.later
          ∙ (ap (λ (k : ℕ). length (chains.bucket_of hash_of size k l.later)) (sym home) ∙ sym l.count_is)))

  -- ---- a filter of the mask is found in its bucket
  module _ (handle count : ℕ) (l : HasLater size handle (filters_at (now h) serial) count) where
    abbrev pub home : ℕ
    home = hash_of l.filter.key % size

    abbrev pub in_front_of : List StoredFilter
    in_front_of = bucket_of size home (map (with_slots h) l.later)

    less : home < size
    less = mod_below (hash_of l.filter.key) size limits.some

    its_bucket : bucket_of size home (stored_now h serial) ≡ in_front_of ++ with_slots h l.filter ∷ bucket_of size home (map (with_slots h) l.earlier)
    its_bucket = ap (bucket_of size home) (ap (map (with_slots h)) l.whole ∙ map-append (with_slots h) l.earlier (l.filter ∷ l.later))
        ∙ bucket_around size home (map (with_slots h) l.earlier) (with_slots h l.filter) (map (with_slots h) l.later) refl

    there_it_is : slice_get (bucket_of size home (stored_now h serial)) (length in_front_of) ≡ Some (with_slots h l.filter)
    there_it_is = ap (λ (fs : List StoredFilter). slice_get fs (length in_front_of)) its_bucket ∙ behind in_front_of
      where
        behind : (fs : List StoredFilter) → slice_get (fs ++ with_slots h l.filter ∷ bucket_of size home (map (with_slots h) l.earlier)) (length fs) ≡ Some (with_slots h l.filter)
        behind [] = refl
        behind (f ∷ fs) = behind fs

    pub later_there : FilterAt (root_of h) kept.mask handle (bucket_root kept.mask home) in_front_of (with_slots h l.filter)
    later_there = let r = reads_at (root_of h (bucket_root kept.mask home)).chain (bucket_of size home (stored_now h serial)) (length in_front_of) (with_slots h l.filter) (bucket_reads home less) there_it_is in record {
      bucket = home;
      within = less;
      is_root = refl;
      before = r.before ∙ ap Some (ap (take (length in_front_of)) its_bucket ∙ take-append_seam in_front_of (with_slots h l.filter ∷ bucket_of size home (map (with_slots h) l.earlier)));
      link = r.link;
      there = r.there;
      read = r.read;
      named = l.named;
    }

  -- what is found in a bucket has so many later ones
  pub found_later : (handle root : ℕ) (front : List StoredFilter) (old : StoredFilter) → FilterAt (root_of h) kept.mask handle root front old → HasLater size handle (filters_at (now h) serial) (length front)
  found_later handle root front old at =
      let reads_so = ap (λ (r : ℕ). read_all filter_in (root_of h r).chain) at.is_root ∙ bucket_reads at.bucket at.within in
      let parts = read_split filter_in (root_of h root).chain front at.link old (bucket_of size at.bucket (stored_now h serial)) at.before at.there at.read reads_so in
      let around = around_one size at.bucket (stored_now h serial) front old parts.0 parts.1 in
      let s = stored_split h (filters_at (now h) serial) around.earlier old around.later around.whole in
      let home : hash_of s.filter.key % size ≡ at.bucket = ap (λ (f : StoredFilter). bucket_for size f.key.words) s.one ∙ around.home in record {
        earlier = s.earlier;
        filter = s.filter;
        later = s.later;
        whole = s.whole;
        named = ap (λ (f : StoredFilter). f.handle) s.one ∙ at.named;
        count_is = sym (ap length around.before) ∙ (ap (λ (fs : List StoredFilter). length (bucket_of size at.bucket fs)) (sym s.back) ∙ (bucket_count h size at.bucket s.later
            ∙ ap (λ (k : ℕ). length (chains.bucket_of hash_of size k s.later)) (sym home)));
      }
