-- A filter in front of a bucket's chain: the chain may be named, and the commit that names it is that of an
-- insertion.
use Rattle.std.proofs.Common.{◌≡◌, ◌≢◌, ◌∙◌, ℕ, zero, suc, ◌+◌, ◌<◌, Bool, if◌then◌else◌, List, [], ◌∷◌, ◌++◌, map, get_or, slice_get, Option, Some, None, refl, sym, ap, subst, arith, get_or-set_same, eq-eqb}
use Rattle.std.proofs.lemmas.Bool.{ne_eqb}
use Rattle.std.proofs.lemmas.List.{map-append}
use Rattle.std.proofs.lemmas.Nat.{mod_below}
use Rattle.flow_mask.specs.Hashes.{hash_of}
use Rattle.store_history.specs.declared.history.Commit.{Commit}
use Rattle.store_history.specs.History.{root_of, first_block}
use Rattle.store_history.specs.declared.places.TheConstants.{BUCKET_ROOTS, BUCKETS}
use Rattle.pin_store.specs.declared.shape.Shape.{Shape}
use Rattle.pin_store.specs.Layout.{block_words, links_of, commit_of, block_in}
use Rattle.block_codec.specs.declared.filter.StoredFilter.{StoredFilter}
use Rattle.block_codec.specs.declared.mask.StoredMask.{StoredMask}
use Rattle.block_codec.specs.Blocks.{block}
use Rattle.block_codec.specs.Filters.{filter_words, IsFilterBlock}
use Rattle.block_codec.specs.Masks.{IsStorableMask}
use Rattle.mask_table.specs.Buckets.{bucket_root, bucket_for}
use Rattle.mask_table.specs.declared.mirrors.mirror.Mirror.{Mirror}
use Rattle.mask_table.specs.declared.mirrors.mirror.KeptMask.{KeptMask}
use Rattle.mask_table.specs.OfMirrors.Kept.{bucket_at, Stands, Spells, HoldsChain, BucketAt, Names, KeepsBucket, IsKept, AreOwn}
use Rattle.mask_table.specs.OfMirrors.Changes.{IsFilled, IsRenamed}
use Rattle.mask_table.specs.OfMirrors.Lists.{Dated, age_of, Rises, kept_in, kept_as, dated_in, HasFilters}
use Rattle.mask_table.specs.OfMirrors.Changing.{root_for, insert_at}
use Rattle.mask_table.proofs.OfMirrors.Spelling.{same_blocks}
use Rattle.mask_table.proofs.OfMirrors.Chains.{first_spelled, first_link_of, spelled_low, links_same, spells_same}
use Rattle.mask_table.proofs.OfMirrors.Keeping.{at_root, names_each, bucket_with, same_kept, some_buckets}
use Rattle.mask_table.proofs.OfMirrors.Lasting.{SameChain, kept_same, chain_renamed, lists_renamed, has_rewritten}
use Rattle.mask_table.proofs.OfMirrors.Dates.{dated_append, rises_append}

module _ {E : Type 0} (mirror mirror2 : Mirror) (shape : Shape) (old new : List ℕ) (h : List (Commit E)) (slot b : ℕ) (kept : KeptMask) (filter : StoredFilter) (place next : ℕ)
    (keeps : IsKept mirror shape old (root_of h)) (stands : Stands mirror slot kept) (free : (root : ℕ) → Names (root_of h) root b → ⊥)
    (at : place ≡ bucket_at kept.mask (bucket_for kept.mask.size filter.key.words)) (was : next ≡ get_or mirror.first.items place 0) (filled : IsFilled mirror mirror2 shape old new b) where
  abbrev storable : IsStorableMask kept.mask
  storable = (keeps.masks slot kept stands).there.storable

  abbrev own : BucketAt mirror (BUCKET_ROOTS + place)
  own = record {
    slot = slot;
    bucket = bucket_for kept.mask.size filter.key.words;
    kept = kept;
    stands = stands;
    within = mod_below (hash_of filter.key.words) kept.mask.size (some_buckets kept.mask storable);
    same = ap (λ (k : ℕ). BUCKET_ROOTS + k) at ∙ sym (at_root kept.mask (bucket_for kept.mask.size filter.key.words));
  }

  abbrev before : KeepsBucket mirror shape old (root_of h) kept.mask (bucket_for kept.mask.size filter.key.words)
  before = keeps.buckets (BUCKET_ROOTS + place) own

  old_chain : HoldsChain mirror shape old kept.mask.size (bucket_for kept.mask.size filter.key.words) next before.blocks
  old_chain = subst (λ (k : ℕ). HoldsChain mirror shape old kept.mask.size (bucket_for kept.mask.size filter.key.words) k before.blocks) (sym (was ∙ ap (λ (k : ℕ). get_or mirror.first.items k 0) at)) before.chain

  named : (root_of h (BUCKET_ROOTS + place)).chain ≡ links_of shape old before.blocks
  named = ap (λ (k : ℕ). (root_of h k).chain) own.same ∙ before.named

  apart : (k c : ℕ) → slice_get before.blocks k ≡ Some c → c ≢ b
  apart k c e is = free (BUCKET_ROOTS + place) (subst (Names (root_of h) (BUCKET_ROOTS + place)) is (names_each (root_of h) (BUCKET_ROOTS + place) shape old before.blocks named k c e))

  own_new : BucketAt mirror2 (BUCKET_ROOTS + place)
  own_new = bucket_with mirror2 mirror (BUCKET_ROOTS + place) (sym filled.slots) own

  are_own : AreOwn mirror2 (root_of h) (BUCKET_ROOTS + place) (b ∷ before.blocks)
  are_own zero c other e there names = let is : b ≡ c = cc in absurd (free other (subst (Names (root_of h) other) (sym is) names))
  are_own (suc k) c other e there names = keeps.once other (BUCKET_ROOTS + place) c (bucket_with mirror mirror2 other filled.slots there) own names (names_each (root_of h) (BUCKET_ROOTS + place) shape old before.blocks named k c e)

  -- what the filling says of any chain
  abbrev Extends : Type 0
  Extends = (size : ℕ) (blocks : List ℕ) → ((k c : ℕ) → slice_get blocks k ≡ Some c → c ≢ b) → HoldsChain mirror shape old size (bucket_for size filter.key.words) next blocks
      → HoldsChain mirror2 shape new size (bucket_for size filter.key.words) (b + 1) (b ∷ blocks)

  pub chain_ready : Extends → (own2 : BucketAt mirror2 (BUCKET_ROOTS + place)) × (blocks : List ℕ) × HoldsChain mirror2 shape new own2.kept.mask.size own2.bucket (b + 1) blocks × AreOwn mirror2 (root_of h) (BUCKET_ROOTS + place) blocks
  unfolding own_new
  chain_ready more = (own_new, b ∷ before.blocks, more kept.mask.size before.blocks apart old_chain, are_own)

  -- the links are those of the insertion
  links_new : IsFilterBlock (block_words shape new b) (filter, block_in next)
      → links_of shape new (b ∷ before.blocks) ≡ record { block = b; words = block (filter_words filter) (first_block (root_of h (BUCKET_ROOTS + place)).chain) } ∷ (root_of h (BUCKET_ROOTS + place)).chain
  links_new there =
      let link : block_in next ≡ first_block (root_of h (BUCKET_ROOTS + place)).chain = ap block_in (first_spelled mirror.next.items next before.blocks old_chain.spelled) ∙ (first_link_of shape old before.blocks ∙ ap first_block (sym named)) in
      let words = there.words_are ∙ ap (block (filter_words filter)) link in
      let rest = links_same shape old new before.blocks (λ k c e. let low = spelled_low mirror.next.items next before.blocks old_chain.spelled k c e in let wide = filled.wide in filled.others c (apart k c e) (omega arith)) ∙ sym named in
      λ t. record { block = b; words = words t } ∷ rest t

  pub commit_is : IsFilterBlock (block_words shape new b) (filter, block_in next) → Extends → (blocks : List ℕ) → Spells mirror2.next.items (b + 1) blocks → (number : ℕ) (edit : E) → commit_of shape new (BUCKET_ROOTS + place) blocks number (Some number) edit ≡ insert_at h (root_for kept.mask filter) b filter number edit
  commit_is there more blocks s number edit =
      let is = same_blocks mirror2.next.items (b + 1) (b + 1) blocks (b ∷ before.blocks) refl s (more kept.mask.size before.blocks apart old_chain).spelled in
      let links = ap (links_of shape new) is ∙ links_new there in
      (λ t. record { root = BUCKET_ROOTS + place; named = record { chain = links t; stamp = number }; edit = Some (number, edit) }) ∙ ap (λ (r : ℕ). insert_at h r b filter number edit) own.same

  -- the mask's filters, once the chain is named as well
  module _ (age edit : ℕ) (mirror3 : Mirror) (renamed : IsRenamed mirror2 mirror3 place (b + 1)) (keeps2 : IsKept mirror2 shape new (root_of h)) (low : place < BUCKETS)
      (dated : kept_in mirror2 b ≡ (age, Some filter)) (age_is : age ≡ age_of edit 0) (lists : (other last : ℕ) (fs : List StoredFilter) → HasFilters mirror other last fs → HasFilters mirror2 other last fs) where
    pub others_have : (other last : ℕ) (fs : List StoredFilter) → other ≢ slot → HasFilters mirror other last fs → HasFilters mirror3 other last fs
    unfolding own_new
    others_have other last fs away has = lists_renamed mirror2 mirror3 place (b + 1) renamed shape new (root_of h) keeps2 own_new other last fs away (lists other last fs has)

    abbrev newest : Dated
    newest = record { age = age; filter = filter }

    in_other : (size bucket other : ℕ) (ds : List Dated) → bucket_for size filter.key.words ≡ bucket → other ≢ bucket → dated_in size other (ds ++ newest ∷ []) ≡ dated_in size other ds
    in_other size bucket other ds is away = dated_append size other ds (newest ∷ [])
        ∙ ap (λ (t : Bool). (if t then kept_as newest ∷ [] else []) ++ dated_in size other ds) (ne_eqb (bucket_for size filter.key.words) other (λ e. away (sym e ∙ is)))

    in_own : (size : ℕ) (ds : List Dated) → dated_in size (bucket_for size filter.key.words) (ds ++ newest ∷ []) ≡ kept_as newest ∷ dated_in size (bucket_for size filter.key.words) ds
    in_own size ds = let bucket = bucket_for size filter.key.words in dated_append size bucket ds (newest ∷ [])
        ∙ ap (λ (t : Bool). (if t then kept_as newest ∷ [] else []) ++ dated_in size bucket ds) (eq-eqb bucket bucket refl)

    module _ (more : Extends) (last : ℕ) (fs : List StoredFilter) (has2 : HasFilters mirror2 slot last fs) (later : last < edit) where
      abbrev mask : StoredMask
      mask = has2.kept.mask

      abbrev bucket : ℕ
      bucket = bucket_for mask.size filter.key.words

      same : kept.mask ≡ mask
      same = ap (λ (m : KeptMask). m.mask) (same_kept mirror2 slot slot kept has2.kept refl (ap (λ (xs : List (Option KeptMask)). get_or xs slot None) filled.slots ∙ stands) has2.stands)

      at2 : place ≡ bucket_at mask bucket
      at2 = subst (λ (m : StoredMask). place ≡ bucket_at m (bucket_for m.size filter.key.words)) same at

      less : bucket < mask.size
      less = subst (λ (m : StoredMask). bucket_for m.size filter.key.words < m.size) same own.within

      abbrev own2 : BucketAt mirror2 (BUCKET_ROOTS + place)
      own2 = record { slot = slot; bucket = bucket; kept = has2.kept; stands = has2.stands; within = less; same = ap (λ (k : ℕ). BUCKET_ROOTS + k) at2 ∙ sym (at_root mask bucket) }

      spelled2 : Spells mirror2.next.items next before.blocks
      spelled2 = spells_same mirror.next.items mirror2.next.items next before.blocks (λ k c e. filled.next c (apart k c e)) old_chain.spelled

      first2 : next ≡ get_or mirror2.first.items (bucket_at mask bucket) 0
      first2 = was ∙ (ap (λ (xs : List ℕ). get_or xs place 0) (sym filled.first) ∙ ap (λ (k : ℕ). get_or mirror2.first.items k 0) at2)

      stands3 : Stands mirror3 slot has2.kept
      stands3 = ap (λ (xs : List (Option KeptMask)). get_or xs slot None) renamed.slots ∙ has2.stands

      first3 : get_or mirror3.first.items (bucket_at mask bucket) 0 ≡ b + 1
      first3 = let long = mirror2.first_long in ap (λ (k : ℕ). get_or mirror3.first.items k 0) (sym at2)
          ∙ (ap (λ (xs : List ℕ). get_or xs place 0) renamed.first ∙ get_or-set_same mirror2.first.items place (b + 1) 0 (omega arith))

      spelled3 : Spells mirror3.next.items (get_or mirror3.first.items (bucket_at mask bucket) 0) (b ∷ before.blocks)
      spelled3 = subst (λ (k : ℕ). Spells mirror3.next.items k (b ∷ before.blocks)) (sym first3)
          (subst (λ (xs : List ℕ). Spells xs (b + 1) (b ∷ before.blocks)) (sym renamed.next) (more kept.mask.size before.blocks apart old_chain).spelled)

      kept_still : (c : ℕ) → kept_in mirror3 c ≡ kept_in mirror2 c
      kept_still c t = (get_or (renamed.ages t) c 0, get_or (renamed.filters t) c None)

      own3 : map (kept_in mirror3) (b ∷ before.blocks) ≡ dated_in mask.size bucket (has2.dated ++ newest ∷ [])
      own3 = kept_same mirror2 mirror3 (b ∷ before.blocks) (λ k c e. kept_still c)
          ∙ ((λ t. dated t ∷ has2.buckets bucket before.blocks less (subst (λ (k : ℕ). Spells mirror2.next.items k before.blocks) first2 spelled2) t)
          ∙ sym (in_own mask.size has2.dated))

      others3 : (other : ℕ) → other ≢ bucket → other < mask.size → SameChain mirror2 mirror3 (bucket_at mask other)
      others3 other away inside = let this = bucket_root mask other in
          chain_renamed mirror2 mirror3 place (b + 1) renamed shape new (root_of h) keeps2 this (record { slot = slot; bucket = other; kept = has2.kept; stands = has2.stands; within = inside; same = refl })
          (λ e. away (keeps2.apart (BUCKET_ROOTS + place) (record { slot = slot; bucket = other; kept = has2.kept; stands = has2.stands; within = inside; same = sym e }) own2).1)

      rise3 : Rises 0 (age_of (edit + 1) 0) (has2.dated ++ newest ∷ [])
      rise3 = rises_append 0 (age_of (last + 1) 0) (age_of (edit + 1) 0) has2.dated (newest ∷ []) has2.rise (omega (arith, age_is), omega (arith, age_is))

      list : map (λ (d : Dated). d.filter) (has2.dated ++ newest ∷ []) ≡ fs ++ filter ∷ []
      list = map-append (λ (d : Dated). d.filter) has2.dated (newest ∷ []) ∙ ap (λ (xs : List StoredFilter). xs ++ filter ∷ []) has2.filters

      longer : HasFilters mirror3 slot edit (map (λ (d : Dated). d.filter) (has2.dated ++ newest ∷ []))
      longer = has_rewritten mirror2 mirror3 slot last edit fs has2 (has2.dated ++ newest ∷ []) bucket (b ∷ before.blocks) stands3 spelled3 own3 others3 (λ other away. in_other mask.size bucket other has2.dated refl away) rise3

    pub mask_has : Extends → (last : ℕ) (fs : List StoredFilter) → HasFilters mirror slot last fs → last < edit → HasFilters mirror3 slot edit (fs ++ filter ∷ [])
    mask_has more last fs has later = let has2 = lists slot last fs has in
        subst (HasFilters mirror3 slot edit) (list more last fs has2 later) (longer more last fs has2 later)
