-- The blocks of all buckets of a mask are those of its filters, in some order.
use Rattle.std.proofs.Common.{◌≡◌, ◌∙◌, ⊎_elim, ℕ, zero, suc, ◌+◌, ◌<◌, ◌≤◌, Bool, true, false, cond, eqb, List, [], ◌∷◌, ◌++◌, length, map, get_or, Option, refl, sym, ap, subst, arith, append_assoc, append-nil, eq-eqb, ne_eqb}
use Rattle.std.specs.List.{AllByRecursion, All}
use Rattle.std.specs.List.Sorted.{IsPermutation}
use Rattle.std.proofs.lemmas.Bool.{cases_lt}
use Rattle.std.proofs.lemmas.List.{map-append, length-map}
use Rattle.std.proofs.lemmas.List.Elements.{All-append, All-nil, All-from_recursion}
use Rattle.std.proofs.lemmas.List.Sorted.{IsPermutation-refl, IsPermutation-trans, IsPermutation-cons, IsPermutation-append_left, IsPermutation-to_front, length_permutation}
use Rattle.store_history.specs.declared.history.Named.{Named}
use Rattle.store_history.specs.declared.places.TheConstants.{POOL_BLOCKS}
use Rattle.pin_store.specs.declared.shape.Shape.{Shape}
use Rattle.block_codec.specs.declared.filter.StoredFilter.{StoredFilter}
use Rattle.block_codec.specs.declared.mask.StoredMask.{StoredMask}
use Rattle.block_codec.specs.Masks.{IsStorableMask}
use Rattle.mask_table.specs.Buckets.{bucket_for}
use Rattle.mask_table.specs.declared.mirrors.mirror.Mirror.{Mirror}
use Rattle.mask_table.specs.declared.mirrors.mirror.KeptMask.{KeptMask}
use Rattle.mask_table.specs.OfMirrors.Kept.{bucket_at, Stands, Spells, IsKept}
use Rattle.mask_table.specs.OfMirrors.Lists.{Dated, kept_as, kept_in, dated_in, HasFilters}
use Rattle.mask_table.specs.OfMirrors.Forgetting.{bucket_blocks}
use Rattle.mask_table.proofs.OfMirrors.Keeping.{same_kept, some_buckets}
use Rattle.mask_table.proofs.OfMirrors.Forgetting.{bucket, blocks_more}

-- ---- what is to be kept of so many first buckets
abbrev dated_to : ℕ → ℕ → List Dated → List (ℕ × Option StoredFilter)
dated_to size zero ds = []
dated_to size (suc k) ds = dated_to size k ds ++ dated_in size k ds

-- one filter more is in none of them where its bucket comes later
none_more : (size k : ℕ) (d : Dated) (ds : List Dated) → k ≤ bucket_for size d.filter.key.words → dated_to size k (d ∷ ds) ≡ dated_to size k ds
none_more size zero d ds late = refl
none_more size (suc k) d ds late = let before = none_more size k d ds (omega arith) in
    let other : eqb (bucket_for size d.filter.key.words) k ≡ false = ne_eqb (bucket_for size d.filter.key.words) k (λ e. absurd (omega (arith, e))) in
    let own = ap (λ (b : Bool). dated_in size k ds ++ cond b (kept_as d ∷ []) []) other ∙ append-nil (dated_in size k ds) in
    λ t. before t ++ own t

-- and otherwise once
one_more : (size k : ℕ) (d : Dated) (ds : List Dated) → bucket_for size d.filter.key.words < k → IsPermutation (dated_to size k (d ∷ ds)) (kept_as d ∷ dated_to size k ds)
one_more size zero d ds early = absurd (omega arith)
one_more size (suc k) d ds early = ⊎_elim (λ less. before_it less (one_more size k d ds less)) its_own (cases_lt (bucket_for size d.filter.key.words) k)
  where
    with_test : (b : Bool) → eqb (bucket_for size d.filter.key.words) k ≡ b → dated_in size k (d ∷ ds) ≡ dated_in size k ds ++ cond b (kept_as d ∷ []) []
    with_test b e = ap (λ (c : Bool). dated_in size k ds ++ cond c (kept_as d ∷ []) []) e

    before_it : bucket_for size d.filter.key.words < k → IsPermutation (dated_to size k (d ∷ ds)) (kept_as d ∷ dated_to size k ds) → IsPermutation (dated_to size k (d ∷ ds) ++ dated_in size k (d ∷ ds)) (kept_as d ∷ (dated_to size k ds ++ dated_in size k ds))
    before_it less rest = let own = with_test false (ne_eqb (bucket_for size d.filter.key.words) k (λ e. absurd (omega (arith, e)))) ∙ append-nil (dated_in size k ds) in
        subst (λ (part : List (ℕ × Option StoredFilter)). IsPermutation (dated_to size k (d ∷ ds) ++ part) (kept_as d ∷ (dated_to size k ds ++ dated_in size k ds))) (sym own)
        (IsPermutation-append_left (dated_in size k ds) (dated_to size k (d ∷ ds)) (kept_as d ∷ dated_to size k ds) rest)

    its_own : k ≤ bucket_for size d.filter.key.words → IsPermutation (dated_to size k (d ∷ ds) ++ dated_in size k (d ∷ ds)) (kept_as d ∷ (dated_to size k ds ++ dated_in size k ds))
    its_own late = let own = with_test true (eq-eqb (bucket_for size d.filter.key.words) k (omega arith)) in let before = none_more size k d ds late in
        let whole : dated_to size k (d ∷ ds) ++ dated_in size k (d ∷ ds) ≡ (dated_to size k ds ++ dated_in size k ds) ++ kept_as d ∷ [] = (λ t. before t ++ own t) ∙ sym (append_assoc (dated_to size k ds) (dated_in size k ds) (kept_as d ∷ [])) in
        subst (λ (all : List (ℕ × Option StoredFilter)). IsPermutation all (kept_as d ∷ (dated_to size k ds ++ dated_in size k ds))) (sym whole) (IsPermutation-to_front (dated_to size k ds ++ dated_in size k ds) (kept_as d))

none_to : (size k : ℕ) → dated_to size k [] ≡ []
none_to size zero = refl
none_to size (suc k) = ap (λ (xs : List (ℕ × Option StoredFilter)). xs ++ []) (none_to size k)

-- so all buckets have each filter once
all_once : (size : ℕ) → 0 < size → (ds : List Dated) → IsPermutation (dated_to size size ds) (map kept_as ds)
all_once size some [] = subst (λ (xs : List (ℕ × Option StoredFilter)). IsPermutation xs []) (sym (none_to size size)) (IsPermutation-refl [])
all_once size some (d ∷ ds) = IsPermutation-trans (dated_to size size (d ∷ ds)) (kept_as d ∷ dated_to size size ds) (map kept_as (d ∷ ds))
    (one_more size size d ds (omega arith)) (IsPermutation-cons (kept_as d) (dated_to size size ds) (map kept_as ds) (all_once size some ds))

-- ---- the blocks
low_blocks : (next : List ℕ) (number : ℕ) (bs : List ℕ) → Spells next number bs → AllByRecursion (λ b. b < POOL_BLOCKS) bs
low_blocks next number [] s = tt
low_blocks next number (b ∷ bs) s = (s.1, low_blocks next (get_or next b 0) bs s.2)

module _ (mirror : Mirror) (shape : Shape) (cells : List ℕ) (roots : ℕ → Named) (slot : ℕ) (kept : KeptMask) (stands : Stands mirror slot kept) (keeps : IsKept mirror shape cells roots) where
  one_suc : (k : ℕ) (less : k < kept.mask.size) → bucket_blocks roots kept.mask (suc k) ≡ bucket_blocks roots kept.mask k ++ (bucket mirror shape cells roots slot kept stands keeps k less).blocks
  one_suc k less = let more : suc k ≡ k + 1 = omega arith in ap (bucket_blocks roots kept.mask) more ∙ blocks_more mirror shape cells roots slot kept stands keeps k less

  -- what holds of the blocks of each bucket
  pub all_to : (P : ℕ → Type 0) → ((k : ℕ) (less : k < kept.mask.size) → All P (bucket mirror shape cells roots slot kept stands keeps k less).blocks) → (k : ℕ) → k ≤ kept.mask.size → All P (bucket_blocks roots kept.mask k)
  all_to P each zero low = All-nil P
  all_to P each (suc k) low = let less : k < kept.mask.size = omega arith in
      subst (All P) (sym (one_suc k less)) (All-append P (bucket_blocks roots kept.mask k) (bucket mirror shape cells roots slot kept stands keeps k less).blocks (all_to P each k (omega arith)) (each k less))

  -- each block of the mask is one of the pool
  pub all_low : All (λ b. b < POOL_BLOCKS) (bucket_blocks roots kept.mask kept.mask.size)
  all_low = all_to (λ b. b < POOL_BLOCKS) (λ k less. let own = bucket mirror shape cells roots slot kept stands keeps k less in
      All-from_recursion (λ b. b < POOL_BLOCKS) own.blocks (low_blocks mirror.next.items _ own.blocks own.chain.spelled)) kept.mask.size (omega arith)

  module _ (last : ℕ) (fs : List StoredFilter) (has : HasFilters mirror slot last fs) where
    -- each chain has what is to be kept of its bucket
    abbrev AreIn : KeptMask → Type 0
    AreIn m = (k : ℕ) (bs : List ℕ) → k < m.mask.size → Spells mirror.next.items (get_or mirror.first.items (bucket_at m.mask k) 0) bs → map (kept_in mirror) bs ≡ dated_in m.mask.size k has.dated

    are_in : AreIn kept
    are_in = subst AreIn (same_kept mirror slot slot has.kept kept refl has.stands stands) has.buckets

    pub bucket_dated : (k : ℕ) (less : k < kept.mask.size) → map (kept_in mirror) (bucket mirror shape cells roots slot kept stands keeps k less).blocks ≡ dated_in kept.mask.size k has.dated
    bucket_dated k less = let own = bucket mirror shape cells roots slot kept stands keeps k less in are_in k own.blocks less own.chain.spelled

    kept_to : (k : ℕ) → k ≤ kept.mask.size → map (kept_in mirror) (bucket_blocks roots kept.mask k) ≡ dated_to kept.mask.size k has.dated
    kept_to zero low = refl
    kept_to (suc k) low = let less : k < kept.mask.size = omega arith in let own = bucket mirror shape cells roots slot kept stands keeps k less in
        let before = kept_to k (omega arith) in let last = bucket_dated k less in
        ap (map (kept_in mirror)) (one_suc k less) ∙ (map-append (kept_in mirror) (bucket_blocks roots kept.mask k) own.blocks ∙ (λ t. before t ++ last t))

    -- all blocks are those of the filters
    pub all_dated : IsPermutation (map (kept_in mirror) (bucket_blocks roots kept.mask kept.mask.size)) (map kept_as has.dated)
    all_dated = subst (λ (xs : List (ℕ × Option StoredFilter)). IsPermutation xs (map kept_as has.dated)) (sym (kept_to kept.mask.size (omega arith)))
        (all_once kept.mask.size (some_buckets kept.mask (keeps.masks slot kept stands).there.storable) has.dated)

    -- and there are as many
    pub long_dated : length has.dated ≡ length fs
    long_dated = sym (length-map has.dated (λ (d : Dated). d.filter)) ∙ ap length has.filters

    pub long_blocks : length (bucket_blocks roots kept.mask kept.mask.size) ≡ length fs
    long_blocks = sym (length-map (bucket_blocks roots kept.mask kept.mask.size) (kept_in mirror))
        ∙ (sym (length_permutation (map (kept_in mirror) (bucket_blocks roots kept.mask kept.mask.size)) (map kept_as has.dated) all_dated) ∙ (length-map has.dated kept_as ∙ long_dated))

    -- as many as blocks in the order of the filters
    pub long_ordered : (bs : List ℕ) → map (kept_in mirror) bs ≡ map kept_as has.dated → length bs ≡ length fs
    long_ordered bs order = sym (length-map bs (kept_in mirror)) ∙ (ap length order ∙ (length-map has.dated kept_as ∙ long_dated))
