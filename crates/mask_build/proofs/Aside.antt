-- The buckets of free rows are no standing mask's, so what is kept of those stays as chains begin there.
use Rattle.std.proofs.Common.{◌≡◌, ◌≢◌, ◌∙◌, ℕ, ◌+◌, ◌/◌, ◌%◌, ◌<◌, ◌⊎◌, inl, inr, true, false, eqb, List, map, set, get_or, Option, None, sym, ap, subst, arith, get_or-set_other, get_or-set_same}
use Rattle.std.specs.List.{IsDistinct}
use Rattle.std.proofs.lemmas.Bool.Decides.{Decides-eqb, eqb_tells, nat_tests}
use Rattle.std.proofs.lemmas.List.{get_or_default}
use Rattle.std.proofs.lemmas.Map.Made.{AllPairs-from_IsDistinct}
use Rattle.std.proofs.lemmas.Nat.{mod_below}
use Rattle.std.proofs.lemmas.Option.{slice_get-get_or}
use Rattle.flow_mask.specs.Hashes.{hash_of}
use Rattle.store_history.specs.declared.history.Named.{Named}
use Rattle.store_history.specs.declared.places.TheConstants.{BUCKET_ROOTS, BUCKETS}
use Rattle.pin_store.specs.declared.shape.Shape.{Shape}
use Rattle.block_codec.specs.declared.filter.StoredFilter.{StoredFilter}
use Rattle.block_codec.specs.declared.mask.StoredMask.{StoredMask}
use Rattle.block_codec.specs.Masks.{IsStorableMask}
use Rattle.mask_table.specs.Buckets.{IsAmong, bucket_root, bucket_for}
use Rattle.mask_table.specs.declared.mirrors.mirror.Mirror.{Mirror}
use Rattle.mask_table.specs.declared.mirrors.mirror.KeptMask.{KeptMask}
use Rattle.mask_table.specs.OfMirrors.Kept.{bucket_at, Stands, Spells, HoldFilters, HoldsChain, BucketAt, KeepsBucket, IsKept}
use Rattle.mask_table.specs.OfMirrors.Given.{AreFreeRows}
use Rattle.mask_table.specs.OfMirrors.Lists.{kept_in, HasFilters}
use Rattle.mask_table.specs.OfMirrors.Changes.{IsRenamed}
use Rattle.mask_table.proofs.OfMirrors.Keeping.{at_root, bucket_with, some_buckets}
use Rattle.mask_table.proofs.OfMirrors.Lasting.{kept_same}

-- ---- roots of buckets
-- a bucket's root tells its row, and its place in the row
same_row : (one two : StoredMask) (j k : ℕ) → bucket_root one j ≡ bucket_root two k → get_or one.rows (j / 16) 0 ≡ get_or two.rows (k / 16) 0
same_row one two j k e = omega (arith, e)

same_rest : (one two : StoredMask) (j k : ℕ) → bucket_root one j ≡ bucket_root two k → j % 16 ≡ k % 16
same_rest one two j k e = omega (arith, e)

row_there : (mask : StoredMask) (k : ℕ) → IsStorableMask mask → k < mask.size → IsAmong (get_or mask.rows (k / 16) 0) mask.rows
row_there mask k is less = let rows = is.rows in (k / 16, slice_get-get_or mask.rows (k / 16) 0 (omega arith))

-- of a mask whose rows are different, no two buckets share a root
pub bucket_once : (mask : StoredMask) → IsStorableMask mask → IsDistinct eqb mask.rows → (j k : ℕ) → j < mask.size → k < mask.size → bucket_root mask j ≡ bucket_root mask k → j ≡ k
bucket_once mask is different j k low high e =
    let rows = is.rows in let row = same_row mask mask j k e in let rest = same_rest mask mask j k e in
    let apart = AllPairs-from_IsDistinct Decides-eqb mask.rows different in
    let before : j / 16 < k / 16 → ⊥ = λ less. apart (j / 16) (k / 16) 0 less (omega arith) row in
    let behind : k / 16 < j / 16 → ⊥ = λ less. apart (k / 16) (j / 16) 0 less (omega arith) (sym row) in omega arith

-- a bucket in a free row is no standing mask's
pub bucket_aside : (mirror : Mirror) (shape : Shape) (cells : List ℕ) (roots : ℕ → Named) → IsKept mirror shape cells roots → (mask : StoredMask) → IsStorableMask mask → AreFreeRows mirror mask.rows
    → (k : ℕ) → k < mask.size → BucketAt mirror (bucket_root mask k) → ⊥
bucket_aside mirror shape cells roots keeps mask is rows k less at =
    let there = row_there at.kept.mask at.bucket (keeps.masks at.slot at.kept at.stands).there.storable at.within in
    let row = same_row at.kept.mask mask at.bucket k (sym at.same) in
    rows.free at.slot (get_or at.kept.mask.rows (at.bucket / 16) 0) at.kept at.stands there (subst (λ (r : ℕ). IsAmong r mask.rows) (sym row) (row_there mask k is less))

-- so is its place
pub place_aside : (mirror : Mirror) (shape : Shape) (cells : List ℕ) (roots : ℕ → Named) → IsKept mirror shape cells roots → (mask : StoredMask) → IsStorableMask mask → AreFreeRows mirror mask.rows
    → (k place : ℕ) → k < mask.size → place ≡ bucket_at mask k → BucketAt mirror (BUCKET_ROOTS + place) → ⊥
place_aside mirror shape cells roots keeps mask is rows k place less at b =
    bucket_aside mirror shape cells roots keeps mask is rows k less (subst (BucketAt mirror) (ap (λ (n : ℕ). BUCKET_ROOTS + n) at ∙ sym (at_root mask k)) b)

-- a key has a bucket
pub bucket_within : (mask : StoredMask) → IsStorableMask mask → (key : List ℕ) → bucket_for mask.size key < mask.size
bucket_within mask is key = mod_below (hash_of key) mask.size (some_buckets mask is)

pub free_rows_same : (mirror mirror2 : Mirror) (rows : List ℕ) → mirror2.slots.items ≡ mirror.slots.items → AreFreeRows mirror rows → AreFreeRows mirror2 rows
free_rows_same mirror mirror2 rows slots free = record {
  different = free.different;
  pool = free.pool;
  free = λ slot row kept stands. free.free slot row kept (ap (λ (xs : List (Option KeptMask)). get_or xs slot None) (sym slots) ∙ stands);
}

-- ---- what stays where links, filters and ages stay
module _ (mirror mirror2 : Mirror) (next : mirror2.next.items ≡ mirror.next.items) (filters : mirror2.filters.items ≡ mirror.filters.items) where
  pub chain_stays : (shape : Shape) (cells : List ℕ) (size bucket number : ℕ) (blocks : List ℕ) → HoldsChain mirror shape cells size bucket number blocks → HoldsChain mirror2 shape cells size bucket number blocks
  chain_stays shape cells size bucket number blocks s = record {
    spelled = subst (λ (xs : List ℕ). Spells xs number blocks) (sym next) s.spelled;
    hold = subst (λ (fs : List (Option StoredFilter)). HoldFilters fs shape cells size bucket blocks) (sym filters) s.hold;
  }

  -- a bucket whose chain begins and is named as before
  pub bucket_stays : (shape : Shape) (cells : List ℕ) (roots roots2 : ℕ → Named) (mask : StoredMask) (k : ℕ) → get_or mirror2.first.items (bucket_at mask k) 0 ≡ get_or mirror.first.items (bucket_at mask k) 0
      → (roots2 (bucket_root mask k)).chain ≡ (roots (bucket_root mask k)).chain → KeepsBucket mirror shape cells roots mask k → KeepsBucket mirror2 shape cells roots2 mask k
  bucket_stays shape cells roots roots2 mask k first named was = record {
    blocks = was.blocks;
    chain = subst (λ (n : ℕ). HoldsChain mirror2 shape cells mask.size k n was.blocks) (sym first) (chain_stays shape cells mask.size k (get_or mirror.first.items (bucket_at mask k) 0) was.blocks was.chain);
    named = named ∙ was.named;
  }

  pub all_stay : (ages : mirror2.ages.items ≡ mirror.ages.items) (blocks : List ℕ) → map (kept_in mirror2) blocks ≡ map (kept_in mirror) blocks
  all_stay ages blocks = kept_same mirror mirror2 blocks (λ place c e. λ t. (get_or (ages t) c 0, get_or (filters t) c None))

  pub has_stays : mirror2.ages.items ≡ mirror.ages.items → (slot last : ℕ) (fs : List StoredFilter) (has : HasFilters mirror slot last fs) → Stands mirror2 slot has.kept
      → ((k : ℕ) → k < has.kept.mask.size → get_or mirror2.first.items (bucket_at has.kept.mask k) 0 ≡ get_or mirror.first.items (bucket_at has.kept.mask k) 0) → HasFilters mirror2 slot last fs
  has_stays ages slot last fs has stands first = record {
    kept = has.kept;
    stands = stands;
    dated = has.dated;
    filters = has.filters;
    rise = has.rise;
    buckets = λ bucket blocks less s. all_stay ages blocks
        ∙ has.buckets bucket blocks less (subst (λ (n : ℕ). Spells mirror.next.items n blocks) (first bucket less) (subst (λ (xs : List ℕ). Spells xs (get_or mirror2.first.items (bucket_at has.kept.mask bucket) 0) blocks) next s));
  }

-- ---- the numbers of buckets
-- what was read at a place is what is kept there
pub first_read : (mirror : Mirror) (place found : ℕ) → place < BUCKETS → found ≡ get_or mirror.first.items place found → found ≡ get_or mirror.first.items place 0
first_read mirror place found small e = let long = mirror.first_long in e ∙ get_or_default mirror.first.items place found 0 (omega arith)

-- once a place has 0, so has one that had it before or is the same
pub zero_at : (mirror mirror2 : Mirror) (place at : ℕ) → place < BUCKETS → IsRenamed mirror mirror2 place 0 → (at ≢ place → get_or mirror.first.items at 0 ≡ 0) → get_or mirror2.first.items at 0 ≡ 0
zero_at mirror mirror2 place at small renamed before = ap (λ (ns : List ℕ). get_or ns at 0) renamed.first ∙ pick (eqb_tells at place)
  where
    pick : ((eqb at place ≡ true) × (at ≡ place)) ⊎ ((eqb at place ≡ false) × (at ≢ place)) → get_or (set mirror.first.items place 0) at 0 ≡ 0
    pick (inl (e, is)) = let long = mirror.first_long in ap (λ (k : ℕ). get_or (set mirror.first.items place 0) k 0) is ∙ get_or-set_same mirror.first.items place 0 0 (omega arith)
    pick (inr (e, is)) = get_or-set_other mirror.first.items place at 0 0 is ∙ before is

-- ---- a chain begins at a place that is no standing mask's
module _ (mirror mirror2 : Mirror) (place number : ℕ) (renamed : IsRenamed mirror mirror2 place number) (aside : BucketAt mirror (BUCKET_ROOTS + place) → ⊥) where
  first_stays : (root : ℕ) (at : BucketAt mirror root) → get_or mirror2.first.items (bucket_at at.kept.mask at.bucket) 0 ≡ get_or mirror.first.items (bucket_at at.kept.mask at.bucket) 0
  first_stays root at = let start = bucket_at at.kept.mask at.bucket in
      let away : start ≢ place = λ e. aside (record {
        slot = at.slot;
        bucket = at.bucket;
        kept = at.kept;
        stands = at.stands;
        within = at.within;
        same = sym (at_root at.kept.mask at.bucket ∙ ap (λ (k : ℕ). BUCKET_ROOTS + k) e);
      }) in
      ap (λ (xs : List ℕ). get_or xs start 0) renamed.first ∙ get_or-set_other mirror.first.items place start number 0 away

  pub kept_aside : (shape : Shape) (cells : List ℕ) (roots : ℕ → Named) → IsKept mirror shape cells roots → IsKept mirror2 shape cells roots
  kept_aside shape cells roots keeps = record {
    masks = λ slot kept s. keeps.masks slot kept (ap (λ (xs : List (Option KeptMask)). get_or xs slot None) (sym renamed.slots) ∙ s);
    buckets = λ root at. let was = bucket_with mirror mirror2 root renamed.slots at in
        bucket_stays mirror mirror2 renamed.next renamed.filters shape cells roots roots at.kept.mask at.bucket (first_stays root was) (λ _. (roots (bucket_root at.kept.mask at.bucket)).chain) (keeps.buckets root was);
    apart = λ root one two. keeps.apart root (bucket_with mirror mirror2 root renamed.slots one) (bucket_with mirror mirror2 root renamed.slots two);
    once = λ root other b one two. keeps.once root other b (bucket_with mirror mirror2 root renamed.slots one) (bucket_with mirror mirror2 other renamed.slots two);
  }

  pub has_aside : (slot last : ℕ) (fs : List StoredFilter) → HasFilters mirror slot last fs → HasFilters mirror2 slot last fs
  has_aside slot last fs has = has_stays mirror mirror2 renamed.next renamed.filters renamed.ages slot last fs has (ap (λ (xs : List (Option KeptMask)). get_or xs slot None) renamed.slots ∙ has.stands)
      (λ k less. first_stays (bucket_root has.kept.mask k) (record { slot = slot; bucket = k; kept = has.kept; stands = has.stands; within = less; same = λ _. bucket_root has.kept.mask k }))
