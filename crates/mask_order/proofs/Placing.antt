-- Filters put into given blocks: those of a bucket, what is kept of them, and what their chain reads as.
use Rattle.std.proofs.Common.{◌≡◌, ◌∙◌, ℕ, suc, ◌<◌, ◌≤◌, Bool, true, false, cond, eqb, List, [], ◌∷◌, ◌++◌, length, map, take, slice_get, Option, Some, refl, sym, ap, arith, append-nil}
use Rattle.std.specs.List.{AllByRecursion}
use Rattle.std.proofs.lemmas.List.{map-append}
use Rattle.std.proofs.lemmas.List.Elements.{recursion_from_All}
use Rattle.store_history.specs.declared.history.Link.{Link}
use Rattle.store_history.specs.History.{first_block}
use Rattle.store_history.specs.Reads.{read_all}
use Rattle.block_codec.specs.declared.filter.StoredFilter.{StoredFilter}
use Rattle.block_codec.specs.Blocks.{IsLink}
use Rattle.block_codec.specs.OfReadings.Read.{filter_in}
use Rattle.mask_table.specs.Buckets.{bucket_for, bucket_of}
use Rattle.mask_table.specs.declared.mirrors.mirror.Mirror.{Mirror}
use Rattle.mask_table.specs.OfMirrors.Lists.{Dated, kept_as, kept_in, dated_in}
use Rattle.mask_table.specs.OfMirrors.Linked.{Placed, placed, placed_in, linked}
use Rattle.mask_order.specs.Fitting.{FitsBlock, FitInto}
use Rattle.mask_order.proofs.ChainsRead.{Fits, linked_read}

-- blocks past those of the filters don't matter
pub placed_take : (given : List ℕ) (fs : List StoredFilter) → placed (take (length fs) given) fs ≡ placed given fs
placed_take [] [] = refl
placed_take [] (f ∷ fs) = refl
placed_take (b ∷ bs) [] = refl
placed_take (b ∷ bs) (f ∷ fs) = ap (λ (ps : List Placed). record { block = b; filter = f } ∷ ps) (placed_take bs fs)

-- where the filters are kept in the blocks, with their ages, a bucket's blocks have what is to be kept of it
pub placed_dated : (mirror : Mirror) (size bucket : ℕ) (given : List ℕ) (ds : List Dated) → map (kept_in mirror) given ≡ map kept_as ds
    → map (kept_in mirror) (map (λ (p : Placed). p.block) (placed_in size bucket (placed given (map (λ (d : Dated). d.filter) ds)))) ≡ dated_in size bucket ds
placed_dated mirror size bucket [] [] e = refl
placed_dated mirror size bucket [] (d ∷ ds) e = absurd (cc e)
placed_dated mirror size bucket (b ∷ bs) [] e = absurd (cc e)
placed_dated mirror size bucket (b ∷ bs) (d ∷ ds) e = let one : kept_in mirror b ≡ kept_as d = cc e in let more : map (kept_in mirror) bs ≡ map kept_as ds = cc e in
    let rest = placed_dated mirror size bucket bs ds more in let last = own (eqb (bucket_for size d.filter.key.words) bucket) one in
    ap (map (kept_in mirror)) (map-append (λ (p : Placed). p.block) front (cond (eqb (bucket_for size d.filter.key.words) bucket) (here ∷ []) []))
    ∙ (map-append (kept_in mirror) (map (λ (p : Placed). p.block) front) (map (λ (p : Placed). p.block) (cond (eqb (bucket_for size d.filter.key.words) bucket) (here ∷ []) []))
    ∙ (λ t. rest t ++ last t))
  where
    here : Placed
    here = record { block = b; filter = d.filter }

    front : List Placed
    front = placed_in size bucket (placed bs (map (λ (x : Dated). x.filter) ds))

    own : (t : Bool) → kept_in mirror b ≡ kept_as d → map (kept_in mirror) (map (λ (p : Placed). p.block) (cond t (here ∷ []) [])) ≡ cond t (kept_as d ∷ []) []
    own true one = ap (λ (p : ℕ × Option StoredFilter). p ∷ []) one
    own false one = refl

-- the filters of what is to be kept of a bucket are those of the bucket
pub dated_filters : (size bucket : ℕ) (ds : List Dated) → map Some (bucket_of size bucket (map (λ (d : Dated). d.filter) ds)) ≡ map (λ (p : ℕ × Option StoredFilter). p.1) (dated_in size bucket ds)
dated_filters size bucket [] = refl
dated_filters size bucket (d ∷ ds) = let rest = dated_filters size bucket ds in let own = same (eqb (bucket_for size d.filter.key.words) bucket) in
    map-append Some (bucket_of size bucket (map (λ (x : Dated). x.filter) ds)) (cond (eqb (bucket_for size d.filter.key.words) bucket) (d.filter ∷ []) [])
    ∙ ((λ t. rest t ++ own t)
    ∙ sym (map-append (λ (p : ℕ × Option StoredFilter). p.1) (dated_in size bucket ds) (cond (eqb (bucket_for size d.filter.key.words) bucket) (kept_as d ∷ []) [])))
  where
    same : (t : Bool) → map Some (cond t (d.filter ∷ []) []) ≡ map (λ (p : ℕ × Option StoredFilter). p.1) (cond t (kept_as d ∷ []) [])
    same true = refl
    same false = refl

-- ---- what their chains read as
every_append : {A : Type 0} (P : A → Type 0) (xs ys : List A) → AllByRecursion P xs → AllByRecursion P ys → AllByRecursion P (xs ++ ys)
every_append P [] ys left right = right
every_append P (x ∷ xs) ys left right = (left.0, every_append P xs ys left.1 right)

-- what holds of all filters holds of a bucket's
pub bucket_every : (P : StoredFilter → Type 0) (size bucket : ℕ) (fs : List StoredFilter) → AllByRecursion P fs → AllByRecursion P (bucket_of size bucket fs)
bucket_every P size bucket [] all = tt
bucket_every P size bucket (f ∷ fs) all = every_append P (bucket_of size bucket fs) (cond (eqb (bucket_for size f.key.words) bucket) (f ∷ []) [])
    (bucket_every P size bucket fs all.1) (own (eqb (bucket_for size f.key.words) bucket))
  where
    own : (t : Bool) → AllByRecursion P (cond t (f ∷ []) [])
    own true = (all.0, tt)
    own false = tt

placed_every : (size bucket : ℕ) (ps : List Placed) → AllByRecursion Fits ps → AllByRecursion Fits (placed_in size bucket ps)
placed_every size bucket [] all = tt
placed_every size bucket (p ∷ ps) all = every_append Fits (placed_in size bucket ps) (cond (eqb (bucket_for size p.filter.key.words) bucket) (p ∷ []) [])
    (placed_every size bucket ps all.1) (own (eqb (bucket_for size p.filter.key.words) bucket))
  where
    own : (t : Bool) → AllByRecursion Fits (cond t (p ∷ []) [])
    own true = (all.0, tt)
    own false = tt

all_fit : (given : List ℕ) (fs : List StoredFilter) → AllByRecursion FitsBlock fs → ((place b : ℕ) → slice_get given place ≡ Some b → b < 4294967296) → AllByRecursion Fits (placed given fs)
all_fit [] fs fits low = tt
all_fit (b ∷ bs) [] fits low = tt
all_fit (b ∷ bs) (f ∷ fs) fits low = (record { filter = fits.0; low = low 0 b refl }, all_fit bs fs fits.1 (λ place c e. low (suc place) c e))

placed_filters : (given : List ℕ) (fs : List StoredFilter) → length fs ≤ length given → map (λ (p : Placed). p.filter) (placed given fs) ≡ fs
placed_filters [] [] enough = refl
placed_filters [] (f ∷ fs) enough = absurd (omega arith)
placed_filters (b ∷ bs) [] enough = refl
placed_filters (b ∷ bs) (f ∷ fs) enough = ap (λ (gs : List StoredFilter). f ∷ gs) (placed_filters bs fs (omega arith))

placed_bucket : (size bucket : ℕ) (ps : List Placed) → map (λ (p : Placed). p.filter) (placed_in size bucket ps) ≡ bucket_of size bucket (map (λ (p : Placed). p.filter) ps)
placed_bucket size bucket [] = refl
placed_bucket size bucket (p ∷ ps) = let rest = placed_bucket size bucket ps in let own = same (eqb (bucket_for size p.filter.key.words) bucket) in
    map-append (λ (q : Placed). q.filter) (placed_in size bucket ps) (cond (eqb (bucket_for size p.filter.key.words) bucket) (p ∷ []) []) ∙ (λ t. rest t ++ own t)
  where
    same : (t : Bool) → map (λ (q : Placed). q.filter) (cond t (p ∷ []) []) ≡ cond t (p.filter ∷ []) []
    same true = refl
    same false = refl

pub placed_chain_reads : (size bucket : ℕ) (given : List ℕ) (fs : List StoredFilter) → FitInto given fs → read_all filter_in (linked (placed_in size bucket (placed given fs)) []) ≡ Some (bucket_of size bucket fs)
placed_chain_reads size bucket given fs fit =
    linked_read (placed_in size bucket (placed given fs)) [] [] (placed_every size bucket (placed given fs) (all_fit given fs (recursion_from_All FitsBlock fs fit.filters) fit.low)) tt refl
    ∙ ap Some (append-nil (map (λ (p : Placed). p.filter) (placed_in size bucket (placed given fs)))
    ∙ (placed_bucket size bucket (placed given fs) ∙ ap (bucket_of size bucket) (placed_filters given fs fit.enough)))

-- all filters in given blocks, in front of a chain
pub rewritten_reads : (given : List ℕ) (fs : List StoredFilter) (chain : List Link) (later : List StoredFilter) → FitInto given fs → IsLink (first_block chain) → read_all filter_in chain ≡ Some later
    → read_all filter_in (linked (placed given fs) chain) ≡ Some (fs ++ later)
rewritten_reads given fs chain later fit is e = linked_read (placed given fs) chain later (all_fit given fs (recursion_from_All FitsBlock fs fit.filters) fit.low) is e
    ∙ ap (λ (gs : List StoredFilter). Some (gs ++ later)) (placed_filters given fs fit.enough)
