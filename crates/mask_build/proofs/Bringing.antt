-- Filters laid into given blocks, one more at a time: their blocks are different ones. The ages of those that
-- an edit brings rise.
use Rattle.std.proofs.Common.{◌≡◌, ◌∙◌, ℕ, zero, suc, ◌+◌, ◌<◌, ◌≤◌, ◌||◌, Bool, true, false, eqb, List, [], ◌∷◌, ◌++◌, length, map, take, get_or, slice_get, Option, Some, refl, sym, ap, subst, arith, eqb-true}
use Rattle.std.specs.List.{list_any, IsDistinct}
use Rattle.std.proofs.lemmas.Bool.Decides.{Decides-eqb}
use Rattle.std.proofs.Math.Seq.{take-length}
use Rattle.std.proofs.lemmas.List.{length-take-le}
use Rattle.std.proofs.lemmas.Map.Made.{AllPairs-from_IsDistinct}
use Rattle.std.proofs.lemmas.Map.Steps.{length-le_from_distinct_below}
use Rattle.std.proofs.lemmas.Option.{slice_get_within, get_or_from_slice_get, slice_get-get_or}
use Rattle.store_history.proofs.Lists.{some_is}
use Rattle.store_history.specs.declared.history.Commit.{Commit}
use Rattle.store_history.specs.declared.places.TheConstants.{POOL_BLOCKS}
use Rattle.pin_store.specs.declared.shape.Shape.{Shape}
use Rattle.block_codec.specs.declared.filter.StoredFilter.{StoredFilter}
use Rattle.block_codec.specs.declared.mask.StoredMask.{StoredMask}
use Rattle.mask_table.specs.Buckets.{IsAmong}
use Rattle.mask_table.specs.declared.mirrors.mirror.Mirror.{Mirror}
use Rattle.mask_table.specs.OfMirrors.Given.{AreGiven}
use Rattle.mask_table.specs.OfMirrors.Linked.{placed, raise_commits}
use Rattle.mask_table.specs.OfMirrors.Lists.{Dated, age_of, Rises, kept_as}
use Rattle.mask_table.proofs.OfMirrors.Dates.{rises_lower}
use Rattle.mask_build.specs.Laid.{places, dates, filters_of, laid_blocks, laid_in, dated_by, IsLaid, IsReady}

-- ---- lists of different numbers
pub same_place : (bs : List ℕ) → IsDistinct eqb bs → (i j c : ℕ) → slice_get bs i ≡ Some c → slice_get bs j ≡ Some c → i ≡ j
same_place bs different i j c e f =
    let apart = AllPairs-from_IsDistinct Decides-eqb bs different in let low = slice_get_within bs i c e in let high = slice_get_within bs j c f in
    let same = get_or_from_slice_get bs i c 0 e ∙ sym (get_or_from_slice_get bs j c 0 f) in
    let before : i < j → ⊥ = λ less. apart i j 0 less high same in
    let behind : j < i → ⊥ = λ less. apart j i 0 less low (sym same) in omega arith

any_among : (x : ℕ) (ys : List ℕ) → list_any (eqb x) ys ≡ true → IsAmong x ys
any_among x [] e = absurd (cc e)
any_among x (y ∷ ys) e = pick (eqb x y) refl e (any_among x ys)
  where
    pick : (t : Bool) → eqb x y ≡ t → (t || list_any (eqb x) ys) ≡ true → (list_any (eqb x) ys ≡ true → IsAmong x ys) → IsAmong x (y ∷ ys)
    pick true is e rest = (0, ap (λ (z : ℕ). Some z) (sym (eqb-true x y is)))
    pick false is e rest = let r = rest e in (suc r.0, r.1)

-- no more blocks are given than the pool has
pub few_given : {E : Type 0} (base : ℕ) (h : List (Commit E)) (bs : List ℕ) → AreGiven base h bs → length bs ≤ POOL_BLOCKS
few_given base h bs given = length-le_from_distinct_below bs POOL_BLOCKS given.different (λ q e. let there = any_among q bs e in given.pool there.0 q there.1)

-- ---- what is laid in given blocks
pub laid_first : (bs : List ℕ) → laid_in bs [] ≡ []
laid_first [] = refl
laid_first (b ∷ bs) = refl

laid_more : (i b : ℕ) (d : Dated) (bs : List ℕ) (ds : List Dated) → slice_get bs i ≡ Some b → slice_get ds i ≡ Some d
    → laid_in bs (take (suc i) ds) ≡ laid_in bs (take i ds) ++ record { block = b; filter = d.filter; age = d.age } ∷ []
laid_more i b d [] ds e g = absurd (cc e)
laid_more i b d (c ∷ bs) [] e g = absurd (cc g)
laid_more zero b d (c ∷ bs) (x ∷ ds) e g = let block : c ≡ b = cc in let same : x ≡ d = cc in
    λ t. record { block = block t; filter = (same t).filter; age = (same t).age } ∷ laid_first bs t
laid_more (suc i) b d (c ∷ bs) (x ∷ ds) e g = λ t. record { block = c; filter = x.filter; age = x.age } ∷ laid_more i b d bs ds e g t

pub laid_next : (i b : ℕ) (d : Dated) (bs : List ℕ) (ds : List Dated) → slice_get bs i ≡ Some b → slice_get ds i ≡ Some d
    → laid_in bs (take i ds) ++ record { block = b; filter = d.filter; age = d.age } ∷ [] ≡ laid_in bs (take (i + 1) ds)
laid_next i b d bs ds e g = let more : i + 1 ≡ suc i = omega arith in sym (ap (λ (n : ℕ). laid_in bs (take n ds)) more ∙ laid_more i b d bs ds e g)

-- each is in a given block
pub laid_at : (c : ℕ) (bs : List ℕ) (ds : List Dated) → IsAmong c (laid_blocks (laid_in bs ds)) → (place : ℕ) × (place < length ds) × (slice_get bs place ≡ Some c)
laid_at c [] ds (place, e) = absurd (cc e)
laid_at c (b ∷ bs) [] (place, e) = absurd (cc e)
laid_at c (b ∷ bs) (d ∷ ds) (zero, e) = (0, omega arith, e)
laid_at c (b ∷ bs) (d ∷ ds) (suc place, e) = let r = laid_at c bs ds (place, e) in let low = r.1 in (suc r.0, omega arith, r.2)

-- a later block is another one
pub laid_apart : (i b : ℕ) (bs : List ℕ) (ds : List Dated) → IsDistinct eqb bs → slice_get bs i ≡ Some b → i ≤ length ds → IsAmong b (laid_blocks (laid_in bs (take i ds))) → ⊥
laid_apart i b bs ds different e low among =
    let r = laid_at b bs (take i ds) among in let before = r.1 in let long = length-take-le i ds low in let same = same_place bs different r.0 i b r.2 e in absurd (omega arith)

pub places_laid : (bs : List ℕ) (ds : List Dated) → places (laid_in bs ds) ≡ placed bs (map (λ (d : Dated). d.filter) ds)
places_laid [] ds = refl
places_laid (b ∷ bs) [] = refl
places_laid (b ∷ bs) (d ∷ ds) = λ t. record { block = b; filter = d.filter } ∷ places_laid bs ds t

pub filters_laid : (bs : List ℕ) (ds : List Dated) → length ds ≤ length bs → filters_of (laid_in bs ds) ≡ map (λ (d : Dated). d.filter) ds
filters_laid [] [] few = refl
filters_laid [] (d ∷ ds) few = absurd (omega arith)
filters_laid (b ∷ bs) [] few = refl
filters_laid (b ∷ bs) (d ∷ ds) few = ap (λ (gs : List StoredFilter). d.filter ∷ gs) (filters_laid bs ds (omega arith))

pub dates_laid : (bs : List ℕ) (ds : List Dated) → length ds ≤ length bs → dates (laid_in bs ds) ≡ ds
dates_laid [] [] few = refl
dates_laid [] (d ∷ ds) few = absurd (omega arith)
dates_laid (b ∷ bs) [] few = refl
dates_laid (b ∷ bs) (d ∷ ds) few = ap (λ (gs : List Dated). d ∷ gs) (dates_laid bs ds (omega arith))

-- what is kept of a block at a place, where what is kept of all is known
pub dated_at : (kept : ℕ → ℕ × Option StoredFilter) (xs : List ℕ) (ds : List Dated) (i b age : ℕ) (f : StoredFilter) → map kept xs ≡ map kept_as ds → slice_get xs i ≡ Some b → kept b ≡ (age, Some f)
    → slice_get ds i ≡ Some (record { age = age; filter = f })
dated_at kept [] ds i b age f are e is = absurd (cc e)
dated_at kept (x ∷ xs) [] i b age f are e is = absurd (cc are)
dated_at kept (x ∷ xs) (d ∷ ds) zero b age f are e is = let same : x ≡ b = cc in let head : kept x ≡ kept_as d = cc in
    let own : kept_as d ≡ (age, Some f) = sym head ∙ (ap kept same ∙ is) in let filter : d.filter ≡ f = some_is d.filter f (ap (λ (p : ℕ × Option StoredFilter). p.1) own) in
    λ t. Some (record { age = (own t).0; filter = filter t })
dated_at kept (x ∷ xs) (d ∷ ds) (suc i) b age f are e is = let rest : map kept xs ≡ map kept_as ds = cc in dated_at kept xs ds i b age f rest e is

-- ---- a mask with what was laid may be raised, its record in the block behind
module _ {E : Type 0} (mirror : Mirror) (shape : Shape) (cells : List ℕ) (mask : StoredMask) (base : ℕ) (h : List (Commit E)) (bs : List ℕ) (ds : List Dated)
    (given : AreGiven base h bs) (many : length bs ≡ length ds + 1) (laid : IsLaid mirror shape cells mask (laid_in bs ds)) where
  ready_first : IsReady mirror shape cells mask base h (get_or bs (length ds) 0) (laid_in bs ds)
  ready_first =
      let n = length ds in let last = slice_get-get_or bs n 0 (omega arith) in record {
        laid = laid;
        free = λ b among. let r = laid_at b bs ds among in given.free r.0 b r.2;
        low = given.pool n (get_or bs n 0) last;
        spare = given.free n (get_or bs n 0) last;
        apart = subst (λ (gs : List Dated). IsAmong (get_or bs n 0) (laid_blocks (laid_in bs gs)) → ⊥) (take-length ds) (laid_apart n (get_or bs n 0) bs ds given.different last (omega arith));
      }

  -- also for a copy of the mask, and where commits and base are told by another seat
  pub laid_ready : (copy : StoredMask) (later place : ℕ) (g : List (Commit E)) → copy ≡ mask → later ≡ base → g ≡ h → place ≡ length ds → IsReady mirror shape cells copy later g (get_or bs place 0) (laid_in bs ds)
  laid_ready copy later place g same still seen is = let b = get_or bs place 0 in let xs = laid_in bs ds in
      subst (λ (m : StoredMask). IsReady mirror shape cells m later g b xs) (sym same) (subst (λ (n : ℕ). IsReady mirror shape cells mask n g b xs) (sym still)
      (subst (λ (k : List (Commit E)). IsReady mirror shape cells mask base k b xs) (sym seen)
      (subst (λ (k : ℕ). IsReady mirror shape cells mask base h (get_or bs k 0) xs) (sym is) ready_first)))

-- so its commits are those of the filters in their blocks
pub laid_commits : {E : Type 0} (mask copy : StoredMask) (slot b stamp : ℕ) (bs : List ℕ) (ds : List Dated) (fs : List StoredFilter) → copy ≡ mask → map (λ (d : Dated). d.filter) ds ≡ fs
    → ◌≡◌ {A = List (Commit E)} (raise_commits slot copy b (places (laid_in bs ds)) stamp) (raise_commits slot mask b (placed bs fs) stamp)
laid_commits mask copy slot b stamp bs ds fs same filters = λ t. raise_commits slot (same t) b ((places_laid bs ds ∙ ap (placed bs) filters) t) stamp

-- ---- what an edit brings
pub brought_filters : (edit n : ℕ) (fs : List StoredFilter) → map (λ (d : Dated). d.filter) (dated_by edit n fs) ≡ fs
brought_filters edit n [] = refl
brought_filters edit n (f ∷ fs) = ap (λ (gs : List StoredFilter). f ∷ gs) (brought_filters edit (n + 1) fs)

pub brought_long : (edit n : ℕ) (fs : List StoredFilter) → length (dated_by edit n fs) ≡ length fs
brought_long edit n [] = refl
brought_long edit n (f ∷ fs) = ap suc (brought_long edit (n + 1) fs)

brought_from : (edit n i : ℕ) (f : StoredFilter) (fs : List StoredFilter) → slice_get fs i ≡ Some f → slice_get (dated_by edit n fs) i ≡ Some (record { age = age_of edit (n + i); filter = f })
brought_from edit n i f [] e = absurd (cc e)
brought_from edit n zero f (x ∷ fs) e = let same : x ≡ f = cc in let none : n ≡ n + 0 = omega arith in λ t. Some (record { age = age_of edit (none t); filter = same t })
brought_from edit n (suc i) f (x ∷ fs) e = let more : n + 1 + i ≡ n + suc i = omega arith in brought_from edit (n + 1) i f fs e ∙ ap (λ (k : ℕ). Some (record { age = age_of edit k; filter = f })) more

pub brought_at : (edit i age : ℕ) (f : StoredFilter) (fs : List StoredFilter) → slice_get fs i ≡ Some f → age ≡ age_of edit i → slice_get (dated_by edit 0 fs) i ≡ Some (record { age = age; filter = f })
brought_at edit i age f fs e is = let same : age_of edit (0 + i) ≡ age = ap (age_of edit) (omega arith) ∙ sym is in brought_from edit 0 i f fs e ∙ ap (λ (k : ℕ). Some (record { age = k; filter = f })) same

pub brought_rise : (edit n : ℕ) (fs : List StoredFilter) → n + length fs ≤ 4294967296 → Rises (age_of edit n) (age_of (edit + 1) 0) (dated_by edit n fs)
brought_rise edit n [] few = omega arith
brought_rise edit n (f ∷ fs) few = (omega arith, rises_lower (age_of edit (n + 1)) (age_of edit n + 1) (age_of (edit + 1) 0) (dated_by edit (n + 1) fs) (omega arith) (brought_rise edit (n + 1) fs (omega arith)))
