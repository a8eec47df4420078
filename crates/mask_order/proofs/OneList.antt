-- A mask has its filters in one order alone.
use Rattle.std.proofs.Common.{◌≡◌, ◌∙◌, ℕ, zero, suc, ◌+◌, ◌<◌, ◌≤◌, ◌⊎◌, inl, inr, Bool, true, false, cond, eqb, List, [], ◌∷◌, length, map, get_or, slice_get, Option, Some, refl, sym, ap, subst, arith, eq-eqb}
use Rattle.std.proofs.lemmas.Option.{slice_get_within}
use Rattle.store_history.specs.declared.history.Named.{Named}
use Rattle.pin_store.specs.declared.shape.Shape.{Shape}
use Rattle.block_codec.specs.declared.filter.StoredFilter.{StoredFilter}
use Rattle.mask_table.specs.Buckets.{IsAmong, bucket_root, bucket_for}
use Rattle.mask_table.specs.declared.mirrors.mirror.Mirror.{Mirror}
use Rattle.mask_table.specs.declared.mirrors.mirror.KeptMask.{KeptMask}
use Rattle.mask_table.specs.OfMirrors.Kept.{bucket_at, Spells, IsKept}
use Rattle.mask_table.specs.OfMirrors.Lists.{Dated, Rises, kept_as, kept_in, dated_in, HasFilters}
use Rattle.mask_table.proofs.OfMirrors.Keeping.{same_kept, some_buckets}
use Rattle.store_history.proofs.Lists.{get_before, get_behind, get_parts, some_is}
use Rattle.std.proofs.lemmas.Nat.{mod_below}
use Rattle.flow_mask.specs.Hashes.{hash_of}

-- ---- what is kept of a bucket has each of its filters with its age, and no other
module _ (size b : ℕ) where
  abbrev own : Dated → Bool → List (ℕ × Option StoredFilter)
  own d t = cond t (kept_as d ∷ []) []

  among_in : (ds : List Dated) (x : Dated) → bucket_for size x.filter.key.words ≡ b → IsAmong x ds → IsAmong (kept_as x) (dated_in size b ds)
  among_in [] x is at = absurd (cc at.1)
  among_in (d ∷ ds) x is (zero, e) = let same : d ≡ x = cc e in let here = eq-eqb (bucket_for size d.filter.key.words) b (ap (λ (y : Dated). bucket_for size y.filter.key.words) same ∙ is) in (
    length (dated_in size b ds) + 0,
    get_behind (dated_in size b ds) (own d (eqb (bucket_for size d.filter.key.words) b)) 0
        ∙ (ap (λ (t : Bool). slice_get (own d t) 0) here ∙ ap (λ (y : Dated). Some (kept_as y)) same),
  )
  among_in (d ∷ ds) x is (suc n, e) = let r = among_in ds x is (n, e) in
      (r.0, get_before (dated_in size b ds) (own d (eqb (bucket_for size d.filter.key.words) b)) r.0 (slice_get_within (dated_in size b ds) r.0 (kept_as x) r.1) ∙ r.1)

  in_among : (ds : List Dated) (x : ℕ × Option StoredFilter) → IsAmong x (dated_in size b ds) → (d : Dated) × IsAmong d ds × (kept_as d ≡ x)
  in_among [] x at = absurd (cc at.1)
  in_among (d ∷ ds) x at = get_parts (dated_in size b ds) (own d (eqb (bucket_for size d.filter.key.words) b)) at.0 x at.1
      (λ i e. let r = in_among ds x (i, e) in (r.0, (suc r.1.0, r.1.1), r.2)) (pick (eqb (bucket_for size d.filter.key.words) b))
    where
      pick : (t : Bool) (i : ℕ) → slice_get (own d t) i ≡ Some x → (y : Dated) × IsAmong y (d ∷ ds) × (kept_as y ≡ x)
      pick true zero e = (d, (0, refl), cc e)
      pick true (suc i) e = absurd (cc e)
      pick false i e = absurd (cc e)

-- ---- lists with rising ages are the same if they have the same elements
above : (low high : ℕ) (ds : List Dated) (x : Dated) → Rises low high ds → IsAmong x ds → low ≤ x.age
above low high [] x rise at = absurd (cc at.1)
above low high (d ∷ ds) x rise (zero, e) = let same : d.age ≡ x.age = ap_age (cc e) in let first = rise.0 in omega arith
  where
    ap_age : d ≡ x → d.age ≡ x.age
    ap_age s = ap (λ (y : Dated). y.age) s
above low high (d ∷ ds) x rise (suc n, e) = let more = above (d.age + 1) high ds x rise.1 (n, e) in let first = rise.0 in omega arith

-- the first of a list, or behind it
module _ (d : Dated) (ds : List Dated) (x : Dated) where
  parted : IsAmong x (d ∷ ds) → (d ≡ x) ⊎ IsAmong x ds
  parted (zero, e) = inl (cc e)
  parted (suc n, e) = inr (n, e)

same_dates : (low high low2 high2 : ℕ) (ds es : List Dated) → Rises low high ds → Rises low2 high2 es → ((x : Dated) → IsAmong x ds → IsAmong x es) → ((x : Dated) → IsAmong x es → IsAmong x ds) → ds ≡ es
same_dates low high low2 high2 [] [] r q to from = refl
same_dates low high low2 high2 [] (e ∷ es) r q to from = absurd (cc (from e (0, refl)).1)
same_dates low high low2 high2 (d ∷ ds) [] r q to from = absurd (cc (to d (0, refl)).1)
same_dates low high low2 high2 (d ∷ ds) (e ∷ es) r q to from = let rest = same_dates (d.age + 1) high (e.age + 1) high2 ds es r.1 q.1 onward back in λ i. first i ∷ rest i
  where
    first : d ≡ e
    first = pick (parted e es d (to d (0, refl))) (parted d ds e (from e (0, refl)))
      where
        pick : (e ≡ d) ⊎ IsAmong d es → (d ≡ e) ⊎ IsAmong e ds → d ≡ e
        pick (inl s) other = sym s
        pick (inr at) (inl s) = s
        pick (inr at) (inr bt) = let one = above (e.age + 1) high2 es d q.1 at in let two = above (d.age + 1) high ds e r.1 bt in absurd (omega arith)

    onward : (x : Dated) → IsAmong x ds → IsAmong x es
    onward x at = pick (parted e es x (to x (suc at.0, at.1)))
      where
        pick : (e ≡ x) ⊎ IsAmong x es → IsAmong x es
        pick (inl s) = let more = above (d.age + 1) high ds x r.1 at in let age : d.age ≡ x.age = ap (λ (y : Dated). y.age) (first ∙ s) in absurd (omega arith)
        pick (inr bt) = bt

    back : (x : Dated) → IsAmong x es → IsAmong x ds
    back x at = pick (parted d ds x (from x (suc at.0, at.1)))
      where
        pick : (d ≡ x) ⊎ IsAmong x ds → IsAmong x ds
        pick (inl s) = let more = above (e.age + 1) high2 es x q.1 at in let age : e.age ≡ x.age = ap (λ (y : Dated). y.age) (sym first ∙ s) in absurd (omega arith)
        pick (inr bt) = bt

-- ---- the filters of a slot
module _ (mirror : Mirror) (shape : Shape) (cells : List ℕ) (roots : ℕ → Named) (keeps : IsKept mirror shape cells roots) (slot : ℕ) where
  among_other : (last last2 : ℕ) (fs gs : List StoredFilter) (one : HasFilters mirror slot last fs) (two : HasFilters mirror slot last2 gs) (x : Dated) → IsAmong x one.dated → IsAmong x two.dated
  among_other last last2 fs gs one two x at =
      let mask = one.kept.mask in let bucket = bucket_for mask.size x.filter.key.words in let some = some_buckets one.kept.mask (keeps.masks slot one.kept one.stands).there.storable in
      let within : bucket < mask.size = mod_below (hash_of x.filter.key.words) mask.size some in
      let kept = keeps.buckets (bucket_root mask bucket) (record { slot = slot; bucket = bucket; kept = one.kept; stands = one.stands; within = within; same = refl }) in
      let same = same_kept mirror slot slot one.kept two.kept refl one.stands two.stands in
      let two_is = subst (λ (k : KeptMask). map (kept_in mirror) kept.blocks ≡ dated_in k.mask.size bucket two.dated) (sym same)
      (two.buckets bucket kept.blocks (subst (λ (k : KeptMask). bucket < k.mask.size) same within) (subst (λ (k : KeptMask). Spells mirror.next.items (get_or mirror.first.items (bucket_at k.mask bucket) 0) kept.blocks) same kept.chain.spelled)) in
      let one_is = one.buckets bucket kept.blocks within kept.chain.spelled in
      let r = in_among mask.size bucket two.dated (kept_as x) (subst (IsAmong (kept_as x)) (sym one_is ∙ two_is) (among_in mask.size bucket one.dated x refl at)) in
      let is : r.0 ≡ x = same_date r.0 x r.2 in subst (λ (y : Dated). IsAmong y two.dated) is r.1
    where
      same_date : (y z : Dated) → kept_as y ≡ kept_as z → y ≡ z
      same_date y z e = let age : y.age ≡ z.age = ap (λ (k : ℕ × Option StoredFilter). k.0) e in let filter : y.filter ≡ z.filter = some_is y.filter z.filter (ap (λ (k : ℕ × Option StoredFilter). k.1) e) in λ i. record { age = age i; filter = filter i }

  -- two lists of a slot are one
  pub one_list : (last last2 : ℕ) (fs gs : List StoredFilter) → HasFilters mirror slot last fs → HasFilters mirror slot last2 gs → fs ≡ gs
  one_list last last2 fs gs one two = sym one.filters ∙ (ap (λ (ds : List Dated). map (λ (d : Dated). d.filter) ds)
      (same_dates 0 _ 0 _ one.dated two.dated one.rise two.rise (among_other last last2 fs gs one two) (among_other last2 last gs fs two one)) ∙ two.filters)
