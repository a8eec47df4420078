-- As the roots of a whole mask come to name what was laid for it, the mask stands at its slot, and what is
-- kept of all others stays.
use Rattle.std.proofs.Common.{◌≡◌, ◌≢◌, ◌∙◌, ◌⊎◌, inl, inr, ℕ, zero, suc, ◌+◌, ◌<◌, ◌≤◌, true, false, eqb, List, [], ◌∷◌, ◌++◌, length, map, set, get_or, slice_get, Option, Some, None, refl, sym, ap, subst, arith, get_or-set_other, get_or-set_same}
use Rattle.std.proofs.lemmas.Bool.Decides.{eqb_tells}
use Rattle.store_history.specs.declared.history.Link.{Link}
use Rattle.store_history.specs.declared.history.Named.{Named}
use Rattle.store_history.specs.declared.history.Commit.{Commit}
use Rattle.store_history.specs.History.{root_of}
use Rattle.store_history.proofs.Histories.{root_own, root_other}
use Rattle.store_history.specs.declared.places.TheConstants.{MASK_SLOTS, POOL_BLOCKS}
use Rattle.pin_store.specs.declared.shape.Shape.{Shape}
use Rattle.pin_store.specs.Layout.{block_words, links_of}
use Rattle.block_codec.specs.declared.filter.StoredFilter.{StoredFilter}
use Rattle.block_codec.specs.declared.mask.StoredMask.{StoredMask}
use Rattle.block_codec.specs.Masks.{IsMaskBlock}
use Rattle.mask_table.specs.Buckets.{IsAmong, mask_root, bucket_root, bucket_for}
use Rattle.mask_table.specs.declared.mirrors.mirror.Mirror.{Mirror}
use Rattle.mask_table.specs.declared.mirrors.mirror.KeptMask.{KeptMask}
use Rattle.mask_table.specs.OfMirrors.Kept.{bucket_at, Stands, Spells, HoldFilters, HoldsChain, BucketAt, Names, KeepsMask, KeepsBucket, IsKept}
use Rattle.mask_table.specs.OfMirrors.Given.{AreFreeRows}
use Rattle.mask_table.specs.OfMirrors.Changes.{IsFilled}
use Rattle.mask_table.specs.OfMirrors.Linked.{bucket_commits, mask_commit}
use Rattle.mask_table.specs.OfMirrors.Lists.{age_of, Rises, kept_in, HasFilters}
use Rattle.mask_table.proofs.OfMirrors.Spelling.{same_blocks}
use Rattle.mask_table.proofs.OfMirrors.Chains.{block_there}
use Rattle.mask_table.proofs.OfMirrors.Keeping.{unnamed_now, kept_filled}
use Rattle.mask_build.specs.Laid.{Laid, places, dates, filters_of, laid_blocks, blocks_in, IsLaid, IsReady}
use Rattle.mask_build.proofs.Aside.{bucket_once, bucket_aside, chain_stays, bucket_stays, all_stay, has_stays}
use Rattle.mask_build.proofs.Stacking.{in_blocks, links_laid, laid_filled}
use Rattle.mask_build.proofs.Committing.{other_root, own_root}

-- a filter of a chain is in the chain's bucket
held_in : (filters : List (Option StoredFilter)) (shape : Shape) (cells : List ℕ) (size bucket : ℕ) (bs : List ℕ) → HoldFilters filters shape cells size bucket bs → (place b : ℕ) → slice_get bs place ≡ Some b
    → (f : StoredFilter) × (get_or filters b None ≡ Some f) × (bucket_for size f.key.words ≡ bucket)
held_in filters shape cells size bucket [] hold place b e = absurd (cc e)
held_in filters shape cells size bucket (c ∷ cs) hold zero b e = let same : c ≡ b = cc in (hold.0.filter, ap (λ (k : ℕ). get_or filters k None) (sym same) ∙ hold.0.kept, hold.0.hashed)
held_in filters shape cells size bucket (c ∷ cs) hold (suc place) b e = held_in filters shape cells size bucket cs hold.1 place b e

one_bucket : (filters : List (Option StoredFilter)) (size j k b : ℕ) → ((f : StoredFilter) × (get_or filters b None ≡ Some f) × (bucket_for size f.key.words ≡ j)) → ((f : StoredFilter) × (get_or filters b None ≡ Some f) × (bucket_for size f.key.words ≡ k)) → j ≡ k
one_bucket filters size j k b (f, there, hashed) (g, here, mixed) = let both : Some f ≡ Some g = sym there ∙ here in let same : f ≡ g = cc in sym hashed ∙ (ap (λ (x : StoredFilter). bucket_for size x.key.words) same ∙ mixed)

-- ---- a mask is kept at a slot
module _ (mirror mirror2 : Mirror) (slot : ℕ) (new : KeptMask) (small : slot < MASK_SLOTS) (slots : mirror2.slots.items ≡ set mirror.slots.items slot (Some new)) where
  pub stands_new : Stands mirror2 slot new
  stands_new = let long = mirror.slots_long in ap (λ (xs : List (Option KeptMask)). get_or xs slot None) slots ∙ get_or-set_same mirror.slots.items slot (Some new) None (omega arith)

  pub stands_other : (other : ℕ) (kept : KeptMask) → other ≢ slot → Stands mirror other kept → Stands mirror2 other kept
  stands_other other kept apart s = ap (λ (xs : List (Option KeptMask)). get_or xs other None) slots ∙ (get_or-set_other mirror.slots.items slot other (Some new) None apart ∙ s)

  -- a mask that stands is the new one, or it stood before
  abbrev Stood : ℕ → KeptMask → Type 0
  Stood other kept = ((other ≡ slot) × (new ≡ kept)) ⊎ ((other ≢ slot) × Stands mirror other kept)

  pub stood : (other : ℕ) (kept : KeptMask) → Stands mirror2 other kept → Stood other kept
  stood other kept s = pick (eqb_tells other slot)
    where
      pick : ((eqb other slot ≡ true) × (other ≡ slot)) ⊎ ((eqb other slot ≡ false) × (other ≢ slot)) → Stood other kept
      pick (inl (e, is)) = let both : Some new ≡ Some kept = sym stands_new ∙ (ap (λ (k : ℕ). get_or mirror2.slots.items k None) (sym is) ∙ s) in inl (is, cc)
      pick (inr (e, is)) = inr (is, sym (ap (λ (xs : List (Option KeptMask)). get_or xs other None) slots ∙ get_or-set_other mirror.slots.items slot other (Some new) None is) ∙ s)

  module _ (shape : Shape) (cells : List ℕ) (roots roots2 : ℕ → Named) (xs : List Laid)
      (first : mirror2.first.items ≡ mirror.first.items) (next : mirror2.next.items ≡ mirror.next.items) (filters : mirror2.filters.items ≡ mirror.filters.items)
      (is : IsMaskBlock (block_words shape cells new.block) (new.mask, None)) (low : new.block < POOL_BLOCKS) (rows : AreFreeRows mirror new.mask.rows)
      (keeps : IsKept mirror shape cells roots) (laid : IsLaid mirror shape cells new.mask xs) (free : (b : ℕ) → IsAmong b (laid_blocks xs) → (root : ℕ) → Names roots root b → ⊥)
      (others : (r : ℕ) → r ≢ mask_root slot → ((k : ℕ) → k < new.mask.size → r ≢ bucket_root new.mask k) → (roots2 r).chain ≡ (roots r).chain)
      (owns : (k : ℕ) → k < new.mask.size → (roots2 (bucket_root new.mask k)).chain ≡ links_of shape cells (blocks_in new.mask.size k xs))
      (names : (roots2 (mask_root slot)).chain ≡ links_of shape cells (new.block ∷ [])) where
    -- ---- the records
    mask_new : KeepsMask shape cells roots2 slot new
    mask_new = record { small = small; low = low; named = names; there = is }

    mask_other : (other : ℕ) (kept : KeptMask) → other ≢ slot → Stands mirror other kept → KeepsMask shape cells roots2 other kept
    mask_other other kept apart s = let was = keeps.masks other kept s in let below = was.small in record {
      small = was.small;
      low = was.low;
      named = others (mask_root other) (λ e. apart (omega (arith, e))) (λ k less e. absurd (omega (arith, e))) ∙ was.named;
      there = was.there;
    }

    mask_of : (other : ℕ) (kept : KeptMask) → Stood other kept → KeepsMask shape cells roots2 other kept
    mask_of other kept (inl (same, one)) = subst (λ (k : ℕ). KeepsMask shape cells roots2 k kept) (sym same) (subst (KeepsMask shape cells roots2 slot) one mask_new)
    mask_of other kept (inr (apart, s)) = mask_other other kept apart s

    -- ---- the buckets: one is the new mask's, or it was another's before
    abbrev Own : ℕ → ℕ → ℕ → Type 0
    Own root at_slot k = (at_slot ≡ slot) × (k < new.mask.size) × (root ≡ bucket_root new.mask k)

    own_of : (root : ℕ) (at : BucketAt mirror2 root) → at.slot ≡ slot → new ≡ at.kept → Own root at.slot at.bucket
    own_of root at same one = (same, subst (λ (m : KeptMask). at.bucket < m.mask.size) (sym one) at.within, at.same ∙ ap (λ (m : KeptMask). bucket_root m.mask at.bucket) (sym one))

    abbrev old_of : (root : ℕ) (at : BucketAt mirror2 root) → Stands mirror at.slot at.kept → BucketAt mirror root
    old_of root at s = record { slot = at.slot; bucket = at.bucket; kept = at.kept; stands = s; within = at.within; same = at.same }

    never_both : (root k : ℕ) → k < new.mask.size → root ≡ bucket_root new.mask k → BucketAt mirror root → ⊥
    never_both root k less same at = bucket_aside mirror shape cells roots keeps new.mask is.storable rows k less (subst (BucketAt mirror) same at)

    chain_before : (root : ℕ) → BucketAt mirror root → (roots2 root).chain ≡ (roots root).chain
    chain_before root at = let behind = at.same in others root (λ e. absurd (omega (arith, e))) (λ k less e. never_both root k less e at)

    bucket_new : (k : ℕ) → k < new.mask.size → KeepsBucket mirror2 shape cells roots2 new.mask k
    bucket_new k less = record {
      blocks = blocks_in new.mask.size k xs;
      chain = subst (λ (ns : List ℕ). HoldsChain mirror2 shape cells new.mask.size k (get_or ns (bucket_at new.mask k) 0) (blocks_in new.mask.size k xs)) (sym first)
          (chain_stays mirror mirror2 next filters shape cells new.mask.size k (get_or mirror.first.items (bucket_at new.mask k) 0) (blocks_in new.mask.size k xs) (laid.chain k less));
      named = owns k less;
    }

    bucket_is : (root : ℕ) (at : BucketAt mirror2 root) → Stood at.slot at.kept → KeepsBucket mirror2 shape cells roots2 at.kept.mask at.bucket
    bucket_is root at (inl (same, one)) = subst (λ (m : KeptMask). KeepsBucket mirror2 shape cells roots2 m.mask at.bucket) one (bucket_new at.bucket (own_of root at same one).1)
    bucket_is root at (inr (apart, s)) = let was = old_of root at s in
        bucket_stays mirror mirror2 next filters shape cells roots roots2 at.kept.mask at.bucket (ap (λ (ns : List ℕ). get_or ns (bucket_at at.kept.mask at.bucket) 0) first)
        (subst (λ (r : ℕ). (roots2 r).chain ≡ (roots r).chain) at.same (chain_before root was)) (keeps.buckets root was)

    apart_is : (root : ℕ) (one two : BucketAt mirror2 root) → Stood one.slot one.kept → Stood two.slot two.kept → (one.slot ≡ two.slot) × (one.bucket ≡ two.bucket)
    apart_is root one two (inl (s, a)) (inl (t, b)) = let left = own_of root one s a in let right = own_of root two t b in
        (s ∙ sym t, bucket_once new.mask is.storable rows.different one.bucket two.bucket left.1 right.1 (sym left.2 ∙ right.2))
    apart_is root one two (inl (s, a)) (inr (t, b)) = let left = own_of root one s a in absurd (never_both root one.bucket left.1 left.2 (old_of root two b))
    apart_is root one two (inr (s, a)) (inl (t, b)) = let right = own_of root two t b in absurd (never_both root two.bucket right.1 right.2 (old_of root one a))
    apart_is root one two (inr (s, a)) (inr (t, b)) = keeps.apart root (old_of root one a) (old_of root two b)

    -- ---- the blocks
    block_in_own : (root k b : ℕ) → k < new.mask.size → root ≡ bucket_root new.mask k → Names roots2 root b → IsAmong b (blocks_in new.mask.size k xs)
    block_in_own root k b less same (place, l, e, f) = (
      place,
      block_there shape cells (blocks_in new.mask.size k xs) place l (subst (λ (ls : List Link). slice_get ls place ≡ Some l) (ap (λ (r : ℕ). (roots2 r).chain) same ∙ owns k less) e) ∙ ap (λ (x : ℕ). Some x) f,
    )

    named_before : (root b : ℕ) → BucketAt mirror root → Names roots2 root b → Names roots root b
    named_before root b at (place, l, e, f) = (place, l, subst (λ (ls : List Link). slice_get ls place ≡ Some l) (chain_before root at) e, f)

    once_is : (root other b : ℕ) (one : BucketAt mirror2 root) (two : BucketAt mirror2 other) → Stood one.slot one.kept → Stood two.slot two.kept → Names roots2 root b → Names roots2 other b → root ≡ other
    once_is root other b one two (inl (s, x)) (inl (t, y)) m n =
        let left = own_of root one s x in let right = own_of other two t y in let size = new.mask.size in
        let here = block_in_own root one.bucket b left.1 left.2 m in let there = block_in_own other two.bucket b right.1 right.2 n in
        let same = one_bucket mirror.filters.items size one.bucket two.bucket b
        (held_in mirror.filters.items shape cells size one.bucket (blocks_in size one.bucket xs) (laid.chain one.bucket left.1).hold here.0 b here.1)
        (held_in mirror.filters.items shape cells size two.bucket (blocks_in size two.bucket xs) (laid.chain two.bucket right.1).hold there.0 b there.1) in
        left.2 ∙ (ap (bucket_root new.mask) same ∙ sym right.2)
    once_is root other b one two (inl (s, x)) (inr (t, y)) m n = let left = own_of root one s x in
        absurd (free b (in_blocks new.mask.size one.bucket xs b (block_in_own root one.bucket b left.1 left.2 m)) other (named_before other b (old_of other two y) n))
    once_is root other b one two (inr (s, x)) (inl (t, y)) m n = let right = own_of other two t y in
        absurd (free b (in_blocks new.mask.size two.bucket xs b (block_in_own other two.bucket b right.1 right.2 n)) root (named_before root b (old_of root one x) m))
    once_is root other b one two (inr (s, x)) (inr (t, y)) m n = keeps.once root other b (old_of root one x) (old_of other two y) (named_before root b (old_of root one x) m) (named_before other b (old_of other two y) n)

    pub kept_standing : IsKept mirror2 shape cells roots2
    kept_standing = record {
      masks = λ other kept s. mask_of other kept (stood other kept s);
      buckets = λ root at. bucket_is root at (stood at.slot at.kept at.stands);
      apart = λ root one two. apart_is root one two (stood one.slot one.kept one.stands) (stood two.slot two.kept two.stands);
      once = λ root other b one two m n. once_is root other b one two (stood one.slot one.kept one.stands) (stood two.slot two.kept two.stands) m n;
    }

  -- ---- the lists
  module _ (first : mirror2.first.items ≡ mirror.first.items) (next : mirror2.next.items ≡ mirror.next.items) (filters : mirror2.filters.items ≡ mirror.filters.items) (ages : mirror2.ages.items ≡ mirror.ages.items) where
    pub others_have : (other last : ℕ) (fs : List StoredFilter) → other ≢ slot → HasFilters mirror other last fs → HasFilters mirror2 other last fs
    others_have other last fs apart has = has_stays mirror mirror2 next filters ages other last fs has (stands_other other has.kept apart has.stands)
        (λ k less. ap (λ (ns : List ℕ). get_or ns (bucket_at has.kept.mask k) 0) first)

    same_filters : (xs : List Laid) → map (λ d. d.filter) (dates xs) ≡ filters_of xs
    same_filters [] = refl
    same_filters (x ∷ xs) = ap (λ (fs : List StoredFilter). x.filter ∷ fs) (same_filters xs)

    pub new_has : (shape : Shape) (cells : List ℕ) (xs : List Laid) → IsLaid mirror shape cells new.mask xs → (last : ℕ) → Rises 0 (age_of (last + 1) 0) (dates xs) → HasFilters mirror2 slot last (filters_of xs)
    new_has shape cells xs laid last rise = record {
      kept = new;
      stands = stands_new;
      dated = dates xs;
      filters = same_filters xs;
      rise = rise;
      buckets = λ bucket blocks less s.
          let before = subst (λ (ns : List ℕ). Spells mirror.next.items (get_or ns (bucket_at new.mask bucket) 0) blocks) first (subst (λ (ns : List ℕ). Spells ns (get_or mirror2.first.items (bucket_at new.mask bucket) 0) blocks) next s) in
          let n = get_or mirror.first.items (bucket_at new.mask bucket) 0 in
          ap (map (kept_in mirror2)) (same_blocks mirror.next.items n n blocks (blocks_in new.mask.size bucket xs) refl before (laid.chain bucket less).spelled)
          ∙ (all_stay mirror mirror2 next filters ages (blocks_in new.mask.size bucket xs) ∙ laid.kept bucket less);
    }

-- ---- the commits of a raising
module _ {E : Type 0} (mirror : Mirror) (shape : Shape) (old new : List ℕ) (mask : StoredMask) (base : ℕ) (h : List (Commit E)) (slot b stamp : ℕ) (xs : List Laid)
    (wide : POOL_BLOCKS ≤ shape.blocks) (others : (other : ℕ) → other ≢ b → other < shape.blocks → block_words shape new other ≡ block_words shape old other) (ready : IsReady mirror shape old mask base h b xs) where
  filled : IsFilled mirror mirror shape old new b
  filled = record { wide = wide; others = others; slots = refl; first = refl; next = λ c apart. refl; filters = λ c apart. refl; ages = λ c apart. refl }

  pub laid_still : IsLaid mirror shape new mask xs
  laid_still = laid_filled mirror shape old new b mask xs filled ready.apart ready.laid

  module _ (mirror2 : Mirror) (small : slot < MASK_SLOTS) (slots : mirror2.slots.items ≡ set mirror.slots.items slot (Some (record { block = b; mask = mask })))
      (first : mirror2.first.items ≡ mirror.first.items) (next : mirror2.next.items ≡ mirror.next.items) (filters : mirror2.filters.items ≡ mirror.filters.items)
      (is : IsMaskBlock (block_words shape new b) (mask, None)) (rows : AreFreeRows mirror mask.rows) (recent : base ≤ length h) (keeps : IsKept mirror shape old (root_of h)) where
    abbrev before : List (Commit E)
    before = h ++ bucket_commits mask (places xs) stamp mask.size

    abbrev last : Commit E
    last = mask_commit slot mask b stamp

    abbrev after : ℕ → Named
    after = root_of (before ++ last ∷ [])

    owns : (k : ℕ) → k < mask.size → (after (bucket_root mask k)).chain ≡ links_of shape new (blocks_in mask.size k xs)
    owns k less = ap (λ (n : Named). n.chain) (root_other before last (bucket_root mask k) (λ e. absurd (omega (arith, e)))
        ∙ own_root h mask (places xs) stamp (bucket_once mask is.storable rows.different) mask.size (omega arith) k less) ∙ sym (links_laid mirror shape new mask xs laid_still k less)

    names : (after (mask_root slot)).chain ≡ links_of shape new (b ∷ [])
    names = ap (λ (n : Named). n.chain) (root_own before last) ∙ (λ t. record { block = b; words = sym is.words_are t } ∷ [])

    stays : (r : ℕ) → r ≢ mask_root slot → ((k : ℕ) → k < mask.size → r ≢ bucket_root mask k) → (after r).chain ≡ (root_of h r).chain
    stays r apart away = ap (λ (n : Named). n.chain) (root_other before last r (λ e. apart (sym e)) ∙ other_root h mask (places xs) stamp mask.size r away)

    pub kept_raised : IsKept mirror2 shape new after
    kept_raised = kept_standing mirror mirror2 slot (record { block = b; mask = mask }) small slots shape new (root_of h) after xs first next filters is ready.low rows
        (kept_filled mirror mirror shape old new b filled (root_of h) (unnamed_now base h b recent ready.spare) keeps)
        laid_still (λ c among. unnamed_now base h c recent (ready.free c among)) stays owns names
