-- The blocks of all buckets of a mask are different, so the pool has as many; and what is kept of other masks
-- stays as one is forgotten.
use Rattle.std.proofs.Common.{◌≡◌, ◌∙◌, ℕ, zero, suc, ◌+◌, ◌<◌, ◌≤◌, Bool, true, false, eqb, ◌||◌, List, [], ◌∷◌, ◌++◌, length, map, set, get_or, slice_get, Option, Some, None, refl, sym, ap, subst, arith, append_assoc, eqb-true, eq-eqb, get_or-set_other, get_or-set_same}
use mathlib.Core.List.{append-nil}
use Rattle.std.specs.List.{list_any, IsDistinct, AllByRecursion, range_with_len}
use Rattle.std.proofs.lemmas.Bool.{eqb-false}
use Rattle.std.proofs.lemmas.List.Folds.{list_any-append}
use Rattle.std.proofs.lemmas.List.FromFn.{map-range_with_len_more}
use Rattle.std.proofs.lemmas.Map.Steps.{length-le_from_distinct_below}
use Rattle.store_history.specs.declared.history.Link.{Link}
use Rattle.store_history.specs.declared.history.Named.{Named}
use Rattle.store_history.specs.declared.places.TheConstants.{MASK_SLOTS, POOL_BLOCKS}
use Rattle.pin_store.specs.declared.shape.Shape.{Shape}
use Rattle.pin_store.specs.Layout.{links_of}
use Rattle.block_codec.specs.declared.filter.StoredFilter.{StoredFilter}
use Rattle.block_codec.specs.declared.mask.StoredMask.{StoredMask}
use Rattle.mask_table.specs.Buckets.{bucket_root}
use Rattle.mask_table.specs.declared.mirrors.mirror.Mirror.{Mirror}
use Rattle.mask_table.specs.declared.mirrors.mirror.KeptMask.{KeptMask}
use Rattle.mask_table.specs.OfMirrors.Kept.{bucket_at, Stands, Spells, HoldFilters, HoldsChain, BucketAt, Names, KeepsBucket, IsKept}
use Rattle.mask_table.specs.OfMirrors.Forgetting.{blocks_of, bucket_blocks}
use Rattle.mask_table.proofs.OfMirrors.Spelling.{all_different, all_low}
use Rattle.mask_table.proofs.OfMirrors.Keeping.{names_each}

-- ---- lists of different numbers
all_append : (x : ℕ) (xs ys : List ℕ) → AllByRecursion (λ y. eqb x y ≡ false) xs → AllByRecursion (λ y. eqb x y ≡ false) ys → AllByRecursion (λ y. eqb x y ≡ false) (xs ++ ys)
all_append x [] ys left right = right
all_append x (z ∷ xs) ys left right = (left.0, all_append x xs ys left.1 right)

all_but : (x : ℕ) (ys : List ℕ) → (list_any (eqb x) ys ≡ true → ⊥) → AllByRecursion (λ y. eqb x y ≡ false) ys
all_but x [] never = tt
all_but x (y ∷ ys) never = pick (eqb x y) refl (all_but x ys)
  where
    pick : (t : Bool) → eqb x y ≡ t → ((list_any (eqb x) ys ≡ true → ⊥) → AllByRecursion (λ z. eqb x z ≡ false) ys) → (eqb x y ≡ false) × AllByRecursion (λ z. eqb x z ≡ false) ys
    pick true e rest = absurd (never (ap (λ (b : Bool). b || list_any (eqb x) ys) e))
    pick false e rest = (e, rest (λ found. never (ap (λ (b : Bool). b || list_any (eqb x) ys) e ∙ found)))

either : (a b : Bool) → a ≡ true → (a || b) ≡ true
either a b e = ap (λ (c : Bool). c || b) e

or_right : (a b : Bool) → b ≡ true → (a || b) ≡ true
or_right true b e = refl
or_right false b e = e

different_append : (xs ys : List ℕ) → IsDistinct eqb xs → IsDistinct eqb ys → ((x : ℕ) → list_any (eqb x) xs ≡ true → list_any (eqb x) ys ≡ true → ⊥) → IsDistinct eqb (xs ++ ys)
unfolding IsDistinct
different_append [] ys left right apart = right
different_append (x ∷ xs) ys left right apart = (
  all_append x xs ys left.0 (all_but x ys (apart x (either (eqb x x) (list_any (eqb x) xs) (eq-eqb x x refl)))),
  different_append xs ys left.1 right (λ z a b. apart z (or_right (eqb z x) (list_any (eqb z) xs) a) b),
)

any_place : (x : ℕ) (ys : List ℕ) → list_any (eqb x) ys ≡ true → (place : ℕ) × (slice_get ys place ≡ Some x)
any_place x [] e = absurd (cc e)
any_place x (y ∷ ys) e = pick (eqb x y) refl e (any_place x ys)
  where
    pick : (t : Bool) → eqb x y ≡ t → (t || list_any (eqb x) ys) ≡ true → (list_any (eqb x) ys ≡ true → (place : ℕ) × (slice_get ys place ≡ Some x)) → (place : ℕ) × (slice_get (y ∷ ys) place ≡ Some x)
    pick true is e rest = (0, ap Some (sym (eqb-true x y is)))
    pick false is e rest = let r = rest e in (suc r.0, r.1)

none_different : IsDistinct eqb []
unfolding IsDistinct
none_different = tt

-- ---- the blocks of some buckets
blocks_append : (roots : ℕ → Named) (rs : List ℕ) (r : ℕ) → blocks_of roots (rs ++ r ∷ []) ≡ blocks_of roots rs ++ map (λ (l : Link). l.block) (roots r).chain
blocks_append roots [] r = append-nil (map (λ (l : Link). l.block) (roots r).chain)
blocks_append roots (x ∷ rs) r = ap (λ (bs : List ℕ). map (λ (l : Link). l.block) (roots x).chain ++ bs) (blocks_append roots rs r)
    ∙ sym (append_assoc (map (λ (l : Link). l.block) (roots x).chain) (blocks_of roots rs) (map (λ (l : Link). l.block) (roots r).chain))

-- the blocks of the links
pub link_blocks : (shape : Shape) (cells bs : List ℕ) → map (λ (l : Link). l.block) (links_of shape cells bs) ≡ bs
link_blocks shape cells [] = refl
link_blocks shape cells (b ∷ bs) = ap (λ (xs : List ℕ). b ∷ xs) (link_blocks shape cells bs)

-- blocks of the first k buckets, all different
record AreGathered (roots : ℕ → Named) (mask : StoredMask) (k : ℕ) (xs : List ℕ) : Type 0 where
  different : IsDistinct eqb xs
  low : (x : ℕ) → list_any (eqb x) xs ≡ true → x < POOL_BLOCKS
  from : (x : ℕ) → list_any (eqb x) xs ≡ true → (j : ℕ) × (j < k) × Names roots (bucket_root mask j) x

module _ (mirror : Mirror) (shape : Shape) (cells : List ℕ) (roots : ℕ → Named) (slot : ℕ) (kept : KeptMask) (stands : Stands mirror slot kept) (keeps : IsKept mirror shape cells roots) where
  abbrev pub at : (k : ℕ) → k < kept.mask.size → BucketAt mirror (bucket_root kept.mask k)
  at k less = record { slot = slot; bucket = k; kept = kept; stands = stands; within = less; same = refl }

  abbrev pub bucket : (k : ℕ) → k < kept.mask.size → KeepsBucket mirror shape cells roots kept.mask k
  bucket k less = keeps.buckets (bucket_root kept.mask k) (at k less)

  pub blocks_more : (k : ℕ) (less : k < kept.mask.size) → bucket_blocks roots kept.mask (k + 1) ≡ bucket_blocks roots kept.mask k ++ (bucket k less).blocks
  blocks_more k less = let zero_more : 0 + k ≡ k = omega arith in
      ap (blocks_of roots) (map-range_with_len_more (bucket_root kept.mask) 0 k k zero_more)
      ∙ (blocks_append roots (map (bucket_root kept.mask) (range_with_len 0 k)) (bucket_root kept.mask k)
      ∙ ap (λ (bs : List ℕ). bucket_blocks roots kept.mask k ++ bs) (ap (map (λ (l : Link). l.block)) (bucket k less).named ∙ link_blocks shape cells (bucket k less).blocks))

  pub spelled_as : (k : ℕ) (less : k < kept.mask.size) (next : List ℕ) (number : ℕ) → next ≡ mirror.next.items → number ≡ get_or mirror.first.items (bucket_at kept.mask k) 0 → Spells next number (bucket k less).blocks
  spelled_as k less next number same is = subst (λ (xs : List ℕ). Spells xs number (bucket k less).blocks) (sym same) (subst (λ (n : ℕ). Spells mirror.next.items n (bucket k less).blocks) (sym is) (bucket k less).chain.spelled)

  named_in : (k : ℕ) (less : k < kept.mask.size) (x : ℕ) → list_any (eqb x) (bucket k less).blocks ≡ true → Names roots (bucket_root kept.mask k) x
  named_in k less x e = let place = any_place x (bucket k less).blocks e in names_each roots (bucket_root kept.mask k) shape cells (bucket k less).blocks (bucket k less).named place.0 x place.1

  split : (x : ℕ) (xs ys : List ℕ) → list_any (eqb x) (xs ++ ys) ≡ true → (list_any (eqb x) xs || list_any (eqb x) ys) ≡ true
  split x xs ys e = sym (list_any-append (eqb x) xs ys) ∙ e

  gather_more : (k : ℕ) (less : k < kept.mask.size) (xs : List ℕ) → AreGathered roots kept.mask k xs → AreGathered roots kept.mask (k + 1) (xs ++ (bucket k less).blocks)
  gather_more k less xs g = let b = bucket k less in record {
    different = different_append xs b.blocks g.different (all_different mirror.next.items _ b.blocks b.chain.spelled) (λ x left right. clash x (g.from x left) (named_in k less x right));
    low = λ x e. low_in x (list_any (eqb x) xs) refl (split x xs b.blocks e);
    from = λ x e. from_in x (list_any (eqb x) xs) refl (split x xs b.blocks e);
  }
    where
      clash : (x : ℕ) → ((j : ℕ) × (j < k) × Names roots (bucket_root kept.mask j) x) → Names roots (bucket_root kept.mask k) x → ⊥
      clash x (j, early, there) here = let low : j < kept.mask.size = omega arith in
          let same = keeps.once (bucket_root kept.mask j) (bucket_root kept.mask k) x (at j low) (at k less) there here in
          let both = keeps.apart (bucket_root kept.mask k) (record { slot = slot; bucket = j; kept = kept; stands = stands; within = low; same = sym same }) (at k less) in
          let is = both.1 in absurd (omega arith)

      low_in : (x : ℕ) (t : Bool) → list_any (eqb x) xs ≡ t → (t || list_any (eqb x) (bucket k less).blocks) ≡ true → x < POOL_BLOCKS
      low_in x true is e = g.low x is
      low_in x false is e = all_low mirror.next.items _ (bucket k less).blocks (bucket k less).chain.spelled x e

      from_in : (x : ℕ) (t : Bool) → list_any (eqb x) xs ≡ t → (t || list_any (eqb x) (bucket k less).blocks) ≡ true → (j : ℕ) × (j < k + 1) × Names roots (bucket_root kept.mask j) x
      from_in x true is e = let old = g.from x is in let early = old.1 in (old.0, omega arith, old.2)
      from_in x false is e = (k, omega arith, named_in k less x e)

  gathered : (k : ℕ) → k ≤ kept.mask.size → AreGathered roots kept.mask k (bucket_blocks roots kept.mask k)
  gathered zero low = record { different = none_different; low = λ x e. absurd (cc e); from = λ x e. absurd (cc e) }
  gathered (suc k) low = let less : k < kept.mask.size = omega arith in let more : k + 1 ≡ suc k = omega arith in
      subst (λ (n : ℕ). AreGathered roots kept.mask n (bucket_blocks roots kept.mask n)) more
      (subst (AreGathered roots kept.mask (k + 1)) (sym (blocks_more k less)) (gather_more k less (bucket_blocks roots kept.mask k) (gathered k (omega arith))))

  pub few_gathered : (k : ℕ) → k ≤ kept.mask.size → length (bucket_blocks roots kept.mask k) ≤ POOL_BLOCKS
  few_gathered k low = let g = gathered k low in length-le_from_distinct_below (bucket_blocks roots kept.mask k) POOL_BLOCKS g.different g.low

-- ---- the other masks
module _ (mirror mirror2 : Mirror) (slot : ℕ) (small : slot < MASK_SLOTS) (slots : mirror2.slots.items ≡ set mirror.slots.items slot None) (first : mirror2.first.items ≡ mirror.first.items)
    (next : mirror2.next.items ≡ mirror.next.items) (filters : mirror2.filters.items ≡ mirror.filters.items) where
  stood : (other : ℕ) (kept : KeptMask) → Stands mirror2 other kept → Stands mirror other kept
  stood other kept s = pick (eqb other slot) refl
    where
      now : get_or (set mirror.slots.items slot None) other None ≡ Some kept
      now = ap (λ (xs : List (Option KeptMask)). get_or xs other None) (sym slots) ∙ s

      pick : (t : Bool) → eqb other slot ≡ t → Stands mirror other kept
      pick true e = let long = mirror.slots_long in let is = eqb-true other slot e in
          let gone : get_or (set mirror.slots.items slot None) other None ≡ None = ap (λ (k : ℕ). get_or (set mirror.slots.items slot None) k None) is ∙ get_or-set_same mirror.slots.items slot None None (omega arith) in
          absurd (cc (sym gone ∙ now))
      pick false e = sym (get_or-set_other mirror.slots.items slot other None None (eqb-false other slot e)) ∙ now

  abbrev bucket_stood : (root : ℕ) → BucketAt mirror2 root → BucketAt mirror root
  bucket_stood root b = record { slot = b.slot; bucket = b.bucket; kept = b.kept; stands = stood b.slot b.kept b.stands; within = b.within; same = b.same }

  chain_stays : (shape : Shape) (cells : List ℕ) (size k number : ℕ) (bs : List ℕ) → HoldsChain mirror shape cells size k number bs → HoldsChain mirror2 shape cells size k number bs
  chain_stays shape cells size k number bs s = record {
    spelled = subst (λ (xs : List ℕ). Spells xs number bs) (sym next) s.spelled;
    hold = subst (λ (fs : List (Option StoredFilter)). HoldFilters fs shape cells size k bs) (sym filters) s.hold;
  }

  bucket_stays : (shape : Shape) (cells : List ℕ) (roots : ℕ → Named) (mask : StoredMask) (k : ℕ) → KeepsBucket mirror shape cells roots mask k → KeepsBucket mirror2 shape cells roots mask k
  bucket_stays shape cells roots mask k b = record {
    blocks = b.blocks;
    chain = subst (λ (xs : List ℕ). HoldsChain mirror2 shape cells mask.size k (get_or xs (bucket_at mask k) 0) b.blocks) (sym first) (chain_stays shape cells mask.size k (get_or mirror.first.items (bucket_at mask k) 0) b.blocks b.chain);
    named = b.named;
  }

  pub kept_forgotten : (shape : Shape) (cells : List ℕ) (roots : ℕ → Named) → IsKept mirror shape cells roots → IsKept mirror2 shape cells roots
  kept_forgotten shape cells roots keeps = record {
    masks = λ other kept s. keeps.masks other kept (stood other kept s);
    buckets = λ root b. bucket_stays shape cells roots b.kept.mask b.bucket (keeps.buckets root (bucket_stood root b));
    apart = λ root one two. keeps.apart root (bucket_stood root one) (bucket_stood root two);
    once = λ root other x one two. keeps.once root other x (bucket_stood root one) (bucket_stood other two);
  }
