-- What is kept goes on to be what the roots name: as a block that no root names is filled, and as a bucket's
-- root is given another chain.
use Rattle.std.proofs.Common.{◌≡◌, ◌≢◌, ◌∙◌, ◌⊎◌, inl, inr, ℕ, zero, suc, ◌+◌, ◌/◌, ◌<◌, ◌≤◌, Bool, true, false, eqb, List, [], ◌∷◌, ◌++◌, length, set, get_or, slice_get, Option, Some, None, refl, sym, ap, subst, arith, eqb-true, get_or-set_other, get_or-set_same}
use Rattle.std.proofs.lemmas.Bool.{eqb-false}
use Rattle.std.proofs.lemmas.Bool.Decides.{nat_tests}
use Rattle.store_history.specs.declared.history.Link.{Link}
use Rattle.store_history.specs.declared.history.Named.{Named}
use Rattle.store_history.specs.declared.history.Commit.{Commit}
use Rattle.store_history.specs.History.{root_of}
use Rattle.store_history.proofs.Histories.{root_own, root_other, named_at_end}
use Rattle.store_history.specs.declared.places.TheConstants.{BUCKET_ROOTS, POOL_BLOCKS, BUCKETS}
use Rattle.pin_store.specs.declared.shape.Shape.{Shape}
use Rattle.pin_store.specs.declared.view.Sheet.{Sheet}
use Rattle.pin_store.specs.Layout.{block_words, links_of, block_in}
use Rattle.pin_store.specs.Sheets.{base_of, IsSameButCells}
use Rattle.pin_store.specs.Calls.{IsUnnamed}
use Rattle.block_codec.specs.declared.filter.StoredFilter.{StoredFilter}
use Rattle.block_codec.specs.declared.mask.StoredMask.{StoredMask}
use Rattle.block_codec.specs.Filters.{IsFilterBlock}
use Rattle.block_codec.specs.Masks.{IsMaskBlock, IsStorableMask}
use Rattle.mask_table.specs.Buckets.{mask_root, bucket_root, bucket_for}
use Rattle.mask_table.specs.declared.mirrors.mirror.Mirror.{Mirror}
use Rattle.mask_table.specs.declared.mirrors.mirror.KeptMask.{KeptMask}
use Rattle.mask_table.specs.OfMirrors.Kept.{bucket_at, Stands, Spells, HoldFilters, HoldsChain, BucketAt, Names, KeepsMask, KeepsBucket, IsKept, AreOwn}
use Rattle.mask_table.specs.OfMirrors.Changes.{IsFilled, IsRenamed}
use Rattle.mask_table.proofs.OfMirrors.Chains.{first_spelled, spelled_low, link_there, block_there, links_same, spells_same, hold_same}

-- the base stays where only words of blocks change
pub same_base : (old new : Sheet) → IsSameButCells old new → base_of new ≡ base_of old
same_base old new s = λ t. base_of (record old { starts = s.starts t; quiet = s.quiet t })

-- one mask stands at a slot
pub same_kept : (mirror : Mirror) (slot other : ℕ) (kept more : KeptMask) → slot ≡ other → Stands mirror slot kept → Stands mirror other more → kept ≡ more
same_kept mirror slot other kept more e s t =
    let both : Some kept ≡ Some more = sym s ∙ (ap (λ (k : ℕ). get_or mirror.slots.items k None) e ∙ t) in cc

-- a bucket's root is as far behind the first of all as its place says
pub at_root : (mask : StoredMask) (bucket : ℕ) → bucket_root mask bucket ≡ BUCKET_ROOTS + bucket_at mask bucket
at_root mask bucket = omega arith

-- and within those of all rows
pub place_low : (mask : StoredMask) (bucket : ℕ) → IsStorableMask mask → bucket < mask.size → bucket_at mask bucket < BUCKETS
place_low mask bucket is less = let rows = is.rows in let row = is.each_row (bucket / 16) 0 (omega arith) in omega arith

-- a mask has buckets
pub some_buckets : (mask : StoredMask) → IsStorableMask mask → 0 < mask.size
some_buckets mask is = let size = is.size in grind (arith, nat_tests)

-- where no mask stands, all is kept
pub kept_none : (mirror : Mirror) → ((slot : ℕ) → get_or mirror.slots.items slot None ≡ None) → (shape : Shape) (cells : List ℕ) (roots : ℕ → Named) → IsKept mirror shape cells roots
kept_none mirror none shape cells roots = record {
  masks = λ slot kept s. absurd (never slot kept s);
  buckets = λ root at. absurd (never at.slot at.kept at.stands);
  apart = λ root one two. absurd (never one.slot one.kept one.stands);
  once = λ root other b one two left right. absurd (never one.slot one.kept one.stands);
}
  where
    never : (slot : ℕ) (kept : KeptMask) → Stands mirror slot kept → ⊥
    never slot kept s = cc (sym (none slot) ∙ s)

-- what is unnamed since the base, no root names now
pub unnamed_now : {E : Type 0} (base : ℕ) (h : List (Commit E)) (b : ℕ) → base ≤ length h → IsUnnamed base h b → (root : ℕ) → Names (root_of h) root b → ⊥
unnamed_now base h b low free root (place, l, e, f) = free l (named_at_end base h root place l low e) f

-- the blocks of a chain that a root names
pub names_each : (roots : ℕ → Named) (root : ℕ) (shape : Shape) (cells bs : List ℕ) → (roots root).chain ≡ links_of shape cells bs → (place b : ℕ) → slice_get bs place ≡ Some b → Names roots root b
names_each roots root shape cells bs named place b e = let link : Link = record { block = b; words = block_words shape cells b } in
    (place, link, subst (λ (ls : List Link). slice_get ls place ≡ Some link) (sym named) (link_there shape cells bs place b e), refl)

-- a bucket stays one where the masks stay
abbrev pub bucket_with : (mirror mirror2 : Mirror) (root : ℕ) → mirror2.slots.items ≡ mirror.slots.items → BucketAt mirror2 root → BucketAt mirror root
bucket_with mirror mirror2 root slots at = record { slot = at.slot; bucket = at.bucket; kept = at.kept; stands = ap (λ (xs : List (Option KeptMask)). get_or xs at.slot None) (sym slots) ∙ at.stands; within = at.within; same = at.same }

-- ---- a block that no root names is filled
pub filled_by : (mirror mirror2 : Mirror) (shape : Shape) (old new : List ℕ) (b number age : ℕ) (filter : Option StoredFilter) → POOL_BLOCKS ≤ shape.blocks
    → ((other : ℕ) → other ≢ b → other < shape.blocks → block_words shape new other ≡ block_words shape old other)
    → mirror2.slots.items ≡ mirror.slots.items → mirror2.first.items ≡ mirror.first.items → mirror2.next.items ≡ set mirror.next.items b number → mirror2.filters.items ≡ set mirror.filters.items b filter
    → mirror2.ages.items ≡ set mirror.ages.items b age → IsFilled mirror mirror2 shape old new b
filled_by mirror mirror2 shape old new b number age filter wide others slots first next filters ages = record {
  wide = wide;
  others = others;
  slots = slots;
  first = first;
  next = λ c apart. ap (λ (xs : List ℕ). get_or xs c 0) next ∙ get_or-set_other mirror.next.items b c number 0 apart;
  filters = λ c apart. ap (λ (xs : List (Option StoredFilter)). get_or xs c None) filters ∙ get_or-set_other mirror.filters.items b c filter None apart;
  ages = λ c apart. ap (λ (xs : List ℕ). get_or xs c 0) ages ∙ get_or-set_other mirror.ages.items b c age 0 apart;
}

module _ (mirror mirror2 : Mirror) (shape : Shape) (old new : List ℕ) (b : ℕ) (f : IsFilled mirror mirror2 shape old new b) where
  words_same : (bs : List ℕ) → ((place c : ℕ) → slice_get bs place ≡ Some c → c ≢ b) → ((place c : ℕ) → slice_get bs place ≡ Some c → c < POOL_BLOCKS)
      → (place c : ℕ) → slice_get bs place ≡ Some c → block_words shape new c ≡ block_words shape old c
  words_same bs apart low place c e = let less = low place c e in let wide = f.wide in f.others c (apart place c e) (omega arith)

  -- a chain without the block
  pub chain_same : (size bucket number : ℕ) (bs : List ℕ) → ((place c : ℕ) → slice_get bs place ≡ Some c → c ≢ b) → HoldsChain mirror shape old size bucket number bs → HoldsChain mirror2 shape new size bucket number bs
  chain_same size bucket number bs apart s = record {
    spelled = spells_same mirror.next.items mirror2.next.items number bs (λ place c e. f.next c (apart place c e)) s.spelled;
    hold = hold_same shape old new mirror.filters.items mirror2.filters.items size bucket bs (words_same bs apart (spelled_low mirror.next.items number bs s.spelled)) (λ place c e. f.filters c (apart place c e)) s.hold;
  }

  -- and with it in front
  pub chain_more : (size number : ℕ) (bs : List ℕ) (filter : StoredFilter) → b < POOL_BLOCKS → ((place c : ℕ) → slice_get bs place ≡ Some c → c ≢ b) → get_or mirror2.next.items b 0 ≡ number → get_or mirror2.filters.items b None ≡ Some filter
      → IsFilterBlock (block_words shape new b) (filter, block_in number) → HoldsChain mirror shape old size (bucket_for size filter.key.words) number bs
      → HoldsChain mirror2 shape new size (bucket_for size filter.key.words) (b + 1) (b ∷ bs)
  chain_more size number bs filter pool apart next kept there s = let rest = chain_same size (bucket_for size filter.key.words) number bs apart s in record {
    spelled = (refl, pool, subst (λ (k : ℕ). Spells mirror2.next.items k bs) (sym next) rest.spelled);
    hold = (
      record {
        filter = filter;
        kept = kept;
        hashed = refl;
        there = subst (λ (k : ℕ). IsFilterBlock (block_words shape new b) (filter, block_in k)) (first_spelled mirror.next.items number bs s.spelled) there;
      },
      rest.hold,
    );
  }

  module _ (roots : ℕ → Named) (free : (root : ℕ) → Names roots root b → ⊥) (keeps : IsKept mirror shape old roots) where
    pub apart_from : (root : ℕ) (bs : List ℕ) → (roots root).chain ≡ links_of shape old bs → (place c : ℕ) → slice_get bs place ≡ Some c → c ≢ b
    apart_from root bs named place c e is = free root (subst (Names roots root) is (names_each roots root shape old bs named place c e))

    bucket_filled : (root : ℕ) (at : BucketAt mirror root) → KeepsBucket mirror2 shape new roots at.kept.mask at.bucket
    bucket_filled root at = let was = keeps.buckets root at in let start = bucket_at at.kept.mask at.bucket in let this = bucket_root at.kept.mask at.bucket in
        let apart = apart_from this was.blocks was.named in record {
          blocks = was.blocks;
          chain = subst (λ (k : ℕ). HoldsChain mirror2 shape new at.kept.mask.size at.bucket k was.blocks) (ap (λ (xs : List ℕ). get_or xs start 0) (sym f.first))
              (chain_same at.kept.mask.size at.bucket (get_or mirror.first.items start 0) was.blocks apart was.chain);
          named = was.named ∙ sym (links_same shape old new was.blocks (words_same was.blocks apart (spelled_low mirror.next.items (get_or mirror.first.items start 0) was.blocks was.chain.spelled)));
        }

    mask_filled : (slot : ℕ) (kept : KeptMask) → Stands mirror slot kept → KeepsMask shape new roots slot kept
    mask_filled slot kept s = let was = keeps.masks slot kept s in
        let same = words_same (kept.block ∷ []) (apart_from (mask_root slot) (kept.block ∷ []) was.named) (only was.low) in record {
          small = was.small;
          low = was.low;
          named = was.named ∙ sym (links_same shape old new (kept.block ∷ []) same);
          there = subst (λ (ws : List ℕ). IsMaskBlock ws (kept.mask, None)) (sym (same 0 kept.block refl)) was.there;
        }
      where
        only : kept.block < POOL_BLOCKS → (k c : ℕ) → slice_get (kept.block ∷ []) k ≡ Some c → c < POOL_BLOCKS
        only low zero c e = let is : kept.block ≡ c = cc in omega arith
        only low (suc k) c e = absurd (cc e)

    pub kept_filled : IsKept mirror2 shape new roots
    kept_filled = record {
      masks = λ slot kept s. mask_filled slot kept (ap (λ (xs : List (Option KeptMask)). get_or xs slot None) (sym f.slots) ∙ s);
      buckets = λ root at. bucket_filled root (bucket_with mirror mirror2 root f.slots at);
      apart = λ root one two. keeps.apart root (bucket_with mirror mirror2 root f.slots one) (bucket_with mirror mirror2 root f.slots two);
      once = λ root other c one two. keeps.once root other c (bucket_with mirror mirror2 root f.slots one) (bucket_with mirror mirror2 other f.slots two);
    }

-- ---- the root of a bucket is given another chain
module _ {E : Type 0} (mirror mirror2 : Mirror) (shape : Shape) (cells : List ℕ) (h : List (Commit E)) (c : Commit E) (place number : ℕ) (bs : List ℕ) (own : BucketAt mirror c.root)
    (root : c.root ≡ BUCKET_ROOTS + place) (renamed : IsRenamed mirror mirror2 place number) (keeps : IsKept mirror shape cells (root_of h))
    (chain : HoldsChain mirror shape cells own.kept.mask.size own.bucket number bs) (named : c.named.chain ≡ links_of shape cells bs) (alone : AreOwn mirror (root_of h) c.root bs) where
  abbrev after : ℕ → Named
  after = root_of (h ++ c ∷ [])

  own_chain : (after c.root).chain ≡ links_of shape cells bs
  own_chain = ap (λ (n : Named). n.chain) (root_own h c) ∙ named

  other_chain : (other : ℕ) → other ≢ c.root → (after other).chain ≡ (root_of h other).chain
  other_chain other apart = ap (λ (n : Named). n.chain) (root_other h c other (λ e. apart (sym e)))

  -- the mirror but for the numbers of buckets
  chain_kept : (size bucket k : ℕ) (blocks : List ℕ) → HoldsChain mirror shape cells size bucket k blocks → HoldsChain mirror2 shape cells size bucket k blocks
  chain_kept size bucket k blocks s = record {
    spelled = subst (λ (xs : List ℕ). Spells xs k blocks) (sym renamed.next) s.spelled;
    hold = subst (λ (fs : List (Option StoredFilter)). HoldFilters fs shape cells size bucket blocks) (sym renamed.filters) s.hold;
  }

  place_is : place ≡ bucket_at own.kept.mask own.bucket
  place_is = let mine = own.same in let there = at_root own.kept.mask own.bucket in omega (arith, root)

  own_first : get_or mirror2.first.items (bucket_at own.kept.mask own.bucket) 0 ≡ number
  own_first = let long = mirror.first_long in let storable = (keeps.masks own.slot own.kept own.stands).there.storable in
      let low = place_low own.kept.mask own.bucket storable own.within in
      ap (λ (k : ℕ). get_or mirror2.first.items k 0) (sym place_is) ∙ (ap (λ (xs : List ℕ). get_or xs place 0) renamed.first ∙ get_or-set_same mirror.first.items place number 0 (omega (arith, place_is)))

  own_bucket : KeepsBucket mirror2 shape cells after own.kept.mask own.bucket
  own_bucket = record {
    blocks = bs;
    chain = subst (λ (k : ℕ). HoldsChain mirror2 shape cells own.kept.mask.size own.bucket k bs) (sym own_first) (chain_kept own.kept.mask.size own.bucket number bs chain);
    named = ap (λ (k : ℕ). (after k).chain) (sym own.same) ∙ own_chain;
  }

  own_as : (mask : StoredMask) (k : ℕ) → own.kept.mask ≡ mask → own.bucket ≡ k → KeepsBucket mirror2 shape cells after mask k
  own_as mask k e f = subst (λ (j : ℕ). KeepsBucket mirror2 shape cells after mask j) f (subst (λ (m : StoredMask). KeepsBucket mirror2 shape cells after m own.bucket) e own_bucket)

  other_bucket : (other : ℕ) (at : BucketAt mirror other) → other ≢ c.root → KeepsBucket mirror2 shape cells after at.kept.mask at.bucket
  other_bucket other at apart = let was = keeps.buckets other at in let start = bucket_at at.kept.mask at.bucket in
      let away : start ≢ place = λ e. apart (at.same ∙ (at_root at.kept.mask at.bucket ∙ (ap (λ (k : ℕ). BUCKET_ROOTS + k) e ∙ sym root))) in
      let same = ap (λ (xs : List ℕ). get_or xs start 0) renamed.first ∙ get_or-set_other mirror.first.items place start number 0 away in record {
        blocks = was.blocks;
        chain = subst (λ (k : ℕ). HoldsChain mirror2 shape cells at.kept.mask.size at.bucket k was.blocks) (sym same) (chain_kept at.kept.mask.size at.bucket (get_or mirror.first.items start 0) was.blocks was.chain);
        named = other_chain (bucket_root at.kept.mask at.bucket) (λ e. apart (at.same ∙ e)) ∙ was.named;
      }

  bucket_renamed : (other : ℕ) (at : BucketAt mirror other) → KeepsBucket mirror2 shape cells after at.kept.mask at.bucket
  bucket_renamed other at = by (eqb other c.root) refl
    where
      by : (t : Bool) → eqb other c.root ≡ t → KeepsBucket mirror2 shape cells after at.kept.mask at.bucket
      by true e = let is = eqb-true other c.root e in
          let same = keeps.apart c.root own (record { slot = at.slot; bucket = at.bucket; kept = at.kept; stands = at.stands; within = at.within; same = sym is ∙ at.same }) in
          own_as at.kept.mask at.bucket (ap (λ (m : KeptMask). m.mask) (same_kept mirror own.slot at.slot own.kept at.kept same.0 own.stands at.stands)) same.1
      by false e = other_bucket other at (eqb-false other c.root e)

  mask_renamed : (slot : ℕ) (kept : KeptMask) → Stands mirror slot kept → KeepsMask shape cells after slot kept
  mask_renamed slot kept s = let was = keeps.masks slot kept s in let small = was.small in record {
    small = was.small;
    low = was.low;
    named = other_chain (mask_root slot) (λ e. absurd (omega (arith, e, root))) ∙ was.named;
    there = was.there;
  }

  -- what a root names now it named before, or it is in the new chain
  named_before : (other x : ℕ) → Names after other x → ((other ≡ c.root) × ((k : ℕ) × (slice_get bs k ≡ Some x))) ⊎ Names (root_of h) other x
  named_before other x (k, l, e, f) = by (eqb other c.root) refl
    where
      by : (t : Bool) → eqb other c.root ≡ t → ((other ≡ c.root) × ((k : ℕ) × (slice_get bs k ≡ Some x))) ⊎ Names (root_of h) other x
      by true same = let is = eqb-true other c.root same in
          let there : slice_get (links_of shape cells bs) k ≡ Some l = subst (λ (ls : List Link). slice_get ls k ≡ Some l) (ap (λ (j : ℕ). (after j).chain) is ∙ own_chain) e in
          inl (is, (k, block_there shape cells bs k l there ∙ ap Some f))
      by false same = inr (k, l, subst (λ (ls : List Link). slice_get ls k ≡ Some l) (other_chain other (eqb-false other c.root same)) e, f)

  once_renamed : (one other x : ℕ) → BucketAt mirror one → BucketAt mirror other → Names after one x → Names after other x → one ≡ other
  once_renamed one other x one_at other_at left right = by (named_before one x left) (named_before other x right)
    where
      by : ((one ≡ c.root) × ((k : ℕ) × (slice_get bs k ≡ Some x))) ⊎ Names (root_of h) one x → ((other ≡ c.root) × ((k : ℕ) × (slice_get bs k ≡ Some x))) ⊎ Names (root_of h) other x → one ≡ other
      by (inl a) (inl b) = a.0 ∙ sym b.0
      by (inl a) (inr b) = a.0 ∙ sym (alone a.1.0 x other a.1.1 other_at b)
      by (inr a) (inl b) = alone b.1.0 x one b.1.1 one_at a ∙ sym b.0
      by (inr a) (inr b) = keeps.once one other x one_at other_at a b

  pub kept_renamed : IsKept mirror2 shape cells after
  kept_renamed = record {
    masks = λ slot kept s. mask_renamed slot kept (ap (λ (xs : List (Option KeptMask)). get_or xs slot None) (sym renamed.slots) ∙ s);
    buckets = λ other at. bucket_renamed other (bucket_with mirror mirror2 other renamed.slots at);
    apart = λ other one two. keeps.apart other (bucket_with mirror mirror2 other renamed.slots one) (bucket_with mirror mirror2 other renamed.slots two);
    once = λ one other x a b. once_renamed one other x (bucket_with mirror mirror2 one renamed.slots a) (bucket_with mirror mirror2 other renamed.slots b);
  }
