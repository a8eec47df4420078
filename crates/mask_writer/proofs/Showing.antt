-- The masks that a writer keeps in its arrays, and as which they are seen: what is said of the one holds of
-- the other.
use Rattle.std.proofs.Common.{◌≡◌, ◌≢◌, ◌∙◌, ℕ, zero, suc, ◌+◌, ◌<◌, ◌≤◌, List, [], ◌∷◌, length, map, set, get_or, Option, Some, None, refl, sym, ap, subst, arith, get_or-set_other}
use Rattle.std.proofs.lemmas.Simd.{map-map}
use Rattle.std.proofs.lemmas.List.{length-map}
use Rattle.std.proofs.lemmas.List.FromFn.{get_or-map-range_with_len}
use Rattle.store_history.specs.declared.history.Named.{Named}
use Rattle.pin_store.specs.declared.shape.Shape.{Shape}
use Rattle.pin_store.specs.Layout.{block_words, links_of, first_of, block_in}
use Rattle.block_codec.specs.declared.filter.StoredFilter.{StoredFilter}
use Rattle.block_codec.specs.Filters.{IsFilterBlock}
use Rattle.mask_table.specs.Buckets.{bucket_root, bucket_of}
use Rattle.mask_table.specs.declared.mirrors.mirror.Mirror.{Mirror}
use Rattle.mask_table.specs.declared.mirrors.mirror.KeptMask.{KeptMask}
use Rattle.mask_table.specs.OfMirrors.Kept.{bucket_at, Stands, Spells, HoldFilters, HoldsChain, BucketAt, KeepsBucket, IsKept}
use Rattle.mask_table.specs.OfMirrors.Given.{AreFreeRows}
use Rattle.mask_table.specs.OfMirrors.Linked.{Placed}
use Rattle.mask_table.specs.OfMirrors.Lists.{Dated, age_of, kept_in, HasFilters}
use Rattle.mask_table.proofs.OfMirrors.Chains.{one_behind}
use Rattle.mask_table.proofs.OfMirrors.Spelling.{few_blocks}
use Rattle.mask_table.proofs.OfMirrors.Dates.{rises_higher}
use Rattle.mask_table.proofs.OfMirrors.Lasting.{kept_same}
use Rattle.mask_table.proofs.OfMirrors.Keeping.{kept_none}
use Rattle.mask_order.proofs.Placing.{dated_filters}
use Rattle.mask_order.proofs.OneList.{one_list}
use Rattle.mask_writer.specs.Masks.{Order, Standing, Masks}
use Rattle.mask_writer.specs.Shown.{with_block, followed, chain_of, standing_of, all_standing, IsTold}
use Rattle.mask_writer.specs.Standing.{mask_in, order_in, chain_in, masks_of, order_at, chain_at, StandsAt, Holds, first_in, AreFiled, BucketOf, NamesChain, AreNamed, AreFree}

-- ---- slot by slot
at_slot : (mirror : Mirror) (slots : List (Option KeptMask)) (orders : List (Option Order)) (k : ℕ)
    → get_or (all_standing mirror slots orders) k None ≡ standing_of mirror (get_or slots k None) (get_or orders k None)
at_slot mirror [] orders k = refl
at_slot mirror (slot ∷ slots) [] zero = refl
at_slot mirror (slot ∷ slots) [] (suc k) = at_slot mirror slots [] k
at_slot mirror (slot ∷ slots) (order ∷ orders) zero = refl
at_slot mirror (slot ∷ slots) (order ∷ orders) (suc k) = at_slot mirror slots orders k

one_mask_in : (mirror : Mirror) (slot : Option KeptMask) (order : Option Order) → mask_in (standing_of mirror slot order) ≡ slot
one_mask_in mirror None order = refl
one_mask_in mirror (Some kept) order = refl

masks_in : (mirror : Mirror) (slots : List (Option KeptMask)) (orders : List (Option Order)) → map mask_in (all_standing mirror slots orders) ≡ slots
masks_in mirror [] orders = refl
masks_in mirror (slot ∷ slots) [] = let one = one_mask_in mirror slot None in let rest = masks_in mirror slots [] in λ t. one t ∷ rest t
masks_in mirror (slot ∷ slots) (order ∷ orders) = let one = one_mask_in mirror slot order in let rest = masks_in mirror slots orders in λ t. one t ∷ rest t

long_in : (mirror : Mirror) (slots : List (Option KeptMask)) (orders : List (Option Order)) → length (all_standing mirror slots orders) ≡ length slots
long_in mirror [] orders = refl
long_in mirror (slot ∷ slots) [] = ap suc (long_in mirror slots [])
long_in mirror (slot ∷ slots) (order ∷ orders) = ap suc (long_in mirror slots orders)

-- ---- a chain that is kept, with the filters of its blocks
module _ (filters : List (Option StoredFilter)) (shape : Shape) (cells : List ℕ) (size bucket : ℕ) where
  abbrev filed : (bs : List ℕ) → HoldFilters filters shape cells size bucket bs → List Placed
  filed [] hold = []
  filed (b ∷ bs) hold = record { block = b; filter = hold.0.filter } ∷ filed bs hold.1

  filed_blocks : (bs : List ℕ) (hold : HoldFilters filters shape cells size bucket bs) → map (λ (p : Placed). p.block) (filed bs hold) ≡ bs
  filed_blocks [] hold = refl
  filed_blocks (b ∷ bs) hold = ap (λ (xs : List ℕ). b ∷ xs) (filed_blocks bs hold.1)

  filed_kept : (bs : List ℕ) (hold : HoldFilters filters shape cells size bucket bs) → map Some (map (λ (p : Placed). p.filter) (filed bs hold)) ≡ map (λ (b : ℕ). get_or filters b None) bs
  filed_kept [] hold = refl
  filed_kept (b ∷ bs) hold = let one = sym hold.0.kept in let rest = filed_kept bs hold.1 in λ t. one t ∷ rest t

  first_filed : (bs : List ℕ) (hold : HoldFilters filters shape cells size bucket bs) → block_in (first_of bs) ≡ first_in (filed bs hold)
  first_filed [] hold = refl
  first_filed (b ∷ bs) hold = one_behind b

  are_filed : (next : List ℕ) (number : ℕ) (bs : List ℕ) (hold : HoldFilters filters shape cells size bucket bs) → Spells next number bs → AreFiled shape cells size bucket (filed bs hold)
  are_filed next number [] hold s = tt
  are_filed next number (b ∷ bs) hold s = (
    record {
      pool = s.1;
      hashed = hold.0.hashed;
      there = subst (λ (link : Option ℕ). IsFilterBlock (block_words shape cells b) (hold.0.filter, link)) (first_filed bs hold.1) hold.0.there;
    },
    are_filed next (get_or next b 0) bs hold.1 s.2,
  )

  -- the same filters may stand there in other words
  filed_again : (shape2 : Shape) (cells2 bs : List ℕ) (hold : HoldFilters filters shape cells size bucket bs) → AreFiled shape2 cells2 size bucket (filed bs hold) → HoldFilters filters shape2 cells2 size bucket bs
  filed_again shape2 cells2 [] hold are = tt
  filed_again shape2 cells2 (b ∷ bs) hold are = (
    record {
      filter = hold.0.filter;
      kept = hold.0.kept;
      hashed = hold.0.hashed;
      there = subst (λ (link : Option ℕ). IsFilterBlock (block_words shape2 cells2 b) (hold.0.filter, link)) (sym (first_filed bs hold.1)) are.0.there;
    },
    filed_again shape2 cells2 bs hold.1 are.1,
  )

followed_filed : (mirror : Mirror) (shape : Shape) (cells : List ℕ) (size bucket many number : ℕ) (bs : List ℕ) (hold : HoldFilters mirror.filters.items shape cells size bucket bs) → Spells mirror.next.items number bs
    → length bs ≤ many → followed mirror many number ≡ filed mirror.filters.items shape cells size bucket bs hold
followed_filed mirror shape cells size bucket zero number [] hold s few = refl
followed_filed mirror shape cells size bucket (suc many) number [] hold s few = ap (followed mirror (suc many)) s
followed_filed mirror shape cells size bucket zero number (b ∷ bs) hold s few = absurd (omega arith)
followed_filed mirror shape cells size bucket (suc many) number (b ∷ bs) hold s few = let first = s.0 in let is : number ≡ suc b = omega arith in
    ap (followed mirror (suc many)) is
    ∙ (ap (λ (f : Option StoredFilter). with_block b f (followed mirror many (get_or mirror.next.items b 0))) hold.0.kept
    ∙ ap (λ (ps : List Placed). record { block = b; filter = hold.0.filter } ∷ ps) (followed_filed mirror shape cells size bucket many (get_or mirror.next.items b 0) bs hold.1 s.2 (omega arith)))

-- what a writer with these arrays and orders is seen as
abbrev pub seen_as : Mirror → List (Option Order) → List ℕ → List ℕ → Masks
seen_as mirror orders left_blocks left_rows = record { at = all_standing mirror mirror.slots.items orders; left_blocks = left_blocks; left_rows = left_rows }

-- ---- a writer that is seen so
module _ (writer : Masks) (mirror : Mirror) (orders : List (Option Order)) (shown : writer.at ≡ all_standing mirror mirror.slots.items orders) where
  pub masks_are : masks_of writer ≡ mirror.slots.items
  masks_are = ap (map mask_in) shown ∙ masks_in mirror mirror.slots.items orders

  pub stands_kept : (slot : ℕ) (kept : KeptMask) → StandsAt writer slot kept → Stands mirror slot kept
  stands_kept slot kept s = ap (λ (xs : List (Option KeptMask)). get_or xs slot None) (sym masks_are) ∙ s

  pub stands_shown : (slot : ℕ) (kept : KeptMask) → Stands mirror slot kept → StandsAt writer slot kept
  stands_shown slot kept s = ap (λ (xs : List (Option KeptMask)). get_or xs slot None) masks_are ∙ s

  pub slot_is : (slot : ℕ) → get_or writer.at slot None ≡ standing_of mirror (get_or mirror.slots.items slot None) (get_or orders slot None)
  slot_is slot = ap (λ (xs : List (Option Standing)). get_or xs slot None) shown ∙ at_slot mirror mirror.slots.items orders slot

  standing_is : (slot : ℕ) (kept : KeptMask) → Stands mirror slot kept → get_or writer.at slot None ≡ standing_of mirror (Some kept) (get_or orders slot None)
  standing_is slot kept s = slot_is slot ∙ ap (λ (k : Option KeptMask). standing_of mirror k (get_or orders slot None)) s

  pub order_is : (slot : ℕ) (kept : KeptMask) → Stands mirror slot kept → order_at writer slot ≡ get_or orders slot None
  order_is slot kept s = ap order_in (standing_is slot kept s)

  pub chain_is : (slot : ℕ) (kept : KeptMask) → Stands mirror slot kept → (bucket : ℕ) → bucket < kept.mask.size → chain_at writer slot bucket ≡ chain_of mirror kept.mask bucket
  chain_is slot kept s bucket less = ap (λ (x : Option Standing). chain_in x bucket) (standing_is slot kept s)
      ∙ get_or-map-range_with_len (chain_of mirror kept.mask) 0 kept.mask.size bucket bucket [] less (omega arith)

  -- a chain that is kept is seen with its filters
  chain_filed : (shape : Shape) (cells : List ℕ) (slot : ℕ) (kept : KeptMask) (bucket : ℕ) (bs : List ℕ) → Stands mirror slot kept → bucket < kept.mask.size
      → (chain : HoldsChain mirror shape cells kept.mask.size bucket (get_or mirror.first.items (bucket_at kept.mask bucket) 0) bs)
      → chain_at writer slot bucket ≡ filed mirror.filters.items shape cells kept.mask.size bucket bs chain.hold
  chain_filed shape cells slot kept bucket bs s less chain = let number = get_or mirror.first.items (bucket_at kept.mask bucket) 0 in
      let few = few_blocks mirror.next.items number bs chain.spelled in let long = mirror.next_long in
      chain_is slot kept s bucket less ∙ followed_filed mirror shape cells kept.mask.size bucket (length mirror.next.items) number bs chain.hold chain.spelled (omega arith)

  abbrev bucket_kept : (root : ℕ) → BucketOf writer root → BucketAt mirror root
  bucket_kept root at = record { slot = at.slot; bucket = at.bucket; kept = at.kept; stands = stands_kept at.slot at.kept at.stands; within = at.within; same = at.same }

  abbrev bucket_shown : (root : ℕ) → BucketAt mirror root → BucketOf writer root
  bucket_shown root at = record { slot = at.slot; bucket = at.bucket; kept = at.kept; stands = stands_shown at.slot at.kept at.stands; within = at.within; same = at.same }

  pub rows_kept : (rows : List ℕ) → AreFree writer rows → AreFreeRows mirror rows
  rows_kept rows are = record { different = are.different; pool = are.pool; free = λ slot row kept s. are.free slot row kept (stands_shown slot kept s) }

  -- what the roots name
  module _ (shape : Shape) (cells : List ℕ) (roots : ℕ → Named) where
    chain_named : (keeps : IsKept mirror shape cells roots) (root : ℕ) (at : BucketOf writer root)
        → NamesChain shape cells roots (bucket_root at.kept.mask at.bucket) at.kept.mask.size at.bucket (chain_at writer at.slot at.bucket)
    chain_named keeps root at = let was = keeps.buckets root (bucket_kept root at) in let size = at.kept.mask.size in
        let fs = mirror.filters.items in let number = get_or mirror.first.items (bucket_at at.kept.mask at.bucket) 0 in
        subst (NamesChain shape cells roots (bucket_root at.kept.mask at.bucket) size at.bucket)
        (sym (chain_filed shape cells at.slot at.kept at.bucket was.blocks (stands_kept at.slot at.kept at.stands) at.within was.chain)) (record {
          named = was.named ∙ ap (links_of shape cells) (sym (filed_blocks fs shape cells size at.bucket was.blocks was.chain.hold));
          filed = are_filed fs shape cells size at.bucket mirror.next.items number was.blocks was.chain.hold was.chain.spelled;
        })

    pub named_shown : IsKept mirror shape cells roots → AreNamed writer shape cells roots
    named_shown keeps = record {
      slots = ap length shown ∙ (long_in mirror mirror.slots.items orders ∙ mirror.slots_long);
      masks = λ slot kept s. keeps.masks slot kept (stands_kept slot kept s);
      buckets = chain_named keeps;
      apart = λ root one two. keeps.apart root (bucket_kept root one) (bucket_kept root two);
      once = λ root other b one two. keeps.once root other b (bucket_kept root one) (bucket_kept other two);
    }

    module _ (told : IsTold mirror orders) (named : AreNamed writer shape cells roots) where
      chain_kept : (root : ℕ) (at : BucketAt mirror root) → KeepsBucket mirror shape cells roots at.kept.mask at.bucket
      chain_kept root at = let was = told.kept.3.buckets root at in let size = at.kept.mask.size in let fs = mirror.filters.items in
          let shape0 = told.kept.0 in let cells0 = told.kept.1 in
          let is = subst (NamesChain shape cells roots (bucket_root at.kept.mask at.bucket) size at.bucket)
          (chain_filed shape0 cells0 at.slot at.kept at.bucket was.blocks at.stands at.within was.chain) (named.buckets root (bucket_shown root at)) in record {
            blocks = was.blocks;
            chain = record { spelled = was.chain.spelled; hold = filed_again fs shape0 cells0 size at.bucket shape cells was.blocks was.chain.hold is.filed };
            named = is.named ∙ ap (links_of shape cells) (filed_blocks fs shape0 cells0 size at.bucket was.blocks was.chain.hold);
          }

      pub named_kept : IsKept mirror shape cells roots
      named_kept = record {
        masks = λ slot kept s. named.masks slot kept (stands_shown slot kept s);
        buckets = chain_kept;
        apart = λ root one two. named.apart root (bucket_shown root one) (bucket_shown root two);
        once = λ root other b one two. named.once root other b (bucket_shown root one) (bucket_shown other two);
      }

  -- ---- the filters in order
  -- no edit after a later one has brought one of them
  has_later : (slot last later : ℕ) (fs : List StoredFilter) → last ≤ later → HasFilters mirror slot last fs → HasFilters mirror slot later fs
  has_later slot last later fs less has = record {
    kept = has.kept;
    stands = has.stands;
    dated = has.dated;
    filters = has.filters;
    rise = rises_higher 0 (age_of (last + 1) 0) (age_of (later + 1) 0) has.dated (omega arith) has.rise;
    buckets = has.buckets;
  }

  pub holds_kept : IsTold mirror orders → (slot last : ℕ) (fs : List StoredFilter) → Holds writer slot last fs → HasFilters mirror slot last fs
  holds_kept told slot last fs has = let is = sym (order_is slot has.kept (stands_kept slot has.kept has.stands)) ∙ has.told in
      subst (HasFilters mirror slot last) has.filters (has_later slot has.order.newest last has.order.filters has.late (told.known slot has.order is))

  -- a mask has its filters in one order alone
  pub holds_again : IsTold mirror orders → (slot last other : ℕ) (fs gs : List StoredFilter) → Holds writer slot last fs → HasFilters mirror slot other gs → Holds writer slot last gs
  holds_again told slot last other fs gs holds has = subst (Holds writer slot last)
      (one_list mirror told.kept.0 told.kept.1 told.kept.2 told.kept.3 slot last other fs gs (holds_kept told slot last fs holds) has) holds

  same_some : {A : Type 0} (xs ys : List A) → map Some xs ≡ map Some ys → xs ≡ ys
  same_some [] [] e = refl
  same_some [] (y ∷ ys) e = absurd (cc e)
  same_some (x ∷ xs) [] e = absurd (cc e)
  same_some (x ∷ xs) (y ∷ ys) e = let one : x ≡ y = cc e in let more : map Some xs ≡ map Some ys = cc e in let rest = same_some xs ys more in λ t. one t ∷ rest t

  pub holds_shown : IsTold mirror orders → (slot last : ℕ) (fs : List StoredFilter) (order : Order) → get_or orders slot None ≡ Some order → order.filters ≡ fs → order.newest ≤ last
      → Holds writer slot last fs
  holds_shown told slot last fs order is filters late = let has = told.known slot order is in let size = has.kept.mask.size in record {
    kept = has.kept;
    stands = stands_shown slot has.kept has.stands;
    order = order;
    told = order_is slot has.kept has.stands ∙ is;
    filters = filters;
    late = late;
    buckets = λ bucket less.
        let shape = told.kept.0 in let cells = told.kept.1 in let stored = mirror.filters.items in
        let was = told.kept.3.buckets (bucket_root has.kept.mask bucket) (record { slot = slot; bucket = bucket; kept = has.kept; stands = has.stands; within = less; same = refl }) in
        let one = filed_kept stored shape cells size bucket was.blocks was.chain.hold in
        let two = map-map (λ (p : ℕ × Option StoredFilter). p.1) (kept_in mirror) was.blocks in
        let three = has.buckets bucket was.blocks less was.chain.spelled in
        let four = dated_filters size bucket has.dated in
        let five = has.filters ∙ filters in
        ap (map (λ (p : Placed). p.filter)) (chain_filed shape cells slot has.kept bucket was.blocks has.stands less was.chain)
        ∙ (same_some _ (bucket_of size bucket (map (λ (d : Dated). d.filter) has.dated)) (one ∙ (sym two ∙ (ap (map (λ (p : ℕ × Option StoredFilter). p.1)) three ∙ sym four)))
        ∙ ap (bucket_of size bucket) five);
  }

-- no mask stands, and nothing is told
abbrev not_told : Option KeptMask → Option Order
not_told kept = None

none_told : (slots : List (Option KeptMask)) (slot : ℕ) → get_or (map not_told slots) slot None ≡ None
none_told [] slot = refl
none_told (k ∷ slots) zero = refl
none_told (k ∷ slots) (suc slot) = none_told slots slot

pub nothing_told : (mirror : Mirror) (orders : List (Option Order)) (shape : Shape) → orders ≡ map not_told mirror.slots.items
    → ((slot : ℕ) → get_or mirror.slots.items slot None ≡ None) → IsTold mirror orders
nothing_told mirror orders shape are empty = record {
  long = ap length are ∙ (length-map mirror.slots.items not_told ∙ mirror.slots_long);
  kept = (shape, [], (λ root. record { chain = []; stamp = 0 }), kept_none mirror empty shape [] (λ root. record { chain = []; stamp = 0 }));
  known = λ slot order is. let none = ap (λ (xs : List (Option Order)). get_or xs slot None) are ∙ none_told mirror.slots.items slot in absurd (cc (sym none ∙ is));
}

-- the other masks have their filters still as one is taken out of the arrays
pub lists_forgotten : (mirror mirror2 : Mirror) (slot : ℕ) → mirror2.slots.items ≡ set mirror.slots.items slot None → mirror2.first.items ≡ mirror.first.items → mirror2.next.items ≡ mirror.next.items
    → mirror2.filters.items ≡ mirror.filters.items → mirror2.ages.items ≡ mirror.ages.items → (other last : ℕ) (fs : List StoredFilter) → other ≢ slot → HasFilters mirror other last fs → HasFilters mirror2 other last fs
lists_forgotten mirror mirror2 slot slots first next filters ages other last fs away has = record {
  kept = has.kept;
  stands = ap (λ (xs : List (Option KeptMask)). get_or xs other None) slots ∙ (get_or-set_other mirror.slots.items slot other None None away ∙ has.stands);
  dated = has.dated;
  filters = has.filters;
  rise = has.rise;
  buckets = λ bucket blocks less s. let number = get_or mirror.first.items (bucket_at has.kept.mask bucket) 0 in
      kept_same mirror mirror2 blocks (λ k b e t. (get_or (ages t) b 0, get_or (filters t) b None))
      ∙ has.buckets bucket blocks less (subst (λ (xs : List ℕ). Spells xs number blocks) next
      (subst (λ (xs : List ℕ). Spells mirror2.next.items (get_or xs (bucket_at has.kept.mask bucket) 0) blocks) first s));
}
