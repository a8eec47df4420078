-- A mask goes on to have its filters, as blocks are filled and chains named that aren't its own.
use Rattle.std.proofs.Common.{◌≡◌, ◌≢◌, ◌∙◌, ℕ, suc, ◌+◌, ◌<◌, Bool, true, false, eqb, List, [], ◌∷◌, map, get_or, slice_get, Option, Some, None, refl, sym, ap, subst, eqb-true, get_or-set_other}
use Rattle.std.proofs.lemmas.Bool.{eqb-false}
use Rattle.store_history.specs.declared.history.Named.{Named}
use Rattle.store_history.specs.declared.places.TheConstants.{BUCKET_ROOTS}
use Rattle.pin_store.specs.declared.shape.Shape.{Shape}
use Rattle.block_codec.specs.declared.filter.StoredFilter.{StoredFilter}
use Rattle.mask_table.specs.Buckets.{bucket_root}
use Rattle.mask_table.specs.declared.mirrors.mirror.Mirror.{Mirror}
use Rattle.mask_table.specs.declared.mirrors.mirror.KeptMask.{KeptMask}
use Rattle.mask_table.specs.OfMirrors.Kept.{bucket_at, Stands, Spells, BucketAt, KeepsBucket, Names, IsKept}
use Rattle.mask_table.specs.OfMirrors.Changes.{IsFilled, IsRenamed}
use Rattle.mask_table.specs.OfMirrors.Lists.{Dated, age_of, Rises, kept_in, dated_in, HasFilters}
use Rattle.mask_table.proofs.OfMirrors.Spelling.{same_blocks}
use Rattle.mask_table.proofs.OfMirrors.Keeping.{at_root, chain_same, apart_from}

-- the chain of a bucket is kept as before: the same blocks, with the same filters and ages
pub record SameChain (mirror mirror2 : Mirror) (place : ℕ) : Type 0 where
  pub blocks : List ℕ
  pub before : Spells mirror.next.items (get_or mirror.first.items place 0) blocks
  pub after : Spells mirror2.next.items (get_or mirror2.first.items place 0) blocks
  pub same : map (kept_in mirror2) blocks ≡ map (kept_in mirror) blocks

-- a mask has its filters where all its chains are kept
pub has_same : (mirror mirror2 : Mirror) (slot last : ℕ) (fs : List StoredFilter) (has : HasFilters mirror slot last fs) → Stands mirror2 slot has.kept
    → ((bucket : ℕ) → bucket < has.kept.mask.size → SameChain mirror mirror2 (bucket_at has.kept.mask bucket)) → HasFilters mirror2 slot last fs
has_same mirror mirror2 slot last fs has stands chains = record {
  kept = has.kept;
  stands = stands;
  dated = has.dated;
  filters = has.filters;
  rise = has.rise;
  buckets = λ bucket blocks less s. let place = bucket_at has.kept.mask bucket in let chain = chains bucket less in
      let one = same_blocks mirror2.next.items (get_or mirror2.first.items place 0) (get_or mirror2.first.items place 0) blocks chain.blocks refl s chain.after in
      ap (map (kept_in mirror2)) one ∙ (chain.same ∙ has.buckets bucket chain.blocks less chain.before);
}

pub kept_same : (mirror mirror2 : Mirror) (bs : List ℕ) → ((place c : ℕ) → slice_get bs place ≡ Some c → kept_in mirror2 c ≡ kept_in mirror c) → map (kept_in mirror2) bs ≡ map (kept_in mirror) bs
kept_same mirror mirror2 [] each = refl
kept_same mirror mirror2 (b ∷ bs) each = let one = each 0 b refl in let rest = kept_same mirror mirror2 bs (λ place c e. each (suc place) c e) in λ t. one t ∷ rest t

-- ---- a block that no root names is filled
module _ (mirror mirror2 : Mirror) (shape : Shape) (old new : List ℕ) (b : ℕ) (f : IsFilled mirror mirror2 shape old new b) (roots : ℕ → Named) (free : (root : ℕ) → Names roots root b → ⊥) (keeps : IsKept mirror shape old roots) where
  chain_filled : (slot bucket : ℕ) (kept : KeptMask) → Stands mirror slot kept → bucket < kept.mask.size → SameChain mirror mirror2 (bucket_at kept.mask bucket)
  chain_filled slot bucket kept stands less =
      let this = bucket_root kept.mask bucket in let start = bucket_at kept.mask bucket in
      let at : BucketAt mirror this = record { slot = slot; bucket = bucket; kept = kept; stands = stands; within = less; same = refl } in
      let was : KeepsBucket mirror shape old roots kept.mask bucket = keeps.buckets this at in
      let apart = apart_from mirror mirror2 shape old new b f roots free keeps this was.blocks was.named in
      let rest = chain_same mirror mirror2 shape old new b f kept.mask.size bucket (get_or mirror.first.items start 0) was.blocks apart was.chain in record {
        blocks = was.blocks;
        before = was.chain.spelled;
        after = subst (λ (k : ℕ). Spells mirror2.next.items k was.blocks) (ap (λ (xs : List ℕ). get_or xs start 0) (sym f.first)) rest.spelled;
        same = kept_same mirror mirror2 was.blocks (λ place c e. let other = apart place c e in let age = f.ages c other in let filter = f.filters c other in λ t. (age t, filter t));
      }

  pub lists_filled : (slot last : ℕ) (fs : List StoredFilter) → HasFilters mirror slot last fs → HasFilters mirror2 slot last fs
  lists_filled slot last fs has = has_same mirror mirror2 slot last fs has (ap (λ (xs : List (Option KeptMask)). get_or xs slot None) f.slots ∙ has.stands)
      (λ bucket less. chain_filled slot bucket has.kept has.stands less)

-- ---- the root of a bucket is given another chain
module _ (mirror mirror2 : Mirror) (place number : ℕ) (renamed : IsRenamed mirror mirror2 place number) (shape : Shape) (cells : List ℕ) (roots : ℕ → Named) (keeps : IsKept mirror shape cells roots) where
  -- the chain of another bucket
  pub chain_renamed : (root : ℕ) (at : BucketAt mirror root) → root ≢ BUCKET_ROOTS + place → SameChain mirror mirror2 (bucket_at at.kept.mask at.bucket)
  chain_renamed root at apart = let was = keeps.buckets root at in let start = bucket_at at.kept.mask at.bucket in
      let away : start ≢ place = λ e. apart (at.same ∙ (at_root at.kept.mask at.bucket ∙ ap (λ (k : ℕ). BUCKET_ROOTS + k) e)) in
      let first = ap (λ (xs : List ℕ). get_or xs start 0) renamed.first ∙ get_or-set_other mirror.first.items place start number 0 away in record {
        blocks = was.blocks;
        before = was.chain.spelled;
        after = subst (λ (xs : List ℕ). Spells xs (get_or mirror2.first.items start 0) was.blocks) (sym renamed.next) (subst (λ (k : ℕ). Spells mirror.next.items k was.blocks) (sym first) was.chain.spelled);
        same = kept_same mirror mirror2 was.blocks (λ k c e t. (get_or (renamed.ages t) c 0, get_or (renamed.filters t) c None));
      }

  -- the masks at other slots have their filters
  pub lists_renamed : (own : BucketAt mirror (BUCKET_ROOTS + place)) (slot last : ℕ) (fs : List StoredFilter) → slot ≢ own.slot → HasFilters mirror slot last fs → HasFilters mirror2 slot last fs
  lists_renamed own slot last fs away has = has_same mirror mirror2 slot last fs has (ap (λ (xs : List (Option KeptMask)). get_or xs slot None) renamed.slots ∙ has.stands)
      (λ bucket less. let this = bucket_root has.kept.mask bucket in let at : BucketAt mirror this = record { slot = slot; bucket = bucket; kept = has.kept; stands = has.stands; within = less; same = refl } in
      chain_renamed this at (λ e. let again : BucketAt mirror (BUCKET_ROOTS + place) = record { slot = slot; bucket = bucket; kept = has.kept; stands = has.stands; within = less; same = sym e } in
      away ((keeps.apart (BUCKET_ROOTS + place) again own).0)))

-- a mask has other filters where the chain of one bucket is other, and the others have theirs
pub has_rewritten : (mirror mirror2 : Mirror) (slot last later : ℕ) (fs : List StoredFilter) (has : HasFilters mirror slot last fs) (dated : List Dated) (bucket : ℕ) (blocks : List ℕ) → Stands mirror2 slot has.kept
    → Spells mirror2.next.items (get_or mirror2.first.items (bucket_at has.kept.mask bucket) 0) blocks → map (kept_in mirror2) blocks ≡ dated_in has.kept.mask.size bucket dated
    → ((other : ℕ) → other ≢ bucket → other < has.kept.mask.size → SameChain mirror mirror2 (bucket_at has.kept.mask other))
    → ((other : ℕ) → other ≢ bucket → dated_in has.kept.mask.size other dated ≡ dated_in has.kept.mask.size other has.dated)
    → Rises 0 (age_of (later + 1) 0) dated → HasFilters mirror2 slot later (map (λ (d : Dated). d.filter) dated)
has_rewritten mirror mirror2 slot last later fs has dated bucket blocks stands spelled own chains others rise = record {
  kept = has.kept;
  stands = stands;
  dated = dated;
  filters = refl;
  rise = rise;
  buckets = λ other bs less s. pick other bs less s (eqb other bucket) refl;
}
  where
    pick : (other : ℕ) (bs : List ℕ) → other < has.kept.mask.size → Spells mirror2.next.items (get_or mirror2.first.items (bucket_at has.kept.mask other) 0) bs → (t : Bool) → eqb other bucket ≡ t → map (kept_in mirror2) bs ≡ dated_in has.kept.mask.size other dated
    pick other bs less s true e = let is = eqb-true other bucket e in
        let same = same_blocks mirror2.next.items (get_or mirror2.first.items (bucket_at has.kept.mask other) 0) (get_or mirror2.first.items (bucket_at has.kept.mask bucket) 0) bs blocks
        (ap (λ (k : ℕ). get_or mirror2.first.items (bucket_at has.kept.mask k) 0) is) s spelled in
        ap (map (kept_in mirror2)) same ∙ (own ∙ ap (λ (k : ℕ). dated_in has.kept.mask.size k dated) (sym is))
    pick other bs less s false e = let apart = eqb-false other bucket e in let chain = chains other apart less in
        let place = bucket_at has.kept.mask other in
        let same = same_blocks mirror2.next.items (get_or mirror2.first.items place 0) (get_or mirror2.first.items place 0) bs chain.blocks refl s chain.after in
        ap (map (kept_in mirror2)) same ∙ (chain.same ∙ (has.buckets other chain.blocks less chain.before ∙ sym (others other apart)))
