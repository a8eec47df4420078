-- Pools under several commits without a number that spend blocks that were handed in.
use Rattle.std.proofs.Common.{◌≡◌, ◌≢◌, ◌∙◌, ◌⊎◌, inl, inr, ℕ, zero, suc, ◌==◌, ◌<◌, ◌≤◌, Bool, true, false, eqb, eqb-true, List, [], ◌∷◌, ◌++◌, length, map, slice_get, Some, refl, sym, ap, subst, arith, append_assoc, length-append}
use Rattle.std.specs.List.{IsDistinct}
use Rattle.std.specs.Prelude.{if◌then◌else◌}
use Rattle.std.proofs.lemmas.List.{append-nil}
use Rattle.std.proofs.lemmas.Option.{same_Some}
use Rattle.store_history.specs.declared.history.Commit.{Commit}
use Rattle.store_history.specs.declared.history.Link.{Link}
use Rattle.store_history.specs.declared.places.TheConstants.{POOL_BLOCKS}
use Rattle.pin_store.specs.Calls.{IsUnnamed}
use Rattle.filter_state.specs.declared.edit.Edit.{Edit}
use Rattle.block_codec.specs.declared.filter.StoredFilter.{StoredFilter}
use Rattle.mask_table.specs.Buckets.{bucket_for}
use Rattle.mask_table.specs.OfMirrors.Linked.{Placed, placed, placed_in, linked}
use Rattle.hook_law.specs.Standing.{IsIn}
use Rattle.hook_law.specs.Keeping.{Keeps}
use Rattle.hook_law.specs.Unnumbered.{Spares, SparesAll}
use Rattle.hook_law.proofs.Sparing.{spare_keeps, spare_back, spares_next}
use Rattle.hook_store_law.specs.Stated.{hook_meaning}
use Rattle.hook_store_law.specs.Blocks.{hook_codec}
use Rattle.root_pool_laws.specs.Blocks.{Spends}
use Rattle.root_pool_laws.proofs.Apart.{in_append}
use Rattle.root_pool_laws.proofs.Blocks.{free_stays}
use Rattle.desk_masks.proofs.OfMaskResizes.Resizing.{mapped_at, rows_distinct}
use Rattle.desk_pools.specs.declared.pools.Pools.{Pools}
use Rattle.desk_pools.specs.Pools.{ArePools}
use Rattle.desk_pools.specs.Steps.{IsInPool}
use Rattle.desk_pools.proofs.Steps.{pools_commit}

-- ---- one commit after the other
-- the blocks of a chain are of the pool's, in no pool, and no chain has had them since the base
abbrev pub AreSpent : Pools → List (Commit Edit) → ℕ → Commit Edit → Type 0
AreSpent pools h b c = (place : ℕ) (l : Link) → slice_get c.named.chain place ≡ Some l → IsUnnamed b h l.block × (l.block < POOL_BLOCKS) × (IsInPool l.block pools.blocks → ⊥)

-- no block is in the chains of two of the commits
abbrev pub SpendApart : List (Commit Edit) → Type 0
SpendApart cs = (i j k n : ℕ) (c d : Commit Edit) (l m : Link) → i < j → slice_get cs i ≡ Some c → slice_get cs j ≡ Some d → slice_get c.named.chain k ≡ Some l → slice_get d.named.chain n ≡ Some m → l.block ≢ m.block

abbrev blocks_in : Commit Edit → List ℕ
blocks_in c = map (λ (l : Link). l.block) c.named.chain

map_at : {A B : Type 0} (f : A → B) (xs : List A) (j : ℕ) (x : A) → slice_get xs j ≡ Some x → slice_get (map f xs) j ≡ Some (f x)
map_at f [] j x e = absurd (cc e)
map_at {A} f (y ∷ ys) zero x e = let same : y ≡ x = cc e in ap (λ (z : A). Some (f z)) same
map_at f (y ∷ ys) (suc j) x e = map_at f ys j x e

spends_own : (h : List (Commit Edit)) (c : Commit Edit) → Spends h c (blocks_in c)
spends_own h c place l at = inl (place, map_at (λ (m : Link). m.block) c.named.chain place l at)

pub unnamed_later : (h : List (Commit Edit)) (b : ℕ) (c : Commit Edit) (block : ℕ) → b ≤ length h → ((place : ℕ) (l : Link) → slice_get c.named.chain place ≡ Some l → l.block ≢ block) → IsUnnamed b h block → IsUnnamed b (h ++ c ∷ []) block
unnamed_later h b c block low away free = free_stays h c (blocks_in c) (spends_own h c) b low block
    (λ at. let m = mapped_at (λ (l : Link). l.block) c.named.chain at.0 block at.1 in away at.0 m.0 m.1 (sym m.2)) free

pub unnamed_last : (cs h : List (Commit Edit)) (b block : ℕ) → b ≤ length h → ((j place : ℕ) (c : Commit Edit) (l : Link) → slice_get cs j ≡ Some c → slice_get c.named.chain place ≡ Some l → l.block ≢ block) → IsUnnamed b h block → IsUnnamed b (h ++ cs) block
unnamed_last [] h b block low away free = subst (λ (g : List (Commit Edit)). IsUnnamed b g block) (sym (append-nil h)) free
unnamed_last (d ∷ ds) h b block low away free = subst (λ (g : List (Commit Edit)). IsUnnamed b g block) (append_assoc h (d ∷ []) ds)
    (unnamed_last ds (h ++ d ∷ []) b block (omega (arith, low, length-append h (d ∷ []))) (λ j place c l at there. away (suc j) place c l at there)
    (unnamed_later h b d block low (λ place l at. away 0 place d l refl at) free))

pub pools_spared : (pools : Pools) (cs h : List (Commit Edit)) (b : ℕ) → b ≤ length h → Keeps hook_meaning hook_codec h b → SparesAll hook_meaning hook_codec b h cs → ArePools pools h b
    → ((j : ℕ) (c : Commit Edit) → slice_get cs j ≡ Some c → AreSpent pools h b c) → SpendApart cs → ArePools pools (h ++ cs) b
pools_spared pools [] h b low keeps w p good apart = subst (λ (g : List (Commit Edit)). ArePools pools g b) (sym (append-nil h)) p
pools_spared pools (d ∷ ds) h b low keeps w p good apart = subst (λ (g : List (Commit Edit)). ArePools pools g b) (append_assoc h (d ∷ []) ds)
    (pools_spared pools ds (h ++ d ∷ []) b (omega (arith, low, length-append h (d ∷ []))) (spare_keeps hook_meaning hook_codec h b d low keeps one) (spares_next hook_meaning hook_codec h b d ds low keeps w)
    first
    (λ j c at place l there. let g = good (suc j) c at place l there in
    (unnamed_later h b d l.block low (λ k m own. apart 0 (suc j) k place d c m l (omega arith) refl at own there) g.0, g.1, g.2))
    (λ i j k n c e l m less at more own there. apart (suc i) (suc j) k n c e l m (omega (arith, less)) at more own there))
  where
    one : Spares hook_meaning hook_codec b h d
    one = w.each 0 d refl

    of_block : (block : ℕ) → IsIn block (blocks_in d) → IsUnnamed b h block × (block < POOL_BLOCKS) × (IsInPool block pools.blocks → ⊥)
    of_block block at = let m = mapped_at (λ (l : Link). l.block) d.named.chain at.0 block at.1 in
        subst (λ (n : ℕ). IsUnnamed b h n × (n < POOL_BLOCKS) × (IsInPool n pools.blocks → ⊥)) (sym m.2) (good 0 d refl at.0 m.0 m.1)

    first : ArePools pools (h ++ d ∷ []) b
    first = pools_commit pools h b d (blocks_in d) low p (record {
      spends = spends_own h d;
      free = λ block at. (of_block block at).0;
      small = λ block at. (of_block block at).1;
      taken = λ block at. (of_block block at).2;
      masks = λ slot at x s. spare_back hook_meaning hook_codec h b d low keeps one _ x s;
      actions = λ slot at x s. spare_back hook_meaning hook_codec h b d low keeps one _ x s;
      rows = λ row place at less x s. spare_back hook_meaning hook_codec h b d low keeps one _ x s;
    })

-- ---- the blocks of filters that are laid by bucket
linked_at : (qs : List Placed) (k : ℕ) (l : Link) → slice_get (linked qs []) k ≡ Some l → (p : Placed) × (slice_get qs k ≡ Some p) × (l.block ≡ p.block)
linked_at [] k l e = absurd (cc e)
linked_at (q ∷ qs) zero l e = (q, refl, sym (ap (λ (m : Link). m.block) (same_Some _ l e)))
linked_at (q ∷ qs) (suc k) l e = linked_at qs k l e

laid_at : (size bucket : ℕ) (ps : List Placed) (p : Placed) → IsIn p (placed_in size bucket ps) → (j : ℕ) × (slice_get ps j ≡ Some p) × (bucket_for size p.filter.key.words ≡ bucket)
laid_at size bucket [] p at = let e = at.1 in absurd (cc e)
laid_at size bucket (q ∷ qs) p at = sort (in_append (placed_in size bucket qs) (if bucket_for size q.filter.key.words == bucket then q ∷ [] else []) p at) (laid_at size bucket qs p)
  where
    Found : List Placed → Type 0
    Found xs = (j : ℕ) × (slice_get xs j ≡ Some p) × (bucket_for size p.filter.key.words ≡ bucket)

    own : (t : Bool) → (bucket_for size q.filter.key.words == bucket) ≡ t → IsIn p (if t then q ∷ [] else []) → Found (q ∷ qs)
    own true is there = first there.0 there.1
      where
        first : (place : ℕ) → slice_get {X = Placed} (q ∷ []) place ≡ Some p → Found (q ∷ qs)
        first zero e = let same : q ≡ p = same_Some q p e in (0, e, subst (λ (z : Placed). bucket_for size z.filter.key.words ≡ bucket) same (eqb-true (bucket_for size q.filter.key.words) bucket is))
        first (suc place) e = absurd (cc e)
    own false is there = let e = there.1 in absurd (cc e)

    sort : IsIn p (placed_in size bucket qs) ⊎ IsIn p (if bucket_for size q.filter.key.words == bucket then q ∷ [] else []) → (IsIn p (placed_in size bucket qs) → Found qs) → Found (q ∷ qs)
    sort (inl more) rest = let r = rest more in (suc r.0, r.1, r.2)
    sort (inr one) rest = own (bucket_for size q.filter.key.words == bucket) refl one

placed_at : (given : List ℕ) (fs : List StoredFilter) (j : ℕ) (p : Placed) → slice_get (placed given fs) j ≡ Some p → (slice_get given j ≡ Some p.block) × (slice_get fs j ≡ Some p.filter)
placed_at [] fs j p e = absurd (cc e)
placed_at (b ∷ bs) [] j p e = absurd (cc e)
placed_at (b ∷ bs) (f ∷ fs) zero p e = let same = same_Some _ p e in (ap (λ (q : Placed). Some q.block) same, ap (λ (q : Placed). Some q.filter) same)
placed_at (b ∷ bs) (f ∷ fs) (suc j) p e = placed_at bs fs j p e

-- a link of a bucket's chain is in the block of a filter of the bucket
pub record IsLaid (given : List ℕ) (fs : List StoredFilter) (size bucket : ℕ) (l : Link) : Type 0 where
  pub at : ℕ
  pub filter : StoredFilter
  pub block : slice_get given at ≡ Some l.block
  pub there : slice_get fs at ≡ Some filter
  pub hashed : bucket_for size filter.key.words ≡ bucket

pub link_laid : (given : List ℕ) (fs : List StoredFilter) (size bucket k : ℕ) (l : Link) → slice_get (linked (placed_in size bucket (placed given fs)) []) k ≡ Some l → IsLaid given fs size bucket l
link_laid given fs size bucket k l e =
    let q = linked_at (placed_in size bucket (placed given fs)) k l e in
    let p = laid_at size bucket (placed given fs) q.0 (k, q.1) in
    let g = placed_at given fs p.0 q.0 p.1 in record {
      at = p.0;
      filter = q.0.filter;
      block = g.0 ∙ ap Some (sym q.2);
      there = g.1;
      hashed = p.2;
    }

-- no block is laid into two buckets
pub laid_apart : (given : List ℕ) (fs : List StoredFilter) (size i j : ℕ) (l m : Link) → IsDistinct eqb given → IsLaid given fs size i l → IsLaid given fs size j m → i ≢ j → l.block ≢ m.block
laid_apart given fs size i j l m different x z ne same =
    let at : x.at ≡ z.at = rows_distinct given different x.at z.at l.block x.block (z.block ∙ ap Some (sym same)) in
    let filter : x.filter ≡ z.filter = same_Some x.filter z.filter (sym x.there ∙ (ap (slice_get fs) at ∙ z.there)) in
    ne (sym x.hashed ∙ (ap (λ (f : StoredFilter). bucket_for size f.key.words) filter ∙ z.hashed))
