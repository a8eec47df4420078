-- What the writer of masks holds is named by the roots after commits that are none of its masks'.
use Rattle.std.proofs.Common.{◌≡◌, ◌∙◌, ◌⊎◌, inl, inr, ℕ, zero, suc, ◌<◌, ◌≤◌, List, [], ◌∷◌, map, slice_get, Some, None, sym, ap, subst, arith}
use Rattle.std.proofs.lemmas.Option.{same_Some}
use Rattle.store_history.specs.declared.history.Link.{Link}
use Rattle.store_history.specs.declared.history.Named.{Named}
use Rattle.store_history.specs.declared.places.TheConstants.{MASK_ROOTS, POOL_BLOCKS}
use Rattle.pin_store.specs.declared.shape.Shape.{Shape}
use Rattle.pin_store.specs.Layout.{block_words}
use Rattle.block_codec.specs.Filters.{IsFilterBlock}
use Rattle.block_codec.specs.Masks.{IsMaskBlock}
use Rattle.mask_table.specs.Buckets.{mask_root, bucket_root}
use Rattle.mask_table.specs.declared.mirrors.mirror.KeptMask.{KeptMask}
use Rattle.mask_table.specs.OfMirrors.Kept.{Names, KeepsMask}
use Rattle.mask_table.specs.OfMirrors.Linked.{Placed}
use Rattle.mask_table.proofs.OfMirrors.Chains.{links_same, block_there}
use Rattle.mask_writer.specs.Masks.{Masks}
use Rattle.mask_writer.specs.Standing.{AreFiled, first_in, NamesChain, AreNamed, StandsAt, chain_at}
use Rattle.mask_writer.proofs.Standing.{chain_named}

filed_below : (shape : Shape) (cells : List ℕ) (size bucket : ℕ) (ps : List Placed) → AreFiled shape cells size bucket ps → (place b : ℕ) → slice_get (map (λ (p : Placed). p.block) ps) place ≡ Some b → b < POOL_BLOCKS
filed_below shape cells size bucket [] are place b e = absurd (cc e)
filed_below shape cells size bucket (p ∷ ps) are zero b e = subst (λ (n : ℕ). n < POOL_BLOCKS) (same_Some p.block b e) are.0.pool
filed_below shape cells size bucket (p ∷ ps) are (suc place) b e = filed_below shape cells size bucket ps are.1 place b e

-- the blocks of the pool have the same words
abbrev pub SamePool : Shape → List ℕ → List ℕ → Type 0
SamePool shape cells other = (block : ℕ) → block < POOL_BLOCKS → block_words shape other block ≡ block_words shape cells block

module _ (writer : Masks) (shape : Shape) (cells other : List ℕ) (roots later : ℕ → Named) (named : AreNamed writer shape cells roots) (pool : SamePool shape cells other)
    (same : (r : ℕ) → MASK_ROOTS ≤ r → (later r).chain ≡ (roots r).chain) where
  filed_on : (size bucket : ℕ) (ps : List Placed) → AreFiled shape cells size bucket ps → AreFiled shape other size bucket ps
  filed_on size bucket [] are = tt
  filed_on size bucket (p ∷ ps) are = (
    record { pool = are.0.pool; hashed = are.0.hashed; there = subst (λ (ws : List ℕ). IsFilterBlock ws (p.filter, first_in ps)) (sym (pool p.block are.0.pool)) are.0.there },
    filed_on size bucket ps are.1,
  )

  filed_low : (size bucket : ℕ) (ps : List Placed) → AreFiled shape cells size bucket ps → (place b : ℕ) → slice_get (map (λ (p : Placed). p.block) ps) place ≡ Some b → b < POOL_BLOCKS
  filed_low size bucket [] are place b e = absurd (cc e)
  filed_low size bucket (p ∷ ps) are zero b e = subst (λ (n : ℕ). n < POOL_BLOCKS) (same_Some p.block b e) are.0.pool
  filed_low size bucket (p ∷ ps) are (suc place) b e = filed_low size bucket ps are.1 place b e

  mask_on : (slot : ℕ) (kept : KeptMask) → KeepsMask shape cells roots slot kept → KeepsMask shape other later slot kept
  mask_on slot kept k = record {
    small = k.small;
    low = k.low;
    named = same (mask_root slot) (omega arith) ∙ (k.named ∙ sym (links_same shape cells other (kept.block ∷ []) (λ place b e. pool b (only place b e))));
    there = subst (λ (ws : List ℕ). IsMaskBlock ws (kept.mask, None)) (sym (pool kept.block k.low)) k.there;
  }
    where
      only : (place b : ℕ) → slice_get {X = ℕ} (kept.block ∷ []) place ≡ Some b → b < POOL_BLOCKS
      only zero b e = subst (λ (n : ℕ). n < POOL_BLOCKS) (same_Some kept.block b e) k.low
      only (suc place) b e = absurd (cc e)

  chain_on : (root size bucket : ℕ) (ps : List Placed) → MASK_ROOTS ≤ root → NamesChain shape cells roots root size bucket ps → NamesChain shape other later root size bucket ps
  chain_on root size bucket ps high n = record {
    named = same root high ∙ (n.named ∙ sym (links_same shape cells other (map (λ (p : Placed). p.block) ps) (λ place b e. pool b (filed_low size bucket ps n.filed place b e))));
    filed = filed_on size bucket ps n.filed;
  }

  names_back : (root b : ℕ) → MASK_ROOTS ≤ root → Names later root b → Names roots root b
  names_back root b high n = (n.0, n.1, sym (ap (λ (ls : List Link). slice_get ls n.0) (same root high)) ∙ n.2, n.3)

  pub named_on : AreNamed writer shape other later
  named_on = record {
    slots = named.slots;
    masks = λ slot kept stands. mask_on slot kept (named.masks slot kept stands);
    buckets = λ root at. chain_on (bucket_root at.kept.mask at.bucket) at.kept.mask.size at.bucket (chain_at writer at.slot at.bucket) (omega arith) (named.buckets root at);
    apart = named.apart;
    once = λ root more b one two x z. named.once root more b one two (names_back root b (let is = one.same in omega (arith, is)) x) (names_back more b (let is = two.same in omega (arith, is)) z);
  }

-- a block that a root of a held mask has is of the pool
pub pool_block : (writer : Masks) (shape : Shape) (cells : List ℕ) (roots : ℕ → Named) → AreNamed writer shape cells roots → (slot : ℕ) (kept : KeptMask) → StandsAt writer slot kept → (r : ℕ)
    → (r ≡ mask_root slot) ⊎ ((k : ℕ) × (k < kept.mask.size) × (r ≡ bucket_root kept.mask k)) → (block : ℕ) → (place : ℕ) × (l : Link) × (slice_get (roots r).chain place ≡ Some l) × (l.block ≡ block) → block < POOL_BLOCKS
pool_block writer shape cells roots named slot kept stands r (inl is) block x = let m = named.masks slot kept stands in
    only x.0 (block_there shape cells (kept.block ∷ []) x.0 x.1 (sym (ap (λ (ls : List Link). slice_get ls x.0) (ap (λ (n : ℕ). (roots n).chain) is ∙ m.named)) ∙ x.2))
  where
    only : (place : ℕ) → slice_get {X = ℕ} (kept.block ∷ []) place ≡ Some x.1.block → block < POOL_BLOCKS
    only zero e = let low = (named.masks slot kept stands).low in let same = same_Some kept.block x.1.block e in let at = x.3 in omega (arith, low, same, at)
    only (suc place) e = absurd (cc e)
pool_block writer shape cells roots named slot kept stands r (inr k) block x =
    let n = chain_named writer shape cells roots named slot kept stands k.0 k.1 in
    let at = block_there shape cells (map (λ (p : Placed). p.block) (chain_at writer slot k.0)) x.0 x.1 (sym (ap (λ (ls : List Link). slice_get ls x.0) (ap (λ (m : ℕ). (roots m).chain) k.2 ∙ n.named)) ∙ x.2) in
    subst (λ (m : ℕ). m < POOL_BLOCKS) x.3 (filed_below shape cells kept.mask.size k.0 (chain_at writer slot k.0) n.filed x.0 x.1.block at)
