-- What the writer of masks holds stays what roots name, where blocks and roots of masks stay.
use Rattle.std.proofs.Common.{◌≡◌, ◌∙◌, ℕ, zero, suc, List, [], ◌∷◌, map, slice_get, Some, None, refl, sym, ap, subst}
use Rattle.store_history.specs.declared.history.Link.{Link}
use Rattle.store_history.specs.declared.history.Named.{Named}
use Rattle.pin_store.specs.declared.shape.Shape.{Shape}
use Rattle.pin_store.specs.Layout.{block_words, links_of}
use Rattle.block_codec.specs.Filters.{IsFilterBlock}
use Rattle.block_codec.specs.Masks.{IsMaskBlock}
use Rattle.mask_table.specs.Buckets.{mask_root, bucket_root}
use Rattle.mask_table.specs.declared.mirrors.mirror.KeptMask.{KeptMask}
use Rattle.mask_table.specs.OfMirrors.Kept.{Names, KeepsMask}
use Rattle.mask_table.specs.OfMirrors.Linked.{Placed}
use Rattle.mask_writer.specs.Masks.{Masks}
use Rattle.mask_writer.specs.Standing.{chain_at, first_in, StandsAt, BucketOf, AreFiled, NamesChain, AreNamed}

-- ---- chains of blocks
links_at : (shape : Shape) (cells : List ℕ) (blocks : List ℕ) (place b : ℕ) → slice_get blocks place ≡ Some b
    → slice_get (links_of shape cells blocks) place ≡ Some (record { block = b; words = block_words shape cells b })
links_at shape cells [] place b e = absurd (cc e)
links_at shape cells (x ∷ xs) zero b e = let same : x ≡ b = cc e in ap (λ (n : ℕ). Some (record { block = n; words = block_words shape cells n })) same
links_at shape cells (x ∷ xs) (suc place) b e = links_at shape cells xs place b e

-- the words of each block of a list are the same
abbrev SameWords : Shape → List ℕ → List ℕ → List ℕ → Type 0
SameWords shape cells cells2 blocks = (place b : ℕ) → slice_get blocks place ≡ Some b → block_words shape cells2 b ≡ block_words shape cells b

links_same : (shape : Shape) (cells cells2 blocks : List ℕ) → SameWords shape cells cells2 blocks → links_of shape cells2 blocks ≡ links_of shape cells blocks
links_same shape cells cells2 [] same = refl
links_same shape cells cells2 (b ∷ bs) same = let one = same 0 b refl in let rest = links_same shape cells cells2 bs (λ place x e. same (suc place) x e) in
    λ t. record { block = b; words = one t } ∷ rest t

filed_same : (shape : Shape) (cells cells2 : List ℕ) (size bucket : ℕ) (ps : List Placed) → SameWords shape cells cells2 (map (λ (p : Placed). p.block) ps)
    → AreFiled shape cells size bucket ps → AreFiled shape cells2 size bucket ps
filed_same shape cells cells2 size bucket [] same are = tt
filed_same shape cells cells2 size bucket (p ∷ ps) same are = (
  record {
    pool = are.0.pool;
    hashed = are.0.hashed;
    there = subst (λ (ws : List ℕ). IsFilterBlock ws (p.filter, first_in ps)) (sym (same 0 p.block refl)) are.0.there;
  },
  filed_same shape cells cells2 size bucket ps (λ place x e. same (suc place) x e) are.1,
)

module _ (writer : Masks) (shape : Shape) (cells cells2 : List ℕ) (roots roots2 : ℕ → Named) (named : AreNamed writer shape cells roots)
    (same_masks : (slot : ℕ) (kept : KeptMask) → StandsAt writer slot kept → (roots2 (mask_root slot)).chain ≡ (roots (mask_root slot)).chain)
    (same_buckets : (root : ℕ) → BucketOf writer root → (roots2 root).chain ≡ (roots root).chain)
    (same_words : (root b : ℕ) → Names roots root b → block_words shape cells2 b ≡ block_words shape cells b) where
  chain_words : (root : ℕ) (blocks : List ℕ) → (roots root).chain ≡ links_of shape cells blocks → SameWords shape cells cells2 blocks
  chain_words root blocks is place b e =
      same_words root b (place, record { block = b; words = block_words shape cells b }, ap (λ (ls : List Link). slice_get ls place) is ∙ links_at shape cells blocks place b e, refl)

  mask_stays : (slot : ℕ) (kept : KeptMask) → StandsAt writer slot kept → KeepsMask shape cells2 roots2 slot kept
  mask_stays slot kept stands = let m = named.masks slot kept stands in let words = chain_words (mask_root slot) (kept.block ∷ []) m.named in record {
    small = m.small;
    low = m.low;
    named = same_masks slot kept stands ∙ (m.named ∙ sym (links_same shape cells cells2 (kept.block ∷ []) words));
    there = subst (λ (ws : List ℕ). IsMaskBlock ws (kept.mask, None)) (sym (words 0 kept.block refl)) m.there;
  }

  bucket_stays : (root : ℕ) (at : BucketOf writer root) → NamesChain shape cells2 roots2 (bucket_root at.kept.mask at.bucket) at.kept.mask.size at.bucket (chain_at writer at.slot at.bucket)
  bucket_stays root at = let m = named.buckets root at in let home = bucket_root at.kept.mask at.bucket in let ps = chain_at writer at.slot at.bucket in
      let words = chain_words home (map (λ (p : Placed). p.block) ps) m.named in record {
        named = same_buckets home (record { slot = at.slot; bucket = at.bucket; kept = at.kept; stands = at.stands; within = at.within; same = refl })
            ∙ (m.named ∙ sym (links_same shape cells cells2 (map (λ (p : Placed). p.block) ps) words));
        filed = filed_same shape cells cells2 at.kept.mask.size at.bucket ps words m.filed;
      }

  before : (root b : ℕ) → BucketOf writer root → Names roots2 root b → Names roots root b
  before root b at name = (name.0, name.1, sym (ap (λ (ls : List Link). slice_get ls name.0) (same_buckets root at)) ∙ name.2, name.3)

  pub named_stay : AreNamed writer shape cells2 roots2
  named_stay = record {
    slots = named.slots;
    masks = mask_stays;
    buckets = bucket_stays;
    apart = named.apart;
    once = λ root other b one two m n. named.once root other b one two (before root b one m) (before other b two n);
  }
