-- What stands at other slots is seen as before: the commits of an edit name the roots of no other mask, and
-- these tell its chains.
use Rattle.std.proofs.Common.{◌≡◌, ◌≢◌, ◌∙◌, ℕ, ◌<◌, List, [], ◌∷◌, ◌++◌, map, set, get_or, Option, Some, None, refl, sym, ap, subst, arith, get_or-set_other}
use Rattle.std.specs.List.{range_with_len}
use Rattle.std.proofs.lemmas.List.FromFn.{fill_by_all, get_or-map-range_with_len, length-map-range_with_len}
use Rattle.store_history.specs.declared.history.Named.{Named}
use Rattle.store_history.specs.declared.history.Commit.{Commit}
use Rattle.store_history.specs.History.{root_of}
use Rattle.store_history.proofs.Histories.{root_other}
use Rattle.store_history.specs.declared.places.TheConstants.{MASK_SLOTS}
use Rattle.pin_store.specs.declared.shape.Shape.{Shape}
use Rattle.block_codec.specs.declared.mask.StoredMask.{StoredMask}
use Rattle.block_codec.specs.Masks.{IsStorableMask}
use Rattle.mask_table.specs.Buckets.{bucket_root}
use Rattle.mask_table.specs.declared.mirrors.mirror.Mirror.{Mirror}
use Rattle.mask_table.specs.declared.mirrors.mirror.KeptMask.{KeptMask}
use Rattle.mask_table.specs.OfMirrors.Kept.{Stands, BucketAt, IsKept}
use Rattle.mask_table.specs.OfMirrors.Given.{AreFreeRows}
use Rattle.mask_table.specs.OfMirrors.Linked.{Placed, bucket_commits, mask_commit, raise_commits}
use Rattle.mask_table.proofs.OfMirrors.Keeping.{at_root}
use Rattle.mask_build.proofs.Aside.{bucket_aside}
use Rattle.mask_build.proofs.Committing.{commits_all, other_root}
use Rattle.mask_writer.specs.Masks.{Order, Masks}
use Rattle.mask_writer.specs.Shown.{chain_of, standing_of, all_standing}
use Rattle.mask_writer.specs.Standing.{OthersStay}
use Rattle.mask_writer.proofs.Showing.{slot_is, chain_is, stands_shown, named_shown}
use Rattle.mask_writer.proofs.Standing.{chain_named, same_chain}
use Rattle.mask_writer.proofs.Editing.{IsEdit, order_other}

-- the roots of other masks' buckets name what they named
abbrev pub SameRoots : Mirror → ℕ → (ℕ → Named) → (ℕ → Named) → Type 0
SameRoots mirror slot roots roots2 = (root : ℕ) (at : BucketAt mirror root) → at.slot ≢ slot → (roots2 root).chain ≡ (roots root).chain

module _ (mirror mirror2 : Mirror) (orders orders2 : List (Option Order)) (slot : ℕ) (after : Option Order) (e : IsEdit mirror mirror2 orders orders2 slot after) (writer writer2 : Masks)
    (shown : writer.at ≡ all_standing mirror mirror.slots.items orders) (shown2 : writer2.at ≡ all_standing mirror2 mirror2.slots.items orders2) (shape : Shape) (cells cells2 : List ℕ) (roots roots2 : ℕ → Named)
    (keeps : IsKept mirror shape cells roots) (keeps2 : IsKept mirror2 shape cells2 roots2) (same : SameRoots mirror slot roots roots2)
    (slots : (other : ℕ) → other ≢ slot → get_or mirror2.slots.items other None ≡ get_or mirror.slots.items other None) where
  chain_stays : (other : ℕ) → other ≢ slot → (kept : KeptMask) → Stands mirror other kept → (k : ℕ) → k < kept.mask.size → chain_of mirror2 kept.mask k ≡ chain_of mirror kept.mask k
  chain_stays other away kept s k less =
      let s2 = slots other away ∙ s in let root = bucket_root kept.mask k in
      let named = chain_named writer shape cells roots (named_shown writer mirror orders shown shape cells roots keeps) other kept (stands_shown writer mirror orders shown other kept s) k less in
      let named2 = chain_named writer2 shape cells2 roots2 (named_shown writer2 mirror2 orders2 shown2 shape cells2 roots2 keeps2) other kept (stands_shown writer2 mirror2 orders2 shown2 other kept s2) k less in
      sym (chain_is writer2 mirror2 orders2 shown2 other kept s2 k less)
      ∙ (same_chain shape cells cells2 roots roots2 root kept.mask.size k _ _ named named2 (same root (record { slot = other; bucket = k; kept = kept; stands = s; within = less; same = refl }) away)
      ∙ chain_is writer mirror orders shown other kept s k less)

  chains_stay : (other : ℕ) → other ≢ slot → (kept : KeptMask) → Stands mirror other kept
      → map (chain_of mirror2 kept.mask) (range_with_len 0 kept.mask.size) ≡ map (chain_of mirror kept.mask) (range_with_len 0 kept.mask.size)
  chains_stay other away kept s = fill_by_all (chain_of mirror kept.mask) (map (chain_of mirror2 kept.mask) (range_with_len 0 kept.mask.size)) kept.mask.size []
      (length-map-range_with_len (chain_of mirror2 kept.mask) 0 kept.mask.size)
      (λ k less. get_or-map-range_with_len (chain_of mirror2 kept.mask) 0 kept.mask.size k k [] less (omega arith) ∙ chain_stays other away kept s k less)

  pub others_stay : OthersStay writer writer2 slot
  others_stay other away = slot_is writer2 mirror2 orders2 shown2 other ∙ (pick (get_or mirror.slots.items other None) refl ∙ sym (slot_is writer mirror orders shown other))
    where
      order : get_or orders2 other None ≡ get_or orders other None
      order = order_other mirror mirror2 orders orders2 slot after e other away

      pick : (k : Option KeptMask) → get_or mirror.slots.items other None ≡ k
          → standing_of mirror2 (get_or mirror2.slots.items other None) (get_or orders2 other None) ≡ standing_of mirror (get_or mirror.slots.items other None) (get_or orders other None)
      pick None is = ap (λ (k : Option KeptMask). standing_of mirror2 k (get_or orders2 other None)) (slots other away ∙ is)
          ∙ sym (ap (λ (k : Option KeptMask). standing_of mirror k (get_or orders other None)) is)
      pick (Some kept) is = let chains = chains_stay other away kept is in
          ap (λ (k : Option KeptMask). standing_of mirror2 k (get_or orders2 other None)) (slots other away ∙ is)
          ∙ ((λ t. Some (record { block = kept.block; mask = kept.mask; chains = chains t; order = order t }))
          ∙ sym (ap (λ (k : Option KeptMask). standing_of mirror k (get_or orders other None)) is))

-- ---- the slots
pub slots_same : (mirror mirror2 : Mirror) (slot : ℕ) → mirror2.slots.items ≡ mirror.slots.items → (other : ℕ) → other ≢ slot → get_or mirror2.slots.items other None ≡ get_or mirror.slots.items other None
slots_same mirror mirror2 slot same other away = ap (λ (xs : List (Option KeptMask)). get_or xs other None) same

pub slots_set : (mirror mirror2 : Mirror) (slot : ℕ) (kept : Option KeptMask) → mirror2.slots.items ≡ set mirror.slots.items slot kept
    → (other : ℕ) → other ≢ slot → get_or mirror2.slots.items other None ≡ get_or mirror.slots.items other None
slots_set mirror mirror2 slot kept same other away = ap (λ (xs : List (Option KeptMask)). get_or xs other None) same ∙ get_or-set_other mirror.slots.items slot other kept None away

-- ---- the roots
module _ {E : Type 0} (mirror : Mirror) (shape : Shape) (cells : List ℕ) (h h2 : List (Commit E)) (slot : ℕ) (keeps : IsKept mirror shape cells (root_of h)) where
  -- one commit to a bucket of the mask at the slot
  pub one_root : (c : Commit E) (own : BucketAt mirror c.root) → own.slot ≡ slot → h2 ≡ h ++ c ∷ [] → SameRoots mirror slot (root_of h) (root_of h2)
  one_root c own mine seen root at away =
      ap (λ (k : List (Commit E)). (root_of k root).chain) seen
      ∙ ap (λ (n : Named). n.chain) (root_other h c root (λ e. away ((keeps.apart c.root (record { slot = at.slot; bucket = at.bucket; kept = at.kept; stands = at.stands; within = at.within; same = e ∙ at.same }) own).0 ∙ mine)))

  -- those of a whole mask there, in free rows
  pub raised_roots : slot < MASK_SLOTS → (mask : StoredMask) (b : ℕ) (ps : List Placed) (stamp : ℕ) → IsStorableMask mask → AreFreeRows mirror mask.rows → h2 ≡ h ++ raise_commits slot mask b ps stamp
      → SameRoots mirror slot (root_of h) (root_of h2)
  raised_roots small mask b ps stamp is rows seen root at away =
      let cs : List (Commit E) = h ++ bucket_commits mask ps stamp mask.size in let last : Commit E = mask_commit slot mask b stamp in
      let high = at.same in let place = at_root at.kept.mask at.bucket in
      ap (λ (k : List (Commit E)). (root_of k root).chain) (seen ∙ commits_all h mask ps stamp slot b)
      ∙ ap (λ (n : Named). n.chain) (root_other cs last root (λ e. absurd (omega (arith, e)))
      ∙ other_root h mask ps stamp mask.size root (λ k less e. bucket_aside mirror shape cells (root_of h) keeps mask is rows k less (subst (BucketAt mirror) e at)))
