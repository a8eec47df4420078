-- The commits that name a whole mask: each is the one that its chain makes, and what the roots name after all
-- of them.
use Rattle.std.proofs.Common.{◌≡◌, ◌≢◌, ◌∙◌, ◌⊎◌, inl, inr, ℕ, zero, suc, ◌+◌, ◌<◌, ◌≤◌, true, false, eqb, List, [], ◌∷◌, ◌++◌, length, map, get_or, take, None, refl, sym, ap, subst, arith, append_assoc, length-append}
use mathlib.Core.List.{append-nil}
use Rattle.std.specs.List.{range_with_len}
use Rattle.std.proofs.lemmas.Bool.Decides.{eqb_tells}
use Rattle.std.proofs.lemmas.List.{take-append-le, take_all}
use Rattle.std.proofs.lemmas.List.FromFn.{map-range_with_len_more, take-map-range_with_len, length-map-range_with_len}
use Rattle.store_history.specs.declared.history.Commit.{Commit}
use Rattle.store_history.specs.History.{root_of, IsLinked}
use Rattle.store_history.proofs.Histories.{root_own, root_other}
use Rattle.store_history.specs.declared.places.TheConstants.{MASK_ROOTS, BUCKET_ROOTS}
use Rattle.pin_store.specs.declared.shape.Shape.{Shape}
use Rattle.pin_store.specs.Layout.{block_words, links_of, commit_of}
use Rattle.block_codec.specs.declared.mask.StoredMask.{StoredMask}
use Rattle.block_codec.specs.Masks.{mask_words, rows_word, IsMaskBlock}
use Rattle.block_codec.proofs.Standing.{block_link}
use Rattle.block_codec.proofs.OfReadings.MaskReads.{length_mask_words}
use Rattle.mask_table.specs.Buckets.{bucket_root}
use Rattle.mask_table.specs.declared.mirrors.mirror.Mirror.{Mirror}
use Rattle.mask_table.specs.OfMirrors.Kept.{bucket_at, Spells}
use Rattle.mask_table.specs.OfMirrors.Linked.{Placed, bucket_commit, bucket_commits, mask_commit, raise_commits}
use Rattle.mask_table.proofs.OfMirrors.Keeping.{at_root}
use Rattle.mask_table.proofs.OfMirrors.Spelling.{same_blocks}
use Rattle.mask_build.specs.Laid.{Laid, places, blocks_in, IsLaid}
use Rattle.mask_build.proofs.Stacking.{links_laid}

-- ---- one commit
-- the chain that is kept for a bucket
pub spelled_at : (mirror : Mirror) (shape : Shape) (cells : List ℕ) (mask : StoredMask) (xs : List Laid) → IsLaid mirror shape cells mask xs → (bucket place number : ℕ) → bucket < mask.size → place ≡ bucket_at mask bucket
    → number ≡ get_or mirror.first.items place 0 → Spells mirror.next.items number (blocks_in mask.size bucket xs)
spelled_at mirror shape cells mask xs laid bucket place number less at was =
    subst (λ (n : ℕ). Spells mirror.next.items n (blocks_in mask.size bucket xs)) (sym (was ∙ ap (λ (k : ℕ). get_or mirror.first.items k 0) at)) (laid.chain bucket less).spelled

-- makes the commit of the bucket
pub bucket_commit_is : {E : Type 0} (mirror : Mirror) (shape : Shape) (cells : List ℕ) (mask : StoredMask) (xs : List Laid) → IsLaid mirror shape cells mask xs → (bucket place number : ℕ) → bucket < mask.size → place ≡ bucket_at mask bucket
    → number ≡ get_or mirror.first.items place 0 → (blocks : List ℕ) → Spells mirror.next.items number blocks → (stamp : ℕ) (edit : E) → commit_of shape cells (BUCKET_ROOTS + place) blocks stamp None edit ≡ bucket_commit mask (places xs) stamp bucket
bucket_commit_is {E} mirror shape cells mask xs laid bucket place number less at was blocks spelled stamp edit =
    let is = same_blocks mirror.next.items number number blocks (blocks_in mask.size bucket xs) refl spelled (spelled_at mirror shape cells mask xs laid bucket place number less at was) in
    let links = ap (links_of shape cells) is ∙ links_laid mirror shape cells mask xs laid bucket less in
    let root : BUCKET_ROOTS + place ≡ bucket_root mask bucket = ap (λ (k : ℕ). BUCKET_ROOTS + k) at ∙ sym (at_root mask bucket) in
    λ t. record { root = root t; named = record { chain = links t; stamp = stamp }; edit = None }

few_words : (mask : StoredMask) → length mask.mask.words ≡ 14 → length (mask_words mask) ≤ 39
few_words mask long = let all = length_mask_words mask long in omega arith

-- the record's block makes a chain of its own
pub record_linked : (shape : Shape) (cells : List ℕ) (b : ℕ) (mask : StoredMask) → shape.words ≡ 40 → IsMaskBlock (block_words shape cells b) (mask, None) → IsLinked shape.words (links_of shape cells (b ∷ []))
record_linked shape cells b mask wide is = subst (λ (w : ℕ). IsLinked w (links_of shape cells (b ∷ []))) (sym wide)
    (ap (λ (ws : List ℕ). get_or ws 39 0) is.words_are ∙ block_link (mask_words mask) None (few_words mask is.mask))

-- and the commit of the slot
pub mask_commit_is : {E : Type 0} (shape : Shape) (cells : List ℕ) (slot b : ℕ) (mask : StoredMask) → IsMaskBlock (block_words shape cells b) (mask, None) → (stamp : ℕ) (edit : E)
    → commit_of shape cells (MASK_ROOTS + slot) (b ∷ []) stamp None edit ≡ mask_commit slot mask b stamp
mask_commit_is shape cells slot b mask is stamp edit = λ t. record { root = MASK_ROOTS + slot; named = record { chain = record { block = b; words = is.words_are t } ∷ []; stamp = stamp }; edit = None }

-- ---- all commits
module _ {E : Type 0} (h : List (Commit E)) (mask : StoredMask) (ps : List Placed) (stamp : ℕ) where
  abbrev commits : ℕ → List (Commit E)
  commits count = bucket_commits mask ps stamp count

  abbrev one : ℕ → Commit E
  one bucket = bucket_commit mask ps stamp bucket

  pub commits_more : (k : ℕ) → h ++ commits (k + 1) ≡ (h ++ commits k) ++ one k ∷ []
  commits_more k = let zero_more : 0 + k ≡ k = omega arith in ap (λ (cs : List (Commit E)). h ++ cs) (map-range_with_len_more one 0 k k zero_more) ∙ sym (append_assoc h (commits k) (one k ∷ []))

  -- each first part of them is one of a raising
  pub commits_first : (slot b count : ℕ) → count ≤ mask.size → take count (raise_commits slot mask b ps stamp) ≡ commits count
  commits_first slot b count few = let long : length (commits mask.size) ≡ mask.size = length-map-range_with_len one 0 mask.size in
      take-append-le count (commits mask.size) (mask_commit slot mask b stamp ∷ []) (omega arith) ∙ take-map-range_with_len one 0 mask.size count few

  pub commits_all : (slot b : ℕ) → h ++ raise_commits slot mask b ps stamp ≡ (h ++ commits mask.size) ++ mask_commit slot mask b stamp ∷ []
  commits_all slot b = sym (append_assoc h (commits mask.size) (mask_commit slot mask b stamp ∷ []))

  pub commits_last : (slot b : ℕ) → h ++ take (mask.size + 1) (raise_commits slot mask b ps stamp) ≡ (h ++ commits mask.size) ++ mask_commit slot mask b stamp ∷ []
  commits_last slot b = let all = length-append (commits mask.size) (mask_commit slot mask b stamp ∷ []) in let long : length (commits mask.size) ≡ mask.size = length-map-range_with_len one 0 mask.size in
      ap (λ (cs : List (Commit E)). h ++ cs) (take_all (mask.size + 1) (raise_commits slot mask b ps stamp) (omega arith)) ∙ commits_all slot b

  -- the roots of no such bucket
  pub other_root : (k r : ℕ) → ((j : ℕ) → j < k → r ≢ bucket_root mask j) → root_of (h ++ commits k) r ≡ root_of h r
  other_root zero r apart = ap (λ (cs : List (Commit E)). root_of cs r) (append-nil h)
  other_root (suc k) r apart = let more : suc k ≡ k + 1 = omega arith in
      ap (λ (n : ℕ). root_of (h ++ commits n) r) more ∙ (ap (λ (cs : List (Commit E)). root_of cs r) (commits_more k)
      ∙ (root_other (h ++ commits k) (one k) r (λ e. apart k (omega arith) (sym e)) ∙ other_root k r (λ j less. apart j (omega arith))))

  -- and that of each
  pub own_root : ((j k : ℕ) → j < mask.size → k < mask.size → bucket_root mask j ≡ bucket_root mask k → j ≡ k) → (k : ℕ) → k ≤ mask.size → (j : ℕ) → j < k → root_of (h ++ commits k) (bucket_root mask j) ≡ (one j).named
  own_root once zero low j less = absurd (omega arith)
  own_root once (suc k) low j less = let more : suc k ≡ k + 1 = omega arith in
      ap (λ (n : ℕ). root_of (h ++ commits n) (bucket_root mask j)) more ∙ (ap (λ (cs : List (Commit E)). root_of cs (bucket_root mask j)) (commits_more k)
      ∙ pick (λ before. own_root once k (omega arith) j before) (eqb_tells j k))
    where
      pick : (j < k → root_of (h ++ commits k) (bucket_root mask j) ≡ (one j).named) → ((eqb j k ≡ true) × (j ≡ k)) ⊎ ((eqb j k ≡ false) × (j ≢ k)) → root_of ((h ++ commits k) ++ one k ∷ []) (bucket_root mask j) ≡ (one j).named
      pick rest (inl (e, is)) = ap (λ (n : ℕ). root_of ((h ++ commits k) ++ one k ∷ []) (bucket_root mask n)) is ∙ (root_own (h ++ commits k) (one k) ∙ ap (λ (n : ℕ). (one n).named) (sym is))
      pick rest (inr (e, is)) = root_other (h ++ commits k) (one k) (bucket_root mask j) (λ same. is (once j k (omega arith) (omega arith) (sym same))) ∙ rest (omega arith)
