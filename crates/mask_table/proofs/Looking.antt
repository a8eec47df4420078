-- From what the roots name to what a look-up tells.
use Rattle.std.proofs.Common.{◌≡◌, ◌∙◌, ◌⊎◌, inl, inr, ℕ, ◌+◌, ◌*◌, ◌≤◌, List, length, take, Some, Bool, max, ap, sym, subst, arith}
use mathlib.Core.Logic.{dite}
use native.Mathlib.Decide.{dec_le}
use Rattle.store_history.specs.declared.history.Commit.{Commit}
use Rattle.store_history.specs.History.{root_of}
use Rattle.store_history.specs.Reads.{read_all, read_first}
use Rattle.visit_room.specs.declared.names.ActionName.{ActionName}
use Rattle.flow_mask.specs.Masks.{each_and}
use Rattle.block_codec.specs.declared.filter.StoredFilter.{StoredFilter}
use Rattle.block_codec.specs.declared.mask.StoredMask.{StoredMask}
use Rattle.block_codec.specs.OfReadings.Read.{filter_in, mask_of_words}
use Rattle.block_chain.proofs.Chains.{read_length}
use Rattle.mask_table.specs.Buckets.{mask_root, bucket_root, bucket_for, bucket_of, IsAnswer}
use Rattle.mask_table.specs.Told.{edits_by, FitsSize, TellsMask, BucketTold, LookedUp}
use Rattle.mask_table.proofs.Buckets.{answer_of}

-- the greater of two numbers is one of them
pub one_of : (a b most : ℕ) → most ≡ max a b → (most ≡ a) ⊎ (most ≡ b)
one_of a b most is = dite (dec_le a b) (λ low. inr (omega arith)) (λ high. inl (omega arith))

module _ {E : Type 0} where
  -- the record was loaded where the slot stood at p, with the stamp t1, and then the bucket, with the stamp
  -- t2
  pub looked_up : (stands : List (Commit E) → ℕ → ℕ → Type 0) (words : ℕ → List ℕ) (fs : ℕ → List StoredFilter) (h : List (Commit E)) (n p slot serial : ℕ) (key : List ℕ) (mask : StoredMask) (found : Bool) (actions : List ActionName) (t1 t2 point loads i : ℕ)
      → n ≤ p → i ≡ bucket_for mask.size (each_and key mask.mask.words)
      → read_first mask_of_words (root_of (take p h) (mask_root slot)).chain ≡ Some mask → (root_of (take p h) (mask_root slot)).stamp ≡ t1
      → (o : BucketTold stands fs h p slot serial i mask) → (root_of h (bucket_root mask i)).stamp ≡ t2
      → TellsMask words fs (root_of (take p h) (mask_root slot)) (edits_by h p)
      → TellsMask words fs (root_of (take o.at h) (mask_root slot)) (edits_by h o.at)
      → ((xs : List StoredFilter) → read_all filter_in (root_of h (bucket_root mask i)).chain ≡ Some xs → IsAnswer xs (each_and key mask.mask.words) found actions)
      → t1 ≤ point → t2 ≤ point → (point ≡ t1) ⊎ (point ≡ t2) → loads ≤ 41 + 1 + 40 * length (root_of h (bucket_root mask i)).chain
      → length mask.mask.words ≡ 14 → LookedUp stands words fs h n slot serial key found actions point loads
  looked_up stands words fs h n p slot serial key mask found actions t1 t2 point loads i le is read s1 o s2 a d ans le1 le2 one cost long = record {
    at = o.at;
    late = let x = o.late in omega arith;
    made = o.made;
    there = o.there;
    reached = reach one;
    answer = λ k low high. subst (λ (z : List ℕ). IsAnswer (fs k) (each_and key z) found actions) (sym (word k (omega arith) high))
        (answer_of mask.size i (fs k) (each_and key mask.mask.words) found actions (sym is)
        (subst (λ (z : List StoredFilter). IsAnswer z (each_and key mask.mask.words) found actions) (o.tells.are k (omega arith) high) (ans o.tells.there o.tells.read)));
    read_at = p;
    read_late = le;
    read_before = o.late;
    mask = mask;
    read = read;
    words_are = λ k low high. word k (omega arith) high;
    wide = λ k low high. ap length (word k (omega arith) high) ∙ long;
    fits = λ k low high. subst (λ (z : ℕ). FitsSize fs z k) same_size (d.fits k (omega arith) high);
    few = λ k low high. let e = chain_length k low high in rw (word k (omega arith) high, ← is) (omega (arith, cost, e));
  }
    where
      later : (root_of (take o.at h) (mask_root slot)).stamp ≡ t1
      later = o.stamp ∙ s1

      reach : (point ≡ t1) ⊎ (point ≡ t2) → point ≤ edits_by h o.at
      reach (inl e) = let x = d.early in let y = later in omega arith
      reach (inr e) = let x = o.tells.early in omega arith

      same_mask : a.mask ≡ mask
      same_mask = let x = a.read in cc (x, read)

      same_there : d.mask ≡ o.mask_there
      same_there = let x = d.read in let y = o.read in cc (x, y)

      same_size : d.mask.size ≡ mask.size
      same_size = ap (λ (z : StoredMask). z.size) same_there ∙ o.size

      -- the words of the mask from its root's stamp on
      word : (k : ℕ) → t1 ≤ k → k ≤ edits_by h o.at → words k ≡ mask.mask.words
      word k low high = let l = later in let x = a.early in let y = d.early in
          let first : words t1 ≡ a.mask.mask.words = a.words_are t1 (omega arith) (omega arith) in
          let last : words t1 ≡ d.mask.mask.words = d.words_are t1 (omega arith) (omega arith) in
          d.words_are k (omega arith) high ∙ (sym last ∙ (first ∙ ap (λ (z : StoredMask). z.mask.words) same_mask))

      chain_length : (k : ℕ) → point ≤ k → k ≤ edits_by h o.at → length (root_of h (bucket_root mask i)).chain ≡ length (bucket_of mask.size i (fs k))
      chain_length k low high = sym (read_length filter_in (root_of h (bucket_root mask i)).chain o.tells.there o.tells.read) ∙ ap length (o.tells.are k (omega arith) high)
