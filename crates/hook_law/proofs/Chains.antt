-- What parts of chains read as, and what a bucket has where a mask's filters change.
use Rattle.std.proofs.Common.{◌≡◌, ◌≢◌, ℕ, zero, suc, ◌+◌, ◌%◌, Bool, true, false, cond, eqb, List, [], ◌∷◌, ◌++◌, length, take, drop, Option, Some, None, refl, ap, sym, ◌∙◌, arith, append_assoc}
use mathlib.Core.List.{append-nil}
use Rattle.std.proofs.Math.Seq.{drop-append-add}
use Rattle.store_history.specs.declared.history.Link.{Link}
use Rattle.hook_law.specs.Records.{StatedFilter}
use Rattle.hook_law.specs.Chains.{in_front, read_all, bucket_of}

module _ {A : Type 0} (read : List ℕ → Option A) where
  -- the first block and the rest of a chain that reads
  pub read_parts : (l : Link) (ls : List Link) (xs : List A) → read_all read (l ∷ ls) ≡ Some xs
      → (x : A) × (rest : List A) × (read l.words ≡ Some x) × (read_all read ls ≡ Some rest) × (xs ≡ x ∷ rest)
  read_parts l ls xs e = pick (read l.words) (read_all read ls) refl refl e
    where
      pick : (o : Option A) (p : Option (List A)) → read l.words ≡ o → read_all read ls ≡ p → in_front o p ≡ Some xs
          → (x : A) × (rest : List A) × (read l.words ≡ Some x) × (read_all read ls ≡ Some rest) × (xs ≡ x ∷ rest)
      pick (Some x) (Some rest) p q e = (x, rest, p, q, sym (cc e))
      pick (Some x) None p q e = absurd (cc e)
      pick None r p q e = absurd (cc e)

  pub read_cons : (l : Link) (ls : List Link) (x : A) (xs : List A) → read l.words ≡ Some x → read_all read ls ≡ Some xs
      → read_all read (l ∷ ls) ≡ Some (x ∷ xs)
  read_cons l ls x xs one all = rw (one, all) refl

  pub read_append : (ks ls : List Link) (xs ys : List A) → read_all read ks ≡ Some xs → read_all read ls ≡ Some ys
      → read_all read (ks ++ ls) ≡ Some (xs ++ ys)
  read_append [] ls xs ys p q = let none : [] ≡ xs = cc p in q ∙ ap (λ (z : List A). Some (z ++ ys)) none
  read_append (k ∷ ks) ls xs ys p q = let o = read_parts k ks xs p in
      read_cons k (ks ++ ls) o.0 (o.1 ++ ys) o.2 (read_append ks ls o.1 ys o.3 q) ∙ ap (λ (z : List A). Some (z ++ ys)) (sym o.4)

  pub read_take : (ls : List Link) (xs : List A) (n : ℕ) → read_all read ls ≡ Some xs → read_all read (take n ls) ≡ Some (take n xs)
  read_take ls xs zero p = refl
  read_take [] xs (suc n) p = let none : [] ≡ xs = cc p in ap (λ (z : List A). Some (take (suc n) z)) none
  read_take (l ∷ ls) xs (suc n) p = let o = read_parts l ls xs p in read_cons l (take n ls) o.0 (take n o.1) o.2 (read_take ls o.1 n o.3) ∙ ap (λ (z : List A). Some (take (suc n) z)) (sym o.4)

  pub read_drop : (ls : List Link) (xs : List A) (n : ℕ) → read_all read ls ≡ Some xs → read_all read (drop n ls) ≡ Some (drop n xs)
  read_drop ls xs zero p = p
  read_drop [] xs (suc n) p = let none : [] ≡ xs = cc p in ap (λ (z : List A). Some (drop (suc n) z)) none
  read_drop (l ∷ ls) xs (suc n) p = let o = read_parts l ls xs p in read_drop ls o.1 n o.3 ∙ ap (λ (z : List A). Some (drop (suc n) z)) (sym o.4)

module _ {A : Type 0} where
  -- what is behind an element of a list
  pub drop_past : (xs : List A) (a : A) (ys : List A) (n : ℕ) → length xs ≡ n → drop (n + 1) (xs ++ a ∷ ys) ≡ ys
  drop_past xs a ys n is = ap (λ (z : ℕ). drop (z + 1) (xs ++ a ∷ ys)) (sym is) ∙ drop-append-add xs (a ∷ ys) 1

module _ (hash : List ℕ → ℕ) (size k : ℕ) where
  pub bucket_append : (fs gs : List StatedFilter) → bucket_of hash size k (fs ++ gs) ≡ bucket_of hash size k gs ++ bucket_of hash size k fs
  bucket_append [] gs = sym (append-nil (bucket_of hash size k gs))
  bucket_append (f ∷ fs) gs = ap (λ (z : List StatedFilter). z ++ cond (eqb (hash f.key % size) k) (f ∷ []) []) (bucket_append fs gs)
      ∙ append_assoc (bucket_of hash size k gs) (bucket_of hash size k fs) (cond (eqb (hash f.key % size) k) (f ∷ []) [])

  -- a filter of the bucket, and one of another bucket, in the midst of others
  pub bucket_with : (fs : List StatedFilter) (f : StatedFilter) (gs : List StatedFilter) → hash f.key % size ≡ k
      → bucket_of hash size k (fs ++ f ∷ gs) ≡ bucket_of hash size k gs ++ f ∷ bucket_of hash size k fs
  bucket_with fs f gs is = bucket_append fs (f ∷ gs) ∙ pick (eqb (hash f.key % size) k) refl
    where
      pick : (t : Bool) → eqb (hash f.key % size) k ≡ t → (bucket_of hash size k gs ++ cond t (f ∷ []) []) ++ bucket_of hash size k fs ≡ bucket_of hash size k gs ++ f ∷ bucket_of hash size k fs
      pick true e = append_assoc (bucket_of hash size k gs) (f ∷ []) (bucket_of hash size k fs)
      pick false e = absurd (grind (arith, e))

  pub bucket_without : (fs : List StatedFilter) (f : StatedFilter) (gs : List StatedFilter) → hash f.key % size ≢ k
      → bucket_of hash size k (fs ++ f ∷ gs) ≡ bucket_of hash size k (fs ++ gs)
  bucket_without fs f gs ne = bucket_append fs (f ∷ gs) ∙ (pick (eqb (hash f.key % size) k) refl ∙ sym (bucket_append fs gs))
    where
      pick : (t : Bool) → eqb (hash f.key % size) k ≡ t → (bucket_of hash size k gs ++ cond t (f ∷ []) []) ++ bucket_of hash size k fs ≡ bucket_of hash size k gs ++ bucket_of hash size k fs
      pick true e = absurd (ne (grind (arith, e)))
      pick false e = ap (λ (z : List StatedFilter). z ++ bucket_of hash size k fs) (append-nil (bucket_of hash size k gs))
