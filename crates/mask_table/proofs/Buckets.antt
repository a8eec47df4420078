-- A bucket's answer is the mask's.
use Rattle.std.proofs.Common.{◌≡◌, ◌∙◌, ◌⊎◌, inl, inr, ℕ, zero, suc, ◌%◌, List, [], ◌∷◌, ◌++◌, slice_get, Some, Bool, true, false, cond, eqb, refl, ap, sym, subst, arith}
use Rattle.visit_room.specs.declared.names.ActionName.{ActionName}
use Rattle.flow_mask.specs.Hashes.{hash_of}
use Rattle.block_codec.specs.declared.filter.StoredFilter.{StoredFilter}
use Rattle.mask_table.specs.Buckets.{IsAmong, bucket_for, bucket_of, IsAnswer}

module _ {A : Type 0} where
  in_left : (x : A) (xs ys : List A) (j : ℕ) → slice_get xs j ≡ Some x → slice_get (xs ++ ys) j ≡ Some x
  in_left x [] ys j e = absurd (cc e)
  in_left x (z ∷ zs) ys zero e = e
  in_left x (z ∷ zs) ys (suc j) e = in_left x zs ys j e

  in_right : (x : A) (xs ys : List A) → IsAmong x ys → IsAmong x (xs ++ ys)
  in_right x [] ys i = i
  in_right x (z ∷ zs) ys i = let r = in_right x zs ys i in (suc r.0, r.1)

  in_append : (x : A) (xs ys : List A) (j : ℕ) → slice_get (xs ++ ys) j ≡ Some x → IsAmong x xs ⊎ IsAmong x ys
  in_append x [] ys j e = inr (j, e)
  in_append x (z ∷ zs) ys zero e = inl (0, e)
  in_append x (z ∷ zs) ys (suc j) e = more (in_append x zs ys j e)
    where
      more : IsAmong x zs ⊎ IsAmong x ys → IsAmong x (z ∷ zs) ⊎ IsAmong x ys
      more (inl a) = inl (suc a.0, a.1)
      more (inr b) = inr b

  in_none : (x : A) → IsAmong x [] → ⊥
  in_none x i = let e = i.1 in cc (e)

-- a bucket's filters are the mask's
in_mask : (size k : ℕ) (fs : List StoredFilter) (f : StoredFilter) → IsAmong f (bucket_of size k fs) → IsAmong f fs
in_mask size k [] f i = i
in_mask size k (g ∷ gs) f i = pick (λ a. in_mask size k gs f a) (in_append f (bucket_of size k gs) (cond (eqb (hash_of g.key.words % size) k) (g ∷ []) []) i.0 i.1)
  where
    only : (j : ℕ) → slice_get (g ∷ []) j ≡ Some f → IsAmong f (g ∷ gs)
    only zero e = (0, e)
    only (suc j) e = absurd (in_none f (j, e))

    one : (t : Bool) → IsAmong f (cond t (g ∷ []) []) → IsAmong f (g ∷ gs)
    one true i = only i.0 i.1
    one false i = absurd (in_none f i)

    pick : (IsAmong f (bucket_of size k gs) → IsAmong f gs) → IsAmong f (bucket_of size k gs) ⊎ IsAmong f (cond (eqb (hash_of g.key.words % size) k) (g ∷ []) []) → IsAmong f (g ∷ gs)
    pick more (inl a) = let r = more a in (suc r.0, r.1)
    pick more (inr b) = one (eqb (hash_of g.key.words % size) k) b

-- a filter of the mask is in the bucket of its key
pub in_bucket : (size k : ℕ) (fs : List StoredFilter) (f : StoredFilter) (j : ℕ) → hash_of f.key.words % size ≡ k → slice_get fs j ≡ Some f → IsAmong f (bucket_of size k fs)
in_bucket size k [] f j is e = absurd (cc e)
in_bucket size k (g ∷ gs) f zero is e = let same : g ≡ f = cc (e) in
    in_right f (bucket_of size k gs) _ (subst (λ (z : StoredFilter). IsAmong f (cond (eqb (hash_of z.key.words % size) k) (z ∷ []) [])) (sym same) (one (eqb (hash_of f.key.words % size) k) refl))
  where
    one : (t : Bool) → eqb (hash_of f.key.words % size) k ≡ t → IsAmong f (cond t (f ∷ []) [])
    one true e = (0, refl)
    one false e = absurd (grind (arith, e))
in_bucket size k (g ∷ gs) f (suc j) is e = let r = in_bucket size k gs f j is e in (r.0, in_left f (bucket_of size k gs) (cond (eqb (hash_of g.key.words % size) k) (g ∷ []) []) r.0 r.1)

-- what a search of the bucket of a key answers is what a search of all filters answers
pub answer_of : (size k : ℕ) (fs : List StoredFilter) (key : List ℕ) (found : Bool) (actions : List ActionName) → bucket_for size key ≡ k → IsAnswer (bucket_of size k fs) key found actions → IsAnswer fs key found actions
answer_of size k fs key true actions is a = (a.0, in_mask size k fs a.0 a.1, a.2, a.3)
answer_of size k fs key false actions is a = λ f i e. a f (in_bucket size k fs f i.0 (ap (λ (z : List ℕ). hash_of z % size) e ∙ is) i.1) e
