-- Facts and sums over the views of all seats, and what becomes of them where a view changes, is cut in two or
-- takes in another.
use Rattle.std.proofs.Common.{◌≡◌, ◌≢◌, ℕ, zero, suc, ◌+◌, ◌*◌, ◌<◌, ◌≤◌, ⊎_elim, List, [], ◌∷◌, ◌++◌, length, get_or, set, refl, ap, sym, ◌∙◌, subst, arith}
use mathlib.Core.Option.{some, some-injective, some-ne-none}
use lib.ListN.{get_elem?}
use Rattle.std.specs.Prelude.{sum_by}
use Rattle.std.proofs.lemmas.List.Sums.{sum_by-cons, sum_by_push, sum_by-set, get_or-le-sum_by}
use Rattle.atomic_table.proofs.Lists.{at_set, at_snoc, set_else}

module _ {V : Type 0} where
  place_of : (vs : List V) (j : ℕ) (v : V) → get_elem? vs j ≡ some v → (j < length vs) × (get_or vs j v ≡ v)
  place_of [] j v e = absurd (some-ne-none v (sym e))
  place_of (x ∷ xs) zero v e = (omega arith, some-injective x v e)
  place_of (x ∷ xs) (suc j) v e = let r = place_of xs j v e in let low = r.0 in (omega arith, r.1)

  -- one view changes
  pub sum_set : (f : V → ℕ) (vs : List V) (j : ℕ) (v w : V) → get_elem? vs j ≡ some v → sum_by f (set vs j w) + f v ≡ sum_by f vs + f w
  sum_set f vs j v w e = let p = place_of vs j v e in subst (λ (u : V). sum_by f (set vs j w) + f u ≡ sum_by f vs + f w) p.1 (sum_by-set f vs j w v p.0)

  -- a view is cut in two
  pub sum_split : (f : V → ℕ) (vs : List V) (j : ℕ) (v l r : V) → get_elem? vs j ≡ some v → sum_by f (set vs j l ++ r ∷ []) + f v ≡ sum_by f vs + f l + f r
  sum_split f vs j v l r e = let a = sum_set f vs j v l e in let b = sum_by_push f (set vs j l) r in omega arith

  -- a view takes in another, which is left with the third
  pub sum_join : (f : V → ℕ) (vs : List V) (j : ℕ) (v : V) (k : ℕ) (w b x : V) → get_elem? vs j ≡ some v → get_elem? (set vs j b) k ≡ some w
      → sum_by f (set (set vs j b) k x) + f v + f w ≡ sum_by f vs + f b + f x
  sum_join f vs j v k w b x e o = let a = sum_set f vs j v b e in let c = sum_set f (set vs j b) k w x o in omega arith

  pub sum_at : (f : V → ℕ) (vs : List V) (j : ℕ) (v : V) → get_elem? vs j ≡ some v → f v ≤ sum_by f vs
  sum_at f vs j v e = let p = place_of vs j v e in subst (λ (u : V). f u ≤ sum_by f vs) p.1 (get_or-le-sum_by f vs j v p.0)

  -- where each view counts for no more than its shares allow, all count for no more than all shares allow
  pub sum_few : (shares f : V → ℕ) (vs : List V) → ((j : ℕ) (v : V) → get_elem? vs j ≡ some v → f v ≤ shares v * 2147483648) → sum_by f vs ≤ sum_by shares vs * 2147483648
  sum_few shares f [] h = omega arith
  sum_few shares f (x ∷ xs) h = let a = h 0 x refl in let b = sum_few shares f xs (λ j v e. h (suc j) v e) in let c = sum_by-cons f x xs in let d = sum_by-cons shares x xs in omega arith

  sum_none : (shares f : V → ℕ) (vs : List V) → sum_by shares vs ≡ 0 → ((j : ℕ) (v : V) → get_elem? vs j ≡ some v → shares v ≡ 0 → f v ≡ 0) → sum_by f vs ≡ 0
  sum_none shares f [] z h = refl
  sum_none shares f (x ∷ xs) z h = let c = sum_by-cons shares x xs in let d = sum_by-cons f x xs in let a : f x ≡ 0 = h 0 x refl (omega arith) in
      let b = sum_none shares f xs (omega arith) (λ j v e. h (suc j) v e) in omega arith

  -- where one view has every share, and no other counts for anything, the sum is its part
  pub sum_alone : (shares f : V → ℕ) (vs : List V) (j : ℕ) (v : V) → get_elem? vs j ≡ some v → sum_by shares vs ≡ shares v
      → ((j : ℕ) (v : V) → get_elem? vs j ≡ some v → shares v ≡ 0 → f v ≡ 0) → sum_by f vs ≡ f v
  sum_alone shares f [] j v e s h = absurd (some-ne-none v (sym e))
  sum_alone shares f (x ∷ xs) zero v e s h = let is : x ≡ v = some-injective x v e in let p : shares x ≡ shares v = ap shares is in let q : f x ≡ f v = ap f is in
      let c = sum_by-cons shares x xs in let d = sum_by-cons f x xs in let r = sum_none shares f xs (omega arith) (λ j v e. h (suc j) v e) in omega arith
  sum_alone shares f (x ∷ xs) (suc j) v e s h = let c = sum_by-cons shares x xs in let d = sum_by-cons f x xs in let m = sum_at shares xs j v e in
      let a : f x ≡ 0 = h 0 x refl (omega arith) in let r = sum_alone shares f xs j v e (omega arith) (λ j v e. h (suc j) v e) in omega arith

  -- what is true of all views stays true where one changes
  pub set_stays : (K : V → Type 0) (vs : List V) (j : ℕ) (w : V) → K w → ((i : ℕ) (v : V) → get_elem? vs i ≡ some v → K v) → (i : ℕ) (v : V) → get_elem? (set vs j w) i ≡ some v → K v
  set_stays K vs j w mine others i v e = ⊎_elim (λ (t : (i ≡ j) × (w ≡ v)). subst K t.1 mine) (λ (t : (i ≢ j) × (get_elem? vs i ≡ some v)). others i v t.1) (at_set vs j i w v e)

  -- and where one is cut in two
  pub split_stays : (K : V → Type 0) (vs : List V) (j : ℕ) (l r : V) → K l → K r → ((i : ℕ) (v : V) → get_elem? vs i ≡ some v → K v)
      → (i : ℕ) (v : V) → get_elem? (set vs j l ++ r ∷ []) i ≡ some v → K v
  split_stays K vs j l r mine new others i v e = ⊎_elim (λ (t : get_elem? (set vs j l) i ≡ some v). set_stays K vs j l mine others i v t) (λ (t : r ≡ v). subst K t new) (at_snoc (set vs j l) r v i e)

  -- the view of another seat is where it was before
  pub other_at : (vs : List V) (j : ℕ) (b : V) (k : ℕ) (w : V) → (k ≡ j → ⊥) → get_elem? (set vs j b) k ≡ some w → get_elem? vs k ≡ some w
  other_at vs j b k w apart e = sym (set_else vs j k b apart) ∙ e
