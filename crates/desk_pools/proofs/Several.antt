-- Several numbers of a pool at once: they are taken, or leave.
use Rattle.std.proofs.Common.{◌≡◌, ◌∙◌, ◌⊎◌, inl, inr, ℕ, ◌+◌, ◌<◌, ◌≤◌, ◌||◌, Bool, true, false, List, [], ◌∷◌, ◌++◌, length, eqb, refl, sym, ap, subst, arith, append-nil, length-append, eqb-true, zero, suc, slice_get, Some}
use Rattle.std.specs.List.{IsDistinct, list_any}
use Rattle.std.proofs.lemmas.Map.Steps.{length-le_from_distinct_below}
use Rattle.hook_law.specs.Standing.{IsIn}
use Rattle.desk_pools.specs.OfNumbers.Numbers.{PoolNumbers}
use Rattle.root_pool_laws.specs.Pools.{IsPool}
use Rattle.root_pool_laws.proofs.Apart.{in_append, distinct_first, distinct_second, distinct_append}
use Rattle.root_pool_laws.proofs.Giving.{given_apart, given_was, pool_gives}
use Rattle.desk_pools.specs.Steps.{IsInPool, IsTaken, AreTaken, MayLeave}

none_in : (x : ℕ) → IsIn {A = ℕ} x [] → ⊥
none_in x at = let e = at.1 in cc e

module _ (size : ℕ) (F L : ℕ → Type 0) (old now : PoolNumbers) (given : List ℕ) (p : IsPool size F L old.free old.left) (part : old.free ≡ now.free ++ given) (same : now.left ≡ old.left) where
  pub pool_took_some : IsPool size F L now.free now.left
  unfolding IsDistinct
  pool_took_some = subst (λ (l : List ℕ). IsPool size F L now.free l) (append-nil old.left ∙ sym same)
      (pool_gives size F L F L old.free old.left now.free given [] p part (λ y at f. f) (λ y at l. l) (λ y at. absurd (none_in y at)) tt)

  taken_one : (x : ℕ) → IsIn x given → IsTaken size F now x
  taken_one x at = let apart = given_apart size F L F L old.free old.left now.free given [] p part x at in let was = given_was size F L F L old.free old.left now.free given [] p part x at in record {
    small = was.0;
    free = was.1;
    apart = λ in_. sort apart in_;
  }
    where
      sort : (IsIn x now.free → ⊥) × (IsIn x old.left → ⊥) → IsInPool x now → ⊥
      sort apart (inl one) = apart.0 one
      sort apart (inr one) = apart.1 (subst (IsIn x) same one)

  pub taken_are : AreTaken size F now given
  taken_are = record {
    different = distinct_second now.free given (distinct_first (now.free ++ given) old.left (subst (λ (l : List ℕ). IsDistinct eqb (l ++ old.left)) part p.different));
    each = taken_one;
  }

pub pool_left_some : (size : ℕ) (F L : ℕ → Type 0) (old now : PoolNumbers) (leaving : List ℕ) → IsPool size F L old.free old.left → now.free ≡ old.free → now.left ≡ old.left ++ leaving
    → MayLeave size L old leaving → IsPool size F L now.free now.left
pool_left_some size F L old now leaving p same more m = subst (λ (l : List ℕ). IsPool size F L l now.left) (sym same) (subst (λ (l : List ℕ). IsPool size F L old.free l) (sym more)
    (pool_gives size F L F L old.free old.left old.free [] leaving p (sym (append-nil old.free)) (λ y at f. f) (λ y at l. l)
    (λ y at. (m.small y at, m.left y at, (λ in_. m.apart y at (inl in_)), (λ in_. m.apart y at (inr in_)))) m.different))

-- ---- room
any_in : (q : ℕ) (xs : List ℕ) → list_any (eqb q) xs ≡ true → IsIn q xs
any_in q [] e = absurd (cc e)
any_in q (x ∷ xs) e = pick (eqb q x) refl (any_in q xs)
  where
    pick : (t : Bool) → eqb q x ≡ t → (list_any (eqb q) xs ≡ true → IsIn q xs) → IsIn q (x ∷ xs)
    pick true is rest = (0, ap Some (sym (eqb-true q x is)))
    pick false is rest = let more = rest (sym (ap (λ (b : Bool). b || list_any (eqb q) xs) is) ∙ e) in (suc more.0, more.1)

pub have_room : (size : ℕ) (F L : ℕ → Type 0) (pool : PoolNumbers) (leaving : List ℕ) → IsPool size F L pool.free pool.left → MayLeave size L pool leaving
    → length pool.free + length pool.left + length leaving ≤ size
have_room size F L pool leaving p m =
    let all = length-le_from_distinct_below ((pool.free ++ pool.left) ++ leaving) size
    (distinct_append (pool.free ++ pool.left) leaving p.different m.different (λ x at in_. m.apart x in_ (in_append pool.free pool.left x at)))
    (λ q any. below q (in_append (pool.free ++ pool.left) leaving q (any_in q ((pool.free ++ pool.left) ++ leaving) any))) in
    let one = length-append (pool.free ++ pool.left) leaving in let two = length-append pool.free pool.left in omega (arith, all, one, two)
  where
    below : (q : ℕ) → IsIn q (pool.free ++ pool.left) ⊎ IsIn q leaving → q < size
    below q (inl at) = p.small at.0 q at.1
    below q (inr at) = m.small q at
