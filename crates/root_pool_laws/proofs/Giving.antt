-- A pool of which numbers are given, and to which others come back.
use Rattle.std.proofs.Common.{◌≡◌, ◌⊎◌, inl, inr, ℕ, ◌<◌, eqb, List, [], ◌∷◌, ◌++◌, refl, sym, ap, subst}
use Rattle.std.specs.List.{IsDistinct}
use Rattle.hook_law.specs.Standing.{IsIn}
use Rattle.root_pool_laws.specs.Pools.{IsPool}
use Rattle.root_pool_laws.proofs.Apart.{in_append, in_left, in_right, distinct_append, distinct_first, distinct_second, distinct_apart}

-- what is free and what left is told otherwise
pub pool_as : (size : ℕ) (F G L M : ℕ → Type 0) (free left : List ℕ) → ((x : ℕ) → IsIn x free → F x → G x) → ((x : ℕ) → IsIn x left → L x → M x) → IsPool size F L free left → IsPool size G M free left
pool_as size F G L M free left to from p = record {
  different = p.different;
  small = p.small;
  may_be_given = λ place x e. to x (place, e) (p.may_be_given place x e);
  have_left = λ place x e. from x (place, e) (p.have_left place x e);
}

-- Some of the free numbers are given, and others leave, each once, that were neither free nor had left. Of the
-- rest it stays so that they are free, or have left.
module _ (size : ℕ) (F L G M : ℕ → Type 0) (free left free2 given leaving : List ℕ) (p : IsPool size F L free left) (part : free ≡ free2 ++ given) where
  whole : IsDistinct eqb ((free2 ++ given) ++ left)
  whole = subst (λ (l : List ℕ). IsDistinct eqb (l ++ left)) part p.different

  was_free : (x : ℕ) → IsIn x free2 → IsIn x free
  was_free x at = subst (IsIn x) (sym part) (in_left free2 given x at)

  -- a number that was given is free no more, and has not left
  pub given_apart : (x : ℕ) → IsIn x given → (IsIn x free2 → ⊥) × (IsIn x left → ⊥)
  given_apart x at = (
    λ other. distinct_apart free2 given (distinct_first (free2 ++ given) left whole) x other at,
    λ other. distinct_apart (free2 ++ given) left whole x (in_right free2 given x at) other,
  )

  pub given_was : (x : ℕ) → IsIn x given → (x < size) × F x
  given_was x at = let was = subst (IsIn x) (sym part) (in_right free2 given x at) in let all = in_left free left x was in (p.small all.0 x all.1, p.may_be_given was.0 x was.1)

  pub pool_gives : ((x : ℕ) → IsIn x free2 → F x → G x) → ((x : ℕ) → IsIn x left → L x → M x)
      → ((x : ℕ) → IsIn x leaving → (x < size) × M x × (IsIn x free2 → ⊥) × (IsIn x left → ⊥)) → IsDistinct eqb leaving → IsPool size G M free2 (left ++ leaving)
  pool_gives stays still leaves once = record {
    different = distinct_append free2 (left ++ leaving) (distinct_first free2 given (distinct_first (free2 ++ given) left whole))
        (distinct_append left leaving (distinct_second (free2 ++ given) left whole) once
        (λ x at in_. (leaves x in_).3 at))
        (λ x at in_. sort x at (in_append left leaving x in_));
    small = λ place x e. below x (in_append free2 (left ++ leaving) x (place, e));
    may_be_given = λ place x e. let was = was_free x (place, e) in stays x (place, e) (p.may_be_given was.0 x was.1);
    have_left = λ place x e. gone x (in_append left leaving x (place, e));
  }
    where
      sort : (x : ℕ) → IsIn x free2 → IsIn x left ⊎ IsIn x leaving → ⊥
      sort x at (inl in_) = distinct_apart (free2 ++ given) left whole x (in_left free2 given x at) in_
      sort x at (inr in_) = (leaves x in_).2 at

      low : (x : ℕ) → IsIn x (free ++ left) → x < size
      low x at = p.small at.0 x at.1

      below : (x : ℕ) → IsIn x free2 ⊎ IsIn x (left ++ leaving) → x < size
      below x (inl at) = low x (in_left free left x (was_free x at))
      below x (inr at) = behind (in_append left leaving x at)
        where
          behind : IsIn x left ⊎ IsIn x leaving → x < size
          behind (inl one) = low x (in_right free left x one)
          behind (inr one) = (leaves x one).0

      gone : (x : ℕ) → IsIn x left ⊎ IsIn x leaving → M x
      gone x (inl at) = still x at (p.have_left at.0 x at.1)
      gone x (inr at) = (leaves x at).1
