-- The roots of the numbers of a pool.
use Rattle.std.proofs.Common.{◌≡◌, ◌⊎◌, inl, inr, ℕ, zero, suc, ◌+◌, ◌-◌, ◌*◌, ◌<◌, ◌≤◌, List, [], ◌∷◌, ◌++◌, slice_get, Some, refl, sym, ap, ◌∙◌, arith}
use Rattle.std.specs.List.{range_with_len}
use Rattle.hook_law.specs.Standing.{IsIn}
use Rattle.root_pool_laws.proofs.Apart.{in_append, in_left, in_right}
use Rattle.desk_pools.specs.Pools.{roots_of}

pub range_in : (first count place root : ℕ) → slice_get (range_with_len first count) place ≡ Some root → (first ≤ root) × (root < first + count)
range_in first zero place root e = absurd (cc e)
range_in first (suc count) zero root e = let same : first ≡ root = cc e in (omega (arith, same), omega (arith, same))
range_in first (suc count) (suc place) root e = let r = range_in (first + 1) count place root e in let a = r.0 in let b = r.1 in (omega arith, omega arith)

range_has : (first count j : ℕ) → j < count → slice_get (range_with_len first count) j ≡ Some (first + j)
range_has first zero j less = absurd (omega (arith, less))
range_has first (suc count) zero less = ap Some (omega arith)
range_has first (suc count) (suc j) less = range_has (first + 1) count j (omega (arith, less)) ∙ ap Some (omega arith)

pub in_roots : (first width : ℕ) (numbers : List ℕ) (root : ℕ) → IsIn root (roots_of first width numbers) → (number : ℕ) × IsIn number numbers × (j : ℕ) × (j < width) × (root ≡ first + width * number + j)
in_roots first width [] root at = let e = at.1 in absurd (cc e)
in_roots first width (n ∷ ns) root at = pick (in_append (range_with_len (first + width * n) width) (roots_of first width ns) root at) (in_roots first width ns root)
  where
    pick : IsIn root (range_with_len (first + width * n) width) ⊎ IsIn root (roots_of first width ns) → (IsIn root (roots_of first width ns) → (number : ℕ) × IsIn number ns × (j : ℕ) × (j < width) × (root ≡ first + width * number + j))
        → (number : ℕ) × IsIn number (n ∷ ns) × (j : ℕ) × (j < width) × (root ≡ first + width * number + j)
    pick (inl own) rest = let r = range_in (first + width * n) width own.0 root own.1 in let a = r.0 in let b = r.1 in let j : ℕ = root - (first + width * n) in (n, (0, refl), j, omega arith, omega arith)
    pick (inr more) rest = let r = rest more in (r.0, (suc r.1.0, r.1.1), r.2, r.3, r.4)

pub roots_have : (first width : ℕ) (numbers : List ℕ) (number j : ℕ) → IsIn number numbers → j < width → IsIn (first + width * number + j) (roots_of first width numbers)
roots_have first width [] number j at less = let e = at.1 in absurd (cc e)
roots_have first width (n ∷ ns) number j at less = walk at.0 at.1 (λ m. roots_have first width ns number j m less)
  where
    walk : (place : ℕ) → slice_get (n ∷ ns) place ≡ Some number → (IsIn number ns → IsIn (first + width * number + j) (roots_of first width ns)) → IsIn (first + width * number + j) (roots_of first width (n ∷ ns))
    walk zero e rest = let same : n ≡ number = cc e in
        in_left (range_with_len (first + width * n) width) (roots_of first width ns) (first + width * number + j)
        (j, range_has (first + width * n) width j less ∙ ap (λ (m : ℕ). Some (first + width * m + j)) same)
    walk (suc place) e rest = in_right (range_with_len (first + width * n) width) (roots_of first width ns) (first + width * number + j) (rest (place, e))
