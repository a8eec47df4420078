-- Numbers one behind the other, and one more.
use Rattle.std.proofs.Common.{◌≡◌, ◌∙◌, ℕ, zero, suc, ◌+◌, List, [], ◌∷◌, ◌++◌, ap, arith}
use Rattle.std.specs.List.{range_with_len}

last : (a n : ℕ) → range_with_len a (suc n) ≡ range_with_len a n ++ (a + n) ∷ []
last a zero = ap (λ (k : ℕ). k ∷ []) (omega arith)
last a (suc n) = ap (λ (l : List ℕ). a ∷ l) (last (a + 1) n
    ∙ ap (λ (k : ℕ). range_with_len (a + 1) n ++ k ∷ []) (omega arith))

pub one_more : (n : ℕ) → range_with_len 0 (n + 1) ≡ range_with_len 0 n ++ n ∷ []
one_more n = let next : n + 1 ≡ suc n = omega arith in let none : 0 + n ≡ n = omega arith in
    ap (range_with_len 0) next ∙ (last 0 n ∙ ap (λ (k : ℕ). range_with_len 0 n ++ k ∷ []) none)
