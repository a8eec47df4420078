-- The first number that isn't used, where as many are looked at as are used: it is the lowest that isn't
-- used.
use Rattle.std.proofs.Common.{◌≡◌, ℕ, zero, suc, ◌+◌, ◌<◌, ◌≤◌, ◌==◌, Bool, true, false, cond, List, length, refl, sym, ◌∙◌, ap, arith, eqb-true}
use Rattle.std.specs.List.{list_any}
use Rattle.std.proofs.lemmas.Bool.{false≢true}
use Rattle.std.proofs.lemmas.Bool.Decides.{nat_tests}
use Rattle.filter_state.specs.Actions.{first_free}
use Rattle.filter_state.proofs.Free.{free_unused, free_within}

-- ---- orders
not_same : (m least : ℕ) → least ≤ m → (m == least) ≡ false → least + 1 ≤ m
not_same m least low at = grind (arith, nat_tests)

same_from : (a b : ℕ) → (a < b → ⊥) → (b < a → ⊥) → a ≡ b
same_from a b not_less not_more = grind (arith, nat_tests)

-- ---- all below it are used
below_step : (used : ℕ → Bool) (n least m : ℕ) (b same : Bool) → used least ≡ b → (m == least) ≡ same → least ≤ m → m < cond b (first_free used n (least + 1)) least
    → (least + 1 ≤ m → m < first_free used n (least + 1) → used m ≡ true) → used m ≡ true
below_step used n least m false same is at low high rest = absurd (omega arith)
below_step used n least m true true is at low high rest = ap used (eqb-true m least at) ∙ is
below_step used n least m true false is at low high rest = let more = not_same m least low at in rest more high

used_below : (used : ℕ → Bool) (n least m : ℕ) → least ≤ m → m < first_free used n least → used m ≡ true
used_below used zero least m low high = absurd (omega arith)
used_below used (suc n) least m low high = below_step used n least m (used least) (m == least) refl refl low high (used_below used n (least + 1) m)

-- one that isn't used, where all below it are
pub lowest_is : (used : ℕ → Bool) (n : ℕ) (xs : List ℕ) (number : ℕ) → length xs ≤ n → ((m : ℕ) → used m ≡ true → list_any (λ x. x == m) xs ≡ true)
    → 1 ≤ number → used number ≡ false → ((lower : ℕ) → 1 ≤ lower → lower < number → used lower ≡ true) → first_free used n 1 ≡ number
lowest_is used n xs number short covers low unused below =
    let first = free_unused used n xs 1 short (λ m _ here. covers m here) in
    same_from (first_free used n 1) number
    (λ less. false≢true (sym first ∙ below (first_free used n 1) (free_within used n 1).0 less))
    (λ more. false≢true (sym unused ∙ used_below used n 1 number low more))
