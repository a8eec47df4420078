-- Ways in their order, as numbers.
use Rattle.std.proofs.Common.{◌≡◌, ◌∙◌, ℕ, zero, suc, ◌+◌, ◌*◌, ◌<◌, ◌≤◌, List, [], ◌∷◌, ◌++◌, length}
use Rattle.std.proofs.Common.{Option, Some, None, is_some, true, refl, sym, ap, subst, append_assoc, arith}
use Rattle.std.proofs.Math.Nat.{mul-le-mul_left}
use Rattle.walk_rules.specs.declared.limits.TheConstants.{VISITS_MAX}
use Rattle.fate_search.specs.declared.branch_points.Branch.{Branch}
use Rattle.fate_search.specs.Paths.{Sought, WalkWay, points_of, AreBehind}
use Rattle.fate_search.specs.Turned.{weight, weight_most, points_to, weight_of, IsHigher}
use Rattle.fate_search.proofs.Standing.{points_joined}
use Rattle.fate_search.proofs.Back.{AreMost, path_most, next_higher}

-- each is below the base as a digit
abbrev AreDigits : ℕ → List ℕ → Type 0
AreDigits base [] = Unit {0}
AreDigits base (point ∷ points) = (point + 2 ≤ base) × AreDigits base points

power_above : (base places : ℕ) → 0 < base → 0 < weight_most base places
unfolding weight_most
power_above base zero above = omega arith
power_above base (suc places) above =
    let rest = power_above base places above in
    let more = mul-le-mul_left (weight_most base places) above in
    omega (arith, rest, more)

-- one more digit
digit_less : (point base power rest : ℕ) → point + 2 ≤ base → rest < power → suc point * power + rest < power * base
digit_less point base power rest fits less =
    let more = mul-le-mul_left power fits in omega (arith, less, more)

digit_higher : (one other power rest : ℕ) → one < other → rest < power → suc one * power + rest < suc other * power + 0
digit_higher one other power rest higher less =
    let more = mul-le-mul_left power higher in omega (arith, less, more)

weight_less : (base places : ℕ) (points : List ℕ) → 0 < base → AreDigits base points
    → weight base places points < weight_most base places
unfolding weight weight_most
weight_less base places [] above are = power_above base places above
weight_less base zero (point ∷ points) above are = omega arith
weight_less base (suc places) (point ∷ points) above are =
    digit_less point base (weight_most base places) (weight base places points) are.0 (weight_less base places points above are.1)

weight_longer : (base places : ℕ) (points more : List ℕ) → weight base places points ≤ weight base places (points ++ more)
unfolding weight weight_most
weight_longer base places [] more = omega arith
weight_longer base zero (point ∷ points) more = omega arith
weight_longer base (suc places) (point ∷ points) more =
    let rest = weight_longer base places points more in omega (arith, rest)

weight_higher : (base places : ℕ) (front : List ℕ) (one other : ℕ) (more : List ℕ) → 0 < base
    → length front < places → one < other → AreDigits base more
    → weight base places (front ++ (one ∷ more)) < weight base places (front ++ (other ∷ []))
unfolding weight weight_most
weight_higher base zero front one other more above few higher are = absurd (omega (arith, few))
weight_higher base (suc places) [] one other more above few higher are =
    digit_higher one other (weight_most base places) (weight base places more) higher (weight_less base places more above are)
weight_higher base (suc places) (point ∷ front) one other more above few higher are =
    let rest = weight_higher base places front one other more above (omega (arith, few)) higher are in
    omega (arith, rest)

-- ---- of paths
digits_of : (ceiling : ℕ) (path : List Branch) → AreMost ceiling path → AreDigits (ceiling + 2) (points_of path)
digits_of ceiling [] are = tt
digits_of ceiling (branch ∷ path) are = let most = are.0 in (omega (arith, most), digits_of ceiling path are.1)

most_behind : (ceiling : ℕ) (front rest : List Branch) → AreMost ceiling (front ++ rest) → AreMost ceiling rest
most_behind ceiling [] rest are = are
most_behind ceiling (branch ∷ front) rest are = most_behind ceiling front rest are.1

points_length : (path : List Branch) → length (points_of path) ≡ length path
points_length [] = refl
points_length (branch ∷ path) = ap suc (points_length path)

pub branch_higher : (s : Sought) (front rest : List Branch) (branch : Branch) (ways here : List WalkWay) (next : ℕ)
    → AreBehind s (front ++ (branch ∷ rest)) ways → AreBehind s (front ++ (branch ∷ [])) here
    → branch.next ≡ Some next
    → weight_of s.ceiling (points_of (front ++ (branch ∷ rest))) < weight_of s.ceiling (points_to front (Some next))
branch_higher s front rest branch ways here next all behind is =
    let it = next_higher s front branch here next behind is in
    let most = most_behind s.ceiling front (branch ∷ rest) (path_most s (front ++ (branch ∷ rest)) ways all) in
    let few = it.few in let many = points_length front in
    subst (λ (ps : List ℕ). weight_of s.ceiling ps < weight_of s.ceiling (points_to front (Some next)))
    (sym (points_joined front (branch ∷ rest)))
    (weight_higher (s.ceiling + 2) VISITS_MAX (points_of front) branch.point next (points_of rest) (omega arith)
    (omega (arith, few, many)) it.higher (digits_of s.ceiling rest most.1))

pub path_below : (s : Sought) (path : List Branch) (ways : List WalkWay) → AreBehind s path ways
    → weight_of s.ceiling (points_of path) < weight_most (s.ceiling + 2) VISITS_MAX
path_below s path ways behind =
    weight_less (s.ceiling + 2) VISITS_MAX (points_of path) (omega arith)
    (digits_of s.ceiling path (path_most s path ways behind))

pub longer_heavier : (ceiling : ℕ) (points now more : List ℕ) → now ≡ points ++ more
    → weight_of ceiling points ≤ weight_of ceiling now
longer_heavier ceiling points now more is =
    subst (λ (ps : List ℕ). weight_of ceiling points ≤ weight_of ceiling ps) (sym is)
    (weight_longer (ceiling + 2) VISITS_MAX points more)

pub turned_higher : (s : Sought) (whole front rest : List Branch) (branch : Branch) (ways here : List WalkWay)
    → AreBehind s whole ways → AreBehind s (front ++ (branch ∷ [])) here → whole ≡ (front ++ (branch ∷ [])) ++ rest
    → is_some branch.next ≡ true → IsHigher s.ceiling whole front branch.next
turned_higher s whole front rest branch ways here all behind is has = by_next branch.next refl has
  where
    same : whole ≡ front ++ (branch ∷ rest)
    same = is ∙ append_assoc front (branch ∷ []) rest

    by_next : (o : Option ℕ) → branch.next ≡ o → is_some o ≡ true → IsHigher s.ceiling whole front o
    by_next None next some = absurd (cc some)
    by_next (Some later) next some =
        subst (λ (path : List Branch). weight_of s.ceiling (points_of path) < weight_of s.ceiling (points_to front (Some later)))
        (sym same) (branch_higher s front rest branch ways here later (subst (λ (path : List Branch). AreBehind s path ways) same all) behind next)
