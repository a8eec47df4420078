-- The first of these points, and the next one.
use Rattle.std.proofs.Common.{◌≡◌, ◌∙◌, ℕ, zero, suc, ◌+◌, ◌-◌, ◌<◌, ◌≤◌, Bool, true, false, ◌&&◌, not, List}
use Rattle.std.proofs.Common.{[], ◌∷◌, Option, Some, None, is_some, inl, inr, refl, sym, ap, subst, arith}
use Rattle.std.proofs.lemmas.Bool.{cases_lt}
use Rattle.walk_rules.specs.Questions.{Answer}
use Rattle.walk_fate_laws.specs.Firsts.{First}
use Rattle.fate_search.specs.Branches.{is_given, is_first, IsNextFirst, pick, picked, picked_to}
use Rattle.fate_search.specs.Paths.{first_item}

-- what has an answer there
pub record HasAnswer (o : Option Answer) : Type 0 where
  pub answer : Answer
  pub is : o ≡ Some answer

answered : (o : Option Answer) (b : Bool) → (is_some o && b) ≡ true → HasAnswer o
answered None b is = absurd (cc is)
answered (Some answer) b is = record { answer = answer; is = refl }

module _ (told : ℕ → Option Answer) (low : ℕ) where
  pub first_answered : (point : ℕ) → is_first told low point ≡ true → HasAnswer (told point)
  first_answered point is = answered (told point) (not (is_given told low point)) is

  passed_by : (from count : ℕ) → is_first told low from ≡ false
      → picked told low from (suc count) ≡ picked told low (suc from) count
  passed_by from count is = ap (λ (b : Bool). pick b from (told from) (picked told low (suc from) count)) is

  abbrev taken : ℕ → Answer → List (First ℕ Answer) → List (First ℕ Answer)
  taken point answer rest = record { item = point; key = answer } ∷ rest

  picked_here : (from count : ℕ) (answer : Answer) → is_first told low from ≡ true → told from ≡ Some answer
      → picked told low from (suc count) ≡ taken from answer (picked told low (suc from) count)
  picked_here from count answer is are =
      ap (λ (b : Bool). pick b from (told from) (picked told low (suc from) count)) is
      ∙ ap (λ (o : Option Answer). pick true from o (picked told low (suc from) count)) are

  none_picked : (from count : ℕ)
      → ((point : ℕ) → from ≤ point → point < from + count → is_first told low point ≡ false)
      → picked told low from count ≡ []
  none_picked from zero none = refl
  none_picked from (suc count) none =
      passed_by from count (none from (omega arith) (omega arith))
      ∙ none_picked (suc from) count
      (λ point above below. none point (omega (arith, above)) (omega (arith, below)))

  next_picked : (from count point : ℕ) (answer : Answer) → from ≤ point → point < from + count
      → is_first told low point ≡ true → told point ≡ Some answer
      → ((other : ℕ) → from ≤ other → other < point → is_first told low other ≡ false)
      → picked told low from count ≡ taken point answer (picked told low (suc point) ((from + count) - suc point))
  next_picked from zero point answer above below is are none = absurd (omega (arith, above, below))
  next_picked from (suc count) point answer above below is are none = elim (cases_lt from point) [
    | inl later ↦ (let same : (suc from + count) - suc point ≡ (from + suc count) - suc point = omega arith in
        passed_by from count (none from (omega arith) later)
        ∙ next_picked (suc from) count point answer (omega (arith, later)) (omega (arith, below)) is are
        (λ other least less. none other (omega (arith, least)) less)
        ∙ ap (λ (n : ℕ). taken point answer (picked told low (suc point) n)) same)
    | inr here ↦ (let same : from ≡ point = omega (arith, here, above) in
        let rest : count ≡ (from + suc count) - suc point = omega (arith, same) in
        picked_here from count answer (ap (is_first told low) same ∙ is) (ap told same ∙ are)
        ∙ ap (λ (n : ℕ). taken n answer (picked told low (suc n) count)) same
        ∙ ap (λ (n : ℕ). taken point answer (picked told low (suc point) n)) rest)
  ]

  -- ---- up to a ceiling
  pub none_to : (from ceiling : ℕ) → IsNextFirst told low from ceiling None → picked_to told low from ceiling ≡ []
  none_to from ceiling none =
      none_picked from ((ceiling + 1) - from) (λ point above below. none point above (omega (arith, above, below)))

  pub next_to : (from ceiling point : ℕ) (answer : Answer) → IsNextFirst told low from ceiling (Some point)
      → told point ≡ Some answer
      → picked_to told low from ceiling ≡ record { item = point; key = answer } ∷ picked_to told low (suc point) ceiling
  next_to from ceiling point answer next are =
      let above = next.0 in let most = next.1 in
      let same : (from + ((ceiling + 1) - from)) - suc point ≡ (ceiling + 1) - suc point = omega (arith, above, most) in
      next_picked from ((ceiling + 1) - from) point answer above (omega (arith, above, most)) next.2 are next.3
      ∙ ap (λ (n : ℕ). taken point answer (picked told low (suc point) n)) same

  pub next_item : (from ceiling : ℕ) (next : Option ℕ) → IsNextFirst told low from ceiling next
      → first_item (picked_to told low from ceiling) ≡ next
  next_item from ceiling None none = ap first_item (none_to from ceiling none)
  next_item from ceiling (Some point) next =
      let it = first_answered point next.2 in ap first_item (next_to from ceiling point it.answer next it.is)

  -- ---- and back
  record IsItem (from count point : ℕ) : Type 0 where
    pub above : from ≤ point
    pub below : point < from + count
    pub first : is_first told low point ≡ true
    pub same : picked told low from count ≡ picked told low point ((from + count) - point)

  item_found : (from count point : ℕ) → first_item (picked told low from count) ≡ Some point → IsItem from count point
  item_found from zero point is = absurd (cc is)
  item_found from (suc count) point is =
      by_test (is_first told low from) refl (λ rest. item_found (suc from) count point rest)
    where
      by_test : (b : Bool) → is_first told low from ≡ b
          → (first_item (picked told low (suc from) count) ≡ Some point → IsItem (suc from) count point)
          → IsItem from (suc count) point
      by_test false none rest =
          let it = rest (ap first_item (sym (passed_by from count none)) ∙ is) in
          let above = it.above in let below = it.below in
          let same : (suc from + count) - point ≡ (from + suc count) - point = omega arith in
          record {
            above = omega (arith, above);
            below = omega (arith, below);
            first = it.first;
            same = passed_by from count none ∙ it.same ∙ ap (picked told low point) same;
          }
      by_test true first rest =
          let has = first_answered from first in
          let here : Some from ≡ Some point = ap first_item (sym (picked_here from count has.answer first has.is)) ∙ is in
          let same : from ≡ point = cc here in
          let all : suc count ≡ (from + suc count) - from = omega arith in
          subst (IsItem from (suc count)) same (record {
            above = omega arith;
            below = omega arith;
            first = first;
            same = ap (picked told low from) all;
          })

  pub record IsItemTo (from ceiling point : ℕ) : Type 0 where
    pub above : from ≤ point
    pub below : point ≤ ceiling
    pub first : is_first told low point ≡ true
    pub same : picked_to told low from ceiling ≡ picked_to told low point ceiling

  pub item_to : (from ceiling point : ℕ) → first_item (picked_to told low from ceiling) ≡ Some point
      → IsItemTo from ceiling point
  item_to from ceiling point is =
      let it = item_found from ((ceiling + 1) - from) point is in
      let above = it.above in let below = it.below in
      let same : (from + ((ceiling + 1) - from)) - point ≡ (ceiling + 1) - point = omega (arith, above, below) in
      record {
        above = above;
        below = omega (arith, above, below);
        first = it.first;
        same = it.same ∙ ap (picked told low point) same;
      }
