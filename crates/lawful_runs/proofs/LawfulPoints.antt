-- Points are lawful where the head's is, and each visit's beside those behind it.
use Rattle.std.proofs.Common.{◌≡◌, ℕ, ◌≤◌, List, ◌∷◌, Some, subst, arith, inl, inr}
use Rattle.std.specs.List.{slice_get}
use Rattle.std.proofs.lemmas.Bool.{cases_lt}
use Rattle.filter_state.specs.Sound.{Each, EachPair}
use Rattle.walk_rules.specs.OfPoints.Points.{Visit, IsSameThing, AreLawfulPoints}
use Rattle.filter_state.proofs.Places.{each_at, pair_at}

-- the later of two visits of one thing has no lesser point
abbrev pub NeverFalls : Visit → Visit → Type 0
NeverFalls one other = IsSameThing one.question other.question → one.point ≤ other.point

falls_never : (visits : List Visit) → EachPair NeverFalls visits → (early late : ℕ) (one other : Visit) → early ≤ late → slice_get visits early ≡ Some one → slice_get visits late ≡ Some other → NeverFalls one other
falls_never visits pairs early late one other order is at =
    elim (cases_lt early late) [
      | inl less ↦ pair_at NeverFalls visits pairs early late one other less is at
      | inr most ↦ λ thing. let there : early ≡ late = omega (arith, order, most) in let same : one ≡ other = cc in subst (λ (o : Visit). one.point ≤ o.point) same (omega arith)
    ]

pub lawful_points : (floor ceiling : ℕ) (head : Visit) (visits : List Visit) → floor ≤ head.point → Each (λ visit. (head.point ≤ visit.point) × (visit.point ≤ ceiling)) (head ∷ visits)
    → EachPair NeverFalls (head ∷ visits) → AreLawfulPoints floor ceiling (head ∷ visits)
lawful_points floor ceiling head visits least each pairs =
    let Within : Visit → Type 0 = λ (visit : Visit). (head.point ≤ visit.point) × (visit.point ≤ ceiling) in
    record {
      head = λ first is. let same : head ≡ first = cc is in subst (λ (v : Visit). floor ≤ v.point) same least;
      above_head = λ place first visit is there. let same : head ≡ first = cc is in subst (λ (v : Visit). v.point ≤ visit.point) same (each_at Within (head ∷ visits) place visit each there).0;
      below = λ place visit there. (each_at Within (head ∷ visits) place visit each there).1;
      never_fall = falls_never (head ∷ visits) pairs;
    }
