-- The visits of a walk: each is answered by the state of its point, and they have the points of the walk, in
-- order.
use Rattle.std.proofs.Common.{◌≡◌, ◌∙◌, ℕ, ◌≤◌, List, [], ◌∷◌, ◌++◌, map, Option, Some, None, refl, sym, ap, append_assoc, append-nil, arith}
use Rattle.std.specs.List.{slice_get}
use Rattle.std.specs.Option.{option_map}
use Rattle.std.proofs.lemmas.List.{map-append}
use Rattle.std.proofs.lemmas.Option.{slice_get-map}
use Rattle.filter_state.specs.States.{State}
use Rattle.walk_rules.specs.Steps.{Standing, after}
use Rattle.walk_rules.specs.Walks.{Outcome, IsWalk}
use Rattle.walk_rules.specs.OfPoints.Points.{Visit, IsVisited, AreLawfulPoints}

abbrev pub points_of : List Visit → List ℕ
points_of visits = map (λ (visit : Visit). visit.point) visits

pub visited : (states : ℕ → State) (points : List ℕ) (before now : List Visit) (st : Standing) (walk : Outcome) → IsWalk (IsVisited states) before st points now walk
    → points_of now ≡ points_of before ++ points
visited states [] before now st walk (same, ends) = ap points_of same ∙ sym (append-nil (points_of before))
visited states (point ∷ points) before now st walk (question, answer, between, asked, (answered, then), rest) =
    visited states points between now (after st answer) walk rest
    ∙ ap (λ (visits : List Visit). points_of visits ++ points) then
    ∙ ap (λ (numbers : List ℕ). numbers ++ points) (map-append (λ (visit : Visit). visit.point) before (record { question = question; point = point } ∷ []))
    ∙ append_assoc (points_of before) (point ∷ []) points

-- ---- the visit of a point
abbrev pub IsVisitAt : List Visit → ℕ → ℕ → Type 0
IsVisitAt visits place point = (visit : Visit) × (slice_get visits place ≡ Some visit) × (visit.point ≡ point)

mapped : (found : Option Visit) (point : ℕ) → option_map (λ (visit : Visit). visit.point) found ≡ Some point → (visit : Visit) × (found ≡ Some visit) × (visit.point ≡ point)
mapped None point is = absurd (cc is)
mapped (Some visit) point is = (visit, refl, cc)

pub visit_at : (visits : List Visit) (points : List ℕ) (place point : ℕ) → points_of visits ≡ points → slice_get points place ≡ Some point → IsVisitAt visits place point
visit_at visits points place point same is =
    mapped (slice_get visits place) point (sym (slice_get-map (λ (visit : Visit). visit.point) visits place) ∙ ap (λ (numbers : List ℕ). slice_get numbers place) same ∙ is)

-- ---- lawful points
first_there : (visits : List Visit) (place : ℕ) (visit : Visit) → slice_get visits place ≡ Some visit → (first : Visit) × (slice_get visits 0 ≡ Some first)
first_there [] place visit is = absurd (cc is)
first_there (first ∷ visits) place visit is = (first, refl)

-- each lies between the floor and the ceiling
pub within : (floor ceiling : ℕ) (visits : List Visit) (place : ℕ) (visit : Visit) → AreLawfulPoints floor ceiling visits → slice_get visits place ≡ Some visit → (floor ≤ visit.point) × (visit.point ≤ ceiling)
within floor ceiling visits place visit lawful is =
    let head = first_there visits place visit is in
    let least = lawful.head head.0 head.1 in
    let above = lawful.above_head place head.0 visit head.1 is in
    (omega (arith, least, above), lawful.below place visit is)
