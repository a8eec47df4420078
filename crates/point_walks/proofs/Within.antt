-- The bounds of points, and the visits that have them.
use Rattle.std.proofs.Common.{◌≡◌, ◌∙◌, ℕ, zero, suc, ◌≤◌, ◌&&◌, Bool, true, false, List, [], ◌∷◌, map, Some, refl, sym, ap, subst, arith}
use Rattle.std.specs.Prelude.{nat_le}
use Rattle.std.specs.List.{slice_get, list_all}
use Rattle.std.proofs.lemmas.Bool.Decides.{nat_tests}
use Rattle.walk_rules.specs.OfPoints.Points.{Visit, AreLawfulPoints}
use Rattle.point_walks.specs.declared.bounds.Bounds.{Bounds}
use Rattle.point_walks.specs.Latest.{are_within}
use Rattle.point_walks.proofs.Falling.{NeverFall}

both : (a b : Bool) → (a && b) ≡ true → (a ≡ true) × (b ≡ true)
both true b is = (refl, is)
both false b is = absurd (cc is)

together : (a b : Bool) → a ≡ true → b ≡ true → (a && b) ≡ true
together true b first second = second
together false b first second = absurd (cc first)

up_to : (a b : ℕ) → nat_le a b ≡ true → a ≤ b
up_to a b is = grind (arith, nat_tests, is)

is_up_to : (a b : ℕ) → a ≤ b → nat_le a b ≡ true
is_up_to a b least = grind (arith, nat_tests, least)

abbrev pub points_of : List Visit → List ℕ
points_of visits = map (λ (visit : Visit). visit.point) visits

each_passes : (test : ℕ → Bool) (visits : List Visit) (place : ℕ) (visit : Visit) → list_all test (points_of visits) ≡ true → slice_get visits place ≡ Some visit → test visit.point ≡ true
each_passes test [] place visit all is = absurd (cc is)
each_passes test (x ∷ visits) zero visit all is =
    let first : x ≡ visit = cc is in ap (λ (v : Visit). test v.point) (sym first) ∙ (both (test x.point) (list_all test (points_of visits)) all).0
each_passes test (x ∷ visits) (suc place) visit all is = each_passes test visits place visit (both (test x.point) (list_all test (points_of visits)) all).1 is

all_pass : (test : ℕ → Bool) (visits : List Visit) → ((place : ℕ) (visit : Visit) → slice_get visits place ≡ Some visit → test visit.point ≡ true) → list_all test (points_of visits) ≡ true
all_pass test [] each = refl
all_pass test (x ∷ visits) each =
    together (test x.point) (list_all test (points_of visits)) (each 0 x refl) (all_pass test visits (λ place visit is. each (suc place) visit is))

abbrev in_bounds : Bounds → ℕ → ℕ → Bool
in_bounds bounds first point = nat_le first point && nat_le point bounds.ceiling

lawful_first : (bounds : Bounds) (first : Visit) (visits : List Visit) → are_within bounds (points_of (first ∷ visits)) ≡ true → NeverFall (first ∷ visits) → AreLawfulPoints bounds.floor bounds.ceiling (first ∷ visits)
lawful_first bounds first visits within never =
    let parts = both (nat_le bounds.floor first.point) (list_all (in_bounds bounds first.point) (points_of (first ∷ visits))) within in
    let each : (place : ℕ) (visit : Visit) → slice_get (first ∷ visits) place ≡ Some visit → (nat_le first.point visit.point ≡ true) × (nat_le visit.point bounds.ceiling ≡ true)
    = λ place visit is. both (nat_le first.point visit.point) (nat_le visit.point bounds.ceiling) (each_passes (in_bounds bounds first.point) (first ∷ visits) place visit parts.1 is) in
    record {
      head = λ other is. let same : first ≡ other = cc is in subst (λ (v : Visit). bounds.floor ≤ v.point) same (up_to bounds.floor first.point parts.0);
      above_head = λ place other visit is there. let same : first ≡ other = cc is in subst (λ (v : Visit). v.point ≤ visit.point) same (up_to first.point visit.point (each place visit there).0);
      below = λ place visit there. up_to visit.point bounds.ceiling (each place visit there).1;
      never_fall = never;
    }

pub lawful_of : (bounds : Bounds) (visits : List Visit) (points : List ℕ) → points_of visits ≡ points → are_within bounds points ≡ true → NeverFall visits → AreLawfulPoints bounds.floor bounds.ceiling visits
lawful_of bounds [] points are within never = record {
  head = λ other is. absurd (cc is);
  above_head = λ place other visit is there. absurd (cc is);
  below = λ place visit there. absurd (cc there);
  never_fall = never;
}
lawful_of bounds (first ∷ visits) points are within never = lawful_first bounds first visits (ap (are_within bounds) are ∙ within) never

within_of : (bounds : Bounds) (visits : List Visit) → AreLawfulPoints bounds.floor bounds.ceiling visits → are_within bounds (points_of visits) ≡ true
within_of bounds [] lawful = refl
within_of bounds (first ∷ visits) lawful =
    together (nat_le bounds.floor first.point) (list_all (in_bounds bounds first.point) (points_of (first ∷ visits)))
    (is_up_to bounds.floor first.point (lawful.head first refl))
    (all_pass (in_bounds bounds first.point) (first ∷ visits) (λ place visit is. together (nat_le first.point visit.point) (nat_le visit.point bounds.ceiling)
    (is_up_to first.point visit.point (lawful.above_head place first visit refl is)) (is_up_to visit.point bounds.ceiling (lawful.below place visit is))))

pub lawful_within : (bounds : Bounds) (visits : List Visit) (points : List ℕ) → points_of visits ≡ points → AreLawfulPoints bounds.floor bounds.ceiling visits → are_within bounds points ≡ true
lawful_within bounds visits points are lawful = ap (are_within bounds) (sym are) ∙ within_of bounds visits lawful
