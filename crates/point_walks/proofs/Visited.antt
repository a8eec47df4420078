-- The visits of a walk at given points, one behind the other.
use Rattle.std.proofs.Common.{◌≡◌, ◌∙◌, ℕ, ◌+◌, ◌<◌, List, [], ◌∷◌, ◌++◌, length, take, get_or, Option, Some, None, refl, sym, ap}
use Rattle.std.specs.Prelude.{drop}
use Rattle.std.specs.Option.{option_and_then}
use Rattle.std.proofs.lemmas.List.{take_more, take-append-drop}
use Rattle.walk_rules.specs.Questions.{Question, Answer}
use Rattle.walk_rules.specs.Steps.{Standing, question_of, after}
use Rattle.walk_rules.specs.OfPoints.Points.{Visit}
use Rattle.point_walks.specs.Over.{Answering, answered_at, moved_by, stands_after}
use Rattle.point_walks.specs.Visits.{visit_more, visits_over}
use Rattle.point_walks.proofs.Within.{points_of}

pub visits_after : (answers : Answering) (st now : Standing) (xs ys : List ℕ) → stands_after answers st xs ≡ Some now
    → visits_over answers st (xs ++ ys) ≡ visits_over answers st xs ++ visits_over answers now ys
visits_after answers st now [] ys stands = let same : st ≡ now = cc stands in ap (λ (s : Standing). visits_over answers s ys) same
visits_after answers st now (x ∷ xs) ys stands =
    by_visit (question_of st) (answered_at answers x (question_of st)) refl stands (λ answer rest. visits_after answers (after st answer) now xs ys rest)
  where
    by_visit : (o : Option Question) (a : Option Answer) → answered_at answers x o ≡ a → option_and_then (λ (next : Standing). stands_after answers next xs) (moved_by st a) ≡ Some now
        → ((answer : Answer) → stands_after answers (after st answer) xs ≡ Some now → visits_over answers (after st answer) (xs ++ ys) ≡ visits_over answers (after st answer) xs ++ visits_over answers now ys)
        → visit_more o a x (λ (answer : Answer). visits_over answers (after st answer) (xs ++ ys)) ≡ visit_more o a x (λ (answer : Answer). visits_over answers (after st answer) xs) ++ visits_over answers now ys
    by_visit None None told stands rest = absurd (cc stands)
    by_visit None (Some answer) told stands rest = absurd (cc told)
    by_visit (Some question) None told stands rest = absurd (cc stands)
    by_visit (Some question) (Some answer) told stands rest = ap (λ (vs : List Visit). record { question = question; point = x } ∷ vs) (rest answer stands)

pub points_are : (answers : Answering) (st end : Standing) (points : List ℕ) → stands_after answers st points ≡ Some end → points_of (visits_over answers st points) ≡ points
points_are answers st end [] stands = refl
points_are answers st end (x ∷ xs) stands =
    by_visit (question_of st) (answered_at answers x (question_of st)) refl stands (λ answer rest. points_are answers (after st answer) end xs rest)
  where
    by_visit : (o : Option Question) (a : Option Answer) → answered_at answers x o ≡ a → option_and_then (λ (next : Standing). stands_after answers next xs) (moved_by st a) ≡ Some end
        → ((answer : Answer) → stands_after answers (after st answer) xs ≡ Some end → points_of (visits_over answers (after st answer) xs) ≡ xs)
        → points_of (visit_more o a x (λ (answer : Answer). visits_over answers (after st answer) xs)) ≡ x ∷ xs
    by_visit None None told stands rest = absurd (cc stands)
    by_visit None (Some answer) told stands rest = absurd (cc told)
    by_visit (Some question) None told stands rest = absurd (cc stands)
    by_visit (Some question) (Some answer) told stands rest = ap (λ (ps : List ℕ). x ∷ ps) (rest answer stands)

visits_first : (answers : Answering) (st : Standing) (point : ℕ) (points : List ℕ) (question : Question) (answer : Answer) → question_of st ≡ Some question → answers point question ≡ Some answer
    → visits_over answers st (point ∷ points) ≡ record { question = question; point = point } ∷ visits_over answers (after st answer) points
visits_first answers st point points question answer asks is =
    ap (λ (o : Option Question). visit_more o (answered_at answers point o) point (λ (a : Answer). visits_over answers (after st a) points)) asks
    ∙ ap (λ (a : Option Answer). visit_more (Some question) a point (λ (a : Answer). visits_over answers (after st a) points)) is

-- one visit more
pub visits_more : (answers : Answering) (first st : Standing) (points : List ℕ) (place d : ℕ) (question : Question) (answer : Answer) → place < length points
    → stands_after answers first (take place points) ≡ Some st → question_of st ≡ Some question → answers (get_or points place d) question ≡ Some answer
    → visits_over answers first (take (place + 1) points) ≡ visits_over answers first (take place points) ++ (record { question = question; point = get_or points place d } ∷ [])
visits_more answers first st points place d question answer within so_far asks is =
    ap (visits_over answers first) (take_more points place d within)
    ∙ visits_after answers first st (take place points) (get_or points place d ∷ []) so_far
    ∙ ap (λ (vs : List Visit). visits_over answers first (take place points) ++ vs) (visits_first answers st (get_or points place d) [] question answer asks is)

-- and all that follow
pub visits_whole : (answers : Answering) (first now : Standing) (points : List ℕ) (k : ℕ) → stands_after answers first (take k points) ≡ Some now
    → visits_over answers first points ≡ visits_over answers first (take k points) ++ visits_over answers now (drop k points)
visits_whole answers first now points k so_far =
    ap (visits_over answers first) (sym (take-append-drop k points)) ∙ visits_after answers first now (take k points) (drop k points) so_far
