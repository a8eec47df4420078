-- What is wrong with points.
use Rattle.std.proofs.Common.{◌≡◌, ◌∙◌, ℕ, ◌+◌, ◌<◌, ◌≤◌, ◌&&◌, Bool, true, false, List, [], ◌∷◌, ◌++◌, length, take, get_or, Option, Some, None, refl, sym, ap, subst, arith, append-nil}
use Rattle.std.specs.Prelude.{nat_le, nat_lt, ◌||◌, drop, if◌then◌else◌}
use Rattle.std.specs.List.{list_all, list_any}
use Rattle.std.proofs.lemmas.Bool.Decides.{nat_tests}
use Rattle.std.proofs.lemmas.List.{take_all, drop_more}
use Rattle.walk_rules.specs.Questions.{Question, Answer}
use Rattle.walk_rules.specs.Steps.{Standing, question_of, after}
use Rattle.walk_rules.specs.OfPoints.Points.{Visit}
use Rattle.point_walks.specs.declared.bounds.Bounds.{Bounds}
use Rattle.point_walks.specs.declared.fault.PointFault.{PointFault}
use Rattle.point_walks.specs.declared.fault.PointFault.TheVariants as faults
use Rattle.point_walks.specs.Faults.{bounds_fault, IsSteady}
use Rattle.point_walks.specs.Latest.{are_within}
use Rattle.point_walks.specs.Over.{Answering, answered_at, stands_after}
use Rattle.point_walks.specs.Visits.{visit_more, visits_over}
use Rattle.point_walks.proofs.Falling.{NeverFall, never_both_fall}
use Rattle.point_walks.proofs.Visited.{visits_whole}

-- ---- points out of bounds
pub some_points : (bounds : Bounds) (points : List ℕ) → are_within bounds points ≡ false → 0 < length points
some_points bounds [] out = absurd (cc out)
some_points bounds (first ∷ points) out = omega arith

abbrev below : ℕ → ℕ → Bool
below least point = nat_lt point least

abbrev above : ℕ → ℕ → Bool
above most point = nat_lt most point

abbrev between : ℕ → ℕ → ℕ → Bool
between least most point = nat_le least point && nat_le point most

up_is : (a b : ℕ) → nat_lt b a ≡ false → nat_le a b ≡ true
up_is a b is = grind (arith, nat_tests, is)

not_up : (a b : ℕ) → nat_le a b ≡ true → nat_lt b a ≡ false
not_up a b is = grind (arith, nat_tests, is)

-- none is above and none below: all are between
all_between : (least most : ℕ) (points : List ℕ) → list_any (above most) points ≡ false → list_any (below least) points ≡ false → list_all (between least most) points ≡ true
all_between least most [] over under = refl
all_between least most (x ∷ xs) over under =
    by_tests (nat_lt most x) (nat_lt x least) (nat_le least x) (nat_le x most) (up_is least x) (up_is x most) (list_any (above most) xs) (list_any (below least) xs) (list_all (between least most) xs) (all_between least most xs) over under
  where
    by_tests : (over under up down : Bool) → (under ≡ false → up ≡ true) → (over ≡ false → down ≡ true) → (late early all : Bool) → (late ≡ false → early ≡ false → all ≡ true) → (over || late) ≡ false → (under || early) ≡ false → ((up && down) && all) ≡ true
    by_tests true under up down first second late early all rest high low = absurd (cc high)
    by_tests false true up down first second late early all rest high low = absurd (cc low)
    by_tests false false up down first second late early all rest high low =
        ap (λ (b : Bool). (b && down) && all) (first refl) ∙ ap (λ (b : Bool). b && all) (second refl) ∙ rest high low

none_out : (least most : ℕ) (points : List ℕ) → list_all (between least most) points ≡ true → (list_any (above most) points ≡ false) × (list_any (below least) points ≡ false)
none_out least most [] all = (refl, refl)
none_out least most (x ∷ xs) all =
    by_tests (nat_le least x) (nat_le x most) (nat_lt x least) (nat_lt most x) (not_up least x) (not_up x most) (list_all (between least most) xs) (list_any (above most) xs) (list_any (below least) xs) (none_out least most xs) all
  where
    by_tests : (up down under over : Bool) → (up ≡ true → under ≡ false) → (down ≡ true → over ≡ false) → (all late early : Bool) → (all ≡ true → (late ≡ false) × (early ≡ false)) → ((up && down) && all) ≡ true → ((over || late) ≡ false) × ((under || early) ≡ false)
    by_tests true true under over first second all late early rest is =
        let more = rest is in
        (ap (λ (b : Bool). b || late) (second refl) ∙ more.0, ap (λ (b : Bool). b || early) (first refl) ∙ more.1)
    by_tests true false under over first second all late early rest is = absurd (cc is)
    by_tests false down under over first second all late early rest is = absurd (cc is)

pub not_less : (a b : ℕ) → b ≤ a → nat_lt a b ≡ false
not_less a b least = grind (arith, nat_tests, least)

-- a fault where they aren't within, and none where they are
abbrev chosen : Bool → Bool → Bool → Option PointFault
chosen low over under = if low then Some faults.Floor else if over then Some faults.Late else if under then Some faults.Early else None

pub outside : (bounds : Bounds) (points : List ℕ) (low over : Bool) → nat_lt (get_or points 0 0) bounds.floor ≡ low → list_any (λ (point : ℕ). nat_lt bounds.ceiling point) points ≡ over → are_within bounds points ≡ false
    → bounds_fault bounds points ≡ Some (if low then faults.Floor else if over then faults.Late else faults.Early)
outside bounds [] low over first second out = absurd (cc out)
outside bounds (x ∷ xs) low over first second out =
    ap (λ (b : Bool). chosen b (list_any (above bounds.ceiling) (x ∷ xs)) (list_any (below x) (x ∷ xs))) first
    ∙ ap (λ (b : Bool). chosen low b (list_any (below x) (x ∷ xs))) second
    ∙ by_tests low over (list_any (below x) (x ∷ xs)) (λ floor high deep.
    let all = all_between x bounds.ceiling (x ∷ xs) (second ∙ high) deep in
    cc (sym out ∙ ap (λ (b : Bool). b && list_all (between x bounds.ceiling) (x ∷ xs)) (up_is bounds.floor x (first ∙ floor)) ∙ all))
  where
    by_tests : (low over under : Bool) → (low ≡ false → over ≡ false → under ≡ false → ⊥) → chosen low over under ≡ Some (if low then faults.Floor else if over then faults.Late else faults.Early)
    by_tests true over under none = refl
    by_tests false true under none = refl
    by_tests false false true none = refl
    by_tests false false false none = absurd (none refl refl refl)

pub inside_bounds : (bounds : Bounds) (points : List ℕ) → are_within bounds points ≡ true → bounds_fault bounds points ≡ None
inside_bounds bounds [] within = refl
inside_bounds bounds (x ∷ xs) within = by_floor (nat_le bounds.floor x) refl within
  where
    by_floor : (up : Bool) → nat_le bounds.floor x ≡ up → (up && list_all (between x bounds.ceiling) (x ∷ xs)) ≡ true → bounds_fault bounds (x ∷ xs) ≡ None
    by_floor true is all =
        let none = none_out x bounds.ceiling (x ∷ xs) all in
        ap (λ (b : Bool). chosen b (list_any (above bounds.ceiling) (x ∷ xs)) (list_any (below x) (x ∷ xs))) (not_up bounds.floor x is)
        ∙ ap (λ (b : Bool). chosen false b (list_any (below x) (x ∷ xs))) none.0
        ∙ ap (λ (b : Bool). chosen false false b) none.1
    by_floor false is all = absurd (cc all)

-- ---- visits end where the next one isn't answered
none_more : (o : Option Question) (a : Option Answer) (point : ℕ) (more : Answer → List Visit) → a ≡ None → visit_more o a point more ≡ []
none_more None a point more is = refl
none_more (Some question) None point more is = refl
none_more (Some question) (Some answer) point more is = absurd (cc is)

visits_stop : (answers : Answering) (first st : Standing) (points : List ℕ) (k : ℕ) → k < length points → stands_after answers first (take k points) ≡ Some st → answered_at answers (get_or points k 0) (question_of st) ≡ None
    → visits_over answers first points ≡ visits_over answers first (take k points)
visits_stop answers first st points k less so_far none =
    visits_whole answers first st points k so_far
    ∙ ap (λ (vs : List Visit). visits_over answers first (take k points) ++ vs) (ap (visits_over answers st) (drop_more points k 0 less)
    ∙ none_more (question_of st) (answered_at answers (get_or points k 0) (question_of st)) (get_or points k 0) (λ (answer : Answer). visits_over answers (after st answer) (drop (k + 1) points)) none)
    ∙ append-nil (visits_over answers first (take k points))

pub steady_stop : (answers : Answering) (first st : Standing) (points : List ℕ) (k : ℕ) → k < length points → stands_after answers first (take k points) ≡ Some st → answered_at answers (get_or points k 0) (question_of st) ≡ None
    → NeverFall (visits_over answers first (take k points)) → IsSteady answers first points
steady_stop answers first st points k less so_far none never falls =
    never_both_fall (visits_over answers first points) falls (subst NeverFall (sym (visits_stop answers first st points k less so_far none)) never)

pub steady_all : (answers : Answering) (first : Standing) (points : List ℕ) (k : ℕ) → length points ≤ k → NeverFall (visits_over answers first (take k points)) → IsSteady answers first points
steady_all answers first points k all never falls =
    never_both_fall (visits_over answers first points) falls (subst (λ (ps : List ℕ). NeverFall (visits_over answers first ps)) (take_all k points all) never)
