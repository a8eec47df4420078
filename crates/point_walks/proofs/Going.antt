-- A walk at given points that goes on, and what its points were so far.
use Rattle.std.proofs.Common.{◌≡◌, ◌∙◌, ℕ, ◌+◌, ◌<◌, ◌≤◌, Bool, true, false, List, [], ◌∷◌, ◌++◌, length, take, get_or, Some, refl, sym, ap, subst, arith, append_assoc}
use Rattle.std.specs.Prelude.{max, drop, nat_le, ◌==◌, if◌then◌else◌}
use Rattle.std.proofs.lemmas.Bool.Decides.{nat_tests}
use Rattle.std.proofs.lemmas.List.{take_all}
use Rattle.walk_rules.specs.Questions.{Question, Answer}
use Rattle.walk_rules.specs.Steps.{Standing, question_of}
use Rattle.walk_rules.specs.OfPoints.Points.{Visit, AreLawfulPoints}
use Rattle.point_walks.specs.declared.at_points.Thing.{Thing}
use Rattle.point_walks.specs.declared.at_points.Thing.TheVariants as things
use Rattle.point_walks.specs.declared.bounds.Bounds.{Bounds}
use Rattle.point_walks.specs.declared.latest.LatestPoints.{LatestPoints}
use Rattle.point_walks.specs.Faults.{Falls}
use Rattle.point_walks.specs.Over.{Answering, stands_after}
use Rattle.point_walks.specs.Visits.{visits_over, thing_of, is_same}
use Rattle.point_walks.specs.Latest.{latest_of, are_within}
use Rattle.point_walks.proofs.Falling.{NeverFall, highest, highest_push, one_more, one_fall}
use Rattle.point_walks.proofs.Within.{lawful_of}
use Rattle.point_walks.proofs.Visited.{points_are, visits_more, visits_whole}

number : (a b : ℕ) → (a == b) ≡ true → a ≡ b
number a b is = grind (arith, nat_tests, is)

same_is : (one other : Thing) → is_same one other ≡ true → one ≡ other
same_is things.Tables things.Tables is = absurd (cc is)
same_is things.Tables (things.Mask n) is = absurd (cc is)
same_is things.Tables (things.Action n) is = absurd (cc is)
same_is (things.Mask n) things.Tables is = absurd (cc is)
same_is (things.Mask n) (things.Mask m) is = ap (λ (k : ℕ). things.Mask k) (number n m is)
same_is (things.Mask n) (things.Action m) is = absurd (cc is)
same_is (things.Action n) things.Tables is = absurd (cc is)
same_is (things.Action n) (things.Mask m) is = absurd (cc is)
same_is (things.Action n) (things.Action m) is = ap (λ (k : ℕ). things.Action k) (number n m is)

up_to : (a b : ℕ) → nat_le a b ≡ true → a ≤ b
up_to a b is = grind (arith, nat_tests, is)

below : (a b : ℕ) → nat_le a b ≡ false → b < a
below a b is = grind (arith, nat_tests, is)

one_or_max : (b : Bool) (h p : ℕ) → (b ≡ true → h ≤ p) → (if b then p else h) ≡ (if b then max h p else h)
one_or_max true h p least = let up = least refl in omega (arith, up)
one_or_max false h p least = refl

module _ (answers : Answering) (first : Standing) (points : List ℕ) (place : ℕ) (st : Standing) (question : Question) (answer : Answer)
    (within : place < length points) (so_far : stands_after answers first (take place points) ≡ Some st) (asks : question_of st ≡ Some question)
    (is : answers (get_or points place 0) question ≡ Some answer) (old : LatestPoints) (thing : Thing) (its : thing ≡ thing_of question)
    (latest : (other : Thing) → latest_of old other ≡ highest other (visits_over answers first (take place points))) where
  visit : Visit
  visit = record { question = question; point = get_or points place 0 }

  before : List Visit
  before = visits_over answers first (take place points)

  more : visits_over answers first (take (place + 1) points) ≡ visits_over answers first (take place points) ++ (record { question = question; point = get_or points place 0 } ∷ [])
  more = visits_more answers first st points place 0 question answer within so_far asks is

  here : latest_of old thing ≡ highest (thing_of question) (visits_over answers first (take place points))
  here = latest thing ∙ ap (λ (t : Thing). highest t (visits_over answers first (take place points))) its

  low : nat_le (latest_of old thing) (get_or points place 0) ≡ true → highest (thing_of question) (visits_over answers first (take place points)) ≤ get_or points place 0
  low rises = let up = up_to (latest_of old thing) (get_or points place 0) rises in let same = here in omega (arith, up, same)

  pub never_more : nat_le (latest_of old thing) (get_or points place 0) ≡ true → NeverFall (visits_over answers first (take place points)) → NeverFall (visits_over answers first (take (place + 1) points))
  never_more rises never = subst NeverFall (sym more) (one_more (visits_over answers first (take place points)) (record { question = question; point = get_or points place 0 }) never (low rises))

  pub latest_more : (new : LatestPoints) → nat_le (latest_of old thing) (get_or points place 0) ≡ true
      → ((other : Thing) → latest_of new other ≡ (if is_same thing other then get_or points place 0 else latest_of old other))
      → (other : Thing) → latest_of new other ≡ highest other (visits_over answers first (take (place + 1) points))
  latest_more new rises set other =
      set other
      ∙ ap (λ (t : Thing). if is_same t other then get_or points place 0 else latest_of old other) its
      ∙ ap (λ (n : ℕ). if is_same (thing_of question) other then get_or points place 0 else n) (latest other)
      ∙ one_or_max (is_same (thing_of question) other) (highest other (visits_over answers first (take place points))) (get_or points place 0)
      (λ same. subst (λ (t : Thing). highest t (visits_over answers first (take place points)) ≤ get_or points place 0) (same_is (thing_of question) other same) (low rises))
      ∙ sym (highest_push other (visits_over answers first (take place points)) (record { question = question; point = get_or points place 0 }))
      ∙ ap (highest other) (sym more)

  pub falls : (now : Standing) → stands_after answers first (take (place + 1) points) ≡ Some now → nat_le (latest_of old thing) (get_or points place 0) ≡ false → Falls (visits_over answers first points)
  falls now stands sinks =
      let rest : List Visit = visits_over answers now (drop (place + 1) points) in
      let whole : visits_over answers first points ≡ visits_over answers first (take place points) ++ (record { question = question; point = get_or points place 0 } ∷ rest) =
      visits_whole answers first now points (place + 1) stands ∙ ap (λ (vs : List Visit). vs ++ rest) more
      ∙ append_assoc (visits_over answers first (take place points)) (record { question = question; point = get_or points place 0 } ∷ []) rest in
      let under = below (latest_of old thing) (get_or points place 0) sinks in
      let same = here in
      subst Falls (sym whole) (one_fall (visits_over answers first (take place points)) rest (record { question = question; point = get_or points place 0 }) (omega (arith, under, same)))

pub all_lawful : (answers : Answering) (first end : Standing) (bounds : Bounds) (points : List ℕ) (k : ℕ) → length points ≤ k → stands_after answers first points ≡ Some end → are_within bounds points ≡ true
    → NeverFall (visits_over answers first (take k points)) → AreLawfulPoints bounds.floor bounds.ceiling (visits_over answers first points)
all_lawful answers first end bounds points k all stands within never =
    lawful_of bounds (visits_over answers first points) points (points_are answers first end points stands) within
    (subst (λ (ps : List ℕ). NeverFall (visits_over answers first ps)) (take_all k points all) never)
