-- One packet more: what its worker saw, and how often each action ran.
use Rattle.std.proofs.Common.{◌≡◌, ◌∙◌, ℕ, zero, suc, ◌+◌, ◌<◌, ◌≤◌, ◌==◌, Bool, true, false, List, [], ◌∷◌, ◌++◌, length, Option, Some, refl, sym, ap, subst, arith, append-nil, ◌⊎◌, inl, inr}
use Rattle.std.specs.Prelude.{◌≢◌, max, fold, filter, slice_get, slice_set, if◌then◌else◌}
use Rattle.std.specs.List.{flat_map}
use Rattle.std.proofs.lemmas.List.{length-append, length-set}
use Rattle.std.proofs.lemmas.List.Elements.{filter-append}
use Rattle.std.proofs.lemmas.List.Concat.{flat_map-append}
use Rattle.std.proofs.lemmas.List.Sums.{fold-append, sum_by-append, sum_by-cons}
use Rattle.std.proofs.lemmas.Bool.{eq-eqb}
use Rattle.std.proofs.lemmas.Bool.Decides.{nat_tests}
use Rattle.filter_state.specs.declared.edit.Edit.{Edit}
use Rattle.filter_state.proofs.Pairs.{each_append}
use Rattle.walk_ends.specs.declared.counts.Count.{Count}
use Rattle.walk_ends.specs.Passing.{is_pass}
use Rattle.walk_steps.specs.Told.{IsShortRun}
use Rattle.run_report.specs.declared.outcomes.Outcome.{Outcome}
use Rattle.run_report.specs.Counts.{passed_count}
use Rattle.lawful_runs.specs.Points.{is_by, greatest, seen_by}
use Rattle.lawful_runs.specs.Lawful.{executed_in}
use Rattle.report_check.specs.declared.walker.Walker.{Walker}
use Rattle.report_check.specs.declared.walkers.Walkers.{Walkers}
use Rattle.run_counts.specs.Counting.{count_of, counted_in, both}
use Rattle.report_check.specs.Walked.{IsWalker, AreWalkers}
use Rattle.report_check.specs.Walks.{StandsIn, StandsAtFirst}
use Rattle.run_counts.proofs.Tallies.{counted_append}

-- ---- the greatest of points
fold_most : (start : ℕ) (points : List ℕ) → fold max start points ≡ max start (fold max 0 points)
fold_most start [] = omega arith
fold_most start (point ∷ points) =
    let a = fold_most (max start point) points in
    let b = fold_most (max 0 point) points in
    omega (arith, a, b)

pub greatest_append : (xs ys : List ℕ) → greatest (xs ++ ys) ≡ max (greatest xs) (greatest ys)
greatest_append xs ys = fold-append max 0 xs ys ∙ fold_most (fold max 0 xs) ys

first_least : (first : ℕ) (more : List ℕ) → first ≤ greatest (first ∷ more)
first_least first more = let whole = fold_most (max 0 first) more in omega (arith, whole)

-- ---- what a worker has seen
own_points : (t : Bool) (outcome : Outcome) → flat_map (λ (o : Outcome). o.points) (if t then outcome ∷ [] else []) ≡ (if t then outcome.points else [])
own_points true outcome = append-nil outcome.points
own_points false outcome = refl

seen_is : (number : ℕ) (outcomes : List Outcome) (outcome : Outcome) → seen_by number (outcomes ++ (outcome ∷ [])) ≡ max (seen_by number outcomes) (greatest (if outcome.worker == number then outcome.points else []))
seen_is number outcomes outcome =
    ap (λ (os : List Outcome). greatest (flat_map (λ (o : Outcome). o.points) os)) (filter-append (is_by number) outcomes (outcome ∷ []))
    ∙ ap greatest (flat_map-append (λ (o : Outcome). o.points) (filter (is_by number) outcomes) (filter (is_by number) (outcome ∷ [])) ∙ ap (λ (ps : List ℕ). flat_map (λ (o : Outcome). o.points) (filter (is_by number) outcomes) ++ ps) (own_points (outcome.worker == number) outcome))
    ∙ greatest_append (flat_map (λ (o : Outcome). o.points) (filter (is_by number) outcomes)) (if outcome.worker == number then outcome.points else [])

seen_own : (number : ℕ) (outcomes : List Outcome) (outcome : Outcome) → outcome.worker ≡ number → seen_by number (outcomes ++ (outcome ∷ [])) ≡ max (seen_by number outcomes) (greatest outcome.points)
seen_own number outcomes outcome is =
    seen_is number outcomes outcome ∙ ap (λ (t : Bool). max (seen_by number outcomes) (greatest (if t then outcome.points else []))) (eq-eqb outcome.worker number is)

differs : (a b : ℕ) → a ≢ b → (a == b) ≡ false
differs a b apart = by_test (a == b) refl
  where
    by_test : (t : Bool) → (a == b) ≡ t → t ≡ false
    by_test true is = absurd (apart (grind (arith, nat_tests, is)))
    by_test false is = refl

seen_other : (number : ℕ) (outcomes : List Outcome) (outcome : Outcome) → outcome.worker ≢ number → seen_by number (outcomes ++ (outcome ∷ [])) ≡ seen_by number outcomes
seen_other number outcomes outcome apart =
    seen_is number outcomes outcome ∙ ap (λ (t : Bool). max (seen_by number outcomes) (greatest (if t then outcome.points else []))) (differs outcome.worker number apart)
    ∙ (let same : max (seen_by number outcomes) 0 ≡ seen_by number outcomes = omega arith in same)

-- ---- one walker is set
set_same : {X : Type 0} (xs : List X) (at : ℕ) (x : X) → at < length xs → slice_get (slice_set xs at x) at ≡ Some x
set_same [] at x less = absurd (omega (arith, less))
set_same (first ∷ xs) zero x less = refl
set_same (first ∷ xs) (suc at) x less = set_same xs at x (omega (arith, less))

set_other : {X : Type 0} (xs : List X) (at other : ℕ) (x : X) → other ≢ at → slice_get (slice_set xs at x) other ≡ slice_get xs other
set_other [] at other x apart = refl
set_other (first ∷ xs) zero zero x apart = absurd (apart refl)
set_other (first ∷ xs) zero (suc other) x apart = refl
set_other (first ∷ xs) (suc at) zero x apart = refl
set_other (first ∷ xs) (suc at) (suc other) x apart = set_other xs at other x (λ same. apart (ap suc same))

equal_or : (a b : ℕ) → (a ≡ b) ⊎ (a ≢ b)
equal_or a b = by_test (a == b) refl
  where
    by_test : (t : Bool) → (a == b) ≡ t → (a ≡ b) ⊎ (a ≢ b)
    by_test true is = inl (grind (arith, nat_tests, is))
    by_test false is = inr (λ same. grind (arith, nat_tests, is, same))

-- ---- one packet more
-- the walker of the packet's worker is another, and what was counted is more
pub record IsWalkMore (journal : List Edit) (outcome : Outcome) (index : ℕ) (walker later : Walker) (old new : Walkers) : Type 0 where
  pub there : slice_get old.each.items index ≡ Some walker
  pub within : index < length old.each.items
  pub number : outcome.worker ≡ index + 1
  pub set : new.each.items ≡ slice_set old.each.items index later
  pub seen : later.seen ≡ max walker.seen (greatest outcome.points)
  pub stands : StandsIn journal later
  pub first : StandsAtFirst outcome.points later
  pub counts : (serial : ℕ) → count_of new.counts serial ≡ both (count_of old.counts serial) (counted_in outcome.executed serial)
  pub short : IsShortRun outcome.executed
  pub passed : new.passed ≡ old.passed + (if is_pass outcome.verdict then 1 else 0)
  pub all : new.passed + new.dropped ≡ old.passed + old.dropped + 1

module _ (workers : ℕ) (journal : List Edit) (outcomes : List Outcome) (outcome : Outcome) (index : ℕ) (walker later : Walker) (old new : Walkers) (are : AreWalkers workers journal outcomes old) (more : IsWalkMore journal outcome index walker later old new) where
  own_walker : IsWalker journal (outcomes ++ (outcome ∷ [])) (index + 1) later
  own_walker =
      let first = more.first in
      let least = first_least first.first first.more in
      let points = ap greatest first.points_are in
      let at = first.at_first in
      let own = more.seen in
      record {
        seen = more.seen ∙ ap (λ (n : ℕ). max n (greatest outcome.points)) (are.stand index walker more.there).seen ∙ sym (seen_own (index + 1) outcomes outcome more.number);
        early = omega (arith, least, points, at, own);
        within = more.stands.within;
        spells = more.stands.spells;
      }

  other_walker : (other : ℕ) (it : Walker) → other ≢ index → slice_get old.each.items other ≡ Some it → IsWalker journal (outcomes ++ (outcome ∷ [])) (other + 1) it
  other_walker other it apart there =
      let before = are.stand other it there in
      let own = more.number in
      record {
        seen = before.seen ∙ sym (seen_other (other + 1) outcomes outcome (λ same. apart (omega (arith, own, same))));
        early = before.early;
        within = before.within;
        spells = before.spells;
      }

  stands_by : (other : ℕ) (it : Walker) → slice_get new.each.items other ≡ Some it → (other ≡ index) ⊎ (other ≢ index) → IsWalker journal (outcomes ++ (outcome ∷ [])) (other + 1) it
  stands_by other it is (inl same) =
      let there : slice_get (slice_set old.each.items index later) index ≡ Some it = ap (slice_get (slice_set old.each.items index later)) (sym same) ∙ ap (λ (xs : List Walker). slice_get xs other) (sym more.set) ∙ is in
      let one : later ≡ it = (let both : ◌≡◌ {A = Option Walker} (Some later) (Some it) = sym (set_same old.each.items index later more.within) ∙ there in cc both) in
      subst (λ (n : ℕ). IsWalker journal (outcomes ++ (outcome ∷ [])) (n + 1) it) (sym same) (subst (IsWalker journal (outcomes ++ (outcome ∷ [])) (index + 1)) one own_walker)
  stands_by other it is (inr apart) =
      other_walker other it apart (sym (set_other old.each.items index other later apart) ∙ ap (λ (xs : List Walker). slice_get xs other) (sym more.set) ∙ is)

  pub walked_more : AreWalkers workers journal (outcomes ++ (outcome ∷ [])) new
  walked_more = record {
    many = ap length more.set ∙ length-set old.each.items index later ∙ are.many;
    stand = λ other it is. stands_by other it is (equal_or other index);
    counts = λ serial. more.counts serial ∙ ap (λ (c : Count). both c (counted_in outcome.executed serial)) (are.counts serial) ∙ sym (counted_append (executed_in outcomes) outcome.executed serial)
        ∙ ap (λ (es : List (ℕ × ℕ)). counted_in es serial) (sym (flat_map-append (λ (o : Outcome). o.executed) outcomes (outcome ∷ []) ∙ ap (λ (es : List (ℕ × ℕ)). executed_in outcomes ++ es) (append-nil outcome.executed)));
    short = each_append (λ (o : Outcome). IsShortRun o.executed) outcomes (outcome ∷ []) are.short (more.short, tt);
    passed = more.passed ∙ ap (λ (n : ℕ). n + (if is_pass outcome.verdict then 1 else 0)) are.passed ∙ sym (sum_by-append (λ (o : Outcome). if is_pass o.verdict then 1 else 0) outcomes (outcome ∷ []) ∙ same_sum);
    all = (let sum = length-append outcomes (outcome ∷ []) in let a = more.all in let b = are.all in omega (arith, sum, a, b));
  }
    where
      same_sum : passed_count outcomes + passed_count (outcome ∷ []) ≡ passed_count outcomes + (if is_pass outcome.verdict then 1 else 0)
      same_sum = (let one : passed_count (outcome ∷ []) ≡ (if is_pass outcome.verdict then 1 else 0) + passed_count [] = sum_by-cons (λ (o : Outcome). if is_pass o.verdict then 1 else 0) outcome [] in let none : passed_count [] ≡ 0 = refl in omega (arith, one, none))
