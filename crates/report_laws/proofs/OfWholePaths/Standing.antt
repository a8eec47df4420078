-- Packets can be walked: every visit at the ceiling.
use Rattle.std.proofs.Common.{◌≡◌, ℕ, suc, ◌≤◌, List, [], ◌∷◌, ◌++◌, map, Some, refl, sym, subst, arith}
use Rattle.std.specs.Prelude.{max, fold, filter}
use Rattle.std.specs.List.{slice_get, flat_map}
use Rattle.filter_state.specs.declared.edit.Edit.{Edit}
use Rattle.filter_state.specs.States.{State}
use Rattle.filter_state.specs.Sound.{Each}
use Rattle.filter_state.specs.Journals.{state_at, IsLawful}
use Rattle.filter_state.proofs.Pairs.{each_append, each_weaker, each_filter, each_flat_map}
use Rattle.state_laws.proofs.Steps.{journal_sound}
use Rattle.walk_rules.specs.Steps.{Execution, Standing, begun, after}
use Rattle.walk_rules.specs.Walks.{Outcome as WalkOutcome, IsWalk}
use Rattle.walk_rules.specs.Plain.{plain_walk}
use Rattle.walk_rules.proofs.Agreeing.{WalkFrom}
use Rattle.walk_rules.proofs.Stilled.{leads_to_plain}
use Rattle.run_report.specs.declared.outcomes.Outcome.{Outcome}
use Rattle.lawful_runs.specs.Given.{Arrival}
use Rattle.walk_rules.specs.OfPoints.Points.{Visit, IsVisited, AreLawfulPoints}
use Rattle.lawful_runs.specs.Points.{is_by, seen_by}
use Rattle.lawful_runs.specs.Outcomes.{IsWalked}
use Rattle.filter_state.proofs.Places.{each_at}
use Rattle.lawful_runs.proofs.Rounds.{IsUpTo}
use Rattle.lawful_runs.proofs.WalkedEach.{AreWalkedFrom}
use Rattle.lawful_runs.proofs.Walks.{point_within}

-- ---- a walk whose visits are all at one point
abbrev IsVisitAt : ℕ → Visit → Type 0
IsVisitAt point visit = visit.point ≡ point

record IsHeldAt (states : ℕ → State) (point : ℕ) (before : List Visit) (st : Standing) (walk : WalkOutcome) : Type 0 where
  pub points : List ℕ
  pub visits : List Visit
  pub walks : IsWalk (IsVisited states) before st points visits walk
  pub each : Each (λ (p : ℕ). p ≤ point) points
  pub at : Each (IsVisitAt point) before → Each (IsVisitAt point) visits

held_at : (states : ℕ → State) (point : ℕ) (old : List ℕ) (before : List Visit) (st : Standing) (walk : WalkOutcome) → WalkFrom (λ p. states point) st old walk → IsHeldAt states point before st walk
held_at states point [] before st walk (same, ends) = record { points = []; visits = before; walks = (refl, ends); each = tt; at = λ each. each }
held_at states point (p ∷ old) before st walk (question, answer, between, asked, answered, rest) =
    let visit : Visit = record { question = question; point = point } in
    let later = held_at states point old (before ++ (visit ∷ [])) (after st answer) walk rest in
    record {
      points = point ∷ later.points;
      visits = later.visits;
      walks = (question, answer, before ++ (visit ∷ []), asked, (answered, refl), later.walks);
      each = (omega arith, later.each);
      at = λ each. later.at (each_append (IsVisitAt point) before (visit ∷ []) each (refl, tt));
    }

at_one_point : (floor point : ℕ) (visits : List Visit) → floor ≤ point → Each (IsVisitAt point) visits → AreLawfulPoints floor point visits
at_one_point floor point visits least each = record {
  head = λ first is. let at = each_at (IsVisitAt point) visits 0 first each is in omega (arith, least, at);
  above_head = λ place first visit is there.
      let one = each_at (IsVisitAt point) visits 0 first each is in
      let other = each_at (IsVisitAt point) visits place visit each there in
      omega (arith, one, other);
  below = λ place visit there. let other = each_at (IsVisitAt point) visits place visit each there in omega (arith, other);
  never_fall = λ early late one other order is there same.
      let first = each_at (IsVisitAt point) visits early one each is in
      let second = each_at (IsVisitAt point) visits late other each there in
      omega (arith, first, second);
}

-- ---- what a worker saw is no later
greatest_le : (most start : ℕ) (points : List ℕ) → start ≤ most → Each (λ (p : ℕ). p ≤ most) points → fold max start points ≤ most
greatest_le most start [] first each = first
greatest_le most start (point ∷ points) first each = let own = each.0 in greatest_le most (max start point) points (omega (arith, first, own)) each.1

points_up_to : (most : ℕ) (points : List ℕ) → ((visit point : ℕ) → slice_get points visit ≡ Some point → point ≤ most) → Each (λ (p : ℕ). p ≤ most) points
points_up_to most [] all = tt
points_up_to most (p ∷ points) all = (all 0 p refl, points_up_to most points (λ visit point is. all (suc visit) point is))

pub up_to_from : (most : ℕ) (outcome : Outcome) → Each (λ (p : ℕ). p ≤ most) outcome.points → IsUpTo most outcome
up_to_from most outcome each visit point is = each_at (λ (p : ℕ). p ≤ most) outcome.points visit point each is

pub seen_le : (worker most : ℕ) (outcomes : List Outcome) → Each (IsUpTo most) outcomes → seen_by worker outcomes ≤ most
seen_le worker most outcomes each =
    greatest_le most 0 (flat_map (λ (outcome : Outcome). outcome.points) (filter (is_by worker) outcomes)) (omega arith)
    (each_flat_map (λ (p : ℕ). p ≤ most) (λ (outcome : Outcome). outcome.points) (filter (is_by worker) outcomes)
    (each_weaker (IsUpTo most) (λ (outcome : Outcome). Each (λ (p : ℕ). p ≤ most) outcome.points) (λ outcome up_to. points_up_to most outcome.points up_to) (filter (is_by worker) outcomes)
    (each_filter (IsUpTo most) (is_by worker) outcomes each)))

-- ---- A PACKET CAN BE WALKED
record CanBeWalked (journal : List Edit) (floor point worker : ℕ) (arrival : Arrival) : Type 0 where
  pub outcome : Outcome
  pub by : outcome.worker ≡ worker
  pub walked : IsWalked journal floor point arrival outcome
  pub up_to : IsUpTo point outcome

one_walk : (journal : List Edit) (floor point worker : ℕ) (arrival : Arrival) → IsLawful journal → floor ≤ point → CanBeWalked journal floor point worker arrival
one_walk journal floor point worker arrival lawful least =
    let s : State = state_at point journal in
    let plain = leads_to_plain s (journal_sound journal point lawful) arrival.hook arrival.packet.bytes in
    let walk : WalkOutcome = plain_walk s arrival.hook arrival.packet.bytes in
    let held = held_at (λ p. state_at p journal) point plain.0 [] (begun arrival.hook arrival.packet.bytes) walk plain.1 in
    let outcome : Outcome = record {
      worker = worker;
      verdict = walk.verdict;
      bytes = walk.frame.bytes;
      meta = walk.frame.meta;
      points = held.points;
      executed = map (λ (e : Execution). (e.serial, e.length)) walk.executed;
    } in
    record {
      outcome = outcome;
      by = refl;
      walked = record {
        walk = walk;
        visits = held.visits;
        walks = held.walks;
        recorded = record { verdict = refl; bytes = refl; meta = refl; executed = refl };
        points = at_one_point floor point held.visits least (held.at tt);
      };
      up_to = up_to_from point outcome held.each;
    }

pub record CanAllBeWalked (workers : ℕ) (journal : List Edit) (before point : ℕ) (earlier : List Outcome) (arrivals : List Arrival) : Type 0 where
  pub outcomes : List Outcome
  pub are : AreWalkedFrom workers journal before point earlier arrivals outcomes
  pub up_to : Each (IsUpTo point) outcomes

pub all_walks : (workers : ℕ) (journal : List Edit) (before point : ℕ) (earlier : List Outcome) (arrivals : List Arrival) → 1 ≤ workers → IsLawful journal → before ≤ point → Each (IsUpTo point) earlier
    → CanAllBeWalked workers journal before point earlier arrivals
all_walks workers journal before point earlier [] some lawful least seen = record { outcomes = []; are = tt; up_to = tt }
all_walks workers journal before point earlier (arrival ∷ arrivals) some lawful least seen =
    let most : seen_by 1 earlier ≤ point = seen_le 1 point earlier seen in
    let one = one_walk journal (max before (seen_by 1 earlier)) point 1 arrival lawful (omega (arith, least, most)) in
    let rest = all_walks workers journal before point (earlier ++ (one.outcome ∷ [])) arrivals some lawful least (each_append (IsUpTo point) earlier (one.outcome ∷ []) seen (one.up_to, tt)) in
    let by = one.by in
    record {
      outcomes = one.outcome ∷ rest.outcomes;
      are = (
        omega (arith, by),
        omega (arith, by, some),
        subst (λ (w : ℕ). IsWalked journal (max before (seen_by w earlier)) point arrival one.outcome) (sym by) one.walked,
        rest.are,
      );
      up_to = (one.up_to, rest.up_to);
    }

pub walks_up_to : (workers : ℕ) (journal : List Edit) (before ceiling : ℕ) (earlier : List Outcome) (arrivals : List Arrival) (outcomes : List Outcome) → AreWalkedFrom workers journal before ceiling earlier arrivals outcomes
    → Each (IsUpTo ceiling) outcomes
walks_up_to workers journal before ceiling earlier [] [] are = tt
walks_up_to workers journal before ceiling earlier (a ∷ arrivals) [] are = absurd are
walks_up_to workers journal before ceiling earlier [] (o ∷ outcomes) are = absurd are
walks_up_to workers journal before ceiling earlier (a ∷ arrivals) (o ∷ outcomes) (least, most, walked, rest) =
    (λ visit point is. (point_within journal (max before (seen_by o.worker earlier)) ceiling a o walked visit point is).1, walks_up_to workers journal before ceiling (earlier ++ (o ∷ [])) arrivals outcomes rest)
