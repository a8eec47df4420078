-- No walk of a worker has a point before what that worker had seen.
use Rattle.std.proofs.Common.{◌≡◌, ℕ, zero, suc, ◌≤◌, Bool, true, false, cond, List, [], ◌∷◌, ◌++◌, take, Some, sym, subst, eq-eqb, append_assoc, append-nil, arith}
use Rattle.std.specs.Prelude.{max, fold, filter}
use Rattle.std.specs.List.{slice_get, flat_map}
use Rattle.std.proofs.lemmas.Bool.{false≢true}
use Rattle.filter_state.specs.declared.edit.Edit.{Edit}
use Rattle.filter_state.specs.Sound.{Each, EachPair}
use Rattle.filter_state.proofs.Pairs.{each_front, each_back}
use Rattle.run_report.specs.declared.outcomes.Outcome.{Outcome}
use Rattle.run_report.specs.declared.rounds.RoundRecord.{RoundRecord}
use Rattle.lawful_runs.specs.Given.{Arrival, GivenRound}
use Rattle.lawful_runs.specs.Points.{is_by, seen_by}
use Rattle.lawful_runs.specs.Outcomes.{AreWalked}
use Rattle.lawful_runs.specs.Lawful.{AreRounds, outcomes_in}
use Rattle.filter_state.proofs.Places.{each_at}
use Rattle.lawful_runs.proofs.Places.{each_from, one_there, pairs_behind}
use Rattle.lawful_runs.proofs.Walks.{point_within}

-- ---- the greatest point
record IsGreatest (start most : ℕ) (points : List ℕ) : Type 0 where
  pub first : start ≤ most
  pub each : Each (λ point. point ≤ most) points

folded : (start : ℕ) (points : List ℕ) → IsGreatest start (fold max start points) points
folded start [] = record { first = omega arith; each = tt }
folded start (point ∷ points) =
    let rest = folded (max start point) points in
    let most = rest.first in
    record { first = omega (arith, most); each = (omega (arith, most), rest.each) }

-- ---- what a worker has seen
abbrev points_in : List Outcome → List ℕ
points_in outcomes = flat_map (λ (outcome : Outcome). outcome.points) outcomes

one_kept : (P : ℕ → Type 0) (b : Bool) (outcome : Outcome) (kept : List Outcome) → Each P (points_in (cond b (outcome ∷ kept) kept)) → (b ≡ true → Each P outcome.points) × Each P (points_in kept)
one_kept P true outcome kept each = (λ by. each_front P outcome.points (points_in kept) each, each_back P outcome.points (points_in kept) each)
one_kept P false outcome kept each = (λ by. absurd (false≢true by), each)

its_points : (P : ℕ → Type 0) (worker : ℕ) (outcomes : List Outcome) → Each P (points_in (filter (is_by worker) outcomes)) → (place : ℕ) (outcome : Outcome) → slice_get outcomes place ≡ Some outcome
    → outcome.worker ≡ worker → Each P outcome.points
its_points P worker [] each place outcome is by = absurd (cc is)
its_points P worker (first ∷ outcomes) each zero outcome is by =
    let same : outcome ≡ first = cc in
    let own = subst (λ (o : Outcome). o.worker ≡ worker) same by in
    subst (λ (o : Outcome). Each P o.points) (sym same) ((one_kept P (is_by worker first) first (filter (is_by worker) outcomes) each).0 (eq-eqb first.worker worker own))
its_points P worker (first ∷ outcomes) each (suc place) outcome is by =
    its_points P worker outcomes (one_kept P (is_by worker first) first (filter (is_by worker) outcomes) each).1 place outcome is by

seen_at : (worker : ℕ) (outcomes : List Outcome) (place : ℕ) (outcome : Outcome) → slice_get outcomes place ≡ Some outcome → outcome.worker ≡ worker
    → (visit point : ℕ) → slice_get outcome.points visit ≡ Some point → point ≤ seen_by worker outcomes
seen_at worker outcomes place outcome is by visit point at =
    let most : ℕ = seen_by worker outcomes in
    each_at (λ p. p ≤ most) outcome.points visit point
    (its_points (λ p. p ≤ most) worker outcomes (folded 0 (points_in (filter (is_by worker) outcomes))).each place outcome is by) at

-- ---- walks of one worker
abbrev pub NoneBefore : Outcome → Outcome → Type 0
NoneBefore one other = one.worker ≡ other.worker → (visit again point later : ℕ) → slice_get one.points visit ≡ Some point → slice_get other.points again ≡ Some later → point ≤ later

walked_behind : (workers : ℕ) (journal : List Edit) (before ceiling : ℕ) (earlier : List Outcome) (arrivals : List Arrival) (outcomes : List Outcome) → AreWalked workers journal before ceiling earlier arrivals outcomes
    → (place : ℕ) (outcome : Outcome) → slice_get outcomes place ≡ Some outcome → Each (λ one. NoneBefore one outcome) (earlier ++ take place outcomes)
walked_behind workers journal before ceiling earlier arrivals outcomes walked place outcome is =
    each_from (λ one. NoneBefore one outcome) (earlier ++ take place outcomes) (λ first one there same visit again point later at then.
    let arrival = one_there arrivals outcomes place outcome walked.one_each is in
    let seen = seen_at outcome.worker (earlier ++ take place outcomes) first one there same visit point at in
    let least = (point_within journal (max before (seen_by outcome.worker (earlier ++ take place outcomes))) ceiling arrival.0 outcome (walked.walked place arrival.0 outcome arrival.1 is) again later then).0 in
    omega (arith, seen, least))

pub rounds_behind : (workers : ℕ) (rounds : List GivenRound) (before : List Edit) (earlier : List Outcome) (its : List RoundRecord) (journal : List Edit)
    → AreRounds workers rounds before earlier its journal → EachPair NoneBefore earlier → EachPair NoneBefore (earlier ++ outcomes_in its)
rounds_behind workers [] before earlier [] journal is pairs = subst (EachPair NoneBefore) (sym (append-nil earlier)) pairs
rounds_behind workers [] before earlier (it ∷ its) journal is pairs = absurd is
rounds_behind workers (round ∷ rounds) before earlier [] journal is pairs = absurd is
rounds_behind workers (round ∷ rounds) before earlier (it ∷ its) journal (edits, one, more) pairs =
    subst (EachPair NoneBefore) (append_assoc earlier it.outcomes (outcomes_in its))
    (rounds_behind workers rounds (before ++ edits) (earlier ++ it.outcomes) its journal more
    (pairs_behind NoneBefore earlier it.outcomes pairs (walked_behind workers (before ++ edits) _ _ earlier round.arrivals it.outcomes one.walked)))
