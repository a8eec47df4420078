-- The logs of workers make up a round.
use Rattle.std.proofs.Common.{◌≡◌, ◌∙◌, ℕ, ◌+◌, ◌≤◌, ◌<◌, List, ◌++◌, length, take, Some, sym, ap, subst, inl, inr, arith}
use Rattle.std.specs.Prelude.{max}
use Rattle.std.specs.List.{slice_get}
use Rattle.std.proofs.lemmas.Bool.{cases_lt}
use Rattle.std.proofs.lemmas.Option.{slice_get_within}
use Rattle.std.proofs.lemmas.List.{length-append}
use mathlib.Core.List.{IsPrefix}
use Rattle.filter_state.specs.declared.edit.Edit.{Edit}
use Rattle.filter_state.specs.Sound.{Each}
use Rattle.filter_state.proofs.Pairs.{each_weaker, each_append}
use Rattle.run_report.specs.declared.outcomes.Outcome.{Outcome}
use Rattle.lawful_runs.specs.Given.{Arrival}
use Rattle.lawful_runs.specs.Points.{seen_by}
use Rattle.lawful_runs.specs.Outcomes.{IsWalked, AreWalked}
use Rattle.lawful_runs.specs.OfLogs.Logs.{LogRow, ArePointsTo, IsRowAt, IsLog, AreLogs, IsPlacedAt, ArePlaced}
use Rattle.lawful_runs.proofs.Places.{each_from}
use Rattle.lawful_runs.proofs.Longer.{over_longer}
use Rattle.lawful_runs.proofs.OfLogs.SeenMost.{IsSeenTo, seen_most, taken_at}

-- ---- a lower floor, a higher ceiling
other_bounds : (journal : List Edit) (floor low ceiling high : ℕ) (arrival : Arrival) (outcome : Outcome) → low ≤ floor → ceiling ≤ high
    → IsWalked journal floor ceiling arrival outcome → IsWalked journal low high arrival outcome
other_bounds journal floor low ceiling high arrival outcome lower higher it = record {
  walk = it.walk;
  visits = it.visits;
  walks = it.walks;
  recorded = it.recorded;
  points = record {
    head = λ first is. let h = it.points.head first is in omega (arith, h, lower);
    above_head = it.points.above_head;
    below = λ place visit is. let b = it.points.below place visit is in omega (arith, b, higher);
    never_fall = it.points.never_fall;
  };
}

-- over what was seen, it is a walk over the whole journal
over_whole : (seen journal : List Edit) (floor low : ℕ) (arrival : Arrival) (outcome : Outcome) → IsPrefix seen journal → low ≤ floor
    → IsWalked seen floor (length seen) arrival outcome → IsWalked journal low (length journal) arrival outcome
over_whole seen journal floor low arrival outcome (rest, one) lower it =
    let long = ap length one in
    let both = length-append seen rest in
    other_bounds journal floor low (length seen) (length journal) arrival outcome lower (omega (arith, long, both))
    (subst (λ (es : List Edit). IsWalked es floor (length seen) arrival outcome) one (over_longer seen rest floor (length seen) arrival outcome (omega arith) it))

-- ---- two rows of one log
earlier_row : (worker start : ℕ) (journal : List Edit) (arrivals : List Arrival) (rows : List LogRow) (at other : ℕ) (it also : LogRow)
    → IsRowAt worker start journal arrivals rows at it → IsRowAt worker start journal arrivals rows other also
    → slice_get rows at ≡ Some it → slice_get rows other ≡ Some also → also.number < it.number → other < at
earlier_row worker start journal arrivals rows at other it also one its is there less =
    elim (cases_lt other at) [
      | inl before ↦ before
      | inr most ↦ elim (cases_lt at other) [
        | inl after ↦ (let up = (its.behind at it after is).0 in absurd (omega (arith, up, less)))
        | inr same ↦ (
            let place : at ≡ other = omega (arith, most, same) in
            let equal : it ≡ also = cc (is, there, place) in
            let number = ap (λ (r : LogRow). r.number) equal in
            absurd (omega (arith, number, less)))
      ]
    ]

-- ---- the floor of a row is no lower than what is asked
module _ (journal : List Edit) (before : ℕ) (earlier : List Outcome) (arrivals : List Arrival) (logs : List (List LogRow)) (outcomes : List Outcome)
    (are : AreLogs journal before earlier arrivals logs) (placed : ArePlaced logs outcomes) where
  log_at : (place : ℕ) (outcome : Outcome) (p : IsPlacedAt logs place outcome) → IsLog (p.index + 1) journal before earlier arrivals p.rows
  log_at place outcome p = are p.index p.rows p.log

  worker_of : (place : ℕ) (outcome : Outcome) (p : IsPlacedAt logs place outcome) → outcome.worker ≡ p.index + 1
  worker_of place outcome p = ap (λ (o : Outcome). o.worker) (sym p.same) ∙ ((log_at place outcome p).are_rows p.at p.it p.there).by

  behind_it : (place early : ℕ) (outcome other : Outcome) (p : IsPlacedAt logs place outcome) (q : IsPlacedAt logs early other) → early < place
      → other.worker ≡ outcome.worker → ArePointsTo ((log_at place outcome p).are_rows p.at p.it p.there).floor other.points
  behind_it place early outcome other p q less by =
      let log = log_at place outcome p in
      let own = log.are_rows p.at p.it p.there in
      let w = worker_of place outcome p in
      let v = worker_of early other q in
      let index : q.index ≡ p.index = omega (arith, w, v, by) in
      let rows : q.rows ≡ p.rows = (let a = q.log in let b = p.log in let c : slice_get logs q.index ≡ slice_get logs p.index = ap (slice_get logs) index in cc) in
      let there : slice_get p.rows q.at ≡ Some q.it = ap (λ (rs : List LogRow). slice_get rs q.at) (sym rows) ∙ q.there in
      let its = log.are_rows q.at q.it there in
      let n = p.number in
      let m = q.number in
      let first : q.at < p.at = earlier_row (p.index + 1) log.start journal arrivals p.rows p.at q.at p.it q.it own its p.there there (omega (arith, less, n, m)) in
      subst (λ (o : Outcome). ArePointsTo own.floor o.points) q.same (own.behind q.at q.it first there).1

  floor_is : (place : ℕ) (outcome : Outcome) (p : IsPlacedAt logs place outcome)
      → max before (seen_by outcome.worker (earlier ++ take place outcomes)) ≤ ((log_at place outcome p).are_rows p.at p.it p.there).floor
  floor_is place outcome p =
      let log = log_at place outcome p in
      let own = log.are_rows p.at p.it p.there in
      let least = own.least in
      let late = log.late in
      let w = worker_of place outcome p in
      let old : Each (IsSeenTo outcome.worker own.floor) earlier = each_from (IsSeenTo outcome.worker own.floor) earlier
      (λ early other is by. each_weaker (λ (point : ℕ). point ≤ log.start) (λ (point : ℕ). point ≤ own.floor) (λ point most. omega (arith, most, least)) other.points (log.seen early other is (by ∙ w))) in
      let new : Each (IsSeenTo outcome.worker own.floor) (take place outcomes) = each_from (IsSeenTo outcome.worker own.floor) (take place outcomes)
      (λ early other is by. let at = taken_at place outcomes early other is in behind_it place early outcome other p (placed early other at.1) at.0 by) in
      let most = seen_most outcome.worker own.floor (earlier ++ take place outcomes) (each_append (IsSeenTo outcome.worker own.floor) earlier (take place outcomes) old new) in
      omega (arith, most, least, late)

  pub round_walked : length outcomes ≡ length arrivals → AreWalked (length logs) journal before (length journal) earlier arrivals outcomes
  round_walked long = record {
    one_each = long;
    worker = λ place outcome is.
        let p = placed place outcome is in
        let w = worker_of place outcome p in
        let inside = slice_get_within logs p.index p.rows p.log in
        (omega (arith, w), omega (arith, w, inside));
    walked = λ place arrival outcome is there.
        let p = placed place outcome there in
        let own = (log_at place outcome p).are_rows p.at p.it p.there in
        let floor = max before (seen_by outcome.worker (earlier ++ take place outcomes)) in
        let same : own.arrival ≡ arrival = (let a = own.there in let n : slice_get arrivals p.it.number ≡ slice_get arrivals place = ap (slice_get arrivals) p.number in cc) in
        let walk = over_whole own.seen journal own.floor floor own.arrival p.it.outcome own.beginning (floor_is place outcome p) own.walked in
        subst (λ (a : Arrival). IsWalked journal floor (length journal) a outcome) same
        (subst (λ (o : Outcome). IsWalked journal floor (length journal) own.arrival o) p.same walk);
  }
