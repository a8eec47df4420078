-- What the workers of a round have seen behind it.
use Rattle.std.proofs.Common.{◌≡◌, ◌∙◌, ℕ, zero, suc, ◌+◌, ◌*◌, ◌≤◌, ◌<◌, List, [], ◌∷◌, ◌++◌, length, Some, refl, ap, subst, inl, inr, arith}
use Rattle.std.specs.Prelude.{◌⊎◌}
use Rattle.std.specs.List.{AllByRecursion, slice_get}
use Rattle.std.proofs.lemmas.List.{length-map}
use Rattle.std.proofs.lemmas.Option.{slice_get_within}
use Rattle.tc_base.specs.declared.hook.Hook.{Hook}
use Rattle.pcap_io.specs.declared.capture.Packet.{Packet}
use Rattle.filter_state.specs.declared.edit.Edit.{Edit}
use Rattle.filter_state.proofs.Pairs.{each_weaker}
use Rattle.run_report.specs.declared.outcomes.Outcome.{Outcome}
use Rattle.lawful_runs.specs.OfLogs.Logs.{LogRow, ArePointsTo}
use Rattle.hook_reader.specs.Seats.{HookSeat}
use Rattle.pin_store.specs.Calls.{pin_of}
use Rattle.worker_rounds.specs.OfLogs.Rows.{numbers_of}
use Rattle.worker_rounds.specs.declared.worker.Worker.{Worker}
use Rattle.worker_rounds.specs.Worked.{arrivals_of, IsWorked}
use Rattle.job_rounds.specs.OfRoundState.Rounds.{StoreName}
use Rattle.job_rounds.specs.OfOneRound.Ends.{HaveSeen, HaveWalked, IsWorkedAt}
use Rattle.job_rounds.proofs.OfOneRound.OfOutcomes.Rising.{short_from}

-- a place of two lists, one behind the other, is one of either
in_either : {X : Type 0} (xs ys : List X) (place : ℕ) (x : X) → slice_get (xs ++ ys) place ≡ Some x → (slice_get xs place ≡ Some x) ⊎ ((rest : ℕ) × (slice_get ys rest ≡ Some x))
in_either [] ys place x is = inr (place, is)
in_either (y ∷ xs) ys zero x is = inl is
in_either (y ∷ xs) ys (suc place) x is = in_either xs ys place x is

module _ (store : StoreName) (hook : Hook) (packets : List Packet) (journal : List Edit) (first last : List Worker) (outcomes : List Outcome) (it : HaveWalked store hook packets journal first last outcomes)
    (numbered : (at : ℕ) (worker : Worker) → slice_get first at ≡ Some worker → worker.number ≡ at + 1) where
  -- the points of the round's outcomes, of the worker at a place
  own_points : (at : ℕ) (own : IsWorkedAt store hook packets journal first last it.logs at) (place : ℕ) (outcome : Outcome) → slice_get outcomes place ≡ Some outcome → outcome.worker ≡ own.now.number → ArePointsTo own.now.reader.latest outcome.points
  own_points at own place outcome is by =
      let p = it.placed place outcome is in
      let many = it.many_logs in
      let within = slice_get_within it.logs p.index p.rows p.log in
      let other = it.each p.index (omega (arith, within, many)) in
      let rows_are : p.rows ≡ other.rows = cc (p.log, other.log) in
      let there = subst (λ (rows : List LogRow). slice_get rows p.at ≡ Some p.it) rows_are p.there in
      let row_by = (other.worked.are_rows p.at p.it there).by in
      let number = numbered p.index other.worker other.was_there in
      let own_number = numbered at own.worker own.was_there in
      let named = ap (λ (o : Outcome). o.worker) p.same in
      let same_number = own.number in
      let same_place : p.index ≡ at = omega (arith, number, own_number, named, row_by, by, same_number) in
      let same_now : other.now ≡ own.now = cc (subst (λ (n : ℕ). slice_get last n ≡ Some other.now) same_place other.is_there, own.is_there) in
      subst (λ (o : Outcome). ArePointsTo own.now.reader.latest o.points) p.same
      (subst (λ (w : Worker). ArePointsTo w.reader.latest p.it.outcome.points) same_now (other.worked.seen p.at p.it there))

  later_points : (before : ℕ) (earlier : List Outcome) → HaveSeen before earlier first → (at : ℕ) (own : IsWorkedAt store hook packets journal first last it.logs at) (place : ℕ) (outcome : Outcome)
      → slice_get (earlier ++ outcomes) place ≡ Some outcome → outcome.worker ≡ own.now.number → ArePointsTo own.now.reader.latest outcome.points
  later_points before earlier seen at own place outcome is by = elim (in_either earlier outcomes place outcome is) [
    | inl early ↦ (let late = own.worked.late in
        each_weaker (λ (p : ℕ). p ≤ own.worker.reader.latest) (λ (p : ℕ). p ≤ own.now.reader.latest) (λ point most. omega (arith, most, late)) outcome.points
        ((seen at own.worker own.was_there).1 place outcome early (by ∙ own.number)))
    | inr late ↦ own_points at own late.0 outcome late.1 by
  ]

  pub seen_behind : (before : ℕ) (earlier : List Outcome) → HaveSeen before earlier first → HaveSeen before (earlier ++ outcomes) last
  seen_behind before earlier seen = λ at now is.
      let many = it.many_last in
      let within = slice_get_within last at now is in
      let own = it.each at (omega (arith, within, many)) in
      let same : own.now ≡ now = cc (own.is_there, is) in
      let old = (seen at own.worker own.was_there).0 in
      let late = own.worked.late in
      subst (λ (w : Worker). (before ≤ w.reader.latest) × ((place : ℕ) (outcome : Outcome) → slice_get (earlier ++ outcomes) place ≡ Some outcome → outcome.worker ≡ w.number → ArePointsTo w.reader.latest outcome.points)) same
      (omega (arith, old, late), later_points before earlier seen at own)

pub walked_seen : (store : StoreName) (hook : Hook) (packets : List Packet) (journal : List Edit) (first last : List Worker) (outcomes earlier : List Outcome) (before : ℕ) → HaveWalked store hook packets journal first last outcomes
    → ((at : ℕ) (worker : Worker) → slice_get first at ≡ Some worker → worker.number ≡ at + 1) → HaveSeen before earlier first → HaveSeen before (earlier ++ outcomes) last
walked_seen store hook packets journal first last outcomes earlier before it numbered seen = seen_behind store hook packets journal first last outcomes it numbered before earlier seen

-- ---- how often a worker went inside
below_each : (count : ℕ) (rows : List LogRow) → ((at : ℕ) (row : LogRow) → slice_get rows at ≡ Some row → row.number < count) → AllByRecursion (λ (number : ℕ). number < count) (numbers_of rows)
below_each count [] each = tt
below_each count (row ∷ rows) each = (each 0 row refl, below_each count rows (λ at other is. each (suc at) other is))

rows_few : (worker : ℕ) (hook : Hook) (packets : List Packet) (first now : HookSeat) (rows : List LogRow) → IsWorked worker (arrivals_of hook packets) first now rows → length rows ≤ length packets
rows_few worker hook packets first now rows it =
    let long : length (arrivals_of hook packets) ≡ length packets = length-map packets (λ (packet : Packet). record { hook = hook; packet = packet }) in
    let below = below_each (length packets) rows
    (λ at row is. let own = it.are_rows at row is in let within = slice_get_within (arrivals_of hook packets) row.number own.arrival own.there in omega (arith, within, long)) in
    let few = short_from (length packets) 0 rows (omega arith) below (λ at row is. omega arith) (λ at row is early other less there. ((it.are_rows at row is).behind early other less there).0) in
    omega (arith, few)

pub walked_few : (store : StoreName) (hook : Hook) (packets : List Packet) (journal : List Edit) (first last : List Worker) (outcomes : List Outcome) → HaveWalked store hook packets journal first last outcomes → (at : ℕ) (worker now : Worker)
    → slice_get first at ≡ Some worker → slice_get last at ≡ Some now → pin_of now.reader.place ≤ pin_of worker.reader.place + 2 * length packets
walked_few store hook packets journal first last outcomes it at worker now was is =
    let own = it.each at (slice_get_within first at worker was) in
    let same_worker : own.worker ≡ worker = cc (own.was_there, was) in
    let same_now : own.now ≡ now = cc (own.is_there, is) in
    let few = rows_few own.worker.number hook packets own.worker.reader own.now.reader own.rows own.worked in
    let walks = own.worked.walks in
    let worker_pin = ap (λ (w : Worker). pin_of w.reader.place) same_worker in
    let now_pin = ap (λ (w : Worker). pin_of w.reader.place) same_now in
    omega (arith, few, walks, worker_pin, now_pin)
