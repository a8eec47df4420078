-- What the workers of a round brought back.
use Rattle.std.proofs.Common.{◌≡◌, ◌∙◌, ℕ, ◌+◌, ◌<◌, List, [], ◌∷◌, length, map, Some, Ok, refl, sym, ap, subst, arith}
use Rattle.std.specs.Prelude.{All, IfOk, Result}
use Rattle.std.specs.List.{AllByRecursion, AllZip, flat_map, slice_get}
use Rattle.std.proofs.lemmas.List.{length-map}
use Rattle.std.proofs.lemmas.List.Elements.{All-from_recursion, All-get_or}
use Rattle.std.proofs.lemmas.Option.{slice_get_within, get_or_from_slice_get}
use mathlib.Core.List.{IsPrefix}
use Rattle.tc_base.specs.declared.hook.Hook.{Hook}
use Rattle.atomic_table.specs.Seated.{TableId}
use Rattle.pcap_io.specs.declared.capture.Packet.{Packet}
use Rattle.pin_store.specs.Calls.{IsSeatAt}
use Rattle.filter_state.specs.declared.edit.Edit.{Edit}
use Rattle.run_report.specs.declared.outcomes.Outcome.{Outcome}
use Rattle.step_counts.specs.Seats.{Holding}
use Rattle.step_counts.specs.Claims.{HasEachBelow}
use Rattle.lawful_runs.specs.OfLogs.Logs.{LogRow, ArePlaced}
use Rattle.worker_rounds.specs.OfLogs.Rows.{numbers_of}
use Rattle.worker_rounds.specs.OfWalks.Walked.{journal_of}
use Rattle.worker_rounds.specs.declared.worker.Worker.{Worker}
use Rattle.worker_rounds.specs.Worked.{arrivals_of, HasDrawn, IsWorked}
use Rattle.job_rounds.specs.OfRoundState.Rounds.{StoreName}
use Rattle.job_rounds.specs.OfOneRound.OfOutcomes.Draws.{AreAllSeats, AreDrawn, IsOneSeat, IsRising}
use Rattle.job_rounds.specs.OfOneRound.OfOutcomes.Met.{AreBack, IsSameWorker}
use Rattle.job_rounds.specs.declared.one_round.hands.Hand.{Hand}
use Rattle.job_rounds.specs.declared.one_round.hands.Ended.{Ended}
use Rattle.job_rounds.specs.declared.one_round.joining.Back.{Back}
use Rattle.job_rounds.specs.OfOneRound.Hands.{AreClaimed, HasWorked, IsBackFrom, fresh_seat}
use Rattle.job_rounds.specs.OfOneRound.Ends.{HaveSeen, HaveWalked, IsWorkedAt}
use Rattle.job_rounds.proofs.OfOneRound.Zips.{zip_long, zip_at}
use Rattle.job_rounds.proofs.OfOneRound.Claimed.{there_map}
use Rattle.job_rounds.proofs.OfOneRound.Same.{same_number, same_journal, same_outside, same_worked}

-- at an answer that is known
if_ok : {A E : Type 0} (P : A → Type 0) (r : Result A E) (x : A) → r ≡ Ok x → IfOk r P → P x
if_ok P r x is holds = subst (λ q. IfOk q P) is holds

all_at : {A : Type 0} (P : A → Type 0) (xs : List A) (at : ℕ) (x : A) → All P xs → slice_get xs at ≡ Some x → P x
all_at P xs at x all is = subst P (get_or_from_slice_get xs at x x is) (All-get_or P xs at x (slice_get_within xs at x is) all)

-- ---- seats and draws, for `settle`
module _ (store : StoreName) (hook : Hook) (packets : List Packet) where
  seats_each : (making : TableId) (seats : ℕ) (hands : List Hand) (ends : List Ended) → AllByRecursion (λ (hand : Hand). hand.seat ≡ fresh_seat making seats) hands → AllZip (HasWorked store hook packets) hands ends
      → AllByRecursion (IsOneSeat making seats) (map (λ (end : Ended). end.seat) ends)
  seats_each making seats [] [] own worked = tt
  seats_each making seats [] (end ∷ ends) own worked = absurd worked
  seats_each making seats (hand ∷ hands) [] own worked = absurd worked
  seats_each making seats (hand ∷ hands) (end ∷ ends) own worked = (
    worked.0.seat ∙ ap (λ (s : Holding ℕ). record s { deeds = end.seat.deeds }) own.0,
    seats_each making seats hands ends own.1 worked.1,
  )

  drawn_each : (hands : List Hand) (ends : List Ended) (logs : List (List LogRow)) → AllZip (HasWorked store hook packets) hands ends → AllZip (λ (end : Ended) (log : List LogRow). end.log ≡ Ok log) ends logs
      → AreDrawn (length packets) (map (λ (end : Ended). end.seat) ends) logs
  drawn_each [] [] [] worked own = tt
  drawn_each [] [] (log ∷ logs) worked own = absurd own
  drawn_each [] (end ∷ ends) logs worked own = absurd worked
  drawn_each (hand ∷ hands) [] logs worked own = absurd worked
  drawn_each (hand ∷ hands) (end ∷ ends) [] worked own = absurd own
  drawn_each (hand ∷ hands) (end ∷ ends) (log ∷ logs) worked own = (
    if_ok (λ (rows : List LogRow). HasDrawn (length packets) end.seat.deeds (numbers_of rows)) end.log log own.0 worked.0.drawn,
    drawn_each hands ends logs worked.1 own.1,
  )

  rising_each : (hands : List Hand) (ends : List Ended) (logs : List (List LogRow)) → AllZip (HasWorked store hook packets) hands ends → AllZip (λ (end : Ended) (log : List LogRow). end.log ≡ Ok log) ends logs → AllByRecursion IsRising logs
  rising_each [] [] [] worked own = tt
  rising_each [] [] (log ∷ logs) worked own = absurd own
  rising_each [] (end ∷ ends) logs worked own = absurd worked
  rising_each (hand ∷ hands) [] logs worked own = absurd worked
  rising_each (hand ∷ hands) (end ∷ ends) [] worked own = absurd own
  rising_each (hand ∷ hands) (end ∷ ends) (log ∷ logs) worked own =
      let it = if_ok (λ (rows : List LogRow). IsWorked hand.worker.number (arrivals_of hook packets) hand.worker.reader end.worker.reader rows) end.log log own.0 worked.0.worked in (
        (λ at row is early other less there. ((it.are_rows at row is).behind early other less there).0),
        rising_each hands ends logs worked.1 own.1,
      )

  own_each : (hands : List Hand) (ends : List Ended) → AllZip (HasWorked store hook packets) hands ends → AllByRecursion (λ (w : Worker). IsSeatAt store.table store.shape w.reader.place) (map (λ (end : Ended). end.worker) ends)
  own_each [] [] worked = tt
  own_each [] (end ∷ ends) worked = absurd worked
  own_each (hand ∷ hands) [] worked = absurd worked
  own_each (hand ∷ hands) (end ∷ ends) worked = (worked.0.own, own_each hands ends worked.1)

  module _ (hands : List Hand) (back : Back) (it : IsBackFrom store hook packets hands back) where
    pub readers_own : All (λ (w : Worker). IsSeatAt store.table store.shape w.reader.place) back.workers.items
    readers_own = subst (All (λ (w : Worker). IsSeatAt store.table store.shape w.reader.place)) (sym it.workers)
        (All-from_recursion (λ (w : Worker). IsSeatAt store.table store.shape w.reader.place) (map (λ (end : Ended). end.worker) it.ends) (own_each hands it.ends it.worked))

    pub logs_long : length back.logs.items ≡ length hands
    logs_long = zip_long (λ (end : Ended) (log : List LogRow). end.log ≡ Ok log) it.ends back.logs.items it.logs ∙ zip_long (HasWorked store hook packets) hands it.ends it.worked

    pub all_seats : (making : TableId) (count : ℕ) → AreClaimed store making count hands → AreAllSeats making back.seats.items
    all_seats making count claimed =
        let seats = seats_each making (length hands) hands it.ends claimed.seats it.worked in
        let long : length (map (λ (end : Ended). end.seat) it.ends) ≡ length hands = length-map it.ends (λ (end : Ended). end.seat) ∙ zip_long (HasWorked store hook packets) hands it.ends it.worked in
        subst (AreAllSeats making) (sym it.seats)
        (subst (λ (n : ℕ). AllByRecursion (IsOneSeat making n) (map (λ (end : Ended). end.seat) it.ends)) (sym long) seats)

    pub all_drawn : AreDrawn (length packets) back.seats.items back.logs.items
    all_drawn = subst (λ (seats : List (Holding ℕ)). AreDrawn (length packets) seats back.logs.items) (sym it.seats) (drawn_each hands it.ends back.logs.items it.worked it.logs)

    pub all_rising : AllByRecursion IsRising back.logs.items
    all_rising = rising_each hands it.ends back.logs.items it.worked it.logs

    -- ---- the worker at a place
    pub worked_at : (journal : List Edit) (workers : List Worker) → AllZip IsSameWorker back.workers.items workers → All (λ (w : Worker). IsSeatAt store.table store.shape w.reader.place) workers
        → All (λ (w : Worker). IsPrefix (journal_of w.reader) journal) back.workers.items
        → (at : ℕ) → at < length hands → IsWorkedAt store hook packets journal (map (λ (hand : Hand). hand.worker) hands) workers back.logs.items at
    worked_at journal workers same seats met at within =
        let there = zip_at (HasWorked store hook packets) hands it.ends at it.worked within in
        let hand = there.left in
        let end = there.right in
        let ends_long = zip_long (HasWorked store hook packets) hands it.ends it.worked in
        let log = zip_at (λ (e : Ended) (l : List LogRow). e.log ≡ Ok l) it.ends back.logs.items at it.logs (omega (arith, within, ends_long)) in
        let log_end : log.left ≡ end = cc (log.left_there, there.right_there) in
        let old_long : length back.workers.items ≡ length it.ends = ap length it.workers ∙ length-map it.ends (λ (e : Ended). e.worker) in
        let now = zip_at IsSameWorker back.workers.items workers at same (omega (arith, within, ends_long, old_long)) in
        let old_there : slice_get back.workers.items at ≡ Some end.worker =
        subst (λ (ws : List Worker). slice_get ws at ≡ Some end.worker) (sym it.workers) (there_map (λ (e : Ended). e.worker) it.ends at end there.right_there) in
        let old_is : now.left ≡ end.worker = cc (now.left_there, old_there) in
        let kept : IsSameWorker end.worker now.right = subst (λ (w : Worker). IsSameWorker w now.right) old_is now.holds in
        let own = if_ok (λ (rows : List LogRow). IsWorked hand.worker.number (arrivals_of hook packets) hand.worker.reader end.worker.reader rows) end.log log.right
        (subst (λ (e : Ended). e.log ≡ Ok log.right) log_end log.holds) there.holds.worked in
        record {
          worker = hand.worker;
          now = now.right;
          rows = log.right;
          was_there = there_map (λ (h : Hand). h.worker) hands at hand there.left_there;
          is_there = now.right_there;
          log = log.right_there;
          number = same_number end.worker now.right kept ∙ there.holds.number;
          own = all_at (λ (w : Worker). IsSeatAt store.table store.shape w.reader.place) workers at now.right seats now.right_there;
          outside = same_outside end.worker now.right kept there.holds.outside;
          worked = same_worked end.worker now.right kept hand.worker.number (arrivals_of hook packets) hand.worker.reader log.right own;
          met = subst (λ (j : List Edit). IsPrefix j journal) (sym (same_journal end.worker now.right kept)) (all_at (λ (w : Worker). IsPrefix (journal_of w.reader) journal) back.workers.items at end.worker met old_there);
        }

    -- ---- all of them
    pub have_walked : (journal : List Edit) (workers : List Worker) (outcomes : List Outcome) → AllZip IsSameWorker back.workers.items workers → All (λ (w : Worker). IsSeatAt store.table store.shape w.reader.place) workers
        → All (λ (w : Worker). IsPrefix (journal_of w.reader) journal) back.workers.items → HasEachBelow (length packets) (flat_map numbers_of back.logs.items) → ArePlaced back.logs.items outcomes → length outcomes ≡ length packets
        → (walked : HaveWalked store hook packets journal (map (λ (hand : Hand). hand.worker) hands) workers outcomes) × (walked.logs ≡ back.logs.items)
    have_walked journal workers outcomes same seats met once placed many =
        let long : length (map (λ (hand : Hand). hand.worker) hands) ≡ length hands = length-map hands (λ (hand : Hand). hand.worker) in
        let ends_long = zip_long (HasWorked store hook packets) hands it.ends it.worked in (
          record {
            logs = back.logs.items;
            many_logs = logs_long ∙ sym long;
            many_last = zip_long IsSameWorker back.workers.items workers same ∙ ap length it.workers ∙ length-map it.ends (λ (e : Ended). e.worker) ∙ ends_long ∙ sym long;
            each = λ at within. worked_at journal workers same seats met at (omega (arith, within, long));
            each_once = once;
            placed = placed;
            many = many;
          },
          refl,
        )

-- ---- as `settle` asks for them
pub are_back : (store : StoreName) (hook : Hook) (packets : List Packet) (journal : List Edit) (first last : List Worker) (outcomes : List Outcome) (before : ℕ) (earlier : List Outcome) (it : HaveWalked store hook packets journal first last outcomes)
    → ((at : ℕ) (worker : Worker) → slice_get first at ≡ Some worker → worker.number ≡ at + 1) → HaveSeen before earlier first → AreBack journal before earlier (arrivals_of hook packets) it.logs
are_back store hook packets journal first last outcomes before earlier it numbered seen index rows is =
    let long = it.many_logs in
    let within = slice_get_within it.logs index rows is in
    let own = it.each index (omega (arith, within, long)) in
    let rows_are : own.rows ≡ rows = cc (own.log, is) in
    let number = numbered index own.worker own.was_there in
    let before_it = seen index own.worker own.was_there in
    record {
      first = own.worker;
      last = own.now;
      worked = subst (λ (rs : List LogRow). IsWorked (index + 1) (arrivals_of hook packets) own.worker.reader own.now.reader rs) rows_are
          (subst (λ (n : ℕ). IsWorked n (arrivals_of hook packets) own.worker.reader own.now.reader own.rows) number own.worked);
      met = own.met;
      late = before_it.0;
      seen = λ place outcome there by. before_it.1 place outcome there (by ∙ sym number);
    }
