-- EVERY PATH CAN BE GONE TO THE END.
use Rattle.std.proofs.Common.{◌≡◌, ◌∙◌, ℕ, ◌+◌, ◌≤◌, List, [], ◌∷◌, ◌++◌, length, refl, sym, ap, subst, append-nil, arith, ◌⊎◌, inl, inr}
use Rattle.std.specs.Prelude.{codes, Option}
use Rattle.std.specs.List.{slice_get}
use Rattle.std.proofs.lemmas.List.{length-append}
use Rattle.filter_state.specs.declared.edit.Edit.{Edit}
use Rattle.filter_state.specs.States.{State, no_state}
use Rattle.filter_state.specs.Sound.{Each}
use Rattle.filter_state.specs.Journals.{state_from, IsLawful}
use Rattle.filter_state.proofs.Pairs.{each_append, each_weaker, each_back}
use Rattle.run_report.specs.declared.events.Event.{Event}
use Rattle.run_report.specs.declared.outcomes.Outcome.{Outcome}
use Rattle.run_report.specs.declared.rounds.RoundRecord.{RoundRecord}
use Rattle.run_report.specs.declared.record.RunRecord.{RunRecord}
use Rattle.run_report.specs.Counts.{accepted_count, edits_in}
use Rattle.run_report.specs.Reports.{numbered_line}
use Rattle.lawful_runs.specs.declared.loaded.LoadedJob.{LoadedJob}
use Rattle.lawful_runs.specs.Given.{GivenRound, IsLoaded, given_rounds}
use Rattle.lawful_runs.specs.Events.{AreInOrder, AreResults}
use Rattle.lawful_runs.specs.Lawful.{IsRound, AreRounds, outcomes_in}
use Rattle.lawful_runs.proofs.Journals.{lawful_append}
use Rattle.lawful_runs.proofs.Events.{state_from-append}
use Rattle.lawful_runs.proofs.Results.{results_lawful}
use Rattle.lawful_runs.proofs.Rounds.{IsUpTo, rounds_lawful, rounds_up_to}
use Rattle.lawful_runs.proofs.WalkedEach.{walked_from}
use Rattle.report_laws.specs.Stands.{Stand, start, opening, inside, closing, run_of, last_lines, settled_at, settled, IsPath}
use Rattle.report_laws.proofs.OfWholePaths.Places.{next_of}
use Rattle.report_laws.proofs.Texts.{lines_after, packets_from, rounds_from}
use Rattle.report_laws.proofs.OfWholePaths.Finishing.{can_end}
use Rattle.report_laws.proofs.OfWholePaths.Fronts.{walks_append, as_many}
use Rattle.report_laws.proofs.Fronts.{begun_front}
use Rattle.report_laws.proofs.OfWholePaths.Given.{Rises, all_rise}
use Rattle.report_laws.proofs.OfWholePaths.Standing.{all_walks, walks_up_to}
use Rattle.report_laws.proofs.Paths.{path_append, events_path, packets_path, end_path, closing_path, rounds_path}
use Rattle.report_laws.proofs.OfWholePaths.Reached.{HasRounds, IsInside, IsReached, title, no_rounds, rounds_more, path_reached}

-- ---- whole rounds
pub record CanBePlayed (workers : ℕ) (rounds : List GivenRound) (before : List Edit) (earlier : List Outcome) : Type 0 where
  pub its : List RoundRecord
  pub journal : List Edit
  pub are : AreRounds workers rounds before earlier its journal

up_to_more : (before edits : List Edit) (outcomes : List Outcome) → Each (IsUpTo (length before)) outcomes → Each (IsUpTo (length (before ++ edits))) outcomes
up_to_more before edits outcomes each =
    let sum = length-append before edits in
    each_weaker (IsUpTo (length before)) (IsUpTo (length (before ++ edits))) (λ outcome up_to visit point is. let own = up_to visit point is in omega (arith, own, sum)) outcomes each

longer : (before edits : List Edit) → length before ≤ length (before ++ edits)
longer before edits = let sum = length-append before edits in omega (arith, sum)

pub some_rounds : (workers : ℕ) (rounds : List GivenRound) (before : List Edit) (earlier : List Outcome) → 1 ≤ workers → Each Rises rounds → IsLawful before → Each (IsUpTo (length before)) earlier
    → CanBePlayed workers rounds before earlier
some_rounds workers [] before earlier some rise lawful up_to = record { its = []; journal = before; are = refl }
some_rounds workers (round ∷ rounds) before earlier some rise lawful up_to =
    let events = can_end round.batches (state_from no_state before) [] [] rise.0 (λ batch among. tt) refl in
    let edits : List Edit = events.added in
    let kept : IsLawful (before ++ edits) = lawful_append no_state before edits lawful (results_lawful round.batches (state_from no_state before) events.more edits events.results) in
    let walks = all_walks workers (before ++ edits) (length before) (length (before ++ edits)) earlier round.arrivals some kept (longer before edits) (up_to_more before edits earlier up_to) in
    let it : RoundRecord = record { events = events.more; outcomes = walks.outcomes } in
    let one : IsRound workers round before earlier it edits = record {
      order = events.order;
      results = events.results;
      walked = walked_from workers (before ++ edits) (length before) (length (before ++ edits)) earlier round.arrivals walks.outcomes walks.are;
    } in
    let rest = some_rounds workers rounds (before ++ edits) (earlier ++ walks.outcomes) some rise.1 kept
    (each_append (IsUpTo (length (before ++ edits))) earlier walks.outcomes (up_to_more before edits earlier up_to) walks.up_to) in
    record { its = it ∷ rest.its; journal = rest.journal; are = (edits, one, rest.are) }

-- ---- from a stand to the end
pub record CanGoOn (loaded : LoadedJob) (stand : Stand) : Type 0 where
  pub more : List (List ℕ)
  pub run : RunRecord
  pub journal : List Edit
  pub path : IsPath loaded stand more (closing run journal [])

module _ (loaded : LoadedJob) (is : IsLoaded loaded) where
  workers_some : 1 ≤ loaded.job.workers
  workers_some = is.job.0

  rise_behind : (front rest : List GivenRound) → given_rounds loaded ≡ front ++ rest → Each Rises rest
  rise_behind front rest whole = each_back Rises front rest (subst (Each Rises) whole (all_rise loaded is.job))

  from_settled : (its : List RoundRecord) (journal : List Edit) → HasRounds loaded its journal → CanGoOn loaded (settled loaded its journal)
  from_settled its journal has =
      let played = some_rounds loaded.job.workers has.rest journal (outcomes_in its) workers_some (rise_behind has.front has.rest has.whole)
      (rounds_lawful loaded.job.workers has.front [] [] its journal has.are tt) (rounds_up_to loaded.job.workers has.front [] [] its journal has.are) in
      record {
        more = rounds_from (length its) (edits_in its) played.its ++ last_lines (run_of (its ++ played.its) played.journal);
        run = run_of (its ++ played.its) played.journal;
        journal = played.journal;
        path = rounds_path loaded has.front has.rest its played.its journal played.journal has.whole (sym has.count) played.are;
      }

  go_on : (stand between : Stand) (lines : List (List ℕ)) → IsPath loaded stand lines between → CanGoOn loaded between → CanGoOn loaded stand
  go_on stand between lines path rest = record {
    more = lines ++ rest.more;
    run = rest.run;
    journal = rest.journal;
    path = path_append loaded stand between (closing rest.run rest.journal []) lines rest.more path rest.path;
  }

  -- with all events told: the packets that are left, and the end
  from_packets : (its : List RoundRecord) (before : List Edit) (it : RoundRecord) (edits : List Edit) (in_round : IsInside loaded its before it edits) → AreInOrder in_round.round.batches it.events
      → CanGoOn loaded (inside its before it edits)
  from_packets its before it edits in_round order =
      let has = in_round.rounds in
      let round : GivenRound = in_round.round in
      let lawful : IsLawful (before ++ edits) = lawful_append no_state before edits (rounds_lawful loaded.job.workers has.front [] [] its before has.are tt)
      (results_lawful round.batches (state_from no_state before) it.events edits in_round.results) in
      let up_to = walks_up_to loaded.job.workers (before ++ edits) (length before) (length (before ++ edits)) (outcomes_in its) in_round.came it.outcomes in_round.walked in
      let walks = all_walks loaded.job.workers (before ++ edits) (length before) (length (before ++ edits)) (outcomes_in its ++ it.outcomes) in_round.left workers_some lawful (longer before edits)
      (each_append (IsUpTo (length (before ++ edits))) (outcomes_in its) it.outcomes (up_to_more before edits (outcomes_in its) (rounds_up_to loaded.job.workers has.front [] [] its before has.are)) up_to) in
      let count = as_many loaded.job.workers (before ++ edits) (length before) (length (before ++ edits)) (outcomes_in its) in_round.came it.outcomes in_round.walked in
      let whole : RoundRecord = record { events = it.events; outcomes = it.outcomes ++ walks.outcomes } in
      let all = walks_append loaded.job.workers (before ++ edits) (length before) (length (before ++ edits)) (outcomes_in its) in_round.came in_round.left it.outcomes walks.outcomes in_round.walked walks.are in
      let sum = as_many loaded.job.workers (before ++ edits) (length before) (length (before ++ edits)) (outcomes_in its) (in_round.came ++ in_round.left) (it.outcomes ++ walks.outcomes) all in
      let each : length (it.outcomes ++ walks.outcomes) ≡ length round.arrivals = sum ∙ ap length (sym in_round.arrivals) in
      let now : IsInside loaded its before whole edits = record {
        rounds = has;
        round = round;
        given = in_round.given;
        begun = in_round.begun;
        results = in_round.results;
        came = in_round.came ++ in_round.left;
        left = [];
        arrivals = in_round.arrivals ∙ sym (append-nil (in_round.came ++ in_round.left));
        walked = all;
        either = inr order;
      } in
      let lines = packets_from (1 + length it.outcomes) walks.outcomes in
      go_on (inside its before it edits) (inside its before whole edits) lines
      (packets_path loaded round its before in_round.given it.events edits order in_round.came in_round.left it.outcomes walks.outcomes in_round.arrivals count walks.are)
      (go_on (inside its before whole edits) (settled loaded (its ++ (whole ∷ [])) (before ++ edits)) (numbered_line (codes "end round ") (length its + 1) ∷ [])
      (end_path loaded round its before in_round.given whole edits order each)
      (from_settled (its ++ (whole ∷ [])) (before ++ edits) (rounds_more loaded its before whole edits [] [] round in_round.given now (record { all = order; each = each }))))

  from_inside : (its : List RoundRecord) (before : List Edit) (events : List Event) (outcomes : List Outcome) (edits : List Edit)
      → (in_round : IsInside loaded its before (record { events = events; outcomes = outcomes }) edits) → (outcomes ≡ []) ⊎ AreInOrder in_round.round.batches events
      → CanGoOn loaded (inside its before (record { events = events; outcomes = outcomes }) edits)
  from_inside its before events outcomes edits in_round (inr order) = from_packets its before (record { events = events; outcomes = outcomes }) edits in_round order
  from_inside its before events outcomes edits in_round (inl none) =
      let has = in_round.rounds in
      let round : GivenRound = in_round.round in
      let further = next_of has.front has.rest (length its) round has.count (ap (λ (rs : List GivenRound). slice_get rs (length its)) (sym has.whole) ∙ in_round.given) in
      let rise : Each Rises (round ∷ further.0) = subst (Each Rises) further.1 (rise_behind has.front has.rest has.whole) in
      let ends = can_end round.batches (state_from no_state before) events edits rise.0 in_round.begun in_round.results in
      let there : state_from (state_from no_state before) edits ≡ state_from no_state (before ++ edits) = sym (state_from-append no_state before edits) in
      let path = events_path loaded round its before in_round.given events ends.more edits ends.added ends.order (subst (λ (s : State). AreResults round.batches s ends.more ends.added) there ends.behind) in
      let whole : List Event = events ++ ends.more in
      let now : IsInside loaded its before (record { events = whole; outcomes = [] }) (edits ++ ends.added) = record {
        rounds = has;
        round = round;
        given = in_round.given;
        begun = begun_front round.batches whole [] (subst (AreInOrder round.batches) (sym (append-nil whole)) ends.order);
        results = ends.results;
        came = [];
        left = round.arrivals;
        arrivals = refl;
        walked = tt;
        either = inl refl;
      } in
      subst (λ (os : List Outcome). CanGoOn loaded (inside its before (record { events = events; outcomes = os }) edits)) (sym none)
      (go_on (inside its before (record { events = events; outcomes = [] }) edits) (inside its before (record { events = whole; outcomes = [] }) (edits ++ ends.added))
      (lines_after (edits_in its + accepted_count events) ends.more) path
      (from_packets its before (record { events = whole; outcomes = [] }) (edits ++ ends.added) now ends.order))

  pub can_go_on : (stand : Stand) (lines : List (List ℕ)) → IsReached loaded lines stand → CanGoOn loaded stand
  can_go_on start lines reached = go_on start (settled loaded [] []) (title ∷ []) (settled loaded [] [], (refl, refl), refl) (from_settled [] [] (no_rounds loaded))
  can_go_on (opening its journal) lines (has, (round, given), told) =
      subst (CanGoOn loaded) (ap (λ (o : Option GivenRound). settled_at o its journal) given) (from_settled its journal has)
  can_go_on (inside its before it edits) lines reached = from_inside its before it.events it.outcomes edits reached.0 reached.0.either
  can_go_on (closing run journal left) lines reached = record { more = left; run = run; journal = journal; path = closing_path loaded run journal left }

-- COMPLETION
pub completes : (loaded : LoadedJob) (stand : Stand) (lines : List (List ℕ)) → IsLoaded loaded → IsPath loaded start lines stand → CanGoOn loaded stand
completes loaded stand lines is path = can_go_on loaded is stand lines (path_reached loaded start stand [] lines refl path)
