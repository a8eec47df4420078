-- The record of a round that is over.
use Rattle.std.proofs.Common.{◌≡◌, ◌∙◌, ℕ, ◌+◌, ◌*◌, ◌^◌, ◌<◌, ◌≤◌, List, ◌++◌, length, map, Some, sym, ap, subst, arith}
use Rattle.std.specs.Prelude.{All, Option}
use Rattle.std.specs.List.{AllZip, flat_map, slice_get}
use Rattle.std.proofs.lemmas.Option.{slice_get_within}
use mathlib.Core.List.{IsPrefix}
use Rattle.std.proofs.lemmas.List.{length-map}
use Rattle.std.proofs.lemmas.Nat.{mul-le}
use Rattle.tc_base.specs.declared.hook.Hook.{Hook}
use Rattle.tc_base.specs.declared.ear.EventName.{EventName}
use Rattle.pcap_io.specs.declared.capture.Packet.{Packet}
use Rattle.store_history.specs.History.{edits_of}
use Rattle.filter_state.specs.declared.edit.Edit.{Edit}
use Rattle.run_report.specs.declared.outcomes.Outcome.{Outcome}
use Rattle.run_report.specs.declared.rounds.RoundRecord.{RoundRecord}
use Rattle.lawful_runs.specs.Given.{Arrival, GivenBatch}
use Rattle.lawful_runs.specs.Events.{AreInOrder, AreResults}
use Rattle.lawful_runs.specs.Outcomes.{AreWalked}
use Rattle.lawful_runs.specs.OfLogs.Logs.{LogRow, ArePlaced}
use Rattle.step_counts.specs.Claims.{HasEachBelow}
use Rattle.pin_store.specs.Calls.{IsSeatAt}
use Rattle.worker_rounds.specs.OfLogs.Rows.{numbers_of}
use Rattle.worker_rounds.specs.OfWalks.Walked.{journal_of}
use Rattle.filter_state.specs.States.{no_state}
use Rattle.filter_state.specs.Journals.{state_from}
use Rattle.round_terms.specs.LoadedJob.{LoadedJob}
use Rattle.round_terms.specs.Files.{files_of}
use Rattle.round_terms.specs.Given.{IsLoaded}
use Rattle.round_terms.specs.Hearing.{EarView, HasHeard}
use Rattle.round_terms.specs.Underway.{made_behind}
use Rattle.round_terms.proofs.JobFiles.{are_files, given_is}
use Rattle.worker_rounds.specs.declared.worker.Worker.{Worker}
use Rattle.worker_rounds.specs.Worked.{arrivals_of}
use Rattle.job_rounds.specs.OfRoundState.Rounds.{StoreName, IsDeskOf, IsRoundOf, Underway}
use Rattle.job_rounds.specs.OfRoundState.Views.{DeskView, journal}
use Rattle.job_rounds.specs.declared.one_round.round_end.RoundEnd.{RoundEnd}
use Rattle.job_rounds.specs.declared.one_round.hands.Hand.{Hand}
use Rattle.job_rounds.specs.declared.one_round.joining.Back.{Back}
use Rattle.job_rounds.specs.OfOneRound.OfOutcomes.Met.{AreBack, IsSameDesk, IsSameWorker}
use Rattle.job_rounds.specs.OfOneRound.Hands.{IsBackFrom}
use Rattle.job_rounds.specs.OfOneRound.Rounds.{AreEvents, AreThrough}
use Rattle.job_rounds.specs.OfOneRound.Ends.{HaveWalked, IsLawfulRound, IsRoundEnd}
use Rattle.job_rounds.proofs.OfOneRound.Through.{events_over}
use Rattle.job_rounds.proofs.OfOneRound.Zips.{there_within}
use Rattle.job_rounds.proofs.OfOneRound.Claimed.{there_map}
use Rattle.job_rounds.proofs.OfOneRound.Walks.{are_back, have_walked}

-- eight workers draw few numbers
pub few_draws : (workers count : ℕ) → workers ≤ 8 → count ≤ 1048576 → workers * (count + 1) < 2 ^ 31
few_draws workers count few most = let le = mul-le workers (count + 1) 8 1048577 few (omega (arith, most)) in omega (arith, le)

-- what `settle` says of any workers that had seen what they have to have seen
abbrev pub Settles : List (List LogRow) → ℕ → List Outcome → Type 0
Settles logs count outcomes = (journal : List Edit) (before : ℕ) (earlier : List Outcome) (arrivals : List Arrival) → AreBack journal before earlier arrivals logs → length arrivals ≡ count
    → AreWalked (length logs) journal before (length journal) earlier arrivals outcomes

pub lawful_round : (store : StoreName) (job : LoadedJob) (number : ℕ) (hook : Hook) (packets : List Packet) (before journal : List Edit) (first last : List Worker) (it : RoundRecord)
    → AreEvents (files_of job number) before journal it.events → (walked : HaveWalked store hook packets journal first last it.outcomes)
    → ((at : ℕ) (worker : Worker) → slice_get first at ≡ Some worker → worker.number ≡ at + 1) → Settles walked.logs (length packets) it.outcomes
    → IsLawfulRound job number (arrivals_of hook packets) before journal first it
lawful_round store job number hook packets before journal first last it events walked numbered settles = λ given earlier is arrivals seen.
    let arrivals_of_them = arrivals_of hook packets in
    let back = are_back store hook packets journal first last it.outcomes (length before) earlier walked numbered seen in
    let done = settles journal (length before) earlier arrivals_of_them back (length-map packets (λ (packet : Packet). record { hook = hook; packet = packet })) in
    let over_logs : AreWalked (length first) journal (length before) (length journal) earlier arrivals_of_them it.outcomes =
    subst (λ (n : ℕ). AreWalked n journal (length before) (length journal) earlier arrivals_of_them it.outcomes) walked.many_logs done in
    let over_journal : AreWalked (length first) (before ++ events.edits) (length before) (length (before ++ events.edits)) earlier arrivals_of_them it.outcomes =
    subst (λ (j : List Edit). AreWalked (length first) j (length before) (length j) earlier arrivals_of_them it.outcomes) events.journal_is over_logs in
    let batches = given_is job number given is in (
      events.edits,
      events.journal_is,
      record {
        order = subst (λ (bs : List GivenBatch). AreInOrder bs it.events) (sym batches) events.order;
        results = subst (λ (bs : List GivenBatch). AreResults bs (state_from no_state before) it.events events.edits) (sym batches) events.results;
        walked = subst (λ (ars : List Arrival). AreWalked (length first) (before ++ events.edits) (length before) (length (before ++ events.edits)) earlier ars it.outcomes) (sym arrivals) over_journal;
      },
    )

numbered_map : (hands : List Hand) → ((at : ℕ) (hand : Hand) → slice_get hands at ≡ Some hand → hand.worker.number ≡ at + 1) → (at : ℕ) (worker : Worker) → slice_get (map (λ (hand : Hand). hand.worker) hands) at ≡ Some worker → worker.number ≡ at + 1
numbered_map hands numbered at worker is =
    let within = slice_get_within (map (λ (hand : Hand). hand.worker) hands) at worker is in
    let long = length-map hands (λ (hand : Hand). hand.worker) in
    let there = there_within hands at (omega (arith, within, long)) in
    let same : there.0.worker ≡ worker = cc (there_map (λ (hand : Hand). hand.worker) hands at there.0 there.1, is) in
    sym (ap (λ (w : Worker). w.number) same) ∙ numbered at there.0 there.1

-- ---- all that a round leaves
module _ {E : Type 0} (name : E → ℕ) (heard : E → Option (List EventName)) (spare : E → ℕ) (store : StoreName) (job : LoadedJob) (number : ℕ) (before : List Edit) (ear : EarView) where
  -- the state of a round that was closed, and the round's end, whose desk has met readers since
  pub record IsClosed (state : Underway E) (closed : DeskView) (end : RoundEnd E) : Type 0 where
    pub is : IsRoundOf name heard spare store job number before ear state
    pub loaded : IsLoaded job
    pub through : AreThrough (files_of job number) job.job.controls state.events
    pub desk_is : closed ≡ state.desk
    pub met : IsSameDesk closed end.desk
    pub own : IsDeskOf store end.desk
    pub events_are : end.round.events ≡ state.events
    pub ear_is : end.ear ≡ state.ear
    pub made_is : end.made.items ≡ state.made

  pub round_ended : (hook : Hook) (packets : List Packet) (state : Underway E) (closed : DeskView) (end : RoundEnd E) (first : List Worker) → IsClosed state closed end → (walked : HaveWalked store hook packets (journal end.desk) first end.workers.items end.round.outcomes)
      → ((at : ℕ) (worker : Worker) → slice_get first at ≡ Some worker → worker.number ≡ at + 1) → Settles walked.logs (length packets) end.round.outcomes → IsRoundEnd name heard spare store job number hook packets before ear first end
  round_ended hook packets state closed end first it walked numbered settles =
      let stays : journal end.desk ≡ journal state.desk = ap edits_of it.met.seen ∙ ap journal it.desk_is in
      let events = events_over (files_of job number) job.job.controls before (journal state.desk) (journal end.desk) state.events end.round.events state.places it.is.under (are_files job number it.loaded) it.through it.events_are stays in
      record {
        desk = it.own;
        events = events;
        made = it.made_is ∙ it.is.made ∙ ap (made_behind before) (sym stays);
        hears = subst (HasHeard name heard spare ear end.ear number (length before)) (sym it.events_are) (subst (λ (e : E). HasHeard name heard spare ear e number (length before) state.events) (sym it.ear_is) it.is.hears);
        walked = walked;
        lawful = lawful_round store job number hook packets before (journal end.desk) first end.workers.items end.round events walked numbered settles;
      }

  pub recorded : (hook : Hook) (packets : List Packet) (hands : List Hand) (back : Back) (state : Underway E) (closed : DeskView) (end : RoundEnd E) (seen workers : List Worker) (count : ℕ) → IsClosed state closed end
      → IsBackFrom store hook packets hands back → ((at : ℕ) (hand : Hand) → slice_get hands at ≡ Some hand → hand.worker.number ≡ at + 1) → seen ≡ back.workers.items → end.workers.items ≡ workers
      → AllZip IsSameWorker seen workers → All (λ (w : Worker). IsSeatAt store.table store.shape w.reader.place) workers → All (λ (w : Worker). IsPrefix (journal_of w.reader) (journal closed)) seen
      → count ≡ length packets → HasEachBelow count (flat_map numbers_of back.logs.items) → ArePlaced back.logs.items end.round.outcomes → length end.round.outcomes ≡ count → Settles back.logs.items count end.round.outcomes
      → IsRoundEnd name heard spare store job number hook packets before ear (map (λ (hand : Hand). hand.worker) hands) end
  recorded hook packets hands back state closed end seen workers count it is_back numbered seen_is workers_are same own met count_is once placed many settles =
      let same_now = subst (AllZip IsSameWorker back.workers.items) (sym workers_are) (subst (λ (ws : List Worker). AllZip IsSameWorker ws workers) seen_is same) in
      let own_now = subst (All (λ (w : Worker). IsSeatAt store.table store.shape w.reader.place)) (sym workers_are) own in
      let met_now = subst (λ (j : List Edit). All (λ (w : Worker). IsPrefix (journal_of w.reader) j) back.workers.items) (sym (ap edits_of it.met.seen)) (subst (All (λ (w : Worker). IsPrefix (journal_of w.reader) (journal closed))) seen_is met) in
      let walked = have_walked store hook packets hands back is_back (journal end.desk) end.workers.items end.round.outcomes same_now own_now met_now (subst (λ (n : ℕ). HasEachBelow n (flat_map numbers_of back.logs.items)) count_is once) placed (many ∙ count_is) in
      let settles_now = subst (λ (n : ℕ). Settles back.logs.items n end.round.outcomes) count_is settles in
      round_ended hook packets state closed end (map (λ (hand : Hand). hand.worker) hands) it walked.0 (numbered_map hands numbered)
      (subst (λ (logs : List (List LogRow)). Settles logs (length packets) end.round.outcomes) (sym walked.1) settles_now)
