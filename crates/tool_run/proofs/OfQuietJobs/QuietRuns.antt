-- A job that applies a batch and then replays a capture comes to what `walk` comes to.
use Rattle.std.proofs.Common.{◌≡◌, ◌∙◌, ℕ, ◌+◌, ◌-◌, ◌≤◌, List, [], ◌∷◌, ◌++◌, length, map, take, Some, refl, sym, ap, ap₂, subst, append-nil, arith}
use Rattle.std.specs.Prelude.{max, is_some, codes}
use Rattle.std.specs.List.{All, slice_get}
use Rattle.std.specs.Option.{option_map}
use Rattle.std.proofs.lemmas.List.{take_all, length-map}
use Rattle.std.proofs.lemmas.Option.{slice_get-map, slice_get_within, get_or_from_slice_get}
use Rattle.tc_base.specs.declared.hook.Hook.{Hook}
use Rattle.pcap_io.specs.declared.capture.Packet.{Packet}
use Rattle.pcap_io.specs.declared.capture.Capture.{Capture}
use Rattle.filter_state.specs.declared.edit.Edit.{Edit}
use Rattle.filter_state.specs.States.{State, no_state}
use Rattle.filter_state.specs.Sound.{Each}
use Rattle.filter_state.specs.Journals.{state_from, state_at, IsLawful}
use Rattle.walk_rules.specs.Plain.{plain_walk}
use Rattle.walk_texts.specs.declared.summary.Summary.{Summary}
use Rattle.batch_run.specs.declared.made_action.MadeAction.{MadeAction}
use Rattle.batch_run.specs.Commands.{Command}
use Rattle.batch_run.specs.Runs.{SoFar, Ran, IsRun}
use Rattle.batch_run.proofs.Serials.{all_in_range}
use Rattle.capture_walk.specs.Captures.{outcomes_of, end_of, executed_in, counts_of}
use Rattle.walk_texts.specs.Texts.{joined, summary_line}
use Rattle.batch_walk.specs.Texts.{counter_lines as walk_lines}
use Rattle.batch_walk.specs.Walked.{passed_count as walks_passed, refused_count, summary_of as walk_summary, closing_text}
use Rattle.job_lines.specs.Jobs.{IsJob}
use Rattle.run_report.specs.declared.events.Event.{Event}
use Rattle.run_report.specs.declared.outcomes.Outcome.{Outcome}
use Rattle.run_report.specs.declared.rounds.RoundRecord.{RoundRecord}
use Rattle.run_report.specs.declared.record.RunRecord.{RunRecord}
use Rattle.run_report.specs.Counts.{accepted_count, passed_count, events_in, edits_in, packets_in, passed_in, summary_of}
use Rattle.run_report.specs.Reports.{counter_lines}
use Rattle.lawful_runs.specs.declared.loaded.LoadedJob.{LoadedJob}
use Rattle.lawful_runs.specs.Given.{Arrival, GivenRound, arrivals_at}
use Rattle.lawful_runs.specs.Events.{AreResults}
use Rattle.lawful_runs.specs.Points.{seen_by}
use Rattle.lawful_runs.specs.Outcomes.{IsRecordOf, IsWalked}
use Rattle.lawful_runs.specs.Lawful.{IsRound, AreRounds, IsRunWith, IsLawfulRun, made_by, counter_of, executed_in as recorded_in, outcomes_in}
use Rattle.lawful_runs.proofs.Places.{each_from}
use Rattle.lawful_runs.proofs.Results.{results_lawful}
use Rattle.lawful_runs.proofs.Walks.{point_within, plain_at}
use Rattle.lawful_runs.proofs.GivenCommands.{AreGiven, all_given}
use Rattle.tool_run.specs.OfQuietJobs.Jobs.{unforced, batch_round, capture_round, IsBatchThenCapture}
use Rattle.tool_run.specs.OfQuietJobs.Ends.{closing_of, AreRecordsOf, ComesToWalk}
use Rattle.tool_run.proofs.OfQuietJobs.Applied.{applied}
use Rattle.tool_run.proofs.OfQuietJobs.Replayed.{pairs_of, records_from, same_passed, same_executed}
use Rattle.tool_run.proofs.OfQuietJobs.Counted.{same_length, same_count, same_lines}

-- ---- a round without batches has no events, and one without packets no outcomes
no_events : (s : State) (events : List Event) (edits : List Edit) → AreResults [] s events edits → events ≡ []
no_events s [] edits results = refl
no_events s (event ∷ events) edits results = absurd (cc results.4.given.1)

no_edits : (s : State) (events : List Event) (edits : List Edit) → events ≡ [] → AreResults [] s events edits → edits ≡ []
no_edits s [] edits none results = results
no_edits s (event ∷ events) edits none results = absurd (cc none)

none_of : {X : Type 0} (xs : List X) → length xs ≡ 0 → xs ≡ []
none_of [] long = refl
none_of (x ∷ xs) long = absurd (omega (arith, long))

-- ---- the packets of a round that accepts no edit
module _ (workers : ℕ) (hook : Hook) (capture : Capture) (edits others : List Edit) (earlier : List Outcome) (it : RoundRecord) (lawful : IsLawful edits) (none : others ≡ [])
    (round : IsRound workers (capture_round hook capture) edits earlier it others) where
  whole : edits ++ others ≡ edits
  whole = ap (λ (es : List Edit). edits ++ es) none ∙ append-nil edits

  -- all its points are one: behind all edits
  plain_there : (place : ℕ) (packet : Packet) (outcome : Outcome) → slice_get capture.packets place ≡ Some packet → slice_get it.outcomes place ≡ Some outcome
      → IsRecordOf outcome (plain_walk (state_from no_state edits) hook packet.bytes)
  plain_there place packet outcome came is =
      let arrival : Arrival = record { hook = hook; packet = packet } in
      let arrive : Packet → Arrival = λ p. record { hook = hook; packet = p } in
      let there : slice_get (arrivals_at hook capture) place ≡ Some arrival = slice_get-map arrive capture.packets place ∙ ap (option_map arrive) came in
      let journal : List Edit = edits ++ others in
      let floor : ℕ = max (length edits) (seen_by outcome.worker (earlier ++ take place it.outcomes)) in
      let walked : IsWalked journal floor (length journal) arrival outcome = round.walked.walked place arrival outcome there is in
      let long : length journal ≡ length edits = ap length whole in
      let plain : IsRecordOf outcome (plain_walk (state_at (length journal) journal) hook packet.bytes) = plain_at journal floor (length journal) (length journal) arrival outcome
      (subst IsLawful (sym whole) lawful) walked
      (λ visit point at. let bounds = point_within journal floor (length journal) arrival outcome walked visit point at in omega (arith, bounds.0, bounds.1, long)) in
      let all : take (length journal) journal ≡ journal = take_all (length journal) journal (omega arith) in
      subst (λ (es : List Edit). IsRecordOf outcome (plain_walk (state_from no_state es) hook packet.bytes)) (all ∙ whole) plain

  replayed : AreRecordsOf it.outcomes (outcomes_of (state_from no_state edits) hook capture.packets)
  replayed = records_from (state_from no_state edits) hook capture.packets it.outcomes
      (round.walked.one_each ∙ length-map capture.packets (λ (p : Packet). record { hook = hook; packet = p })) plain_there

-- ---- what the two rounds come to
record IsQuiet (commands : List Command) (hook : Hook) (capture : Capture) (its : List RoundRecord) (journal : List Edit) : Type 0 where
  ran : Ran
  runs : IsRun no_state 0 commands ran
  made : ran.made ≡ made_by no_state journal
  first : RoundRecord
  second : RoundRecord
  rounds : its ≡ first ∷ second ∷ []
  no_outcomes : first.outcomes ≡ []
  none_after : second.events ≡ []
  accepted : ran.accepted ≡ accepted_count first.events
  events : length first.events ≡ accepted_count first.events + refused_count (is_some ran.stop)
  walked : AreRecordsOf second.outcomes (outcomes_of ran.state hook capture.packets)
  few : length first.events ≤ length commands
  one_each : length second.outcomes ≡ length capture.packets

quiet_rounds : (workers control : ℕ) (commands : List Command) (hook : Hook) (capture : Capture) (its : List RoundRecord) (journal : List Edit) → AreGiven (unforced control commands ∷ [])
    → AreRounds workers (batch_round control commands ∷ capture_round hook capture ∷ []) [] [] its journal → IsQuiet commands hook capture its journal
quiet_rounds workers control commands hook capture [] journal given are = absurd are
quiet_rounds workers control commands hook capture (first ∷ []) journal given (edits, one, more) = absurd more
quiet_rounds workers control commands hook capture (first ∷ second ∷ third ∷ its) journal given (edits, one, (others, two, more)) = absurd more
quiet_rounds workers control commands hook capture (first ∷ second ∷ []) journal given (edits, one, (others, two, is)) =
    let start : SoFar = record { accepted = 0; made = [] } in
    let run = applied control commands given no_state start first.events edits one.order one.results in
    let lawful : IsLawful edits = results_lawful (unforced control commands ∷ []) no_state first.events edits one.results in
    let quiet : second.events ≡ [] = no_events (state_from no_state edits) second.events others two.results in
    let none : others ≡ [] = no_edits (state_from no_state edits) second.events others quiet two.results in
    let same : edits ≡ journal = sym (is ∙ ap (λ (es : List Edit). edits ++ es) none ∙ append-nil edits) in
    let count = run.accepted_are in
    record {
      ran = run.ran;
      runs = run.is;
      made = run.made ∙ ap (made_by no_state) same;
      first = first;
      second = second;
      rounds = refl;
      no_outcomes = none_of first.outcomes one.walked.one_each;
      none_after = quiet;
      accepted = omega (arith, count);
      events = run.events_are;
      walked = subst (λ (s : State). AreRecordsOf second.outcomes (outcomes_of s hook capture.packets)) (sym run.state)
          (replayed workers hook capture edits others first.outcomes second lawful none two);
      few = run.few;
      one_each = two.walked.one_each ∙ length-map capture.packets (λ (p : Packet). record { hook = hook; packet = p });
    }

-- ---- what is counted
its_outcomes : (commands : List Command) (hook : Hook) (capture : Capture) (its : List RoundRecord) (journal : List Edit) (is : IsQuiet commands hook capture its journal)
    → outcomes_in its ≡ is.second.outcomes
its_outcomes commands hook capture its journal is =
    ap outcomes_in is.rounds ∙ ap (λ (os : List Outcome). os ++ (is.second.outcomes ++ [])) is.no_outcomes ∙ append-nil is.second.outcomes

its_summary : (commands : List Command) (hook : Hook) (capture : Capture) (its : List RoundRecord) (journal : List Edit) (is : IsQuiet commands hook capture its journal)
    → summary_of its ≡ walk_summary is.ran.accepted (is_some is.ran.stop) (map end_of (outcomes_of is.ran.state hook capture.packets))
its_summary commands hook capture its journal is =
    let ends = map end_of (outcomes_of is.ran.state hook capture.packets) in
    let summary : ℕ → ℕ → ℕ → ℕ → Summary = λ edits refused passed dropped. record { edits = edits; refused = refused; passed = passed; dropped = dropped } in
    let none_accepted : accepted_count is.second.events ≡ 0 = ap accepted_count is.none_after in
    let none_more : length is.second.events ≡ 0 = ap length is.none_after in
    let none_passed : passed_count is.first.outcomes ≡ 0 = ap passed_count is.no_outcomes in
    let none_came : length is.first.outcomes ≡ 0 = ap length is.no_outcomes in
    let edits : edits_in its ≡ 0 + accepted_count is.first.events + accepted_count is.second.events = ap edits_in is.rounds in
    let events : events_in its ≡ 0 + length is.first.events + length is.second.events = ap events_in is.rounds in
    let passed : passed_in its ≡ 0 + passed_count is.first.outcomes + passed_count is.second.outcomes = ap passed_in is.rounds in
    let packets : packets_in its ≡ 0 + length is.first.outcomes + length is.second.outcomes = ap packets_in is.rounds in
    let accepted = is.accepted in
    let whole = is.events in
    let same_passed = same_count is.second.outcomes (outcomes_of is.ran.state hook capture.packets) is.walked in
    let same_long = same_length is.second.outcomes (outcomes_of is.ran.state hook capture.packets) is.walked in
    let first : edits_in its ≡ is.ran.accepted = omega (arith, edits, none_accepted, accepted) in
    let second : events_in its - edits_in its ≡ refused_count (is_some is.ran.stop) = omega (arith, edits, events, none_accepted, none_more, whole) in
    let third : passed_in its ≡ walks_passed ends = omega (arith, passed, none_passed, same_passed) in
    let fourth : packets_in its - passed_in its ≡ length ends - walks_passed ends = omega (arith, packets, none_came, same_long, third) in
    ap₂ (λ (e r : ℕ). summary e r (passed_in its) (packets_in its - passed_in its)) first second
    ∙ ap₂ (λ (p d : ℕ). summary is.ran.accepted (refused_count (is_some is.ran.stop)) p d) third fourth

each_of_all : (made : List MadeAction) (P : MadeAction → Type 0) → All P made → Each P made
each_of_all made P all = each_from P made (λ place action is. subst P (get_or_from_slice_get made place action action is) (all place action (slice_get_within made place action is)))

its_counters : (commands : List Command) (hook : Hook) (capture : Capture) (its : List RoundRecord) (journal : List Edit) (is : IsQuiet commands hook capture its journal)
    → counter_lines (map (counter_of (recorded_in (outcomes_in its))) (made_by no_state journal))
    ≡ walk_lines is.ran.made (counts_of is.ran.state.actions_made (executed_in (outcomes_of is.ran.state hook capture.packets)))
its_counters commands hook capture its journal is =
    let walks = outcomes_of is.ran.state hook capture.packets in
    let ran : recorded_in (outcomes_in its) ≡ pairs_of (executed_in walks) = ap recorded_in (its_outcomes commands hook capture its journal is) ∙ same_executed is.second.outcomes walks is.walked in
    ap₂ (λ (executed : List (ℕ × ℕ)) (made : List MadeAction). counter_lines (map (counter_of executed) made)) ran (sym is.made)
    ∙ same_lines is.ran.state.actions_made (executed_in walks) is.ran.made
    (each_of_all is.ran.made (λ (action : MadeAction). (1 ≤ action.serial) × (action.serial ≤ is.ran.state.actions_made)) (all_in_range 0 commands is.ran is.runs))

-- the lines behind those of the packets
its_closing : (commands : List Command) (hook : Hook) (capture : Capture) (run : RunRecord) (journal : List Edit) (is : IsQuiet commands hook capture run.rounds journal)
    → run.counters ≡ map (counter_of (recorded_in (outcomes_in run.rounds))) (made_by no_state journal) → closing_of run ≡ closing_text is.ran hook capture.packets
unfolding closing_text
its_closing commands hook capture run journal is counters =
    let lines : List (List ℕ) → Summary → List ℕ = λ counted summary. joined (counted ++ (summary_line summary ∷ codes "end\n" ∷ [])) in
    ap₂ lines (ap counter_lines counters ∙ its_counters commands hook capture run.rounds journal is) (its_summary commands hook capture run.rounds journal is)

-- ---- the run
comes_to_walk : (loaded : LoadedJob) (run : RunRecord) (commands : List Command) (hook : Hook) (capture : Capture) (journal : List Edit) → IsRunWith loaded run journal
    → IsQuiet commands hook capture run.rounds journal → (ran : Ran) × IsRun no_state 0 commands ran × ComesToWalk ran hook capture run
comes_to_walk loaded run commands hook capture journal are is = (
  is.ran,
  is.runs,
  record {
    applied = is.first;
    replayed = is.second;
    rounds = is.rounds;
    walked = is.walked;
    passed = same_passed is.ran.state hook capture.packets is.second.outcomes is.walked;
    closing = its_closing commands hook capture run journal is are.counters;
    refused = ap (λ (s : Summary). s.refused) (its_summary commands hook capture run.rounds journal is);
  },
)

module _ (loaded : LoadedJob) (run : RunRecord) (control : ℕ) (commands : List Command) (hook : Hook) (capture : Capture) (job : IsJob loaded.job) (shape : IsBatchThenCapture loaded control commands hook capture) where
  its_quiet : (journal : List Edit) → IsRunWith loaded run journal → IsQuiet commands hook capture run.rounds journal
  its_quiet journal are =
      let given : Each (λ (g : GivenRound). AreGiven g.batches) (batch_round control commands ∷ capture_round hook capture ∷ []) =
      subst (Each (λ (g : GivenRound). AreGiven g.batches)) shape (all_given loaded job) in
      quiet_rounds loaded.job.workers control commands hook capture run.rounds journal given.0
      (subst (λ (rounds : List GivenRound). AreRounds loaded.job.workers rounds [] [] run.rounds journal) shape are.rounds)

  -- EACH LAWFUL RUN OF SUCH A JOB
  pub quiet_runs : IsLawfulRun loaded run → (ran : Ran) × IsRun no_state 0 commands ran × ComesToWalk ran hook capture run
  quiet_runs (journal, are) = comes_to_walk loaded run commands hook capture journal are (its_quiet journal are)

  -- has no more events than commands, and an outcome for each packet
  pub few_in_run : IsLawfulRun loaded run → (events_in run.rounds ≤ length commands) × (packets_in run.rounds ≡ length capture.packets)
  few_in_run (journal, are) =
      let is = its_quiet journal are in
      let none_more : length is.second.events ≡ 0 = ap length is.none_after in
      let none_came : length is.first.outcomes ≡ 0 = ap length is.no_outcomes in
      let events : events_in run.rounds ≡ 0 + length is.first.events + length is.second.events = ap events_in is.rounds in
      let packets : packets_in run.rounds ≡ 0 + length is.first.outcomes + length is.second.outcomes = ap packets_in is.rounds in
      let few = is.few in
      let one_each = is.one_each in
      (omega (arith, none_more, events, few), omega (arith, none_came, packets, one_each))
