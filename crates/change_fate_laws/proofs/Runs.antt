-- Runs of the job: what one is made of.
use Rattle.std.proofs.Common.{◌≡◌, ◌∙◌, ℕ, ◌≤◌, Bool, false, List, [], ◌∷◌, ◌++◌, length, map, Some, refl, sym, ap, subst, arith}
use Rattle.std.specs.Prelude.{option_map}
use Rattle.std.specs.List.{slice_get}
use Rattle.std.proofs.lemmas.Option.{slice_get-map}
use Rattle.tc_base.specs.declared.hook.Hook.{Hook}
use Rattle.pcap_io.specs.declared.capture.Packet.{Packet}
use Rattle.pcap_io.specs.declared.capture.Capture.{Capture}
use Rattle.filter_state.specs.declared.edit.Edit.{Edit}
use Rattle.filter_state.specs.States.{no_state}
use Rattle.filter_state.specs.Journals.{state_from}
use Rattle.walk_rules.specs.declared.verdict.Verdict.{Verdict}
use Rattle.walk_rules.specs.declared.verdict.Verdict.TheVariants as verdicts
use Rattle.frame_edit.specs.EditedFrame.{EditedFrame}
use Rattle.frame_edit.specs.declared.meta.Meta.{Meta}
use Rattle.tc_words.specs.Lines.{lines_of}
use Rattle.batch_run.specs.Commands.{commands_of}
use Rattle.job_lines.specs.declared.job.Round.{Round}
use Rattle.run_report.specs.declared.outcomes.Outcome.{Outcome}
use Rattle.run_report.specs.declared.rounds.RoundRecord.{RoundRecord}
use Rattle.run_report.specs.declared.record.RunRecord.{RunRecord}
use Rattle.lawful_runs.specs.declared.loaded.LoadedJob.{LoadedJob}
use Rattle.lawful_runs.specs.Given.{Arrival, GivenRound, arrivals_at, rounds_from, given_rounds}
use Rattle.lawful_runs.specs.Outcomes.{IsWalked, AreWalked}
use Rattle.lawful_runs.specs.Events.{AreResults}
use Rattle.lawful_runs.specs.Lawful.{IsRound, AreRounds, counters_of, IsLawfulRun}
use Rattle.walk_fate_laws.specs.Fates.{fate_by, fate_of}
use Rattle.walk_fate_laws.specs.Meeting.{CanHave}
use Rattle.walk_fate_laws.proofs.Rounding.{lower}
use Rattle.change_fate_laws.specs.Changes.{given_by, Changed, IsChanged, journal_of, first_point, last_point, states_of}
use Rattle.change_fate_laws.specs.Jobs.{opening_round, changing_round, IsJobOf, IsRecorded, fate_with, fate_recorded}
use Rattle.change_fate_laws.proofs.OneChange.{one_turn}

-- ---- the rounds of the job
abbrev opened : List ℕ → GivenRound
opened batch = record { batches = given_by false (commands_of batch); arrivals = [] }

abbrev changing : List ℕ → Bool → Hook → Capture → GivenRound
changing change force hook capture = record {
  batches = given_by force (commands_of change);
  arrivals = arrivals_at hook capture;
}

rounds_are : (batch change : List ℕ) (force : Bool) (hook : Hook) (capture : Capture) (loaded : LoadedJob)
    → IsJobOf batch change force hook capture loaded
    → given_rounds loaded ≡ opened batch ∷ changing change force hook capture ∷ []
rounds_are batch change force hook capture loaded is =
    ap (λ (rounds : List Round). rounds_from rounds loaded.batches loaded.captures) is.rounds
    ∙ ap (λ (files : List (List ℕ)). rounds_from (opening_round is.first ∷ changing_round is.second force is.taken ∷ []) files loaded.captures) is.batches
    ∙ ap (λ (captures : List Capture). rounds_from (opening_round is.first ∷ changing_round is.second force is.taken ∷ []) (batch ∷ change ∷ []) captures) is.captures
    ∙ ap (λ (at : Hook). opened batch ∷ changing change force at capture ∷ []) is.at_hook

-- ---- a run with these records of the packets
abbrev pub run_with : Changed → List Outcome → RunRecord
run_with it outcomes = record {
  rounds = record { events = it.opening; outcomes = [] } ∷ record { events = it.events; outcomes = outcomes } ∷ [];
  counters = counters_of (journal_of it)
      (record { events = it.opening; outcomes = [] } ∷ record { events = it.events; outcomes = outcomes } ∷ []);
}

none_walked : (workers : ℕ) (journal : List Edit) (before ceiling : ℕ) → AreWalked workers journal before ceiling [] [] []
none_walked workers journal before ceiling = record {
  one_each = refl;
  worker = λ place outcome is. absurd (cc is);
  walked = λ place arrival outcome there is. absurd (cc is);
}

pub is_run : (batch change : List ℕ) (force : Bool) (hook : Hook) (capture : Capture) (loaded : LoadedJob)
    (it : Changed) (outcomes : List Outcome) → IsJobOf batch change force hook capture loaded
    → IsChanged (commands_of batch) (commands_of change) force it
    → AreWalked loaded.job.workers (journal_of it) (first_point it) (last_point it) [] (arrivals_at hook capture) outcomes
    → IsLawfulRun loaded (run_with it outcomes)
is_run batch change force hook capture loaded it outcomes job is walked = (
  journal_of it,
  record {
    rounds = subst (λ (rounds : List GivenRound). AreRounds loaded.job.workers rounds [] [] (run_with it outcomes).rounds (journal_of it))
        (sym (rounds_are batch change force hook capture loaded job)) are;
    counters = refl;
  },
)
  where
    first : IsRound loaded.job.workers (opened batch) [] [] (record { events = it.opening; outcomes = [] }) it.before
    first = record {
      order = is.opened;
      results = is.opens;
      walked = none_walked loaded.job.workers it.before 0 (length it.before);
    }

    second : IsRound loaded.job.workers (changing change force hook capture) it.before [] (record { events = it.events; outcomes = outcomes }) it.edits
    second = record { order = is.order; results = is.results; walked = walked }

    are : AreRounds loaded.job.workers (opened batch ∷ changing change force hook capture ∷ []) [] [] (run_with it outcomes).rounds (journal_of it)
    are = (it.before, first, (it.edits, second, refl))

-- ---- what a run of the job records
pub map_at : {A B : Type 0} (f : A → B) (xs : List A) (place : ℕ) (x : A) → slice_get xs place ≡ Some x
    → slice_get (map f xs) place ≡ Some (f x)
map_at f xs place x is = slice_get-map f xs place ∙ ap (option_map f) is

fates_agree : (verdict : Verdict) (frame : EditedFrame) → fate_with verdict frame.bytes frame.meta ≡ fate_by verdict frame
fates_agree verdicts.Drop frame = refl
fates_agree verdicts.Pass frame = refl

pub record_fate : (outcome : Outcome) (journal : List Edit) (floor ceiling : ℕ) (arrival : Arrival)
    (walked : IsWalked journal floor ceiling arrival outcome) → fate_recorded outcome ≡ fate_of walked.walk
record_fate outcome journal floor ceiling arrival walked =
    ap (λ (v : Verdict). fate_with v outcome.bytes outcome.meta) walked.recorded.verdict
    ∙ ap (λ (bytes : List ℕ). fate_with walked.walk.verdict bytes outcome.meta) walked.recorded.bytes
    ∙ ap (λ (meta : Meta). fate_with walked.walk.verdict walked.walk.frame.bytes meta) walked.recorded.meta
    ∙ fates_agree walked.walk.verdict walked.walk.frame

walk_had : (it : Changed) (floor : ℕ) (hook : Hook) (packet : Packet) (outcome : Outcome) → first_point it ≤ floor
    → IsWalked (journal_of it) floor (last_point it) (record { hook = hook; packet = packet }) outcome
    → CanHave (states_of it) (first_point it) (last_point it) hook packet.bytes (fate_recorded outcome)
walk_had it floor hook packet outcome least walked = record {
  points = outcome.points;
  outcome = walked.walk;
  met = lower (states_of it) (last_point it) hook floor (first_point it) packet.bytes outcome.points walked.walk least
      (record { visits = walked.visits; walks = walked.walks; lawful = walked.points });
  has = sym (record_fate outcome (journal_of it) floor (last_point it) (record { hook = hook; packet = packet }) walked);
}

same_walked : (it : Changed) (workers : ℕ) (before edits : List Edit) (earlier : List Outcome) (arrivals : List Arrival) (outcomes : List Outcome)
    → before ≡ it.before → edits ≡ it.edits
    → AreWalked workers (before ++ edits) (length before) (length (before ++ edits)) earlier arrivals outcomes
    → AreWalked workers (journal_of it) (first_point it) (last_point it) earlier arrivals outcomes
same_walked it workers before edits earlier arrivals outcomes same are walked =
    subst (λ (more : List Edit). AreWalked workers (it.before ++ more) (length it.before) (length (it.before ++ more)) earlier arrivals outcomes) are
    (subst (λ (front : List Edit). AreWalked workers (front ++ edits) (length front) (length (front ++ edits)) earlier arrivals outcomes) same walked)

module _ (batch change : List ℕ) (force : Bool) (hook : Hook) (capture : Capture) (workers : ℕ) (it : Changed)
    (is : IsChanged (commands_of batch) (commands_of change) force it) (place : ℕ) (packet : Packet) (outcome : Outcome)
    (came : slice_get capture.packets place ≡ Some packet) where
  had_in : (rounds : List RoundRecord) (round : RoundRecord) (journal : List Edit)
      → AreRounds workers (opened batch ∷ changing change force hook capture ∷ []) [] [] rounds journal
      → slice_get rounds 1 ≡ Some round → slice_get round.outcomes place ≡ Some outcome
      → CanHave (states_of it) (first_point it) (last_point it) hook packet.bytes (fate_recorded outcome)
  had_in [] round journal are second there = absurd are
  had_in (one ∷ []) round journal (before, first, rest) second there = absurd rest
  had_in (one ∷ other ∷ more) round journal (before, first, (edits, last, rest)) second there =
      let same : other ≡ round = cc second in
      let start = one_turn false (lines_of batch) no_state one.events it.opening before it.before first.order first.results is.opened is.opens in
      let changes = one_turn force (lines_of change) (state_from no_state before) other.events it.events edits it.edits last.order last.results is.order
      (subst (λ (front : List Edit). AreResults (given_by force (commands_of change)) (state_from no_state front) it.events it.edits) (sym start.1) is.results) in
      let walked = same_walked it workers before edits one.outcomes (arrivals_at hook capture) other.outcomes start.1 changes.1 last.walked in
      let own = walked.walked place (record { hook = hook; packet = packet }) outcome (map_at (λ (p : Packet). record { hook = hook; packet = p }) capture.packets place packet came)
      (ap (λ (r : RoundRecord). slice_get r.outcomes place) same ∙ there) in
      walk_had it _ hook packet outcome (omega arith) own

pub run_had : (batch change : List ℕ) (force : Bool) (hook : Hook) (capture : Capture) (loaded : LoadedJob)
    (it : Changed) (run : RunRecord) (place : ℕ) (packet : Packet) (outcome : Outcome)
    → IsJobOf batch change force hook capture loaded
    → IsChanged (commands_of batch) (commands_of change) force it → IsLawfulRun loaded run
    → slice_get capture.packets place ≡ Some packet → IsRecorded run place outcome
    → CanHave (states_of it) (first_point it) (last_point it) hook packet.bytes (fate_recorded outcome)
run_had batch change force hook capture loaded it run place packet outcome job is lawful came recorded =
    had_in batch change force hook capture loaded.job.workers it is place packet outcome came run.rounds recorded.round lawful.0
    (subst (λ (rounds : List GivenRound). AreRounds loaded.job.workers rounds [] [] run.rounds lawful.0)
    (rounds_are batch change force hook capture loaded job) lawful.1.rounds)
    recorded.second recorded.there
