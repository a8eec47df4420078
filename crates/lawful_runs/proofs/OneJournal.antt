-- A run of a job has one journal: each event's line gives one edit, and each accepted edit one next state.
use Rattle.std.proofs.Common.{◌≡◌, ◌∙◌, List, [], ◌∷◌, ◌++◌, Ok, refl, sym, ap, subst, ℕ}
use Rattle.filter_state.specs.declared.edit.Edit.{Edit}
use Rattle.filter_state.specs.States.{State, no_state}
use Rattle.filter_state.specs.declared.refusal.Done.{Done}
use Rattle.filter_state.specs.Steps.{Stepped, step}
use Rattle.filter_state.specs.Sound.{Each}
use Rattle.filter_state.specs.Journals.{state_from}
use Rattle.job_lines.specs.Jobs.{IsJob}
use Rattle.tc_batch.proofs.Runs.{one_edit}
use Rattle.run_report.specs.declared.events.Event.{Event}
use Rattle.run_report.specs.declared.events.EventKind.{EventKind}
use Rattle.run_report.specs.declared.events.EventKind.TheVariants as kinds
use Rattle.run_report.specs.declared.outcomes.Outcome.{Outcome}
use Rattle.run_report.specs.declared.rounds.RoundRecord.{RoundRecord}
use Rattle.lawful_runs.specs.declared.loaded.LoadedJob.{LoadedJob}
use Rattle.lawful_runs.specs.Given.{GivenBatch, GivenRound, given_rounds}
use Rattle.lawful_runs.specs.Events.{IsResult, AreResults}
use Rattle.lawful_runs.specs.Lawful.{AreRounds}
use Rattle.lawful_runs.proofs.GivenCommands.{AreGiven, all_given, one_words}

-- ---- one event has one result
one_next : (next other : State) (done : Done) (stepped : Stepped) → stepped ≡ Ok (next, done) → stepped ≡ Ok (other, done) → next ≡ other
one_next next other done stepped is again = let both : ◌≡◌ {A = State × Done} (next, done) (other, done) = cc in ap (λ (pair : State × Done). pair.0) both

abbrev AreSame : (next other : State) (first second : List Edit) → Type 0
AreSame next other first second = (next ≡ other) × (first ≡ second)

one_result : (s : State) (words : List (List ℕ)) (kind : EventKind) (next other : State) (first second : List Edit) → IsResult s words kind next first → IsResult s words kind other second → AreSame next other first second
one_result s words (kinds.Accepted done) next other first second (edit, gives, stepped, is) (again, gives_again, stepped_again, is_again) =
    let same : edit ≡ again = one_edit words edit again gives gives_again in
    (one_next next other done (step s edit) stepped (ap (step s) same ∙ stepped_again), is ∙ ap (λ (e : Edit). e ∷ []) same ∙ sym is_again)
one_result s words (kinds.Refused refusal) next other first second (edit, gives, stepped, same, is) (again, gives_again, stepped_again, same_again, is_again) = (same ∙ sym same_again, is ∙ sym is_again)
one_result s words (kinds.Syntax word) next other first second (bad, same, is) (bad_again, same_again, is_again) = (same ∙ sym same_again, is ∙ sym is_again)

one_list : (batches : List GivenBatch) (s : State) (events : List Event) (edits others : List Edit) → AreGiven batches → AreResults batches s events edits → AreResults batches s events others → edits ≡ others
one_list batches s [] edits others given is again = is ∙ sym again
one_list batches s (event ∷ events) edits others given (words, next, first, rest, line, result, more, is) (words', next', first', rest', line', result', more', is') =
    let same : words' ≡ words = one_words batches event event words' words given refl refl line' line in
    let one = one_result s words event.kind next next' first first' result (subst (λ (w : List (List ℕ)). IsResult s w event.kind next' first') same result') in
    let others_behind : rest ≡ rest' = one_list batches next events rest rest' given more (subst (λ (state : State). AreResults batches state events rest') (sym one.0) more') in
    is ∙ ap (λ (es : List Edit). es ++ rest) one.1 ∙ ap (λ (es : List Edit). first' ++ es) others_behind ∙ sym is'

-- ---- rounds
one_over : (workers : ℕ) (rounds : List GivenRound) (before : List Edit) (earlier : List Outcome) (its : List RoundRecord) (journal other : List Edit)
    → Each (λ (given : GivenRound). AreGiven given.batches) rounds → AreRounds workers rounds before earlier its journal → AreRounds workers rounds before earlier its other → journal ≡ other
one_over workers [] before earlier [] journal other given is again = is ∙ sym again
one_over workers [] before earlier (it ∷ its) journal other given is again = absurd is
one_over workers (round ∷ rounds) before earlier [] journal other given is again = absurd is
one_over workers (round ∷ rounds) before earlier (it ∷ its) journal other given (edits, one, more) (edits', one', more') =
    let same : edits' ≡ edits = one_list round.batches (state_from no_state before) it.events edits' edits given.0 one'.results one.results in
    one_over workers rounds (before ++ edits) (earlier ++ it.outcomes) its journal other given.1 more
    (subst (λ (es : List Edit). AreRounds workers rounds (before ++ es) (earlier ++ it.outcomes) its other) same more')

pub one_of_job : (loaded : LoadedJob) (its : List RoundRecord) (journal other : List Edit) → IsJob loaded.job → AreRounds loaded.job.workers (given_rounds loaded) [] [] its journal
    → AreRounds loaded.job.workers (given_rounds loaded) [] [] its other → journal ≡ other
one_of_job loaded its journal other is = one_over loaded.job.workers (given_rounds loaded) [] [] its journal other (all_given loaded is)
