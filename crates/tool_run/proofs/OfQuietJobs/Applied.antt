-- The events of a round with one batch that isn't forced are that batch's run, command by command.
use Rattle.std.proofs.Common.{◌≡◌, ◌∙◌, ℕ, zero, suc, ◌+◌, ◌≤◌, Bool, false, cond, List, [], ◌∷◌, ◌++◌, length, Option, Some, None, Ok, inl, inr, refl, sym, ap, subst, eq-eqb, append_assoc, append-nil, arith}
use Rattle.std.specs.Prelude.{is_some, ◌||◌, if◌then◌else◌}
use Rattle.std.proofs.lemmas.List.Sums.{sum_by-cons}
use Rattle.filter_state.specs.declared.edit.Edit.{Edit}
use Rattle.filter_state.specs.States.{State}
use Rattle.filter_state.specs.declared.refusal.Done.{Done}
use Rattle.filter_state.specs.Steps.{Stepped, step}
use Rattle.filter_state.specs.Journals.{state_after, state_from}
use Rattle.tc_batch.specs.Grammar.{Gives}
use Rattle.batch_run.specs.declared.stop.Stop.{Stop}
use Rattle.batch_run.specs.declared.stop.Stop.TheVariants as stops
use Rattle.batch_run.specs.Commands.{Command}
use Rattle.batch_run.specs.Made.{made_since}
use Rattle.batch_run.specs.Runs.{SoFar, Ran, one_more, ended, IsAfter, IsRunFrom}
use Rattle.batch_walk.specs.Walked.{refused_count}
use Rattle.run_report.specs.declared.events.Event.{Event}
use Rattle.run_report.specs.declared.events.EventKind.{EventKind}
use Rattle.run_report.specs.declared.events.EventKind.TheVariants as kinds
use Rattle.run_report.specs.Counts.{is_accepted, accepted_count}
use Rattle.lawful_runs.specs.Given.{GivenBatch}
use Rattle.lawful_runs.specs.Events.{IsAmong, events_of, GoesOn, IsThrough, IsLineOf, IsResult, AreResults, AreInOrder}
use Rattle.lawful_runs.specs.Lawful.{made_by}
use Rattle.lawful_runs.proofs.GivenCommands.{AreGiven, one_words}
use Rattle.tool_run.specs.OfQuietJobs.Jobs.{unforced}

-- ---- the lines of the one batch
one_among : {X : Type 0} (x y : X) → IsAmong y (x ∷ []) → y ≡ x
one_among x y (zero, is) = cc
one_among x y (suc place, is) = absurd (cc is)

-- each event is of its control, and has the words of the command of its line
its_control : (control : ℕ) (commands : List Command) (event : Event) (words : List (List ℕ)) → IsLineOf (unforced control commands ∷ []) event words → event.control ≡ control
its_control control commands event words line =
    sym line.control ∙ ap (λ (b : GivenBatch). b.control) (one_among (unforced control commands) line.batch line.given)

its_words : (control : ℕ) (commands : List Command) (command : Command) (event : Event) (words : List (List ℕ)) → AreGiven (unforced control commands ∷ []) → IsAmong command commands
    → event.line ≡ command.line → IsLineOf (unforced control commands ∷ []) event words → words ≡ command.words
its_words control commands command event words given among at line =
    one_words (unforced control commands ∷ []) event event words command.words given refl refl line
    (record {
      batch = unforced control commands;
      command = command;
      given = (0, refl);
      control = sym (its_control control commands event words line);
      there = among;
      line = sym at;
      words_are = refl;
    })

-- so all events are its own
pub all_its_own : (control : ℕ) (commands : List Command) (s : State) (events : List Event) (edits : List Edit) → AreResults (unforced control commands ∷ []) s events edits → events_of control events ≡ events
all_its_own control commands s [] edits results = refl
all_its_own control commands s (event ∷ events) edits (words, next, first, rest, line, result, more, is) =
    ap (λ (b : Bool). cond b (event ∷ events_of control events) (events_of control events)) (eq-eqb event.control control (its_control control commands event words line))
    ∙ ap (λ (es : List Event). event ∷ es) (all_its_own control commands next events rest more)

-- ---- the run
-- the commands' run from a state on, which leaves these edits, and so many of whose events are accepted
pub record IsApplied (s : State) (so_far : SoFar) (commands : List Command) (edits : List Edit) (events accepted : ℕ) : Type 0 where
  pub ran : Ran
  pub is : IsRunFrom s so_far commands ran
  pub state : ran.state ≡ state_from s edits
  pub made : ran.made ≡ so_far.made ++ made_by s edits
  pub accepted_are : ran.accepted ≡ so_far.accepted + accepted
  pub events_are : events ≡ accepted + refused_count (is_some ran.stop)
  pub few : events ≤ length commands

-- an accepted edit, and the run behind it
goes_on : (s next : State) (done : Done) (so_far : SoFar) (command : Command) (commands : List Command) (edit : Edit) (first rest : List Edit) (events accepted : ℕ)
    → Gives command.words edit → step s edit ≡ Ok (next, done) → first ≡ edit ∷ []
    → IsApplied next (one_more so_far s next) commands rest events accepted → IsApplied s so_far (command ∷ commands) (first ++ rest) (suc events) (1 + accepted)
goes_on s next done so_far command commands edit first rest events accepted gives stepped is more =
    let run : State → SoFar → Type 0 = λ after since. IsRunFrom after since commands more.ran in
    let count = more.accepted_are in
    let others = more.events_are in
    let short = more.few in
    record {
      ran = more.ran;
      is = inl (edit, gives, subst (λ (st : Stepped). IsAfter run s so_far command.line st more.ran) (sym stepped) more.is);
      state = more.state ∙ sym (ap (λ (es : List Edit). state_from s (es ++ rest)) is ∙ ap (λ (st : Stepped). state_from (state_after s st) rest) stepped);
      made = more.made ∙ append_assoc so_far.made (made_since s next) (made_by next rest)
          ∙ sym (ap (λ (es : List Edit). so_far.made ++ made_by s (es ++ rest)) is
          ∙ ap (λ (st : Stepped). so_far.made ++ (made_since s (state_after s st) ++ made_by (state_after s st) rest)) stepped);
      accepted_are = omega (arith, count);
      events_are = omega (arith, others);
      few = omega (arith, short);
    }

-- a run that ends here, with no edit
ends : (s : State) (so_far : SoFar) (commands : List Command) (edits : List Edit) (events : ℕ) (stop : Option Stop) → edits ≡ [] → events ≡ refused_count (is_some stop) → events ≤ length commands
    → IsRunFrom s so_far commands (ended s so_far stop) → IsApplied s so_far commands edits events 0
ends s so_far commands edits events stop none count short is = record {
  ran = ended s so_far stop;
  is = is;
  state = sym (ap (state_from s) none);
  made = sym (ap (λ (es : List Edit). so_far.made ++ made_by s es) none ∙ append-nil so_far.made);
  accepted_are = omega arith;
  events_are = omega (arith, count);
  few = short;
}

-- a batch that stops has no further events, and so no further edits
no_more : (batches : List GivenBatch) (s : State) (events : List Event) (edits first rest : List Edit) → events ≡ [] → AreResults batches s events rest → first ≡ [] → first ++ rest ≡ []
no_more batches s [] edits first rest none results is = ap (λ (es : List Edit). es ++ rest) is ∙ results
no_more batches s (event ∷ events) edits first rest none results is = absurd (cc none)

-- one event, and those behind it, by what became of its line
by_kind : (kind : EventKind) (batches : List GivenBatch) (s next : State) (so_far : SoFar) (command : Command) (commands : List Command) (events : List Event) (first rest : List Edit)
    → IsResult s command.words kind next first → GoesOn (false || is_accepted kind) (IsThrough false commands events) events → AreResults batches next events rest
    → ((since : SoFar) → IsThrough false commands events → IsApplied next since commands rest (length events) (accepted_count events))
    → IsApplied s so_far (command ∷ commands) (first ++ rest) (suc (length events)) ((if is_accepted kind then 1 else 0) + accepted_count events)
by_kind (kinds.Accepted done) batches s next so_far command commands events first rest (edit, gives, stepped, is) on results more =
    goes_on s next done so_far command commands edit first rest (length events) (accepted_count events) gives stepped is (more (one_more so_far s next) on)
by_kind (kinds.Refused refusal) batches s next so_far command commands events first rest (edit, gives, stepped, same, is) on results more =
    let stop : Option Stop = Some (stops.Refused command.line refusal) in
    let run : State → SoFar → Type 0 = λ after since. IsRunFrom after since commands (ended s so_far stop) in
    let long : length events ≡ 0 = ap length on in
    let none : accepted_count events ≡ 0 = ap accepted_count on in
    let count : suc (length events) ≡ refused_count (is_some stop) = omega (arith, long) in
    let short : suc (length events) ≤ length (command ∷ commands) = omega (arith, long) in
    subst (IsApplied s so_far (command ∷ commands) (first ++ rest) (suc (length events))) (sym (ap (λ (n : ℕ). 0 + n) none))
    (ends s so_far (command ∷ commands) (first ++ rest) (suc (length events)) stop (no_more batches next events [] first rest on results is) count short
    (inl (edit, gives, subst (λ (st : Stepped). IsAfter run s so_far command.line st (ended s so_far stop)) (sym stepped) refl)))
by_kind (kinds.Syntax word) batches s next so_far command commands events first rest (bad, same, is) on results more =
    let stop : Option Stop = Some (stops.Syntax command.line word) in
    let long : length events ≡ 0 = ap length on in
    let none : accepted_count events ≡ 0 = ap accepted_count on in
    let count : suc (length events) ≡ refused_count (is_some stop) = omega (arith, long) in
    let short : suc (length events) ≤ length (command ∷ commands) = omega (arith, long) in
    subst (IsApplied s so_far (command ∷ commands) (first ++ rest) (suc (length events))) (sym (ap (λ (n : ℕ). 0 + n) none))
    (ends s so_far (command ∷ commands) (first ++ rest) (suc (length events)) stop (no_more batches next events [] first rest on results is) count short (inr (word, bad, refl)))

-- ---- all events
module _ (control : ℕ) (whole : List Command) (given : AreGiven (unforced control whole ∷ [])) where
  applied_from : (s : State) (so_far : SoFar) (commands : List Command) (events : List Event) (edits : List Edit) → ((command : Command) → IsAmong command commands → IsAmong command whole)
      → IsThrough false commands events → AreResults (unforced control whole ∷ []) s events edits → IsApplied s so_far commands edits (length events) (accepted_count events)
  applied_from s so_far [] [] edits within through results = ends s so_far [] edits 0 None results refl (omega arith) refl
  applied_from s so_far [] (event ∷ events) edits within through results = absurd (cc through)
  applied_from s so_far (command ∷ commands) [] edits within through results = absurd through
  applied_from s so_far (command ∷ commands) (event ∷ events) edits within through (words, next, first, rest, line, result, more, is) =
      let same : words ≡ command.words = its_words control whole command event words given (within command (0, refl)) through.0 line in
      let counts : accepted_count (event ∷ events) ≡ (if is_accepted event.kind then 1 else 0) + accepted_count events =
      sum_by-cons (λ (e : Event). if is_accepted e.kind then 1 else 0) event events in
      subst (IsApplied s so_far (command ∷ commands) edits (suc (length events))) (sym counts)
      (subst (λ (es : List Edit). IsApplied s so_far (command ∷ commands) es (suc (length events)) ((if is_accepted event.kind then 1 else 0) + accepted_count events)) (sym is)
      (by_kind event.kind (unforced control whole ∷ []) s next so_far command commands events first rest (subst (λ (ws : List (List ℕ)). IsResult s ws event.kind next first) same result) through.1 more
      (λ since on. applied_from next since commands events rest (λ other among. within other (suc among.0, among.1)) on more)))

  -- THE EVENTS ARE THE BATCH'S RUN
  pub applied : (s : State) (so_far : SoFar) (events : List Event) (edits : List Edit) → AreInOrder (unforced control whole ∷ []) events → AreResults (unforced control whole ∷ []) s events edits
      → IsApplied s so_far whole edits (length events) (accepted_count events)
  applied s so_far events edits order results =
      applied_from s so_far whole events edits (λ command among. among)
      (subst (IsThrough false whole) (all_its_own control whole s events edits results) (order (unforced control whole) (0, refl))) results
