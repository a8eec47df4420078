-- The next line of a round.
use Rattle.std.proofs.Common.{◌≡◌, ◌∙◌, ℕ, zero, suc, ◌+◌, ◌<◌, Bool, true, false, List, [], ◌∷◌, ◌++◌, length, Option, Some, None, refl, sym, ap, subst, append-nil, arith, ◌⊎◌, inl, inr}
use Rattle.std.specs.Prelude.{◌||◌, ◌==◌, if◌then◌else◌, filter}
use Rattle.std.specs.List.{slice_get}
use Rattle.std.proofs.lemmas.Bool.Decides.{nat_tests}
use Rattle.filter_state.specs.declared.edit.Edit.{Edit}
use Rattle.filter_state.specs.States.{State, no_state}
use Rattle.filter_state.specs.Sound.{Each}
use Rattle.filter_state.specs.Journals.{state_from}
use Rattle.batch_run.specs.Commands.{Command}
use Rattle.run_report.specs.declared.events.Event.{Event}
use Rattle.run_report.specs.declared.events.EventKind.{EventKind}
use Rattle.run_report.specs.declared.rounds.RoundRecord.{RoundRecord}
use Rattle.run_report.specs.Counts.{is_accepted}
use Rattle.lawful_runs.specs.Given.{GivenBatch, GivenRound}
use Rattle.lawful_runs.specs.Events.{IsAmong, GoesOn, IsThrough, AreInOrder, IsLineOf, IsResult, is_of, events_of}
use Rattle.report_laws.specs.Begun.{IsBegun, AreBegun}
use Rattle.report_laws.specs.OfNextLines.Left.{next_of, next_in, IsLeft, NoneLeft}
use Rattle.report_laws.specs.Stands.{IsNextEvent}
use Rattle.report_laws.specs.OfNextLines.Left.{IsNextOf}
use Rattle.report_laws.proofs.OneControl.{events_of-append, all_own}
use Rattle.lawful_runs.proofs.GivenCommands.{AreGiven, one_batch, one_words}

-- ---- one batch
abbrev HasNext : Bool → List Command → List Event → Event → Type 0
HasNext force commands events event = (command : Command) × IsAmong command commands × (next_of force commands events ≡ Some command) × (event.line ≡ command.line)

deeper : (force : Bool) (first : Command) (commands : List Command) (x : Event) (xs : List Event) (event : Event) → (b : Bool) → (force || is_accepted x.kind) ≡ b → b ≡ true → HasNext force commands xs event
    → HasNext force (first ∷ commands) (x ∷ xs) event
deeper force first commands x xs event b is goes (command, among, next, line) =
    (command, (suc among.0, among.1), ap (λ (c : Bool). if c then next_of force commands xs else None) (is ∙ goes) ∙ next, line)

begun_by : (force : Bool) (first : Command) (commands : List Command) (x : Event) (xs : List Event) (event : Event) (b : Bool) → (force || is_accepted x.kind) ≡ b
    → (IsBegun force commands (xs ++ (event ∷ [])) → HasNext force commands xs event) → GoesOn b (IsBegun force commands (xs ++ (event ∷ []))) (xs ++ (event ∷ [])) → HasNext force (first ∷ commands) (x ∷ xs) event
begun_by force first commands x xs event true is rest goes = deeper force first commands x xs event true is refl (rest goes)
begun_by force first commands x [] event false is rest goes = absurd (cc goes)
begun_by force first commands x (y ∷ xs) event false is rest goes = absurd (cc goes)

-- an event that may come is the next command
begun_next : (force : Bool) (commands : List Command) (xs : List Event) (event : Event) → IsBegun force commands (xs ++ (event ∷ [])) → HasNext force commands xs event
begun_next force [] [] event begun = absurd begun
begun_next force [] (x ∷ xs) event begun = absurd begun
begun_next force (command ∷ commands) [] event begun = (command, (0, refl), refl, begun.0)
begun_next force (command ∷ commands) (x ∷ xs) event begun =
    begun_by force command commands x xs event (force || is_accepted x.kind) refl (λ it. begun_next force commands xs event it) begun.1

-- and the next command may come
next_by : (force : Bool) (commands : List Command) (x : Event) (xs : List Event) (event : Event) (command : Command) (b : Bool)
    → (IsBegun force commands xs → next_of force commands xs ≡ Some command → IsBegun force commands (xs ++ (event ∷ []))) → GoesOn b (IsBegun force commands xs) xs
    → (if b then next_of force commands xs else None) ≡ Some command → GoesOn b (IsBegun force commands (xs ++ (event ∷ []))) (xs ++ (event ∷ []))
next_by force commands x xs event command true rest begun next = rest begun next
next_by force commands x xs event command false rest begun next = absurd (cc next)

next_begun : (force : Bool) (commands : List Command) (xs : List Event) (event : Event) (command : Command) → IsBegun force commands xs → next_of force commands xs ≡ Some command → event.line ≡ command.line
    → IsBegun force commands (xs ++ (event ∷ []))
next_begun force [] xs event command begun next line = absurd (cc next)
next_begun force (first ∷ commands) [] event command begun next line = (let same : first ≡ command = cc in line ∙ ap (λ (c : Command). c.line) (sym same), ends (force || is_accepted event.kind))
  where
    ends : (b : Bool) → GoesOn b (IsBegun force commands []) []
    ends true = tt
    ends false = refl
next_begun force (first ∷ commands) (x ∷ xs) event command begun next line =
    (begun.0, next_by force commands x xs event command (force || is_accepted x.kind) (λ it more. next_begun force commands xs event command it more line) begun.1 next)

-- ---- whether a batch is gone through
through_by : (force : Bool) (commands : List Command) (xs : List Event) (b : Bool) → (IsBegun force commands xs → next_of force commands xs ≡ None → IsThrough force commands xs) → GoesOn b (IsBegun force commands xs) xs
    → (if b then next_of force commands xs else None) ≡ None → GoesOn b (IsThrough force commands xs) xs
through_by force commands xs true rest begun none = rest begun none
through_by force commands xs false rest begun none = begun

none_through : (force : Bool) (commands : List Command) (xs : List Event) → IsBegun force commands xs → next_of force commands xs ≡ None → IsThrough force commands xs
none_through force [] [] begun none = refl
none_through force [] (x ∷ xs) begun none = absurd begun
none_through force (command ∷ commands) [] begun none = absurd (cc none)
none_through force (command ∷ commands) (x ∷ xs) begun none =
    (begun.0, through_by force commands xs (force || is_accepted x.kind) (λ it more. none_through force commands xs it more) begun.1 none)

left_by : (force : Bool) (commands : List Command) (xs : List Event) (command : Command) (b : Bool) → (next_of force commands xs ≡ Some command → IsThrough force commands xs → ⊥) → (if b then next_of force commands xs else None) ≡ Some command
    → GoesOn b (IsThrough force commands xs) xs → ⊥
left_by force commands xs command true rest next through = rest next through
left_by force commands xs command false rest next through = cc next

some_left : (force : Bool) (commands : List Command) (xs : List Event) (command : Command) → next_of force commands xs ≡ Some command → IsThrough force commands xs → ⊥
some_left force [] xs command next through = cc next
some_left force (first ∷ commands) [] command next through = through
some_left force (first ∷ commands) (x ∷ xs) command next through =
    left_by force commands xs command (force || is_accepted x.kind) (λ more it. some_left force commands xs command more it) next through.1

pub all_told : (batches : List GivenBatch) (events : List Event) → AreBegun batches events → NoneLeft batches events → AreInOrder batches events
all_told batches events begun none = λ batch among. none_through batch.force batch.commands (events_of batch.control events) (begun batch among) (none batch among)

pub not_all_told : (batches : List GivenBatch) (events : List Event) → IsLeft batches events → AreInOrder batches events → ⊥
not_all_told batches events left order = some_left left.batch.force left.batch.commands (events_of left.batch.control events) left.command left.next (order left.batch left.given)

-- ---- all batches
other_by : (b : Bool) (event : Event) → b ≡ false → (if b then event ∷ [] else []) ≡ []
other_by true event is = absurd (cc is)
other_by false event is = refl

untouched : (control : ℕ) (events : List Event) (event : Event) → is_of control event ≡ false → events_of control (events ++ (event ∷ [])) ≡ events_of control events
untouched control events event other =
    events_of-append control events (event ∷ []) ∙ ap (λ (es : List Event). events_of control events ++ es) (other_by (is_of control event) event other) ∙ append-nil (events_of control events)

by_control : (batches : List GivenBatch) (events : List Event) (event : Event) (batch other : GivenBatch) (command : Command) → AreGiven batches → AreBegun batches events → IsAmong batch batches → IsAmong other batches
    → next_in events batch ≡ Some command → event.control ≡ batch.control → event.line ≡ command.line → (b : Bool) → is_of other.control event ≡ b → IsBegun other.force other.commands (events_of other.control (events ++ (event ∷ [])))
by_control batches events event batch other command given begun here there next control line true is =
    let mine : event.control ≡ other.control = grind (arith, nat_tests, is) in
    let same : batch ≡ other = one_batch batches batch other given here there (sym control ∙ mine) in
    subst (λ (b : GivenBatch). IsBegun b.force b.commands (events_of b.control (events ++ (event ∷ [])))) same
    (subst (IsBegun batch.force batch.commands)
    (sym (events_of-append batch.control events (event ∷ []) ∙ ap (λ (es : List Event). events_of batch.control events ++ es) (all_own batch.control (event ∷ []) (control, tt))))
    (next_begun batch.force batch.commands (events_of batch.control events) event command (begun batch here) next line))
by_control batches events event batch other command given begun here there next control line false is =
    subst (IsBegun other.force other.commands) (sym (untouched other.control events event is)) (begun other there)

-- ---- THE NEXT EVENT is one of the controls' next commands, and each of these may come
among_next : (force : Bool) (commands : List Command) (xs : List Event) (command : Command) → next_of force commands xs ≡ Some command → IsAmong command commands
among_next force [] xs command next = absurd (cc next)
among_next force (first ∷ commands) [] command next = (0, next)
among_next force (first ∷ commands) (x ∷ xs) command next = by_test (force || is_accepted x.kind) next (λ it. among_next force commands xs command it)
  where
    by_test : (b : Bool) → (if b then next_of force commands xs else None) ≡ Some command → (next_of force commands xs ≡ Some command → IsAmong command commands) → IsAmong command (first ∷ commands)
    by_test true is rest = let among = rest is in (suc among.0, among.1)
    by_test false is rest = absurd (cc is)

pub may_come : (round : GivenRound) (before : List Edit) (it : RoundRecord) (edits : List Edit) (event : Event) (own : List Edit) → AreGiven round.batches → it.outcomes ≡ [] → AreBegun round.batches it.events
    → IsNextOf round before it edits event own → IsNextEvent round before it edits event own
may_come round before it edits event own given unwalked begun next = record {
  words = next.command.words;
  after = next.after;
  unwalked = unwalked;
  order = λ other there. by_control round.batches it.events event next.batch other next.command given begun next.given there next.next next.control next.line (is_of other.control event) refl;
  line = record {
    batch = next.batch;
    command = next.command;
    given = next.given;
    control = sym next.control;
    there = among_next next.batch.force next.batch.commands (events_of next.batch.control it.events) next.command next.next;
    line = sym next.line;
    words_are = refl;
  };
  result = next.result;
}

pub only_these : (round : GivenRound) (before : List Edit) (it : RoundRecord) (edits : List Edit) (event : Event) (own : List Edit) → AreGiven round.batches → IsNextEvent round before it edits event own → IsNextOf round before it edits event own
only_these round before it edits event own given next =
    let batch : GivenBatch = next.line.batch in
    let control : event.control ≡ batch.control = sym next.line.control in
    let begun = subst (IsBegun batch.force batch.commands)
    (events_of-append batch.control it.events (event ∷ []) ∙ ap (λ (es : List Event). events_of batch.control it.events ++ es) (all_own batch.control (event ∷ []) (control, tt)))
    (next.order batch next.line.given) in
    let told = begun_next batch.force batch.commands (events_of batch.control it.events) event begun in
    let command : Command = told.0 in
    let own_line : IsLineOf round.batches event command.words = record { batch = batch; command = command; given = next.line.given; control = sym control; there = told.1; line = sym told.3; words_are = refl } in
    let words : next.words ≡ command.words = one_words round.batches event event next.words command.words given refl refl next.line own_line in
    record {
      batch = batch;
      command = command;
      after = next.after;
      given = next.line.given;
      next = told.2;
      control = control;
      line = told.3;
      result = subst (λ (w : List (List ℕ)). IsResult (state_from no_state (before ++ edits)) w event.kind next.after own) words next.result;
    }
