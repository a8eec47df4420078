-- A control comes one command further.
use Rattle.std.proofs.Common.{◌≡◌, ◌∙◌, ℕ, suc, ◌+◌, ◌≤◌, ◌==◌, Bool, true, false, List, [], ◌∷◌, ◌++◌, length, refl, sym, ap, subst, append_assoc, append-nil, arith}
use Rattle.std.specs.Prelude.{◌||◌, if◌then◌else◌}
use Rattle.std.proofs.lemmas.List.Elements.{filter-append}
use Rattle.filter_state.specs.declared.edit.Edit.{Edit}
use Rattle.filter_state.specs.States.{State}
use Rattle.filter_state.specs.Journals.{state_from}
use Rattle.run_report.specs.declared.events.Event.{Event}
use Rattle.batch_run.specs.Commands.{Command}
use Rattle.run_report.specs.Counts.{is_accepted}
use Rattle.lawful_runs.specs.Given.{GivenBatch}
use Rattle.lawful_runs.specs.Events.{IsAmong, GoesOn, IsThrough, is_of, events_of, IsLineOf, IsResult, AreResults}
use Rattle.lawful_runs.proofs.Events.{state_from-append, leads}
use Rattle.round_terms.specs.Coming.{ComesOn, HasCome}

-- ---- one control's commands
on_first : (b : Bool) (force : Bool) (left : List Command) → ComesOn b (HasCome force left [] (if b then left else [])) [] (if b then left else [])
on_first true force left = refl
on_first false force left = (refl, refl)

further_on : (b : Bool) (more less : Type 0) (event : Event) (events : List Event) (command : Command) (left next : List Command) → (more → less) → ComesOn b more events (command ∷ left) → ComesOn b less (events ++ event ∷ []) next
further_on true more less event events command left next go on = go on
further_on false more less event events command left next go (none, over) = absurd (cc over)

pub come_further : (force : Bool) (commands : List Command) (events : List Event) (command : Command) (left : List Command) (event : Event) → HasCome force commands events (command ∷ left) → event.line ≡ command.line
    → HasCome force commands (events ++ event ∷ []) (if force || is_accepted event.kind then left else [])
come_further force commands [] command left event is line =
    subst (λ (cs : List Command). HasCome force cs (event ∷ []) (if force || is_accepted event.kind then left else [])) is (line, on_first (force || is_accepted event.kind) force left)
come_further force [] (first ∷ events) command left event is line = absurd is
come_further force (own ∷ commands) (first ∷ events) command left event (here, on) line = (
  here,
  further_on (force || is_accepted first.kind) (HasCome force commands events (command ∷ left)) (HasCome force commands (events ++ event ∷ []) (if force || is_accepted event.kind then left else [])) event events command left _
      (λ more. come_further force commands events command left event more line) on,
)

among_on : (b : Bool) (more : Type 0) (events : List Event) (command : Command) (left commands : List Command) → (more → IsAmong command commands) → ComesOn b more events (command ∷ left) → IsAmong command commands
among_on true more events command left commands go on = go on
among_on false more events command left commands go (none, over) = absurd (cc over)

behind_one : (own command : Command) (commands : List Command) → IsAmong command commands → IsAmong command (own ∷ commands)
behind_one own command commands (place, is) = (suc place, is)

pub come_among : (force : Bool) (commands : List Command) (events : List Event) (command : Command) (left : List Command) → HasCome force commands events (command ∷ left) → IsAmong command commands
come_among force commands [] command left is = subst (IsAmong command) is (0, refl)
come_among force [] (first ∷ events) command left is = absurd is
come_among force (own ∷ commands) (first ∷ events) command left (here, on) =
    behind_one own command commands (among_on (force || is_accepted first.kind) (HasCome force commands events (command ∷ left)) events command left commands (come_among force commands events command left) on)

over_on : (b : Bool) (more less : Type 0) (events : List Event) → (more → less) → ComesOn b more events [] → GoesOn b less events
over_on true more less events go on = go on
over_on false more less events go (none, over) = none

pub come_over : (force : Bool) (commands : List Command) (events : List Event) → HasCome force commands events [] → IsThrough force commands events
come_over force [] [] is = refl
come_over force (own ∷ commands) [] is = absurd (cc is)
come_over force [] (first ∷ events) is = absurd is
come_over force (own ∷ commands) (first ∷ events) (here, on) =
    (here, over_on (force || is_accepted first.kind) (HasCome force commands events []) (IsThrough force commands events) events (come_over force commands events) on)

not_on : (b : Bool) (more less : Type 0) (events : List Event) (command : Command) (left : List Command) → (more → less → ⊥) → ComesOn b more events (command ∷ left) → GoesOn b less events → ⊥
not_on true more less events command left go on goes = go on goes
not_on false more less events command left go (none, over) goes = absurd (cc over)

pub come_not_through : (force : Bool) (commands : List Command) (events : List Event) (command : Command) (left : List Command) → HasCome force commands events (command ∷ left) → IsThrough force commands events → ⊥
come_not_through force [] [] command left is through = absurd (cc is)
come_not_through force (own ∷ commands) [] command left is through = through
come_not_through force [] (first ∷ events) command left is through = is
come_not_through force (own ∷ commands) (first ∷ events) command left (here, on) (line, goes) =
    not_on (force || is_accepted first.kind) (HasCome force commands events (command ∷ left)) (IsThrough force commands events) events command left (come_not_through force commands events command left) on goes

short_on : (b : Bool) (more : Type 0) (events : List Event) (left commands : List Command) → (more → length events + length left ≤ length commands) → ComesOn b more events left → length events + length left ≤ length commands
short_on true more events left commands go on = go on
short_on false more events left commands go (none, over) = let a = ap length none in let b = ap length over in omega (arith, a, b)

pub come_short : (force : Bool) (commands : List Command) (events : List Event) (left : List Command) → HasCome force commands events left → length events + length left ≤ length commands
come_short force commands [] left is = let e = ap length is in omega (arith, e)
come_short force [] (first ∷ events) left is = absurd is
come_short force (own ∷ commands) (first ∷ events) left (here, on) =
    let rest = short_on (force || is_accepted first.kind) (HasCome force commands events left) events left commands (come_short force commands events left) on in omega (arith, rest)

-- ---- the events of a control
pub events_own : (control : ℕ) (events : List Event) (event : Event) → (event.control == control) ≡ true → events_of control (events ++ event ∷ []) ≡ events_of control events ++ event ∷ []
events_own control events event is =
    filter-append (is_of control) events (event ∷ []) ∙ ap (λ (b : Bool). events_of control events ++ (if b then event ∷ [] else [])) is

pub events_other : (control : ℕ) (events : List Event) (event : Event) → (event.control == control) ≡ false → events_of control (events ++ event ∷ []) ≡ events_of control events
events_other control events event is =
    filter-append (is_of control) events (event ∷ []) ∙ ap (λ (b : Bool). events_of control events ++ (if b then event ∷ [] else [])) is ∙ append-nil (events_of control events)

-- ---- the results of events
pub results_further : (batches : List GivenBatch) (s : State) (events : List Event) (edits : List Edit) (event : Event) (words : List (List ℕ)) (next : State) (own : List Edit) → AreResults batches s events edits
    → IsLineOf batches event words → IsResult (state_from s edits) words event.kind next own → AreResults batches s (events ++ event ∷ []) (edits ++ own)
results_further batches s [] edits event words next own is line result =
    (words, next, own, [], line, subst (λ (es : List Edit). IsResult (state_from s es) words event.kind next own) is result, refl, ap (λ (es : List Edit). es ++ own) is ∙ sym (append-nil own))
results_further batches s (first ∷ events) edits event words next own (words', next', first', rest, line', result', more, is) line result =
    let state : state_from s edits ≡ state_from next' rest = ap (state_from s) is ∙ state_from-append s first' rest ∙ ap (λ (t : State). state_from t rest) (leads s words' first.kind next' first' result') in (
      words',
      next',
      first',
      rest ++ own,
      line',
      result',
      results_further batches next' events rest event words next own more line (subst (λ (t : State). IsResult t words event.kind next own) state result),
      ap (λ (es : List Edit). es ++ own) is ∙ append_assoc first' rest own,
    )
