-- A change comes to one thing.
use Rattle.std.proofs.Common.{◌≡◌, ◌∙◌, ℕ, zero, suc, Bool, true, false, List, [], ◌∷◌, ◌++◌, refl, sym, ap, subst, arith}
use Rattle.std.specs.Prelude.{◌||◌}
use Rattle.filter_state.specs.declared.edit.Edit.{Edit}
use Rattle.filter_state.specs.States.{State, no_state}
use Rattle.filter_state.specs.Sound.{Each}
use Rattle.filter_state.specs.Journals.{state_from, IsLawful}
use Rattle.batch_run.specs.Commands.{Command, commands_from}
use Rattle.run_report.specs.declared.events.Event.{Event}
use Rattle.run_report.specs.declared.events.EventKind.{EventKind}
use Rattle.run_report.specs.Counts.{is_accepted}
use Rattle.lawful_runs.specs.Given.{GivenBatch}
use Rattle.lawful_runs.specs.Events.{IsAmong, GoesOn, IsThrough, IsResult, AreInOrder, AreResults}
use Rattle.lawful_runs.proofs.Events.{leads}
use Rattle.lawful_runs.proofs.GivenCommands.{AreGiven, numbered, one_words}
use Rattle.lawful_runs.proofs.Journals.{lawful_append}
use Rattle.lawful_runs.proofs.Results.{results_lawful}
use Rattle.report_laws.proofs.Deciding.{one_kind}
use Rattle.report_laws.proofs.OneControl.{IsBy, all_own}
use Rattle.report_laws.proofs.OfWholePaths.Finishing.{can_end}
use Rattle.change_fate_laws.specs.Changes.{given_by, Changed, IsChanged, journal_of}

-- ---- all events are the one control's
one_of : (batch other : GivenBatch) → IsAmong batch (other ∷ []) → batch ≡ other
one_of batch other (zero, is) = cc
one_of batch other (suc place, is) = absurd (cc is)

all_by : (force : Bool) (commands : List Command) (s : State) (events : List Event) (edits : List Edit)
    → AreResults (given_by force commands) s events edits → Each (IsBy 1) events
all_by force commands s [] edits are = tt
all_by force commands s (event ∷ events) edits (words, next, first, rest, line, result, more, is) =
    let batch = one_of line.batch (record { control = 1; force = force; commands = commands }) line.given in (
      sym line.control ∙ ap (λ (b : GivenBatch). b.control) batch,
      all_by force commands next events rest more,
    )

through : (force : Bool) (commands : List Command) (s : State) (events : List Event) (edits : List Edit)
    → AreInOrder (given_by force commands) events → AreResults (given_by force commands) s events edits
    → IsThrough force commands events
through force commands s events edits order are =
    let own = all_own 1 events (all_by force commands s events edits are) in
    subst (IsThrough force commands) own
    (order (record { control = 1; force = force; commands = commands }) (0, refl))

-- ---- line by line
given_once : (force : Bool) (texts : List (List ℕ)) → AreGiven (given_by force (commands_from 1 texts))
given_once force texts = record {
  controls = (tt, tt);
  few = (omega arith, tt);
  lines = ((numbered 1 texts).rise, tt);
}

abbrev AreOne : List Event → List Event → List Edit → List Edit → Type 0
AreOne events others edits more = (events ≡ others) × (edits ≡ more)

abbrev event_with : ℕ → ℕ → EventKind → Event
event_with control line kind = record { control = control; line = line; kind = kind }

same_event : (event other : Event) → event.control ≡ other.control → event.line ≡ other.line
    → event.kind ≡ other.kind → event ≡ other
same_event event other control line kind =
    ap (λ (c : ℕ). event_with c event.line event.kind) control
    ∙ ap (λ (l : ℕ). event_with other.control l event.kind) line
    ∙ ap (λ (k : EventKind). event_with other.control other.line k) kind

goes_on : (b other : Bool) (more again : List Event → Type 0) (xs ys : List Event) (edits rest : List Edit)
    → b ≡ other → GoesOn b (more xs) xs → GoesOn other (again ys) ys → (more xs → again ys → AreOne xs ys edits rest)
    → (xs ≡ [] → ys ≡ [] → AreOne xs ys edits rest) → AreOne xs ys edits rest
goes_on true true more again xs ys edits rest is one other then stop = then one other
goes_on true false more again xs ys edits rest is one other then stop = absurd (cc is)
goes_on false true more again xs ys edits rest is one other then stop = absurd (cc is)
goes_on false false more again xs ys edits rest is one other then stop = stop one other

none_of : (batches : List GivenBatch) (s : State) (events : List Event) (edits : List Edit) → events ≡ []
    → AreResults batches s events edits → edits ≡ []
none_of batches s [] edits is are = are
none_of batches s (event ∷ events) edits is are = absurd (cc is)

module _ (batches : List GivenBatch) (given : AreGiven batches) (force : Bool) where
  one_list : (commands : List Command) (s : State) (events others : List Event) (edits more : List Edit)
      → Each (IsBy 1) events → Each (IsBy 1) others
      → IsThrough force commands events → IsThrough force commands others
      → AreResults batches s events edits → AreResults batches s others more → AreOne events others edits more
  one_list [] s events others edits more own theirs one other are again =
      let first : events ≡ [] = one in let second : others ≡ [] = other in
      (first ∙ sym second, none_of batches s events edits first are ∙ sym (none_of batches s others more second again))
  one_list (command ∷ commands) s [] others edits more own theirs one other are again = absurd one
  one_list (command ∷ commands) s (x ∷ xs) [] edits more own theirs one other are again = absurd other
  one_list (command ∷ commands) s (x ∷ xs) (y ∷ ys) edits more own theirs one other
      (words, next, first, rest, line, result, behind, is) (words', next', first', rest', line', result', behind', is') =
      let lines : x.line ≡ y.line = one.0 ∙ sym other.0 in
      let controls : x.control ≡ y.control = own.0 ∙ sym theirs.0 in
      let same : words' ≡ words = one_words batches y x words' words given (sym controls) (sym lines) line' line in
      let met : IsResult s words y.kind next' first' = subst (λ (ws : List (List ℕ)). IsResult s ws y.kind next' first') same result' in
      let kinds = one_kind s words x.kind y.kind next next' first first' result met in
      let left : next ≡ next' = sym (leads s words x.kind next first result) ∙ ap (state_from s) kinds.1 ∙ leads s words y.kind next' first' met in
      let later : AreResults batches next ys rest' = subst (λ (state : State). AreResults batches state ys rest') (sym left) behind' in
      let all = goes_on (force || is_accepted x.kind) (force || is_accepted y.kind)
      (IsThrough force commands) (IsThrough force commands) xs ys rest rest'
      (ap (λ (k : EventKind). force || is_accepted k) kinds.0) one.1 other.1
      (λ through again. one_list commands next xs ys rest rest' own.1 theirs.1 through again behind later)
      (λ ended over. (ended ∙ sym over, none_of batches next xs rest ended behind ∙ sym (none_of batches next ys rest' over later))) in
      joined x y xs ys first first' rest rest' edits more (same_event x y controls lines kinds.0) all.0 kinds.1 all.1 is is'
    where
      joined : (x y : Event) (xs ys : List Event) (first first' rest rest' edits more : List Edit) → x ≡ y → xs ≡ ys
          → first ≡ first' → rest ≡ rest' → edits ≡ first ++ rest → more ≡ first' ++ rest'
          → AreOne (x ∷ xs) (y ∷ ys) edits more
      joined x y xs ys first first' rest rest' edits more one all here behind is are = (
        ap (λ (e : Event). e ∷ xs) one ∙ ap (λ (es : List Event). y ∷ es) all,
        is ∙ ap (λ (es : List Edit). es ++ rest) here ∙ ap (λ (es : List Edit). first' ++ es) behind ∙ sym are,
      )

pub one_turn : (force : Bool) (texts : List (List ℕ)) (s : State) (events others : List Event) (edits more : List Edit)
    → AreInOrder (given_by force (commands_from 1 texts)) events → AreResults (given_by force (commands_from 1 texts)) s events edits
    → AreInOrder (given_by force (commands_from 1 texts)) others → AreResults (given_by force (commands_from 1 texts)) s others more
    → (events ≡ others) × (edits ≡ more)
one_turn force texts s events others edits more order are order' are' =
    let commands = commands_from 1 texts in
    one_list (given_by force commands) (given_once force texts) force commands s events others edits more
    (all_by force commands s events edits are) (all_by force commands s others more are')
    (through force commands s events edits order are) (through force commands s others more order' are') are are'

abbrev change_with : List Event → List Edit → List Event → List Edit → Changed
change_with opening before events edits = record { opening = opening; before = before; events = events; edits = edits }

same_change : (one other : Changed) → one.opening ≡ other.opening → one.before ≡ other.before
    → one.events ≡ other.events → one.edits ≡ other.edits → one ≡ other
same_change one other opening before events edits =
    ap (λ (es : List Event). change_with es one.before one.events one.edits) opening
    ∙ ap (λ (es : List Edit). change_with other.opening es one.events one.edits) before
    ∙ ap (λ (es : List Event). change_with other.opening other.before es one.edits) events
    ∙ ap (λ (es : List Edit). change_with other.opening other.before other.events es) edits

pub one_of_changes : (batch change : List (List ℕ)) (force : Bool) (one other : Changed)
    → IsChanged (commands_from 1 batch) (commands_from 1 change) force one
    → IsChanged (commands_from 1 batch) (commands_from 1 change) force other → one ≡ other
one_of_changes batch change force one other is are =
    let first = one_turn false batch no_state one.opening other.opening one.before other.before is.opened is.opens are.opened are.opens in
    let second = one_turn force change (state_from no_state one.before) one.events other.events one.edits other.edits
    is.order is.results are.order
    (subst (λ (edits : List Edit). AreResults (given_by force (commands_from 1 change)) (state_from no_state edits) other.events other.edits)
    (sym first.1) are.results) in
    same_change one other first.0 first.1 second.0 second.1

-- ---- there is one
pub some_of_changes : (batch change : List Command) (force : Bool) → (it : Changed) × IsChanged batch change force it
some_of_changes batch change force =
    let first = can_end (given_by false batch) no_state [] [] (tt, tt) (λ given among. tt) refl in
    let second = can_end (given_by force change) (state_from no_state first.added) [] [] (tt, tt) (λ given among. tt) refl in (
      record { opening = first.more; before = first.added; events = second.more; edits = second.added },
      record { opened = first.order; opens = first.results; order = second.order; results = second.results },
    )

-- ---- its journal is lawful
pub change_lawful : (batch change : List Command) (force : Bool) (it : Changed) → IsChanged batch change force it
    → IsLawful (journal_of it)
change_lawful batch change force it is =
    lawful_append no_state it.before it.edits
    (results_lawful (given_by false batch) no_state it.opening it.before is.opens)
    (results_lawful (given_by force change) (state_from no_state it.before) it.events it.edits is.results)
