-- Events that have begun can be gone through to the end: each control's left commands, one control after the other.
use Rattle.std.proofs.Common.{◌≡◌, ◌∙◌, ℕ, suc, ◌<◌, Bool, true, false, List, [], ◌∷◌, ◌++◌, Ok, Err, refl, ap, subst, sym, arith, append-nil, append_assoc, ◌⊎◌, inl, inr}
use Rattle.std.specs.Prelude.{◌||◌}
use Rattle.filter_state.specs.Sound.{Each, EachPair}
use Rattle.filter_state.specs.declared.edit.Edit.{Edit}
use Rattle.filter_state.specs.States.{State}
use Rattle.filter_state.specs.Steps.{Stepped, step}
use Rattle.filter_state.specs.Journals.{state_from}
use Rattle.tc_batch.specs.Grammar.{Gives}
use Rattle.tc_batch.specs.FirstBad.{IsFirstBad}
use Rattle.tc_batch.proofs.Runs.{answered}
use Rattle.batch_run.specs.Commands.{Command}
use Rattle.filter_state.proofs.Pairs.{each_weaker}
use Rattle.run_report.specs.declared.events.Event.{Event}
use Rattle.run_report.specs.declared.events.EventKind.{EventKind}
use Rattle.run_report.specs.declared.events.EventKind.TheVariants as kinds
use Rattle.run_report.specs.Counts.{is_accepted}
use Rattle.lawful_runs.specs.Given.{GivenBatch}
use Rattle.lawful_runs.specs.Events.{IsAmong, GoesOn, IsThrough, AreInOrder, IsResult, AreResults, events_of}
use Rattle.lawful_runs.proofs.InOrder.{IsGoneThrough, in_order}
use Rattle.lawful_runs.proofs.Events.{state_from-append, leads}
use Rattle.report_laws.specs.Begun.{IsBegun, AreBegun}
use Rattle.report_laws.proofs.OneControl.{IsBy, events_of-append, all_own}
use Rattle.report_laws.proofs.OfWholePaths.OneControl.{none_above, none_below}

-- ---- results, one behind the other
pub results_behind : (batches : List GivenBatch) (s : State) (xs ys : List Event) (first second : List Edit) → AreResults batches s xs first → AreResults batches (state_from s first) ys second
    → AreResults batches s (xs ++ ys) (first ++ second)
results_behind batches s [] ys first second is later =
    subst (λ (edits : List Edit). AreResults batches s ys (edits ++ second)) (sym is) (subst (λ (edits : List Edit). AreResults batches (state_from s edits) ys second) is later)
results_behind batches s (event ∷ xs) ys first second (words, next, own, rest, line, result, more, is) later =
    let there : state_from s first ≡ state_from next rest =
    ap (state_from s) is ∙ state_from-append s own rest ∙ ap (λ (t : State). state_from t rest) (leads s words event.kind next own result) in (
      words,
      next,
      own,
      rest ++ second,
      line,
      result,
      results_behind batches next xs ys rest second more (subst (λ (t : State). AreResults batches t ys second) there later),
      ap (λ (edits : List Edit). edits ++ second) is ∙ append_assoc own rest second,
    )

-- ---- what a line comes to
pub record HasResult (s : State) (words : List (List ℕ)) : Type 0 where
  pub kind : EventKind
  pub next : State
  pub own : List Edit
  pub is : IsResult s words kind next own

stepped_result : (s : State) (words : List (List ℕ)) (edit : Edit) → Gives words edit → (stepped : Stepped) → step s edit ≡ stepped → HasResult s words
stepped_result s words edit gives (Ok (next, done)) is = record { kind = kinds.Accepted done; next = next; own = edit ∷ []; is = (edit, gives, is, refl) }
stepped_result s words edit gives (Err refusal) is = record { kind = kinds.Refused refusal; next = s; own = []; is = (edit, gives, is, refl, refl) }

answered_result : (s : State) (words : List (List ℕ)) → ((edit : Edit) × Gives words edit) ⊎ ((at : ℕ) × IsFirstBad words at) → HasResult s words
answered_result s words (inl (edit, gives)) = stepped_result s words edit gives (step s edit) refl
answered_result s words (inr (at, bad)) = record { kind = kinds.Syntax at; next = s; own = []; is = (bad, refl, refl) }

pub some_result : (s : State) (words : List (List ℕ)) → HasResult s words
some_result s words = answered_result s words (answered words)

-- ---- the left commands of one batch
record IsFinished (batches : List GivenBatch) (batch : GivenBatch) (s : State) (commands : List Command) (front : List Event) : Type 0 where
  pub more : List Event
  pub added : List Edit
  pub own : Each (IsBy batch.control) more
  pub through : IsThrough batch.force commands (front ++ more)
  pub results : AreResults batches s more added

abbrev AreOf : GivenBatch → List Command → Type 0
AreOf batch commands = Each (λ (command : Command). IsAmong command batch.commands) commands

module _ (batches : List GivenBatch) (batch : GivenBatch) (given : IsAmong batch batches) where
  one_more : (s : State) (command : Command) (commands : List Command) → IsAmong command batch.commands → (result : HasResult s command.words)
      → (b : Bool) → (batch.force || is_accepted result.kind) ≡ b → (b ≡ true → IsFinished batches batch result.next commands []) → IsFinished batches batch s (command ∷ commands) []
  one_more s command commands there result true goes rest =
      let event : Event = record { control = batch.control; line = command.line; kind = result.kind } in
      let later = rest refl in
      record {
        more = event ∷ later.more;
        added = result.own ++ later.added;
        own = (refl, later.own);
        through = (refl, subst (λ (b : Bool). GoesOn b (IsThrough batch.force commands later.more) later.more) (sym goes) later.through);
        results = (
          command.words,
          result.next,
          result.own,
          later.added,
          record { batch = batch; command = command; given = given; control = refl; there = there; line = refl; words_are = refl },
          result.is,
          later.results,
          refl,
        );
      }
  one_more s command commands there result false stops rest =
      let event : Event = record { control = batch.control; line = command.line; kind = result.kind } in
      record {
        more = event ∷ [];
        added = result.own ++ [];
        own = (refl, tt);
        through = (refl, subst (λ (b : Bool). GoesOn b (IsThrough batch.force commands []) []) (sym stops) refl);
        results = (
          command.words,
          result.next,
          result.own,
          [],
          record { batch = batch; command = command; given = given; control = refl; there = there; line = refl; words_are = refl },
          result.is,
          refl,
          refl,
        );
      }

  fresh : (s : State) (commands : List Command) → AreOf batch commands → IsFinished batches batch s commands []
  fresh s [] are = record { more = []; added = []; own = tt; through = refl; results = refl }
  fresh s (command ∷ commands) are =
      let result = some_result s command.words in
      one_more s command commands are.0 result (batch.force || is_accepted result.kind) refl (λ goes. fresh result.next commands are.1)

  goes_further : (s : State) (command : Command) (commands : List Command) (event : Event) (front : List Event) (b : Bool)
      → event.line ≡ command.line → (batch.force || is_accepted event.kind) ≡ b → GoesOn b (IsBegun batch.force commands front) front
      → (IsBegun batch.force commands front → IsFinished batches batch s commands front) → IsFinished batches batch s (command ∷ commands) (event ∷ front)
  goes_further s command commands event front true line goes begun rest =
      let later = rest begun in
      record {
        more = later.more;
        added = later.added;
        own = later.own;
        through = (line, subst (λ (b : Bool). GoesOn b (IsThrough batch.force commands (front ++ later.more)) (front ++ later.more)) (sym goes) later.through);
        results = later.results;
      }
  goes_further s command commands event front false line stops begun rest = record {
    more = [];
    added = [];
    own = tt;
    through = (line, subst (λ (b : Bool). GoesOn b (IsThrough batch.force commands (front ++ [])) (front ++ [])) (sym stops) (append-nil front ∙ begun));
    results = refl;
  }

  finished : (s : State) (commands : List Command) (front : List Event) → AreOf batch commands → IsBegun batch.force commands front → IsFinished batches batch s commands front
  finished s commands [] are begun = fresh s commands are
  finished s [] (event ∷ front) are begun = absurd begun
  finished s (command ∷ commands) (event ∷ front) are begun =
      goes_further s command commands event front (batch.force || is_accepted event.kind) begun.0 refl begun.1 (λ it. finished s commands front are.1 it)

-- ---- all batches
places_of : {X : Type 0} (xs : List X) → Each (λ x. IsAmong x xs) xs
places_of [] = tt
places_of {X = X} (x ∷ xs) = ((0, refl), each_weaker (λ (y : X). IsAmong y xs) (λ (y : X). IsAmong y (x ∷ xs)) (λ y at. (suc at.0, at.1)) xs (places_of xs))

abbrev pub Before : GivenBatch → GivenBatch → Type 0
Before one other = one.control < other.control

abbrev HasBegun : List Event → GivenBatch → Type 0
HasBegun events batch = IsBegun batch.force batch.commands (events_of batch.control events)

record AreFinished (batches left : List GivenBatch) (s : State) (front : List Event) : Type 0 where
  pub more : List Event
  pub added : List Edit
  pub none : (control : ℕ) → Each (λ (batch : GivenBatch). control < batch.control) left → events_of control more ≡ []
  pub through : Each (IsGoneThrough (front ++ more)) left
  pub results : AreResults batches s more added

-- what others do changes nothing for a control
begun_still : (front more : List Event) (batch : GivenBatch) → events_of batch.control more ≡ [] → HasBegun front batch → HasBegun (front ++ more) batch
begun_still front more batch none begun =
    let same : events_of batch.control (front ++ more) ≡ events_of batch.control front =
    events_of-append batch.control front more ∙ ap (λ (es : List Event). events_of batch.control front ++ es) none ∙ append-nil (events_of batch.control front) in
    subst (IsBegun batch.force batch.commands) (sym same) begun

still_all : (control : ℕ) (front more : List Event) → Each (IsBy control) more → (left : List GivenBatch) → Each (λ (batch : GivenBatch). control < batch.control) left
    → Each (HasBegun front) left → Each (HasBegun (front ++ more)) left
still_all control front more by [] behind begun = tt
still_all control front more by (batch ∷ left) behind begun =
    (begun_still front more batch (none_above control batch.control more by behind.0) begun.0, still_all control front more by left behind.1 begun.1)

less_still : (control : ℕ) (batch : GivenBatch) → control < batch.control → (left : List GivenBatch) → Each (Before batch) left → Each (λ (b : GivenBatch). control < b.control) left
less_still control batch less left behind = each_weaker (Before batch) (λ (b : GivenBatch). control < b.control) (λ b after. omega (arith, less, after)) left behind

all_finished : (batches left : List GivenBatch) (s : State) (front : List Event) → Each (λ (batch : GivenBatch). IsAmong batch batches) left → EachPair Before left → Each (HasBegun front) left
    → AreFinished batches left s front
all_finished batches [] s front among rise begun = record { more = []; added = []; none = λ control each. refl; through = tt; results = refl }
all_finished batches (batch ∷ left) s front among rise begun =
    let one = finished batches batch among.0 s batch.commands (events_of batch.control front) (places_of batch.commands) begun.0 in
    let next : State = state_from s one.added in
    let rest = all_finished batches left next (front ++ one.more) among.1 rise.1 (still_all batch.control front one.more one.own left rise.0 begun.1) in
    let others : events_of batch.control rest.more ≡ [] = rest.none batch.control rise.0 in
    let mine : events_of batch.control (front ++ (one.more ++ rest.more)) ≡ events_of batch.control front ++ one.more =
    events_of-append batch.control front (one.more ++ rest.more)
    ∙ ap (λ (es : List Event). events_of batch.control front ++ es)
    (events_of-append batch.control one.more rest.more ∙ ap (λ (es : List Event). es ++ events_of batch.control rest.more) (all_own batch.control one.more one.own)
    ∙ ap (λ (es : List Event). one.more ++ es) others ∙ append-nil one.more) in
    record {
      more = one.more ++ rest.more;
      added = one.added ++ rest.added;
      none = λ control less.
          events_of-append control one.more rest.more
          ∙ ap (λ (es : List Event). es ++ events_of control rest.more) (none_below batch.control control one.more one.own less.0)
          ∙ rest.none control (less_still control batch less.0 left rise.0);
      through = (
        subst (IsThrough batch.force batch.commands) (sym mine) one.through,
        subst (λ (es : List Event). Each (IsGoneThrough es) left) (append_assoc front one.more rest.more) rest.through,
      );
      results = results_behind batches s one.more rest.more one.added rest.added one.results rest.results;
    }

each_among : (batches left : List GivenBatch) → Each (λ (batch : GivenBatch). IsAmong batch batches) left → (front : List Event) → AreBegun batches front → Each (HasBegun front) left
each_among batches left among front begun = each_weaker (λ (batch : GivenBatch). IsAmong batch batches) (HasBegun front) (λ batch is. begun batch is) left among

-- THE EVENTS OF A ROUND THAT HAS BEGUN can be gone through
pub record CanEnd (batches : List GivenBatch) (s : State) (front : List Event) (edits : List Edit) : Type 0 where
  pub more : List Event
  pub added : List Edit
  pub order : AreInOrder batches (front ++ more)
  pub results : AreResults batches s (front ++ more) (edits ++ added)
  pub behind : AreResults batches (state_from s edits) more added

pub can_end : (batches : List GivenBatch) (s : State) (front : List Event) (edits : List Edit) → EachPair Before batches → AreBegun batches front → AreResults batches s front edits
    → CanEnd batches s front edits
can_end batches s front edits rise begun results =
    let among = places_of batches in
    let it = all_finished batches batches (state_from s edits) front among rise (each_among batches batches among front begun) in
    record {
      more = it.more;
      added = it.added;
      order = in_order batches (front ++ it.more) it.through;
      results = results_behind batches s front it.more edits it.added results it.results;
      behind = it.results;
    }
