-- The lines of a file come one further.
use Rattle.std.proofs.Common.{◌≡◌, ◌∙◌, ℕ, ◌+◌, ◌<◌, ◌≤◌, Bool, true, false, List, [], ◌∷◌, ◌++◌, length, get_or, refl, sym, ap, subst, append_assoc, append-nil, eq-eqb, arith}
use Rattle.std.specs.Prelude.{◌||◌, ◌==◌, not, if◌then◌else◌}
use Rattle.std.specs.Borrow.{Bor}
use Rattle.std.proofs.lemmas.List.{length-append}
use Rattle.edit_lines.specs.declared.line.LinePlace.{LinePlace}
use Rattle.filter_state.specs.declared.edit.Edit.{Edit}
use Rattle.filter_state.specs.States.{State, no_state}
use Rattle.filter_state.specs.Journals.{state_from}
use Rattle.batch_run.specs.Commands.{Command, commands_from, commands_in}
use Rattle.batch_run.proofs.CommandLines.{nothing, words_at, command_at, past_all, left_at, blank_at, one_at}
use Rattle.journal_replay.specs.Passed.{Event}
use Rattle.journal_replay.specs.Passed.{is_accepted, accepted_count}
use Rattle.journal_replay.specs.Passed.{IsLineOf, IsResult, AreResults, events_of}
use Rattle.journal_replay.proofs.Passed.{state_from-append}
use Rattle.journal_replay.proofs.Passed.{results_counted}
use Rattle.journal_replay.proofs.Passed.{come_further, come_among, come_short, events_own, results_further}
use Rattle.journal_replay.specs.declared.replay.Replay.{Replay}
use Rattle.journal_replay.specs.Placed.{places_of}
use Rattle.journal_replay.specs.Replays.{IsKept}
use Rattle.change_lines.proofs.Places.{places_append}
use Rattle.change_fate_laws.specs.Changes.{given_by}
use Rattle.change_lines.specs.Lines.{refused_count}
use Rattle.change_lines.specs.Reached.{HasMet, IsReached}
use Rattle.change_lines.proofs.Counts.{refused_append, refused_few, accepted_few}

pub begun : (force : Bool) (all : List Command) (first : Replay) → IsKept first → IsReached force all all first first []
begun force all first kept = record {
  edits = [];
  come = refl;
  results = refl;
  own = refl;
  journal_is = sym (append-nil first.journal.items);
  placed = sym (append-nil first.places.items);
  refused = omega arith;
  kept = kept;
}

-- ---- one command
pub further : (force : Bool) (all : List Command) (command : Command) (left : List Command) (first old new : Replay) (events : List Event) (event : Event)
    → IsReached force all (command ∷ left) first old events → HasMet old new command.words command.line event
    → IsReached force all (if force || is_accepted event.kind then left else []) first new (events ++ (event ∷ []))
further force all command left first old new events event at has =
    let (next, own, result, grown) = has.met in
    let s : State = state_from no_state first.journal.items in
    let there : state_from no_state old.journal.items ≡ state_from s at.edits =
    ap (state_from no_state) at.journal_is ∙ state_from-append no_state first.journal.items at.edits in
    let line_of : IsLineOf (given_by force all) event command.words = record {
      batch = record { control = 1; force = force; commands = all };
      command = command;
      given = (0, refl);
      control = sym has.control;
      there = come_among force all events command left at.come;
      line = sym has.line;
      words_are = refl;
    } in
    let more = refused_append events (event ∷ []) in
    let was = at.refused in
    let is = has.refused in
    record {
      edits = at.edits ++ own;
      come = come_further force all events command left event at.come has.line;
      results = results_further (given_by force all) s events at.edits event command.words next own at.results line_of
          (subst (λ (state : State). IsResult state command.words event.kind next own) there result);
      own = events_own 1 events event (eq-eqb event.control 1 has.control) ∙ ap (λ (es : List Event). es ++ (event ∷ [])) at.own;
      journal_is = grown ∙ ap (λ (es : List Edit). es ++ own) at.journal_is ∙ append_assoc first.journal.items at.edits own;
      placed = has.placed ∙ ap (λ (ps : List LinePlace). ps ++ places_of (event ∷ [])) at.placed
          ∙ append_assoc first.places.items (places_of events) (places_of (event ∷ []))
          ∙ ap (λ (ps : List LinePlace). first.places.items ++ ps) (sym (places_append events (event ∷ [])));
      refused = omega (arith, more, was, is);
      kept = has.kept;
    }

-- ---- how many there are
-- the journal behind the events
pub counted : (force : Bool) (all left : List Command) (first now : Replay) (events : List Event) → IsReached force all left first now events
    → length now.journal.items ≡ length first.journal.items + accepted_count events
counted force all left first now events at =
    let long = ap length at.journal_is in
    let both = length-append first.journal.items at.edits in
    let edits = results_counted (given_by force all) (state_from no_state first.journal.items) events at.edits at.results in
    omega (arith, long, both, edits)

pub record HasRoom (all left : List Command) (first now : Replay) : Type 0 where
  pub journal : length now.journal.items + length left ≤ length first.journal.items + length all
  pub refused : now.refused + length left ≤ first.refused + length all

pub has_room : (force : Bool) (all left : List Command) (first now : Replay) (events : List Event) → IsReached force all left first now events → HasRoom all left first now
has_room force all left first now events at =
    let short = come_short force all events left at.come in
    let long = counted force all left first now events at in
    let few = accepted_few events in
    let less = refused_few events in
    let refused = at.refused in
    record { journal = omega (arith, short, long, few); refused = omega (arith, short, less, refused) }

-- ---- at the lent lines that a loop reads
pub after_blank : (force : Bool) (first now : Replay) (events : List Event) (i : ℕ) (lines : List (Bor (List ℕ))) (all : List Command) → i < length lines → not (length (words_at lines i) == 0) ≡ false
    → IsReached force all (left_at lines i) first now events → IsReached force all (left_at lines (i + 1)) first now events
after_blank force first now events i lines all here is at = subst (λ (left : List Command). IsReached force all left first now events) (blank_at lines i here is) at

pub at_command : (force : Bool) (first now : Replay) (events : List Event) (i : ℕ) (lines : List (Bor (List ℕ))) (all : List Command) → i < length lines → not (length (words_at lines i) == 0) ≡ true
    → IsReached force all (left_at lines i) first now events
    → IsReached force all (command_at (i + 1) (get_or lines i nothing).now ∷ left_at lines (i + 1)) first now events
at_command force first now events i lines all here is at = subst (λ (left : List Command). IsReached force all left first now events) (one_at lines i here is) at

pub at_end : (force : Bool) (first now : Replay) (events : List Event) (i : ℕ) (lines : List (Bor (List ℕ))) (all : List Command) → length lines ≤ i
    → IsReached force all (left_at lines i) first now events → IsReached force all [] first now events
at_end force first now events i lines all past at =
    subst (λ (left : List Command). IsReached force all left first now events) (ap (commands_from (i + 1)) (past_all lines i past)) at

-- the line at an index was met, and the file goes on or doesn't
pub after_line : (force goes : Bool) (first old new : Replay) (events : List Event) (event : Event) (i number : ℕ) (lines : List (Bor (List ℕ))) (all : List Command) → i < length lines
    → not (length (words_at lines i) == 0) ≡ true → number ≡ i → goes ≡ (force || is_accepted event.kind) → IsReached force all (left_at lines i) first old events
    → HasMet old new (words_at lines i) (number + 1) event
    → IsReached force all (if goes then left_at lines (i + 1) else []) first new (events ++ (event ∷ []))
after_line force goes first old new events event i number lines all here is numbered on at has =
    subst (λ (b : Bool). IsReached force all (if b then left_at lines (i + 1) else []) first new (events ++ (event ∷ []))) (sym on)
    (further force all (command_at (i + 1) (get_or lines i nothing).now) (left_at lines (i + 1)) first old new events event (at_command force first old events i lines all here is at)
    (subst (λ (n : ℕ). HasMet old new (words_at lines i) (n + 1) event) numbered has))
