-- The batch comes one line further.
use Rattle.std.proofs.Common.{◌≡◌, ◌∙◌, ℕ, ◌+◌, ◌<◌, ◌≤◌, Bool, true, false, List, [], ◌∷◌, ◌++◌, length, refl, sym, ap, subst, append-nil, arith}
use Rattle.std.specs.Prelude.{◌||◌, ◌==◌, not, filter, if◌then◌else◌}
use Rattle.std.specs.Borrow.{Bor}
use Rattle.batch_run.specs.Commands.{Command, commands_in}
use Rattle.batch_run.proofs.CommandLines.{words_at, left_at}
use Rattle.walk_texts.specs.Texts.{joined}
use Rattle.journal_replay.specs.Passed.{Event}
use Rattle.journal_replay.specs.Passed.{is_accepted, accepted_count}
use Rattle.journal_replay.specs.Passed.{event_line}
use Rattle.change_lines.proofs.Lines.{accepted_append}
use Rattle.journal_replay.specs.declared.replay.Replay.{Replay}
use Rattle.journal_replay.specs.Replays.{IsKept}
use Rattle.change_lines.specs.declared.opening.Opened.{Opened}
use Rattle.change_lines.specs.Lines.{is_refused, stops_at}
use Rattle.change_lines.specs.Reached.{HasMet, IsReached, IsFresh, IsOpened}
use Rattle.change_lines.proofs.Counts.{accepted_none, none_more, stops_once, stops_never}
use Rattle.change_lines.proofs.Reaching.{begun, counted, has_room, after_blank, at_command, after_line, at_end}

-- before the line at an index: no line was refused
pub record IsOpening (lines : List (Bor (List ℕ))) (i : ℕ) (now : Replay) (stop : List ℕ) : Type 0 where
  pub first : Replay
  pub fresh : IsFresh first
  pub events : List Event
  pub reached : IsReached false (commands_in lines) (left_at lines i) first now events
  pub none : filter is_refused events ≡ []
  pub empty : stop ≡ []

pub opening_begun : (lines : List (Bor (List ℕ))) (now : Replay) (stop : List ℕ) → IsKept now → IsFresh now → stop ≡ [] → IsOpening lines 0 now stop
opening_begun lines now stop kept fresh empty = record {
  first = now;
  fresh = fresh;
  events = [];
  reached = begun false (commands_in lines) now kept;
  none = refl;
  empty = empty;
}

module _ (lines : List (Bor (List ℕ))) (i : ℕ) (now : Replay) (stop : List ℕ) (at : IsOpening lines i now stop) where
  pub opening_blank : i < length lines → not (length (words_at lines i) == 0) ≡ false → IsOpening lines (i + 1) now stop
  opening_blank here is = record {
    first = at.first;
    fresh = at.fresh;
    events = at.events;
    reached = after_blank false at.first now at.events i lines (commands_in lines) here is at.reached;
    none = at.none;
    empty = at.empty;
  }

  pub record IsShort : Type 0 where
    pub journal : length now.journal.items < 262144
    pub refused : now.refused < 262144

  pub is_short : length (commands_in lines) ≤ 262144 → i < length lines → not (length (words_at lines i) == 0) ≡ true → IsShort
  is_short few here is =
      let room = has_room false (commands_in lines) _ at.first now at.events (at_command false at.first now at.events i lines (commands_in lines) here is at.reached) in
      let none = ap length at.fresh.journal in
      let zero = at.fresh.refused in
      let a = room.journal in
      let b = room.refused in
      record { journal = omega (arith, few, none, a); refused = omega (arith, few, zero, b) }

  -- a command is accepted
  pub opening_more : (new : Replay) (event : Event) (number : ℕ) (goes : Bool) → i < length lines → not (length (words_at lines i) == 0) ≡ true → number ≡ i → goes ≡ (false || is_accepted event.kind)
      → goes ≡ true → HasMet now new (words_at lines i) (number + 1) event → IsOpening lines (i + 1) new stop
  opening_more new event number goes here is numbered on goes_on has =
      let accepted : is_accepted event.kind ≡ true = sym on ∙ goes_on in
      record {
        first = at.first;
        fresh = at.fresh;
        events = at.events ++ (event ∷ []);
        reached = subst (λ (b : Bool). IsReached false (commands_in lines) (if b then left_at lines (i + 1) else []) at.first new (at.events ++ (event ∷ []))) goes_on
            (after_line false goes at.first now new at.events event i number lines (commands_in lines) here is numbered on at.reached has);
        none = none_more at.events event at.none accepted;
        empty = at.empty;
      }

  -- a command is refused
  pub opening_stopped : (opened : Opened) (event : Event) (number : ℕ) (goes : Bool) → i < length lines → not (length (words_at lines i) == 0) ≡ true → number ≡ i → goes ≡ (false || is_accepted event.kind)
      → goes ≡ false → HasMet now opened.replay (words_at lines i) (number + 1) event → opened.stop.items ≡ stop ++ event_line (length now.journal.items) event
      → IsOpened (commands_in lines) opened (at.events ++ (event ∷ []))
  opening_stopped opened event number goes here is numbered on stops has text =
      let refused : is_accepted event.kind ≡ false = sym on ∙ stops in
      let events = at.events ++ (event ∷ []) in
      let reached : IsReached false (commands_in lines) [] at.first opened.replay events =
      subst (λ (b : Bool). IsReached false (commands_in lines) (if b then left_at lines (i + 1) else []) at.first opened.replay events) stops
      (after_line false goes at.first now opened.replay at.events event i number lines (commands_in lines) here is numbered on at.reached has) in
      let long = counted false (commands_in lines) [] at.first opened.replay events reached in
      let was = counted false (commands_in lines) (left_at lines i) at.first now at.events at.reached in
      let both = accepted_append at.events (event ∷ []) in
      let none = accepted_none event refused in
      let same : length now.journal.items ≡ length opened.replay.journal.items = omega (arith, long, was, both, none) in
      record {
        first = at.first;
        fresh = at.fresh;
        reached = reached;
        stop = text ∙ ap (λ (s : List ℕ). s ++ event_line (length now.journal.items) event) at.empty
            ∙ ap (λ (n : ℕ). event_line n event) same
            ∙ sym (append-nil (event_line (length opened.replay.journal.items) event))
            ∙ ap joined (sym (stops_once (length opened.replay.journal.items) at.events event at.none refused));
      }

-- no command is left
pub opening_ended : (lines : List (Bor (List ℕ))) (i : ℕ) (opened : Opened) (stop : List ℕ) (at : IsOpening lines i opened.replay stop) → length lines ≤ i → opened.stop.items ≡ stop
    → IsOpened (commands_in lines) opened at.events
opening_ended lines i opened stop at past is = record {
  first = at.first;
  fresh = at.fresh;
  reached = at_end false at.first opened.replay at.events i lines (commands_in lines) past at.reached;
  stop = is ∙ at.empty ∙ sym (stops_never (length opened.replay.journal.items) at.events at.none);
}
