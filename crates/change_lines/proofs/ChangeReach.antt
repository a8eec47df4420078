-- The change comes one line further.
use Rattle.std.proofs.Common.{◌≡◌, ◌∙◌, ℕ, ◌+◌, ◌<◌, ◌≤◌, Bool, true, false, List, [], ◌∷◌, ◌++◌, length, refl, sym, ap, subst, arith}
use Rattle.std.specs.Prelude.{◌||◌, ◌==◌, not, if◌then◌else◌}
use Rattle.std.specs.Borrow.{Bor}
use Rattle.batch_run.specs.Commands.{Command, commands_in}
use Rattle.batch_run.proofs.CommandLines.{words_at, left_at}
use Rattle.walk_texts.specs.Texts.{joined}
use Rattle.journal_replay.specs.Passed.{Event}
use Rattle.journal_replay.specs.Passed.{is_accepted, accepted_count}
use Rattle.journal_replay.specs.Passed.{event_line, event_lines}
use Rattle.journal_replay.specs.declared.replay.Replay.{Replay}
use Rattle.journal_replay.specs.Replays.{IsKept}
use Rattle.change_lines.specs.Reached.{HasMet, IsReached}
use Rattle.change_lines.proofs.Counts.{joined_push, lines_push}
use Rattle.change_lines.proofs.Reaching.{begun, counted, has_room, after_blank, at_command, after_line, at_end}

-- these commands are left, and of the others the lines are told
pub record IsTold (force : Bool) (lines : List (Bor (List ℕ))) (left : List Command) (first now : Replay) (text : List ℕ) : Type 0 where
  pub events : List Event
  pub reached : IsReached force (commands_in lines) left first now events
  pub told : text ≡ joined (event_lines (length first.journal.items) events)

pub changing_begun : (force : Bool) (lines : List (Bor (List ℕ))) (first : Replay) (text : List ℕ) → IsKept first → text ≡ [] → IsTold force lines (left_at lines 0) first first text
changing_begun force lines first text kept none = record { events = []; reached = begun force (commands_in lines) first kept; told = none }

module _ (force : Bool) (lines : List (Bor (List ℕ))) (i : ℕ) (first now : Replay) (text : List ℕ) (at : IsTold force lines (left_at lines i) first now text) where
  pub changing_blank : i < length lines → not (length (words_at lines i) == 0) ≡ false → IsTold force lines (left_at lines (i + 1)) first now text
  changing_blank here is = record {
    events = at.events;
    reached = after_blank force first now at.events i lines (commands_in lines) here is at.reached;
    told = at.told;
  }

  pub record IsShort : Type 0 where
    pub journal : length now.journal.items < 262144
    pub refused : now.refused < 262144

  pub is_short : length first.journal.items + length (commands_in lines) ≤ 262144 → first.refused + length (commands_in lines) ≤ 262144 → i < length lines → not (length (words_at lines i) == 0) ≡ true
      → IsShort
  is_short few less here is =
      let room = has_room force (commands_in lines) _ first now at.events (at_command force first now at.events i lines (commands_in lines) here is at.reached) in
      let a = room.journal in
      let b = room.refused in
      record { journal = omega (arith, few, a); refused = omega (arith, less, b) }

  pub changing_more : (new : Replay) (longer : List ℕ) (event : Event) (number : ℕ) (goes : Bool) → i < length lines → not (length (words_at lines i) == 0) ≡ true → number ≡ i
      → goes ≡ (force || is_accepted event.kind) → HasMet now new (words_at lines i) (number + 1) event → longer ≡ text ++ event_line (length now.journal.items) event
      → IsTold force lines (if goes then left_at lines (i + 1) else []) first new longer
  changing_more new longer event number goes here is numbered on has more =
      let before = length first.journal.items in
      let count = counted force (commands_in lines) (left_at lines i) first now at.events at.reached in
      record {
        events = at.events ++ (event ∷ []);
        reached = after_line force goes first now new at.events event i number lines (commands_in lines) here is numbered on at.reached has;
        told = more ∙ ap (λ (t : List ℕ). t ++ event_line (length now.journal.items) event) at.told
            ∙ ap (λ (n : ℕ). joined (event_lines before at.events) ++ event_line n event) count
            ∙ sym (joined_push (event_lines before at.events) (event_line (before + accepted_count at.events) event))
            ∙ ap joined (sym (lines_push before at.events event));
      }

  pub changing_ended : length lines ≤ i → IsTold force lines [] first now text
  changing_ended past = record {
    events = at.events;
    reached = at_end force first now at.events i lines (commands_in lines) past at.reached;
    told = at.told;
  }
