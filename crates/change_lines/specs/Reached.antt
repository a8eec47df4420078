-- How far the lines of a file have come (this project's own).
use Rattle.std.specs.Prelude.{◌≡◌, ℕ, ◌+◌, ◌≤◌, Bool, false, List, [], ◌∷◌, ◌++◌, length}
use Rattle.tc_base.specs.declared.hook.Hook.{Hook}
use Rattle.filter_state.specs.declared.edit.Edit.{Edit}
use Rattle.filter_state.specs.States.{no_state}
use Rattle.filter_state.specs.Journals.{state_from}
use Rattle.batch_run.specs.declared.limit.TheConstants.{COMMANDS_MAX}
use Rattle.batch_run.specs.Commands.{Command}
use Rattle.walk_texts.specs.Texts.{joined}
use Rattle.journal_replay.specs.Passed.{Event}
use Rattle.journal_replay.specs.Passed.{AreResults, events_of}
use Rattle.journal_replay.specs.Passed.{HasCome}
use Rattle.journal_replay.specs.Passed.{IsMet}
use Rattle.journal_replay.specs.declared.replay.Replay.{Replay}
use Rattle.journal_replay.specs.Placed.{places_of}
use Rattle.journal_replay.specs.Replays.{IsKept}
use Rattle.change_fate_laws.specs.Changes.{given_by, Changed, first_point, last_point, journal_of}
use Rattle.change_points.specs.Heads.{KnowsHeads}
use Rattle.change_lines.specs.declared.applied.AppliedChange.{AppliedChange}
use Rattle.change_lines.specs.declared.opening.Opened.{Opened}
use Rattle.change_lines.specs.Lines.{refused_count, refused_in, places_in, stops_at, stop_lines, change_lines}

-- a line of control 1 was met, and came to that event
pub record HasMet (old new : Replay) (words : List (List ℕ)) (number : ℕ) (event : Event) : Type 0 where
  pub control : event.control ≡ 1
  pub line : event.line ≡ number
  pub met : IsMet old.journal.items new.journal.items words event.kind
  pub placed : new.places.items ≡ old.places.items ++ places_of (event ∷ [])
  pub refused : new.refused ≡ old.refused + refused_count (event ∷ [])
  pub kept : IsKept new

-- HOW FAR A FILE HAS COME since a replay: its first commands came to these events, and these commands are left
pub record IsReached (force : Bool) (all left : List Command) (first now : Replay) (events : List Event)
    : Type 0 where
  pub edits : List Edit
  pub come : HasCome force all events left
  pub results : AreResults (given_by force all) (state_from no_state first.journal.items) events edits
  pub own : events_of 1 events ≡ events
  pub journal_is : now.journal.items ≡ first.journal.items ++ edits
  pub placed : now.places.items ≡ first.places.items ++ places_of events
  pub refused : now.refused ≡ first.refused + refused_count events
  pub kept : IsKept now

-- nothing is kept yet
pub record IsFresh (replay : Replay) : Type 0 where
  pub journal : replay.journal.items ≡ []
  pub places : replay.places.items ≡ []
  pub refused : replay.refused ≡ 0

-- a batch has come to its end, or to its first refused line, which is told
pub record IsOpened (commands : List Command) (opened : Opened) (events : List Event) : Type 0 where
  pub first : Replay
  pub fresh : IsFresh first
  pub reached : IsReached false commands [] first opened.replay events
  pub stop : opened.stop.items ≡ joined (stops_at (length opened.replay.journal.items) events)

-- A CHANGE IS APPLIED, and all that is told of it is kept
pub record IsApplied (hook : Hook) (applied : AppliedChange) (it : Changed) : Type 0 where
  pub kept : IsKept applied.replay
  pub journal_is : applied.replay.journal.items ≡ journal_of it
  pub placed : applied.replay.places.items ≡ places_in it
  pub each : length applied.replay.places.items ≡ length applied.replay.journal.items
  pub few : last_point it ≤ COMMANDS_MAX
  pub few_refused : refused_in it ≤ COMMANDS_MAX
  pub refused : applied.replay.refused ≡ refused_in it
  pub before : applied.before ≡ first_point it
  pub knows : KnowsHeads applied.heads (journal_of it)
  pub hook_is : applied.hook ≡ hook
  pub at_hook : applied.heads.hook ≡ hook
  pub since : applied.heads.before ≡ first_point it
  pub stop : applied.stop.items ≡ joined (stop_lines it)
  pub lines : applied.lines.items ≡ joined (change_lines it)
