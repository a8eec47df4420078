-- What is known of a change while it is told (this project's own).
use Rattle.std.specs.Prelude.{◌≡◌, ◌≤◌, List, length}
use Rattle.batch_run.specs.declared.limit.TheConstants.{COMMANDS_MAX}
use Rattle.filter_origins.specs.declared.origins.Origins.{Origins}
use Rattle.filter_origins.specs.Entries.{Entry, entries_of}
use Rattle.filter_origins.specs.Knows.{Knows}
use Rattle.change_lines.specs.Passed.{IsKept}
use Rattle.change_lines.specs.Passed.{KnowsHeads}
use Rattle.change_lines.specs.declared.applied.AppliedChange.{AppliedChange}
use Rattle.change_fates.specs.Told.{ChangeAt}

-- its edits, each with its place
abbrev pub entries_applied : AppliedChange → List Entry
entries_applied applied = entries_of applied.replay.places.items applied.replay.journal.items

abbrev pub change_of : AppliedChange → ChangeAt
change_of applied = record {
  entries = entries_applied applied;
  hook = applied.hook;
  before = applied.before;
}

-- they are known, and so is who brought what
pub record IsKnown (applied : AppliedChange) (origins : Origins) : Type 0 where
  pub kept : IsKept applied.replay
  pub few : length applied.replay.journal.items ≤ COMMANDS_MAX
  pub each : length applied.replay.places.items ≡ length applied.replay.journal.items
  pub knows : Knows origins (entries_applied applied)
  pub heads : KnowsHeads applied.heads applied.replay.journal.items
  pub at_hook : applied.heads.hook ≡ applied.hook
  pub since : applied.heads.before ≡ applied.before
  pub before : applied.before ≤ length applied.replay.journal.items
