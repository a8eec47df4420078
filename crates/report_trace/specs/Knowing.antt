-- What is known of a run while its trace is written (this project's own).
use Rattle.std.specs.Prelude.{◌≡◌, ◌≤◌, List, length}
use Rattle.batch_run.specs.declared.limit.TheConstants.{COMMANDS_MAX}
use Rattle.batch_trace.specs.Passed.{Origins}
use Rattle.batch_trace.specs.Passed.{Entry, entries_of}
use Rattle.batch_trace.specs.Passed.{Knows}
use Rattle.report_check.specs.Passed.{Replay}
use Rattle.report_check.specs.Passed.{IsKept}

-- the edits of a replay, each with its place
abbrev pub entries_in_replay : Replay → List Entry
entries_in_replay replay = entries_of replay.places.items replay.journal.items

-- they are known, and so is who brought what
pub record IsKnown (replay : Replay) (origins : Origins) : Type 0 where
  pub kept : IsKept replay
  pub few : length replay.journal.items ≤ COMMANDS_MAX
  pub each : length replay.places.items ≡ length replay.journal.items
  pub knows : Knows origins (entries_in_replay replay)
