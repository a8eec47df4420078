-- A command, as what it asks for.
use Rattle.gen_files.specs.declared.limits.TheConstants.{GEN_MAX}
use Rattle.std.specs.Prelude.{ℕ, ◌≤◌, List}
use Rattle.tc_base.specs.declared.hook.Hook.{Hook}
use Rattle.tool_words.specs.declared.command.Command.{Command}
use Rattle.tool_words.specs.declared.command.Command.TheVariants as commands
use Rattle.tool_words.specs.declared.command.WalkNames.{WalkNames}
use Rattle.tool_words.specs.declared.command.ChangeNames.{ChangeNames}
use Rattle.tool_words.specs.Command.{ChangeFiles, Request, Walk, Show, Run, Recheck, Gen, Trace, TraceReport, Foresee}

abbrev pub request : Command → Request
request (commands.Walk hook b c o) = Walk hook b.now c.now o.now
request (commands.Show b) = Show b.now
request (commands.Run job) = Run job.now
request (commands.Recheck job report) = Recheck job.now report.now
request (commands.Gen count front) = Gen count front.now
request (commands.Trace hook b c) = Trace hook b.now c.now
request (commands.TraceReport job report) = TraceReport job.now report.now
request (commands.Foresee hook b change c force) =
    Foresee hook (record { batch = b.now; change = change.now; capture = c.now }) force

-- `gen` is asked for 1 to 4,096 filters
abbrev pub HasFewFilters : Command → Type 0
HasFewFilters (commands.Gen count front) = (1 ≤ count) × (count ≤ GEN_MAX)
HasFewFilters command = Unit {0}

-- the files of a walk
pub record Names : Type 0 where
  pub batch : List ℕ
  pub capture : List ℕ
  pub output : List ℕ

abbrev pub names_seen : WalkNames → Names
names_seen n = record { batch = n.batch.now; capture = n.capture.now; output = n.output.now }

-- the walk of these files at a hook
abbrev pub walk_of : Hook → Names → Request
walk_of hook names = Walk hook names.batch names.capture names.output

-- the files of a change
abbrev pub files_seen : ChangeNames → ChangeFiles
files_seen n = record { batch = n.batch.now; change = n.change.now; capture = n.capture.now }
