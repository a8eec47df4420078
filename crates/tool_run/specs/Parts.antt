-- Why the parts of a run answer nothing.
use Rattle.std.specs.Prelude.{◌≡◌, ℕ, List, Some}
use Rattle.tc_base.specs.Outside.{Rose}
use Rattle.batch_run.specs.Commands.{Command, line_past}
use Rattle.tool_words.specs.declared.status.InputKind.TheVariants as kinds
use Rattle.tool_words.specs.declared.status.Status.{Status}
use Rattle.tool_words.specs.declared.status.Status.TheVariants as statuses
use Rattle.batch_run.specs.declared.limit.TheConstants.{COMMANDS_MAX}
use Rattle.tool_run.specs.Causes.{WriteFails}

-- why a batch of these commands wasn't applied: they pass the limit at a line
abbrev pub ApplyingFails : List ℕ → List Command → Status → Type 0
ApplyingFails name commands (statuses.BadInput file place kind) =
    (file ≡ name) × (line_past COMMANDS_MAX commands ≡ Some place) × (kind ≡ kinds.TooManyLines)
ApplyingFails name commands (statuses.NoMemory memory) = Unit {0}
ApplyingFails name commands status = ⊥

-- why a file was not put
abbrev pub PutFails : {S : Type 0} → (S → ℕ) → S → S → Status → Type 0
PutFails write_faults old new statuses.WriteFault = Rose (write_faults old) (write_faults new)
PutFails write_faults old new (statuses.NoMemory memory) = Unit {0}
PutFails write_faults old new status = ⊥

-- why not all was put and written
abbrev pub DeliveryFails : {S O : Type 0} → (S → ℕ) → (O → ℕ) → S → S → O → O → Status → Type 0
DeliveryFails write_faults faults old new sink_old sink_new statuses.WriteFault =
    WriteFails write_faults faults old new sink_old sink_new
DeliveryFails write_faults faults old new sink_old sink_new (statuses.NoMemory memory) = Unit {0}
DeliveryFails write_faults faults old new sink_old sink_new status = ⊥
