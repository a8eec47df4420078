-- What the shelf holds of a change: a batch, the change that is applied behind it, and a capture (this project's own).
use Rattle.walk_ends.specs.declared.limits.TheConstants.{PACKETS_MAX}
use Rattle.batch_run.specs.declared.limit.TheConstants.{COMMANDS_MAX}
use Rattle.std.specs.Prelude.{◌≡◌, ◌⊎◌, ℕ, ◌-◌, List, [], ◌∷◌, length, Option}
use Rattle.tc_base.specs.Outside.{Held}
use Rattle.batch_run.specs.Commands.{commands_of}
use Rattle.tool_words.specs.Command.{ChangeFiles}
use Rattle.tool_words.specs.declared.status.InputKind.{InputKind}
use Rattle.tool_words.specs.declared.status.InputKind.TheVariants as kinds
use Rattle.tool_words.specs.declared.status.Status.{Status}
use Rattle.tool_words.specs.declared.status.Status.TheVariants as statuses
use Rattle.job_files.specs.declared.inputs.changes.LoadedChange.{LoadedChange}
use Rattle.job_files.specs.OfInputs.Holdings.{HasBatch, HasTooManyLines, HasCapture, HasBreak}
use Rattle.job_files.specs.OfInputs.Failures.{ReadFails}

-- how many commands there is room for behind a batch: one limit counts over both
abbrev pub room_behind : List ℕ → ℕ
room_behind batch = COMMANDS_MAX - length (commands_of batch)

-- THE FILES OF A CHANGE, each held and well formed, within the limits
pub record HasChange (told : Option Held) (names : ChangeFiles) (files : LoadedChange) : Type 0 where
  pub batch : HasBatch told COMMANDS_MAX names.batch files.batch
  pub change : HasBatch told (room_behind files.batch) names.change files.change
  pub capture : HasCapture told PACKETS_MAX names.capture files.capture

-- in the order of work
abbrev pub names_in_order : ChangeFiles → List (List ℕ)
names_in_order names = names.batch ∷ names.change ∷ names.capture ∷ []

-- ---- a file counts where those before it are held, well formed and within the limit
abbrev pub HasFirst : Option Held → ChangeFiles → Type 0
HasFirst told names = (batch : List ℕ) × HasBatch told COMMANDS_MAX names.batch batch

pub record HasBoth (told : Option Held) (names : ChangeFiles) : Type 0 where
  pub bytes : List ℕ
  pub more : List ℕ
  pub batch : HasBatch told COMMANDS_MAX names.batch bytes
  pub change : HasBatch told (room_behind bytes) names.change more

-- the commands of the change pass the room behind the batch, at this line
pub record PassesBehind (told : Option Held) (names : ChangeFiles) (line : ℕ) : Type 0 where
  pub bytes : List ℕ
  pub batch : HasBatch told COMMANDS_MAX names.batch bytes
  pub past : HasTooManyLines told (room_behind bytes) names.change line

-- A FILE BREAKS its form or passes a limit, first at this place
abbrev pub ChangeBreaks : Option Held → ChangeFiles → List ℕ → ℕ → InputKind → Type 0
ChangeBreaks told names name place kind =
    ((name ≡ names.batch) × HasTooManyLines told COMMANDS_MAX names.batch place × (kind ≡ kinds.TooManyLines))
    ⊎ ((name ≡ names.change) × PassesBehind told names place × (kind ≡ kinds.TooManyLines))
    ⊎ ((name ≡ names.capture) × HasBoth told names × HasBreak told PACKETS_MAX names.capture place kind)

-- a file comes to be read
abbrev pub ChangeReads : Option Held → ChangeFiles → List ℕ → Type 0
ChangeReads told names name =
    (name ≡ names.batch) ⊎ ((name ≡ names.change) × HasFirst told names)
    ⊎ ((name ≡ names.capture) × HasBoth told names)

-- EVERY FAILURE HAS ITS CAUSE, of which want of memory is free
abbrev pub ChangeFails : {S : Type 0} → (S → Option Held) → (S → ℕ) → (S → Option (List ℕ)) → S → S
    → ChangeFiles → Status → Type 0
ChangeFails held read_faults failed_name old new names (statuses.ReadFault name) =
    ChangeReads (held old) names name × ReadFails held read_faults failed_name old new name
ChangeFails held read_faults failed_name old new names (statuses.BadInput name place kind) =
    ChangeBreaks (held old) names name place kind
ChangeFails held read_faults failed_name old new names (statuses.NoMemory memory) = Unit {0}
ChangeFails held read_faults failed_name old new names status = ⊥
