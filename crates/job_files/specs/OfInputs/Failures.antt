-- Why a file wasn't read. `held` is what the shelf tells that it holds, `read_faults` how often reads failed,
-- and `failed_name` the name at which the last of them did.
use Rattle.std.specs.Prelude.{◌≡◌, ◌⊎◌, ℕ, List, Option, Some, None, IsSomeAnd}
use Rattle.tc_base.specs.Outside.{Held, Rose}
use Rattle.batch_run.specs.Commands.{commands_of, line_past}
use Rattle.tool_words.specs.declared.status.InputKind.TheVariants as kinds
use Rattle.tool_words.specs.declared.status.Status.{Status}
use Rattle.tool_words.specs.declared.status.Status.TheVariants as statuses
use Rattle.job_files.specs.OfInputs.Holdings.{HasTooManyLines, HasBreak}

-- a file was not read: the shelf tells that nothing stands under its name, or reads failed in this call, the
-- last of them at this name
abbrev pub ReadFails : {S : Type 0} → (S → Option Held) → (S → ℕ) → (S → Option (List ℕ)) → S → S → List ℕ
    → Type 0
ReadFails held read_faults failed_name old new name =
    IsSomeAnd (held old) (λ h. h name ≡ None)
    ⊎ (Rose (read_faults old) (read_faults new) × (failed_name new ≡ Some name))

-- why one file was not loaded
abbrev pub LoadFails : {S : Type 0} → (S → Option Held) → (S → ℕ) → (S → Option (List ℕ)) → S → S → List ℕ
    → Status → Type 0
LoadFails held read_faults failed_name old new name (statuses.ReadFault failed) =
    (failed ≡ name) × ReadFails held read_faults failed_name old new name
LoadFails held read_faults failed_name old new name (statuses.NoMemory memory) = Unit {0}
LoadFails held read_faults failed_name old new name status = ⊥

-- the commands of the bytes under the name pass the room, which is told at the line unless memory ran out
abbrev pub IsPastRoom : ℕ → List ℕ → List ℕ → Status → Type 0
IsPastRoom room name bytes (statuses.BadInput file place kind) =
    (file ≡ name) × (line_past room (commands_of bytes) ≡ Some place) × (kind ≡ kinds.TooManyLines)
IsPastRoom room name bytes (statuses.NoMemory memory) = Unit {0}
IsPastRoom room name bytes status = ⊥

-- why no batch was loaded
abbrev pub BatchFails : {S : Type 0} → (S → Option Held) → (S → ℕ) → (S → Option (List ℕ)) → S → S → ℕ
    → List ℕ → Status → Type 0
BatchFails held read_faults failed_name old new room name (statuses.BadInput file place kind) =
    (file ≡ name) × HasTooManyLines (held old) room name place × (kind ≡ kinds.TooManyLines)
BatchFails held read_faults failed_name old new room name status =
    LoadFails held read_faults failed_name old new name status

-- why no capture was loaded
abbrev pub CaptureFails : {S : Type 0} → (S → Option Held) → (S → ℕ) → (S → Option (List ℕ)) → S → S → ℕ
    → List ℕ → Status → Type 0
CaptureFails held read_faults failed_name old new room name (statuses.BadInput file place kind) =
    (file ≡ name) × HasBreak (held old) room name place kind
CaptureFails held read_faults failed_name old new room name status =
    LoadFails held read_faults failed_name old new name status
