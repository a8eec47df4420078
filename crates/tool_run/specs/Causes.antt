-- Why a run ends as it does.
use Rattle.std.specs.Prelude.{◌≡◌, ◌⊎◌, ℕ, List, Option, Some, None}
use Rattle.tc_base.specs.Outside.{Held, Rose}
use Rattle.tool_words.specs.declared.status.Status.{Status}
use Rattle.tool_words.specs.declared.status.Status.TheVariants as statuses
use Rattle.tool_words.specs.Command.{Request, request_of}
use Rattle.job_files.specs.OfInputs.Failures.{ReadFails}
use Rattle.tool_run.specs.Work.{Ends, EndsOnly, Breaks, IsRead}

-- a put or a write failed
abbrev pub WriteFails : {S O : Type 0} → (S → ℕ) → (O → ℕ) → S → S → O → O → Type 0
WriteFails write_faults faults old new sink_old sink_new =
    Rose (write_faults old) (write_faults new) ⊎ Rose (faults sink_old) (faults sink_new)

-- THE ANSWER THAT A REQUEST AND THE FILES CALL FOR, where no call outside fails and memory is there
abbrev pub DueTo : Option Held → Request → Status → Type 0
DueTo told request statuses.Done = EndsOnly told request statuses.Done
DueTo told request (statuses.LinesRefused count) = EndsOnly told request (statuses.LinesRefused count)
DueTo told request (statuses.BadInput name place kind) = Breaks told request name place kind
DueTo told request (statuses.NotLawful line reason) = EndsOnly told request (statuses.NotLawful line reason)
DueTo told request (statuses.NotHitless count) = EndsOnly told request (statuses.NotHitless count)
DueTo told request status = ⊥

-- an answer that they allow: it is the one that is due, but where threads decide how a request ends
abbrev pub AllowedTo : Option Held → Request → Status → Type 0
AllowedTo told request statuses.Done = Ends told request statuses.Done
AllowedTo told request (statuses.LinesRefused count) = Ends told request (statuses.LinesRefused count)
AllowedTo told request (statuses.BadInput name place kind) = Breaks told request name place kind
AllowedTo told request (statuses.NotLawful line reason) = Ends told request (statuses.NotLawful line reason)
AllowedTo told request (statuses.NotHitless count) = Ends told request (statuses.NotHitless count)
AllowedTo told request status = ⊥

-- words that ask for nothing are answered with Usage
abbrev pub DueIn : Option Held → Option Request → Status → Type 0
DueIn told None status = status ≡ statuses.Usage
DueIn told (Some request) status = DueTo told request status

abbrev pub IsDue : Option Held → List (List ℕ) → Status → Type 0
IsDue told words status = DueIn told (request_of words) status

-- EVERY ANSWER HAS ITS CAUSE
abbrev pub CausedTo : {S O : Type 0} → (S → Option Held) → (S → ℕ) → (S → Option (List ℕ)) → (S → ℕ) → (O → ℕ)
    → S → S → O → O → Request → Status → Type 0
CausedTo held read_faults failed_name write_faults faults old new sink_old sink_new request
    (statuses.ReadFault name) =
    IsRead (held old) request name × ReadFails held read_faults failed_name old new name
CausedTo held read_faults failed_name write_faults faults old new sink_old sink_new request
    statuses.WriteFault =
    ((status : Status) × Ends (held old) request status)
    × WriteFails write_faults faults old new sink_old sink_new
CausedTo held read_faults failed_name write_faults faults old new sink_old sink_new request
    (statuses.NoMemory memory) =
    Unit {0}
CausedTo held read_faults failed_name write_faults faults old new sink_old sink_new request status =
    AllowedTo (held old) request status

abbrev pub CausedIn : {S O : Type 0} → (S → Option Held) → (S → ℕ) → (S → Option (List ℕ)) → (S → ℕ) → (O → ℕ)
    → S → S → O → O → Option Request → Status → Type 0
CausedIn held read_faults failed_name write_faults faults old new sink_old sink_new None status =
    status ≡ statuses.Usage
CausedIn held read_faults failed_name write_faults faults old new sink_old sink_new (Some request) status =
    CausedTo held read_faults failed_name write_faults faults old new sink_old sink_new request status

-- an answer to which the one that is due yields: a call outside failed, or memory ran out
abbrev pub FailedOutside : {S O : Type 0} → (S → ℕ) → (S → ℕ) → (O → ℕ) → S → S → O → O → Status → Type 0
FailedOutside read_faults write_faults faults old new sink_old sink_new (statuses.ReadFault name) =
    Rose (read_faults old) (read_faults new)
FailedOutside read_faults write_faults faults old new sink_old sink_new statuses.WriteFault =
    WriteFails write_faults faults old new sink_old sink_new
FailedOutside read_faults write_faults faults old new sink_old sink_new (statuses.NoMemory memory) = Unit {0}
FailedOutside read_faults write_faults faults old new sink_old sink_new status = ⊥
