-- Why what was not written or put was not, where all input was there.
use Rattle.std.proofs.Common.{◌≡◌, ℕ, ◌≤◌, List, length, Option, refl}
use Rattle.std.specs.Prelude.{is_some}
use Rattle.tc_base.specs.Outside.{Held}
use Rattle.tc_base.specs.declared.hook.Hook.{Hook}
use Rattle.tc_base.specs.declared.outside.Put.{Put}
use Rattle.tc_base.specs.declared.outside.Put.TheVariants as puts
use Rattle.filter_state.specs.States.{no_state}
use Rattle.batch_run.specs.Commands.{commands_of}
use Rattle.batch_run.specs.Runs.{Ran, IsRun}
use Rattle.tool_words.specs.declared.status.Status.{Status}
use Rattle.tool_words.specs.declared.status.Status.TheVariants as statuses
use Rattle.tool_words.specs.Command.{Request, Show}
use Rattle.tool_words.specs.Ends.{status_of, status_after}
use Rattle.batch_run.specs.declared.limit.TheConstants.{COMMANDS_MAX}
use Rattle.job_files.specs.OfInputs.Holdings.{Holds}
use Rattle.tool_run.specs.Holdings.{Gives}
use Rattle.tool_run.specs.Parts.{DeliveryFails}
use Rattle.tool_words.specs.Requests.{Names, walk_of}
use Rattle.tool_run.specs.Work.{Ends}
use Rattle.tool_run.specs.Causes.{WriteFails, CausedTo}

pub put_caused : {S O : Type 0} (held : S → Option Held) (read_faults : S → ℕ)
    (failed_name : S → Option (List ℕ)) (write_faults : S → ℕ) (faults : O → ℕ) (old new : S)
    (sink_old sink_new : O) (r : Request) (put : Put)
    → (status : Status) × Ends (held old) r status
    → (put ≡ puts.Failed → WriteFails write_faults faults old new sink_old sink_new)
    → CausedTo held read_faults failed_name write_faults faults old new sink_old sink_new r (status_of put)
put_caused held read_faults failed_name write_faults faults old new a b r puts.Failed ends fails =
    (ends, fails refl)
put_caused held read_faults failed_name write_faults faults old new a b r (puts.NoMemory memory) ends fails = tt

-- a batch that stands and has a run lets a `show` end
pub show_ends : (told : Option Held) (name bytes : List ℕ) (ran : Ran) → Holds told name bytes
    → length (commands_of bytes) ≤ COMMANDS_MAX → IsRun no_state 0 (commands_of bytes) ran
    → (status : Status) × Ends told (Show name) status
show_ends told name bytes ran held few runs = (
  status_after (is_some ran.stop),
  (
    ran,
    record
        { bytes = bytes; batch = record { held = held; few = few }; runs = runs },
    refl,
  ),
)

-- what gives an output and a text lets a `walk` end
pub walk_ends : (told : Option Held) (hook : Hook) (names : Names) (output text : List ℕ) (status : Status)
    → Gives told hook names output text status → (ended : Status) × Ends told (walk_of hook names) ended
walk_ends told hook names output text status gives =
    (status, ((gives.ran, gives.batch, gives.status_is), (gives.capture, gives.packets)))

-- what wasn't put or written of a run that may end has its cause
pub delivery_caused : {S O : Type 0} (held : S → Option Held) (read_faults : S → ℕ)
    (failed_name : S → Option (List ℕ)) (write_faults : S → ℕ) (faults : O → ℕ) (old between new : S)
    (sink_old sink_new : O) (r : Request) (status : Status)
    → (ended : Status) × Ends (held old) r ended → write_faults between ≡ write_faults old
    → DeliveryFails write_faults faults between new sink_old sink_new status
    → CausedTo held read_faults failed_name write_faults faults old new sink_old sink_new r status
delivery_caused held read_faults failed_name write_faults faults old between new a b r statuses.WriteFault
    ends same fails =
    (ends, rw same at fails)
delivery_caused held read_faults failed_name write_faults faults old between new a b r (statuses.NoMemory memory) ends
    same fails =
    tt
delivery_caused held read_faults failed_name write_faults faults old between new a b r statuses.Done ends same
    fails =
    absurd fails
delivery_caused held read_faults failed_name write_faults faults old between new a b r
    (statuses.LinesRefused n) ends same fails =
    absurd fails
delivery_caused held read_faults failed_name write_faults faults old between new a b r statuses.Usage ends
    same fails =
    absurd fails
delivery_caused held read_faults failed_name write_faults faults old between new a b r
    (statuses.BadInput n p k) ends same fails =
    absurd fails
delivery_caused held read_faults failed_name write_faults faults old between new a b r (statuses.ReadFault n)
    ends same fails =
    absurd fails
delivery_caused held read_faults failed_name write_faults faults old between new a b r (statuses.NotLawful n reason)
    ends same fails =
    absurd fails
delivery_caused held read_faults failed_name write_faults faults old between new a b r (statuses.NotHitless n)
    ends same fails =
    absurd fails
