-- WHAT A RUN PROMISES: a word for each clause of the calls that do what the words of a command line say (this
-- project's own). `held` is what the shelf tells that it holds, `written` what the sink tells that was
-- written to it, each before and after the run; `read_faults`, `write_faults` and `faults` are how often
-- reads, puts and writes failed, and `fetched` and `put_names` are the names that were fetched and put.
use Rattle.std.specs.Prelude.{◌≡◌, ◌⊎◌, ◌↔◌, ℕ, List, Option, None, IsSome, IfSome}
use Rattle.tc_base.specs.Outside.{Held, Asked, Rose}
use Rattle.tool_words.specs.declared.status.Status.{Status}
use Rattle.tool_words.specs.declared.status.Status.TheVariants as statuses
use Rattle.tool_words.specs.Command.{request_of}
use Rattle.tool_words.specs.Ends.{IsAllDone}
use Rattle.tool_run.specs.Causes.{CausedIn, IsDue, FailedOutside}
use Rattle.tool_run.specs.Ready.{IsReady}
use Rattle.tool_run.specs.Asks.{FetchesIn, PutsIn}
use Rattle.tool_run.specs.Delivered.{DeliveredIn, LeavesAllUnlessRun, CameSoFarIn}
use Rattle.tc_base.specs.Memory.{no_memory}

-- Usage is the answer exactly where the words are no command
abbrev pub UsageExactlyForNoCommand : List (List ℕ) → Status → Type 0
UsageExactlyForNoCommand words result = (result ≡ statuses.Usage) ↔ (request_of words ≡ None)

-- all is answered to be done only where all was put and written that the words and the held files give
abbrev pub DoneOnlyIfDelivered : {S O : Type 0} → (S → Option Held) → (O → Option (List ℕ)) → S → S → O → O
    → List (List ℕ) → Status → Type 0
DoneOnlyIfDelivered held written old new sink_old sink_new words result =
    IsAllDone result
    → DeliveredIn (held old) (held new) (written sink_old) (written sink_new) (request_of words) result

-- every answer has its cause
abbrev pub HasCause : {S O : Type 0} → (S → Option Held) → (S → ℕ) → (S → Option (List ℕ)) → (S → ℕ) → (O → ℕ)
    → S → S → O → O → List (List ℕ) → Status → Type 0
HasCause held read_faults failed_name write_faults faults old new sink_old sink_new words result =
    CausedIn held read_faults failed_name write_faults faults old new sink_old sink_new (request_of words)
    result

-- where the shelf tells what it holds, no answer comes but the one that is due, unless a call outside failed
-- or memory ran out
abbrev pub DueUnlessFailed : {S O : Type 0} → (S → Option Held) → (S → ℕ) → (S → ℕ) → (O → ℕ) → S → S → O → O
    → List (List ℕ) → Status → Type 0
DueUnlessFailed held read_faults write_faults faults old new sink_old sink_new words result =
    IsSome (held old) → (status : Status) → IsDue (held old) words status
    → (result ≡ status) ⊎ FailedOutside read_faults write_faults faults old new sink_old sink_new result

-- where all input is ready and no call outside failed, all is done, or memory ran out
abbrev pub DoneIfReady : {S O : Type 0} → (S → Option Held) → (S → ℕ) → (S → ℕ) → (O → ℕ) → S → S → O → O
    → List (List ℕ) → Status → Type 0
DoneIfReady held read_faults write_faults faults old new sink_old sink_new words result =
    IfSome (request_of words) (λ request. IsReady (held old) request
    → ¬ Rose (read_faults old) (read_faults new)
    → ¬ Rose (write_faults old) (write_faults new)
    → ¬ Rose (faults sink_old) (faults sink_new)
    → IsAllDone result ⊎ (result ≡ statuses.NoMemory no_memory))

-- where words or input are at fault, nothing is put and nothing written
abbrev pub NothingIfAtFault : {S O : Type 0} → (S → Option Held) → (O → Option (List ℕ)) → S → S → O → O
    → Status → Type 0
NothingIfAtFault held written old new sink_old sink_new result =
    LeavesAllUnlessRun (held old) (held new) (written sink_old) (written sink_new) result

-- however a run ends, it came some way in the order in which its command puts and writes, and did no more
abbrev pub CameInOrder : {S O : Type 0} → (S → Option Held) → (O → Option (List ℕ)) → S → S → O → O
    → List (List ℕ) → Type 0
CameInOrder held written old new sink_old sink_new words =
    CameSoFarIn (held old) (held new) (written sink_old) (written sink_new) (request_of words)

-- however a run ends, what it fetched is a front of its input in the order of work, each name once
abbrev pub FetchedInOrder : {S : Type 0} → (S → Option Held) → (S → Asked) → S → S → List (List ℕ) → Type 0
FetchedInOrder held fetched old new words =
    FetchesIn (held old) (fetched old) (fetched new) (request_of words)

-- however a run ends, what it put is a front of its output in the order of work, each name once
abbrev pub PutInOrder : {S : Type 0} → (S → Option Held) → (S → Asked) → S → S → List (List ℕ) → Type 0
PutInOrder held put_names old new words =
    PutsIn (held old) (put_names old) (put_names new) (request_of words)
