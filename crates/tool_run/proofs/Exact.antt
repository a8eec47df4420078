-- No answer but the one that is due comes, unless a call outside failed or memory ran out.
use Rattle.std.proofs.Common.{◌≡◌, ◌⊎◌, inl, inr, ℕ, zero, suc, Bool, true, false, List, Option, Some, None, refl, sym, subst}
use Rattle.std.specs.Prelude.{IsSome, IsSomeAnd, IfSome, is_some}
use Rattle.batch_run.specs.declared.limit.TheConstants.{COMMANDS_MAX}
use Rattle.tc_base.specs.Outside.{Held, Rose}
use Rattle.tc_base.specs.declared.hook.Hook.{Hook}
use Rattle.pcap_io.specs.declared.capture.Packet.{Packet}
use Rattle.filter_state.specs.States.{no_state}
use Rattle.batch_run.specs.Commands.{commands_of}
use Rattle.batch_run.specs.Runs.{Ran}
use Rattle.batch_run.proofs.Outcomes.{some_ran}
use Rattle.change_fates.specs.Passed.{Changed, refused_in}
use Rattle.change_fates.specs.Foreseen.{foreseen_text, not_hitless}
use Rattle.gen_files.specs.Generated.{batch_text}
use Rattle.tool_words.specs.declared.status.Status.{Status}
use Rattle.tool_words.specs.declared.status.Status.TheVariants as statuses
use Rattle.tool_words.specs.Command.{ChangeFiles, Request, Walk, Show, Run, Recheck, Gen, Trace, TraceReport, Foresee}
use Rattle.tool_words.specs.Ends.{status_after, status_of_foreseen, IsAllDone}
use Rattle.job_files.specs.OfInputs.Holdings.{Holds, HasBatch}
use Rattle.job_files.specs.OfInputs.Failures.{ReadFails}
use Rattle.tool_run.specs.Holdings.{HasRun}
use Rattle.tool_run.specs.Work.{EndsOnly, IsRead}
use Rattle.tool_run.specs.Causes.{DueTo, DueIn, AllowedTo, CausedTo, FailedOutside}
use Rattle.tool_run.specs.Foresights.{IsChangeOf, ForesightEnds}
use Rattle.tool_run.specs.Ready.{ShowReady, WalkReady, ChangeReady, IsReady}
use Rattle.tool_run.proofs.Due.{is_due, stands}
use Rattle.tool_run.proofs.Foreseeing.{some_change_of, foresees}
use Rattle.tool_run.proofs.Rechecking.{recheck_complete, traced_complete}
use Rattle.tool_run.proofs.Running.{run_complete}
use Rattle.tc_base.specs.Memory.{no_memory}

-- ---- what is allowed is due, wherever the shelf tells what it holds
nothing_told : (o : Option Held) → o ≡ None → IsSome o → ⊥
nothing_told o is some = cc

told_of : (o : Option Held) → IsSome o → (h : Held) × (o ≡ Some h)
told_of None some = absurd (nothing_told None refl some)
told_of (Some h) some = (h, refl)

due_is : (told : Option Held) (r : Request) (x y : Status) → IsSome told → AllowedTo told r x → DueTo told r y
    → x ≡ y
due_is None r x y some h k = absurd (nothing_told None refl some)
due_is (Some held) r x y some h k = is_due held r x y h k

-- a file that is held is no missing one
not_missing : (held : Held) (name bytes : List ℕ) → Holds (Some held) name bytes → held name ≡ None → ⊥
not_missing held name bytes h e = cc

-- a read that failed though the file stands was a fault of the outside
read_rose : {S : Type 0} (held : S → Option Held) (read_faults : S → ℕ) (failed_name : S → Option (List ℕ))
    (old new : S) (told : Held) (r : Request) (name : List ℕ) (status : Status)
    → held old ≡ Some told → IsRead (held old) r name → DueTo (held old) r status
    → ReadFails held read_faults failed_name old new name → Rose (read_faults old) (read_faults new)
read_rose held read_faults failed_name old new told r name status tells is due (inl missing) =
    let there = stands told r name status (subst (λ (o : Option Held). IsRead o r name) tells is)
    (subst (λ (o : Option Held). DueTo o r status) tells due) in
    absurd (not_missing told name there.0 there.1
    (subst (λ (o : Option Held). IsSomeAnd o (λ h. h name ≡ None)) tells missing))
read_rose held read_faults failed_name old new told r name status tells is due (inr rose) = rose.0

-- ---- an answer with its cause, at one request
exact_to : {S O : Type 0} (held : S → Option Held) (read_faults : S → ℕ) (failed_name : S → Option (List ℕ))
    (write_faults : S → ℕ) (faults : O → ℕ) (old new : S) (sink_old sink_new : O) (r : Request)
    (result : Status)
    → CausedTo held read_faults failed_name write_faults faults old new sink_old sink_new r result
    → IsSome (held old) → (status : Status) → DueTo (held old) r status
    → (result ≡ status) ⊎ FailedOutside read_faults write_faults faults old new sink_old sink_new result
exact_to held read_faults failed_name write_faults faults old new a b r (statuses.ReadFault name) cause some
    status due =
    let told = told_of (held old) some in
    inr (read_rose held read_faults failed_name old new told.0 r name status told.1 cause.0 due cause.1)
exact_to held read_faults failed_name write_faults faults old new a b r statuses.WriteFault cause some status
    due =
    inr cause.1
exact_to held read_faults failed_name write_faults faults old new a b r (statuses.NoMemory memory) cause some status
    due =
    inr tt
exact_to held read_faults failed_name write_faults faults old new a b r statuses.Done cause some status due =
    inl (due_is (held old) r statuses.Done status some cause due)
exact_to held read_faults failed_name write_faults faults old new a b r (statuses.LinesRefused n) cause some
    status due =
    inl (due_is (held old) r (statuses.LinesRefused n) status some cause due)
exact_to held read_faults failed_name write_faults faults old new a b r (statuses.BadInput n p k) cause some
    status due =
    inl (due_is (held old) r (statuses.BadInput n p k) status some cause due)
exact_to held read_faults failed_name write_faults faults old new a b r statuses.Usage cause some status due =
    absurd cause
exact_to held read_faults failed_name write_faults faults old new a b r (statuses.NotLawful n reason) cause some
    status due =
    inl (due_is (held old) r (statuses.NotLawful n reason) status some cause due)
exact_to held read_faults failed_name write_faults faults old new a b r (statuses.NotHitless n) cause some
    status due =
    inl (due_is (held old) r (statuses.NotHitless n) status some cause due)

-- the same where these words ask for it
pub exact : {S O : Type 0} (held : S → Option Held) (read_faults : S → ℕ) (failed_name : S → Option (List ℕ))
    (write_faults : S → ℕ) (faults : O → ℕ) (old new : S) (sink_old sink_new : O) (asked : Option Request)
    (r : Request) (result : Status)
    → Some r ≡ asked → CausedTo held read_faults failed_name write_faults faults old new sink_old sink_new r
    result → IsSome (held old) → (status : Status) → DueIn (held old) asked status
    → (result ≡ status) ⊎ FailedOutside read_faults write_faults faults old new sink_old sink_new result
exact held read_faults failed_name write_faults faults old new a b None r result is cause some status due =
    absurd (cc is)
exact held read_faults failed_name write_faults faults old new a b (Some asked) r result is cause some status
    due =
    exact_to held read_faults failed_name write_faults faults old new a b r result cause some status
    (subst (λ (q : Option Request). DueIn (held old) q status) (sym is) due)

-- ---- the answer that is due where all input is ready
abbrev Owes : Option Held → Request → Type 0
Owes told r = (status : Status) × DueTo told r status × IsAllDone status

batch_owes : (told : Option Held) (r : Request) (refused : Bool) → EndsOnly told r (status_after refused)
    → Owes told r
batch_owes told r false ends = (statuses.Done, ends, tt)
batch_owes told r true ends = (statuses.LinesRefused 1, ends, tt)

-- a batch that stands has a run
ran : (told : Option Held) (b bytes : List ℕ) → HasBatch told COMMANDS_MAX b bytes → (ran : Ran) × HasRun told b ran
ran told b bytes batch =
    let some = some_ran no_state 0 (commands_of bytes) in
    (some.0, record { bytes = bytes; batch = batch; runs = some.1 })

show_owes : (told : Option Held) (b : List ℕ) → ShowReady told b → Owes told (Show b)
show_owes told b ready =
    let has = ran told b ready.bytes ready.batch in
    batch_owes told (Show b) (is_some has.0.stop) (has.0, has.1, refl)

walk_owes : (told : Option Held) (hook : Hook) (b c o : List ℕ) → WalkReady told b c
    → Owes told (Walk hook b c o)
walk_owes told hook b c o ready =
    let has = ran told b ready.bytes ready.batch_stands in
    batch_owes told (Walk hook b c o) (is_some has.0.stop)
    ((has.0, has.1, refl), (ready.packets, ready.capture_stands))

trace_owes : (told : Option Held) (hook : Hook) (b c : List ℕ) → WalkReady told b c → Owes told (Trace hook b c)
trace_owes told hook b c ready =
    let has = ran told b ready.bytes ready.batch_stands in
    batch_owes told (Trace hook b c) (is_some has.0.stop)
    ((has.0, has.1, refl), (ready.packets, ready.capture_stands))

gen_owes : (told : Option Held) (count : ℕ) (front : List ℕ) → Owes told (Gen count front)
gen_owes told count front =
    let has = some_ran no_state 0 (commands_of (batch_text count)) in
    batch_owes told (Gen count front) (is_some has.0.stop) (has.0, has.1, refl)

-- files of a change that stand are foreseen
foresight_owes : (told : Option Held) (hook : Hook) (names : ChangeFiles) (force : Bool) → ChangeReady told names
    → Owes told (Foresee hook names force)
foresight_owes told hook names force ready =
    counts_owe (refused_in has.0) (not_hitless has.0 hook packets)
    (foreseen_text has.0 hook packets, foresees told hook names force ready.files ready.files_stand has.0 has.1)
  where
    packets : List Packet
    packets = ready.files.capture.packets

    has : (it : Changed) × IsChangeOf ready.files force it
    has = some_change_of ready.files force

    counts_owe : (refused many : ℕ)
        → ForesightEnds told hook names force (status_of_foreseen refused many) → Owes told (Foresee hook names force)
    counts_owe zero zero ends = (statuses.Done, ends, tt)
    counts_owe zero (suc more) ends = (statuses.NotHitless (suc more), ends, tt)
    counts_owe (suc more) many ends = (statuses.LinesRefused (suc more), ends, tt)

tells : (told : Option Held) (held : Held) → told ≡ Some held → IsSome told
tells told held is = subst (λ (o : Option Held). IsSome o) (sym is) refl

-- where no count rose, only memory keeps an answer from being the one that is due
quiet : {S O : Type 0} (read_faults : S → ℕ) (write_faults : S → ℕ) (faults : O → ℕ) (old new : S)
    (sink_old sink_new : O) (result : Status)
    → FailedOutside read_faults write_faults faults old new sink_old sink_new result
    → (Rose (read_faults old) (read_faults new) → ⊥) → (Rose (write_faults old) (write_faults new) → ⊥)
    → (Rose (faults sink_old) (faults sink_new) → ⊥) → result ≡ statuses.NoMemory no_memory
quiet read_faults write_faults faults old new a b (statuses.ReadFault name) failed reads writes sinks =
    absurd (reads failed)
quiet read_faults write_faults faults old new a b statuses.WriteFault (inl failed) reads writes sinks =
    absurd (writes failed)
quiet read_faults write_faults faults old new a b statuses.WriteFault (inr failed) reads writes sinks =
    absurd (sinks failed)
quiet read_faults write_faults faults old new a b (statuses.NoMemory memory) failed reads writes sinks = refl
quiet read_faults write_faults faults old new a b statuses.Done failed reads writes sinks = absurd failed
quiet read_faults write_faults faults old new a b statuses.Usage failed reads writes sinks = absurd failed
quiet read_faults write_faults faults old new a b (statuses.BadInput n p k) failed reads writes sinks =
    absurd failed
quiet read_faults write_faults faults old new a b (statuses.LinesRefused n) failed reads writes sinks =
    absurd failed
quiet read_faults write_faults faults old new a b (statuses.NotLawful n reason) failed reads writes sinks =
    absurd failed
quiet read_faults write_faults faults old new a b (statuses.NotHitless n) failed reads writes sinks =
    absurd failed

-- where an answer is due and no count rose, that is the answer, or memory ran out
owed_to : {S O : Type 0} (held : S → Option Held) (read_faults : S → ℕ) (failed_name : S → Option (List ℕ))
    (write_faults : S → ℕ) (faults : O → ℕ) (old new : S) (sink_old sink_new : O) (r : Request)
    (result : Status)
    → CausedTo held read_faults failed_name write_faults faults old new sink_old sink_new r result
    → IsSome (held old) → Owes (held old) r
    → (Rose (read_faults old) (read_faults new) → ⊥) → (Rose (write_faults old) (write_faults new) → ⊥)
    → (Rose (faults sink_old) (faults sink_new) → ⊥)
    → IsAllDone result ⊎ (result ≡ statuses.NoMemory no_memory)
owed_to held read_faults failed_name write_faults faults old new a b r result cause some due reads writes
    sinks =
    by_answer (exact_to held read_faults failed_name write_faults faults old new a b r result cause some due.0
    due.1)
  where
    by_answer : (result ≡ due.0) ⊎ FailedOutside read_faults write_faults faults old new a b result
        → IsAllDone result ⊎ (result ≡ statuses.NoMemory no_memory)
    by_answer (inl e) = inl (subst IsAllDone (sym e) due.2)
    by_answer (inr failed) =
        inr (quiet read_faults write_faults faults old new a b result failed reads writes sinks)

-- where all input is ready and no count rose, all is done, or memory ran out
complete_to : {S O : Type 0} (held : S → Option Held) (read_faults : S → ℕ)
    (failed_name : S → Option (List ℕ)) (write_faults : S → ℕ) (faults : O → ℕ) (old new : S)
    (sink_old sink_new : O) (r : Request) (result : Status)
    → CausedTo held read_faults failed_name write_faults faults old new sink_old sink_new r result
    → IsReady (held old) r
    → (Rose (read_faults old) (read_faults new) → ⊥) → (Rose (write_faults old) (write_faults new) → ⊥)
    → (Rose (faults sink_old) (faults sink_new) → ⊥)
    → IsAllDone result ⊎ (result ≡ statuses.NoMemory no_memory)
complete_to held read_faults failed_name write_faults faults old new a b (Show name) result cause ready =
    owed_to held read_faults failed_name write_faults faults old new a b (Show name) result cause
    (tells (held old) ready.held ready.tells) (show_owes (held old) name ready)
complete_to held read_faults failed_name write_faults faults old new a b (Walk hook batch c o) result cause
    ready =
    owed_to held read_faults failed_name write_faults faults old new a b (Walk hook batch c o) result cause
    (tells (held old) ready.held ready.tells) (walk_owes (held old) hook batch c o ready)
complete_to held read_faults failed_name write_faults faults old new a b (Trace hook batch c) result cause
    ready =
    owed_to held read_faults failed_name write_faults faults old new a b (Trace hook batch c) result cause
    (tells (held old) ready.held ready.tells) (trace_owes (held old) hook batch c ready)
complete_to held read_faults failed_name write_faults faults old new a b (Foresee hook names force) result cause
    ready =
    owed_to held read_faults failed_name write_faults faults old new a b (Foresee hook names force) result cause
    (tells (held old) ready.held ready.tells) (foresight_owes (held old) hook names force ready)
complete_to held read_faults failed_name write_faults faults old new a b (Run job) result cause ready =
    run_complete held read_faults failed_name write_faults faults old new a b job result cause ready
complete_to held read_faults failed_name write_faults faults old new a b (Recheck job report) result cause
    ready =
    recheck_complete held read_faults failed_name write_faults faults old new a b job report result cause
    ready
complete_to held read_faults failed_name write_faults faults old new a b (TraceReport job report) result cause
    ready =
    traced_complete held read_faults failed_name write_faults faults old new a b job report result cause ready
complete_to held read_faults failed_name write_faults faults old new a b (Gen count front) result cause
    ready =
    owed_to held read_faults failed_name write_faults faults old new a b (Gen count front) result cause ready
    (gen_owes (held old) count front)

-- the same where these words ask for it
pub complete : {S O : Type 0} (held : S → Option Held) (read_faults : S → ℕ)
    (failed_name : S → Option (List ℕ)) (write_faults : S → ℕ) (faults : O → ℕ) (old new : S)
    (sink_old sink_new : O) (asked : Option Request) (r : Request) (result : Status)
    → Some r ≡ asked → CausedTo held read_faults failed_name write_faults faults old new sink_old sink_new r
    result
    → IfSome asked (λ q. IsReady (held old) q
    → (Rose (read_faults old) (read_faults new) → ⊥) → (Rose (write_faults old) (write_faults new) → ⊥)
    → (Rose (faults sink_old) (faults sink_new) → ⊥)
    → IsAllDone result ⊎ (result ≡ statuses.NoMemory no_memory))
complete held read_faults failed_name write_faults faults old new a b None r result is cause = tt
complete held read_faults failed_name write_faults faults old new a b (Some asked) r result is cause =
    λ ready. complete_to held read_faults failed_name write_faults faults old new a b r result cause
    (subst (λ (q : Option Request). IfSome q (IsReady (held old))) (sym is) ready)
