-- An answer that is allowed is the one that is due, and every file that a due answer reads stands.
use Rattle.std.proofs.Common.{◌≡◌, ◌⊎◌, inl, inr, ◌∙◌, ℕ, Bool, List, Option, Some, sym, ap, subst}
use Rattle.std.specs.Prelude.{is_some}
use Rattle.batch_run.specs.declared.limit.TheConstants.{COMMANDS_MAX}
use Rattle.walk_ends.specs.declared.limits.TheConstants.{PACKETS_MAX}
use Rattle.tc_base.specs.Outside.{Held}
use Rattle.tc_base.specs.declared.hook.Hook.{Hook}
use Rattle.pcap_io.specs.declared.capture.Capture.{Capture}
use Rattle.filter_state.specs.States.{no_state}
use Rattle.batch_run.specs.Commands.{commands_of}
use Rattle.batch_run.specs.Runs.{Ran}
use Rattle.batch_run.proofs.Outcomes.{one_ran}
use Rattle.gen_files.specs.Generated.{batch_text}
use Rattle.tool_words.specs.declared.status.InputKind.{InputKind}
use Rattle.tool_words.specs.declared.status.InputKind.TheVariants as kinds
use Rattle.tool_words.specs.declared.status.Status.{Status}
use Rattle.tool_words.specs.declared.status.Status.TheVariants as statuses
use Rattle.tool_words.specs.Command.{ChangeFiles, Request, Walk, Show, Run, Recheck, Gen, Trace, TraceReport, Foresee}
use Rattle.tool_words.specs.Ends.{status_after}
use Rattle.job_files.specs.OfInputs.Holdings.{Holds, HasTooManyLines, HasCapture, HasBreak}
use Rattle.job_files.proofs.OfInputs.Readings.{same_past, not_past, not_broken, same_break}
use Rattle.tool_run.specs.Holdings.{HasCommands}
use Rattle.tool_run.specs.Work.{BatchEnds, BatchBreaks, Ends, EndsOnly, Breaks, IsRead}
use Rattle.tool_run.specs.Causes.{DueTo, AllowedTo}
use Rattle.tool_run.proofs.Readings.{same_run}
use Rattle.tool_run.proofs.Rechecking.{RecheckDue, recheck_due, one_recheck, rechecked_stands, traced_as_rechecked}
use Rattle.tool_run.proofs.Foreseeing.{ForesightDue, foresight_due, one_foresight, foreseen_stands}
use Rattle.tool_run.proofs.Running.{one_run, ran_stands}

-- ---- a batch: it ran, or it passes the limit of commands
abbrev IsPast : Option Held → List ℕ → Status → Type 0
IsPast told b status =
    (place : ℕ) × HasTooManyLines told COMMANDS_MAX b place × (status ≡ statuses.BadInput b place kinds.TooManyLines)

past_due : (told : Option Held) (b name : List ℕ) (place : ℕ) (kind : InputKind)
    → BatchBreaks told b name place kind → IsPast told b (statuses.BadInput name place kind)
past_due told b name place kind due = (
  place,
  due.1,
  ap (λ (x : List ℕ). statuses.BadInput x place kind) due.0
      ∙ ap (statuses.BadInput b place) due.2,
)

one_end : (held : Held) (b : List ℕ) (x y : Status) → BatchEnds (Some held) b x → BatchEnds (Some held) b y
    → x ≡ y
one_end held b x y h k =
    h.2 ∙ ap (λ (r : Ran). status_after (is_some r.stop)) (same_run held b h.0 k.0 h.1 k.1) ∙ sym k.2

one_past : (held : Held) (b : List ℕ) (x y : Status) → IsPast (Some held) b x → IsPast (Some held) b y → x ≡ y
one_past held b x y h k =
    h.2 ∙ ap (λ (p : ℕ). statuses.BadInput b p kinds.TooManyLines) (same_past held COMMANDS_MAX b h.0 k.0 h.1 k.1)
    ∙ sym k.2

ran_within : (held : Held) (b : List ℕ) (x y : Status) → BatchEnds (Some held) b x → IsPast (Some held) b y
    → ⊥
ran_within held b x y h k = not_past held COMMANDS_MAX b h.1.bytes k.0 h.1.batch k.1

read_within : (held : Held) (b : List ℕ) (status : Status) → HasCommands (Some held) b
    → IsPast (Some held) b status → ⊥
read_within held b status h k = not_past held COMMANDS_MAX b h.0 k.0 h.1 k.1

-- ---- show
abbrev ShowDue : Option Held → List ℕ → Status → Type 0
ShowDue told b status = BatchEnds told b status ⊎ IsPast told b status

show_due : (told : Option Held) (b : List ℕ) (status : Status) → AllowedTo told (Show b) status
    → ShowDue told b status
show_due told b statuses.Done due = inl due
show_due told b (statuses.LinesRefused n) due = inl due
show_due told b (statuses.BadInput name place kind) due = inr (past_due told b name place kind due)
show_due told b (statuses.ReadFault name) due = absurd due
show_due told b (statuses.NotLawful line reason) due = inl due
show_due told b (statuses.NotHitless n) due = inl due
show_due told b statuses.Usage due = absurd due
show_due told b statuses.WriteFault due = absurd due
show_due told b (statuses.NoMemory memory) due = absurd due

one_show : (held : Held) (b : List ℕ) (x y : Status) → ShowDue (Some held) b x → ShowDue (Some held) b y
    → x ≡ y
one_show held b x y (inl h) (inl k) = one_end held b x y h k
one_show held b x y (inl h) (inr k) = absurd (ran_within held b x y h k)
one_show held b x y (inr h) (inl k) = absurd (ran_within held b y x k h)
one_show held b x y (inr h) (inr k) = one_past held b x y h k

shown_stands : (held : Held) (b : List ℕ) (status : Status) → ShowDue (Some held) b status → (bytes : List ℕ)
    × Holds (Some held) b bytes
shown_stands held b status (inl h) = (h.1.bytes, h.1.batch.held)
shown_stands held b status (inr h) = (h.1.bytes, h.1.held)

-- ---- walk and trace: all input is well formed, or the batch passes the limit, or the capture breaks its form
abbrev IsBreak : Option Held → List ℕ → List ℕ → Status → Type 0
IsBreak told b c status =
    (place : ℕ) × (kind : InputKind) × HasCommands told b × HasBreak told PACKETS_MAX c place kind
    × (status ≡ statuses.BadInput c place kind)

-- both files let it end so, or one of them breaks its form
abbrev BothEnd : Option Held → List ℕ → List ℕ → Status → Type 0
BothEnd told b c status =
    BatchEnds told b status × ((capture : Capture) × HasCapture told PACKETS_MAX c capture)

abbrev OneBreaks : Option Held → List ℕ → List ℕ → List ℕ → ℕ → InputKind → Type 0
OneBreaks told b c name place kind =
    BatchBreaks told b name place kind ⊎ ((name ≡ c) × HasCommands told b × HasBreak told PACKETS_MAX c place kind)

abbrev WalkDue : Option Held → List ℕ → List ℕ → Status → Type 0
WalkDue told b c status = BothEnd told b c status ⊎ IsPast told b status ⊎ IsBreak told b c status

break_due : (told : Option Held) (b c name : List ℕ) (place : ℕ) (kind : InputKind)
    → OneBreaks told b c name place kind → WalkDue told b c (statuses.BadInput name place kind)
break_due told b c name place kind (inl past) = inr (inl (past_due told b name place kind past))
break_due told b c name place kind (inr broken) =
    inr (inr (place, kind, broken.1, broken.2, ap (λ (x : List ℕ). statuses.BadInput x place kind) broken.0))

-- of a request that is allowed what both files allow
walk_due : (told : Option Held) (r : Request) (b c : List ℕ)
    → ((status : Status) → Ends told r status → BothEnd told b c status)
    → ((name : List ℕ) (place : ℕ) (kind : InputKind) → Breaks told r name place kind
    → OneBreaks told b c name place kind)
    → (status : Status) → AllowedTo told r status → WalkDue told b c status
walk_due told r b c ends breaks statuses.Done due = inl (ends statuses.Done due)
walk_due told r b c ends breaks (statuses.LinesRefused n) due = inl (ends (statuses.LinesRefused n) due)
walk_due told r b c ends breaks (statuses.BadInput name place kind) due =
    break_due told b c name place kind (breaks name place kind due)
walk_due told r b c ends breaks (statuses.ReadFault name) due = absurd due
walk_due told r b c ends breaks (statuses.NotLawful line reason) due = inl (ends (statuses.NotLawful line reason) due)
walk_due told r b c ends breaks (statuses.NotHitless n) due = inl (ends (statuses.NotHitless n) due)
walk_due told r b c ends breaks statuses.Usage due = absurd due
walk_due told r b c ends breaks statuses.WriteFault due = absurd due
walk_due told r b c ends breaks (statuses.NoMemory memory) due = absurd due

walked_due : (told : Option Held) (hook : Hook) (b c o : List ℕ) (status : Status)
    → AllowedTo told (Walk hook b c o) status → WalkDue told b c status
walked_due told hook b c o = walk_due told (Walk hook b c o) b c (λ s e. e) (λ n p k e. e)

traced_due : (told : Option Held) (hook : Hook) (b c : List ℕ) (status : Status)
    → AllowedTo told (Trace hook b c) status → WalkDue told b c status
traced_due told hook b c = walk_due told (Trace hook b c) b c (λ s e. e) (λ n p k e. e)

one_walk : (held : Held) (b c : List ℕ) (x y : Status) → WalkDue (Some held) b c x → WalkDue (Some held) b c y
    → x ≡ y
one_walk held b c x y (inl h) (inl k) = one_end held b x y h.0 k.0
one_walk held b c x y (inl h) (inr (inl k)) = absurd (ran_within held b x y h.0 k)
one_walk held b c x y (inl h) (inr (inr k)) = absurd (not_broken held PACKETS_MAX c h.1.0 k.0 k.1 h.1.1 k.3)
one_walk held b c x y (inr (inl h)) (inl k) = absurd (ran_within held b y x k.0 h)
one_walk held b c x y (inr (inl h)) (inr (inl k)) = one_past held b x y h k
one_walk held b c x y (inr (inl h)) (inr (inr k)) = absurd (read_within held b x k.2 h)
one_walk held b c x y (inr (inr h)) (inl k) = absurd (not_broken held PACKETS_MAX c k.1.0 h.0 h.1 k.1.1 h.3)
one_walk held b c x y (inr (inr h)) (inr (inl k)) = absurd (read_within held b y h.2 k)
one_walk held b c x y (inr (inr h)) (inr (inr k)) =
    let e = same_break held PACKETS_MAX c h.0 k.0 h.1 k.1 h.3 k.3 in
    h.4 ∙ ap (λ (p : ℕ). statuses.BadInput c p h.1) e.0 ∙ ap (statuses.BadInput c k.0) e.1 ∙ sym k.4

walked_stands : (held : Held) (b c : List ℕ) (status : Status) → WalkDue (Some held) b c status
    → (bytes : List ℕ) × Holds (Some held) b bytes
walked_stands held b c status (inl h) = (h.0.1.bytes, h.0.1.batch.held)
walked_stands held b c status (inr (inl h)) = (h.1.bytes, h.1.held)
walked_stands held b c status (inr (inr h)) = (h.2.0, h.2.1.held)

capture_stands : (held : Held) (b c : List ℕ) (status : Status) → HasCommands (Some held) b
    → WalkDue (Some held) b c status → (bytes : List ℕ) × Holds (Some held) c bytes
capture_stands held b c status read (inl h) = (h.1.1.bytes, h.1.1.held)
capture_stands held b c status read (inr (inl h)) = absurd (read_within held b status read h)
capture_stands held b c status read (inr (inr h)) = (h.3.bytes, h.3.held)

-- the batch, or the capture behind it
input_stands : (held : Held) (b c name : List ℕ) (status : Status) → WalkDue (Some held) b c status
    → (name ≡ b) ⊎ ((name ≡ c) × HasCommands (Some held) b) → (bytes : List ℕ) × Holds (Some held) name bytes
input_stands held b c name status due (inl is) =
    let there = walked_stands held b c status due in
    (there.0, subst (λ (n : List ℕ). Holds (Some held) n there.0) (sym is) there.1)
input_stands held b c name status due (inr is) =
    let there = capture_stands held b c status is.1 due in
    (there.0, subst (λ (n : List ℕ). Holds (Some held) n there.0) (sym is.0) there.1)

-- ---- gen: what it makes lets it end
gen_due : (told : Option Held) (count : ℕ) (front : List ℕ) (status : Status)
    → AllowedTo told (Gen count front) status → Ends told (Gen count front) status
gen_due told count front statuses.Done due = due
gen_due told count front (statuses.LinesRefused n) due = due
gen_due told count front (statuses.BadInput name place kind) due = absurd due
gen_due told count front (statuses.ReadFault name) due = absurd due
gen_due told count front (statuses.NotLawful line reason) due = due
gen_due told count front (statuses.NotHitless n) due = due
gen_due told count front statuses.Usage due = absurd due
gen_due told count front statuses.WriteFault due = absurd due
gen_due told count front (statuses.NoMemory memory) due = absurd due

one_gen : (told : Option Held) (count : ℕ) (front : List ℕ) (x y : Status) → Ends told (Gen count front) x
    → Ends told (Gen count front) y → x ≡ y
one_gen told count front x y h k =
    h.2 ∙ ap (λ (r : Ran). status_after (is_some r.stop))
    (one_ran no_state 0 (commands_of (batch_text count)) h.0 k.0 h.1 k.1) ∙ sym k.2

-- ---- every request
-- what is due is allowed, where it is no run's end
due_allowed : (told : Option Held) (r : Request) → ((status : Status) → EndsOnly told r status → Ends told r status)
    → (status : Status) → DueTo told r status → AllowedTo told r status
due_allowed told r ends statuses.Done due = ends statuses.Done due
due_allowed told r ends (statuses.LinesRefused n) due = ends (statuses.LinesRefused n) due
due_allowed told r ends (statuses.BadInput name place kind) due = due
due_allowed told r ends (statuses.ReadFault name) due = absurd due
due_allowed told r ends (statuses.NotLawful line reason) due = ends (statuses.NotLawful line reason) due
due_allowed told r ends (statuses.NotHitless n) due = ends (statuses.NotHitless n) due
due_allowed told r ends statuses.Usage due = absurd due
due_allowed told r ends statuses.WriteFault due = absurd due
due_allowed told r ends (statuses.NoMemory memory) due = absurd due

show_owed : (held : Held) (b : List ℕ) (status : Status) → DueTo (Some held) (Show b) status
    → ShowDue (Some held) b status
show_owed held b status due =
    show_due (Some held) b status (due_allowed (Some held) (Show b) (λ s e. e) status due)

walk_owed : (held : Held) (hook : Hook) (b c o : List ℕ) (status : Status)
    → DueTo (Some held) (Walk hook b c o) status → WalkDue (Some held) b c status
walk_owed held hook b c o status due =
    walked_due (Some held) hook b c o status (due_allowed (Some held) (Walk hook b c o) (λ s e. e) status due)

trace_owed : (held : Held) (hook : Hook) (b c : List ℕ) (status : Status)
    → DueTo (Some held) (Trace hook b c) status → WalkDue (Some held) b c status
trace_owed held hook b c status due =
    traced_due (Some held) hook b c status (due_allowed (Some held) (Trace hook b c) (λ s e. e) status due)

recheck_owed : (held : Held) (j p : List ℕ) (status : Status) → DueTo (Some held) (Recheck j p) status
    → RecheckDue (Some held) j p status
recheck_owed held j p status due =
    recheck_due (Some held) j p status (due_allowed (Some held) (Recheck j p) (λ s e. e) status due)

-- of a trace of the report what a recheck of it owes
traced_recheck : (told : Option Held) (j p : List ℕ) (status : Status) → AllowedTo told (TraceReport j p) status
    → RecheckDue told j p status
traced_recheck told j p status due = recheck_due told j p status (traced_as_rechecked told j p status due)

report_owed : (held : Held) (j p : List ℕ) (status : Status) → DueTo (Some held) (TraceReport j p) status
    → RecheckDue (Some held) j p status
report_owed held j p status due =
    traced_recheck (Some held) j p status (due_allowed (Some held) (TraceReport j p) (λ s e. e) status due)

foresight_owed : (held : Held) (hook : Hook) (names : ChangeFiles) (force : Bool) (status : Status)
    → DueTo (Some held) (Foresee hook names force) status → ForesightDue (Some held) hook names force status
foresight_owed held hook names force status due =
    foresight_due (Some held) hook names force status
    (due_allowed (Some held) (Foresee hook names force) (λ s e. e) status due)

gen_owed : (held : Held) (n : ℕ) (p : List ℕ) (status : Status) → DueTo (Some held) (Gen n p) status
    → Ends (Some held) (Gen n p) status
gen_owed held n p status due =
    gen_due (Some held) n p status (due_allowed (Some held) (Gen n p) (λ s e. e) status due)

-- an answer that is allowed is the one that is due
pub is_due : (held : Held) (r : Request) (x y : Status) → AllowedTo (Some held) r x → DueTo (Some held) r y
    → x ≡ y
is_due held (Show b) x y h k = one_show held b x y (show_due (Some held) b x h) (show_owed held b y k)
is_due held (Walk hook b c o) x y h k =
    one_walk held b c x y (walked_due (Some held) hook b c o x h) (walk_owed held hook b c o y k)
is_due held (Trace hook b c) x y h k =
    one_walk held b c x y (traced_due (Some held) hook b c x h) (trace_owed held hook b c y k)
is_due held (Run j) x y h k = one_run held j x y h k
is_due held (Recheck j p) x y h k =
    one_recheck held j p x y (recheck_due (Some held) j p x h) (recheck_owed held j p y k)
is_due held (TraceReport j p) x y h k =
    one_recheck held j p x y (traced_recheck (Some held) j p x h) (report_owed held j p y k)
is_due held (Gen n p) x y h k =
    one_gen (Some held) n p x y (gen_due (Some held) n p x h) (gen_owed held n p y k)
is_due held (Foresee hook names force) x y h k =
    one_foresight held hook names force x y (foresight_due (Some held) hook names force x h)
    (foresight_owed held hook names force y k)

-- a file whose reading is told stands, where some answer is due
pub stands : (held : Held) (r : Request) (name : List ℕ) (status : Status) → IsRead (Some held) r name
    → DueTo (Some held) r status → (bytes : List ℕ) × Holds (Some held) name bytes
stands held (Show b) name status is due =
    let there = shown_stands held b status (show_owed held b status due) in
    (there.0, subst (λ (n : List ℕ). Holds (Some held) n there.0) (sym is) there.1)
stands held (Walk hook b c o) name status is due =
    input_stands held b c name status (walk_owed held hook b c o status due) is
stands held (Trace hook b c) name status is due =
    input_stands held b c name status (trace_owed held hook b c status due) is
stands held (Run j) name status is due = ran_stands held j name status due is
stands held (Recheck j p) name status is due =
    rechecked_stands held j p name status (recheck_owed held j p status due) is
stands held (TraceReport j p) name status is due =
    rechecked_stands held j p name status (report_owed held j p status due) is
stands held (Gen n p) name status is due = absurd is
stands held (Foresee hook names force) name status is due =
    foreseen_stands held hook names force name status (foresight_owed held hook names force status due) is
