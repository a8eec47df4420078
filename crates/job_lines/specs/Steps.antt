-- The reading of a job line by line: what a line says, and the state after it. This serves the proofs: no
-- clause of a public call speaks of it.
use Rattle.std.specs.Prelude.{◌≡◌, ℕ, ◌<◌, ◌≤◌, ◌==◌, Bool, true, false, not, ◌&&◌, nat_lt, List, [], ◌∷◌}
use Rattle.std.specs.Prelude.{◌++◌, length, Option, Some, None, if◌then◌else◌, codes}
use Rattle.std.specs.List.{list_all}
use Rattle.std.specs.Option.{option_map, option_and_then}
use Rattle.std.specs.Str.{bytes_eq}
use Rattle.tc_words.specs.Numbers.{decimal_of}
use Rattle.tc_words.specs.Texts.{words_are}
use Rattle.tc_base.specs.declared.hook.Hook.{Hook}
use Rattle.tc_base.specs.declared.hook.Hook.TheVariants as hooks
use Rattle.job_lines.specs.declared.fault.JobFault.{JobFault}
use Rattle.job_lines.specs.declared.fault.JobFault.TheVariants as faults
use Rattle.job_lines.specs.declared.fault.JobKind.TheVariants as kinds
use Rattle.job_lines.specs.declared.job.BatchName.{BatchName}
use Rattle.job_lines.specs.declared.job.CaptureName.{CaptureName}
use Rattle.job_lines.specs.declared.job.Round.{Round}
use Rattle.job_lines.specs.declared.job.Job.{Job}
use Rattle.job_lines.specs.Jobs.{Words, header_line, round_line, end_line, is_name_byte}
use Rattle.job_lines.specs.Files.{most_rounds}
use Rattle.job_lines.specs.States.{State, begun_in}

-- ---- what a line says
-- whether a word is a name
abbrev pub is_name : List ℕ → Bool
is_name word = not (length word == 0) && list_all is_name_byte word

-- a number that isn't 0
abbrev pub above_zero : Option ℕ → Option ℕ
above_zero None = None
above_zero (Some number) = if number == 0 then None else Some number

-- the count behind a keyword, from 1 to a greatest one
abbrev pub count_of : List ℕ → ℕ → Words → Option ℕ
count_of keyword most (word ∷ number ∷ []) = if bytes_eq word keyword then above_zero (decimal_of number most)
    else None
count_of keyword most words = None

-- whether a batch is forced, by what stands behind its name
abbrev pub force_of : Words → Option Bool
force_of [] = Some false
force_of (word ∷ []) = if bytes_eq word (codes "force") then Some true else None
force_of (word ∷ next ∷ more) = None

-- a batch whose control is above the last one
abbrev pub batch_above : ℕ → List ℕ → Option ℕ → Option Bool → Option BatchName
batch_above last name (Some control) (Some force) = if nat_lt last control
    then Some (record { control = control; name = name; force = force }) else None
batch_above last name control force = None

-- the batch of a line, under so many controls and above the last one
abbrev pub batch_of : ℕ → ℕ → Words → Option BatchName
batch_of controls last (word ∷ number ∷ name ∷ more) = if bytes_eq word (codes "batch") && is_name name
    then batch_above last name (decimal_of number controls) (force_of more) else None
batch_of controls last words = None

-- the hook of a word
abbrev pub hook_of : List ℕ → Option Hook
hook_of word =
    if bytes_eq word (codes "ingress") then Some hooks.Ingress
    else if bytes_eq word (codes "egress") then Some hooks.Egress
    else None

-- a capture on a hook, where there is one
abbrev pub capture_on : List ℕ → List ℕ → Option Hook → Option CaptureName
capture_on name out None = None
capture_on name out (Some hook) = Some (record { hook = hook; name = name; out = out })

-- the capture of a line
abbrev pub capture_of : Words → Option CaptureName
capture_of (word ∷ hook ∷ name ∷ out ∷ []) = if bytes_eq word (codes "capture")
    && (is_name name && is_name out) then capture_on name out (hook_of hook) else None
capture_of words = None

-- ---- the state after a line
-- the round of these batches, and of a capture where it has one
abbrev pub round_of : List BatchName → Option CaptureName → Round
round_of batches capture = record { batches = batches; capture = capture }

-- the job with one round more
abbrev pub with_round : Job → Round → Job
with_round job round = record {
  workers = job.workers;
  controls = job.controls;
  rounds = job.rounds ++ (round ∷ []);
}

-- the job before its first round
abbrev pub without_rounds : ℕ → ℕ → Job
without_rounds workers controls = record { workers = workers; controls = controls; rounds = [] }

-- behind a whole round: the next one, or the end
abbrev pub after_round : Job → Words → Option State
after_round job words =
    if words_are words round_line then Some (State.Open job [] 0)
    else if words_are words end_line then Some (State.Ended job)
    else None

-- in a round, at a line that may be a capture: it ends the round
abbrev pub after_batches : Job → List BatchName → Words → Option CaptureName → Option State
after_batches job batches words None = after_round (with_round job (round_of batches None)) words
after_batches job batches words (Some capture) =
    Some (State.Ready (with_round job (round_of batches (Some capture))))

-- in a round, at a line that may be a batch
abbrev pub in_round : Job → List BatchName → Words → Option BatchName → Option State
in_round job batches words None = after_batches job batches words (capture_of words)
in_round job batches words (Some batch) = Some (State.Open job (batches ++ (batch ∷ [])) batch.control)

-- the state after one line more, or none where no job goes on so
abbrev pub next_state : State → Words → Option State
next_state State.Begun words = if words_are words header_line then Some State.Headed else None
next_state State.Headed words = option_map State.Staffed (count_of (codes "workers") 8 words)
next_state (State.Staffed workers) words = option_map
    (λ controls. State.Ready (without_rounds workers controls)) (count_of (codes "controls") 4 words)
next_state (State.Ready job) words = after_round job words
next_state (State.Open job batches last) words = in_round job batches words (batch_of job.controls last words)
next_state (State.Ended job) words = None

-- the state after lines, from a state on
abbrev pub run : State → List Words → Option State
run state [] = Some state
run state (words ∷ more) = option_and_then (λ next. run next more) (next_state state words)

-- the state after a line of a file, which may have no words
abbrev pub after_line : State → Words → Option State
after_line state words = if length words == 0 then Some state else next_state state words

-- in no more rounds than may be
abbrev pub IsWithin : State → Type 0
IsWithin state = begun_in state ≤ most_rounds

-- a line of this number fails in a state
abbrev pub LineFails : State → ℕ → Words → JobFault → Type 0
LineFails state number words (faults.Form line kinds.JobSyntax) = (line ≡ number)
    × (after_line state words ≡ None)
LineFails state number words (faults.Form line kinds.TooManyRounds) = (line ≡ number)
    × ((next : State) × (after_line state words ≡ Some next) × (most_rounds < begun_in next))
LineFails state number words (faults.NoMemory memory) = Unit {0}
