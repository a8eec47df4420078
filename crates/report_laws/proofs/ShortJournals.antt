-- A run's journal is no longer than all batches of its job together.
use Rattle.std.proofs.Common.{◌≡◌, ◌∙◌, ℕ, zero, suc, ◌+◌, ◌<◌, ◌≤◌, ◌^◌, Bool, true, false, List, [], ◌∷◌, ◌++◌, length, drop, Some, sym, ap, subst, arith}
use Rattle.std.specs.Prelude.{sum_by, if◌then◌else◌, ◌||◌}
use Rattle.std.specs.List.{slice_get}
use Rattle.std.proofs.lemmas.List.{length-append}
use Rattle.std.proofs.lemmas.List.Sums.{sum_by-cons}
use Rattle.std.proofs.lemmas.Bool.{eq-eqb}
use Rattle.filter_state.specs.declared.edit.Edit.{Edit}
use Rattle.filter_state.specs.States.{State, no_state}
use Rattle.filter_state.specs.Sound.{Each}
use Rattle.filter_state.specs.Journals.{state_from}
use Rattle.pcap_io.specs.declared.capture.Capture.{Capture}
use Rattle.job_lines.specs.declared.job.BatchName.{BatchName}
use Rattle.job_lines.specs.declared.job.Round.{Round}
use Rattle.batch_run.specs.Commands.{Command, commands_of}
use Rattle.run_report.specs.declared.events.Event.{Event}
use Rattle.run_report.specs.declared.outcomes.Outcome.{Outcome}
use Rattle.run_report.specs.declared.rounds.RoundRecord.{RoundRecord}
use Rattle.run_report.specs.declared.record.RunRecord.{RunRecord}
use Rattle.run_report.specs.Counts.{is_accepted}
use Rattle.lawful_runs.specs.declared.loaded.LoadedJob.{LoadedJob}
use Rattle.lawful_runs.specs.Given.{GivenBatch, GivenRound, IsLoaded, given_batches, given_arrivals, given_rounds, rounds_from, capture_count, command_count}
use Rattle.lawful_runs.specs.Events.{GoesOn, IsThrough, AreInOrder, AreResults, is_of, events_of}
use Rattle.lawful_runs.specs.Lawful.{AreRounds, IsRunWith}
use Rattle.lawful_runs.proofs.Places.{each_from}
use Rattle.lawful_runs.proofs.Results.{result_counted}

-- ---- events, and the controls that they are of
abbrev pub commands_in : List GivenBatch → ℕ
commands_in batches = sum_by (λ (batch : GivenBatch). length batch.commands) batches

told_of : List Event → GivenBatch → ℕ
told_of events batch = length (events_of batch.control events)

-- how many of the events are of the controls of these batches
abbrev told_by : List Event → List GivenBatch → ℕ
told_by events batches = sum_by (told_of events) batches

kept_or_left : (b : Bool) (event : Event) (rest : List Event) → length rest ≤ length (if b then event ∷ rest else rest)
kept_or_left true event rest = omega arith
kept_or_left false event rest = omega arith

kept : (b : Bool) (event : Event) (rest : List Event) → b ≡ true → suc (length rest) ≤ length (if b then event ∷ rest else rest)
kept true event rest is = omega arith
kept false event rest is = absurd (cc is)

no_fewer : (event : Event) (events : List Event) (batch : GivenBatch) → told_of events batch ≤ told_of (event ∷ events) batch
unfolding told_of
no_fewer event events batch = kept_or_left (is_of batch.control event) event (events_of batch.control events)

one_more : (event : Event) (events : List Event) (batch : GivenBatch) → batch.control ≡ event.control → suc (told_of events batch) ≤ told_of (event ∷ events) batch
unfolding told_of
one_more event events batch same = kept (is_of batch.control event) event (events_of batch.control events) (eq-eqb event.control batch.control (sym same))

none_fewer : (event : Event) (events : List Event) (batches : List GivenBatch) → told_by events batches ≤ told_by (event ∷ events) batches
none_fewer event events [] = omega arith
none_fewer event events (batch ∷ batches) =
    let before = sum_by-cons (told_of events) batch batches in
    let now = sum_by-cons (told_of (event ∷ events)) batch batches in
    let first = no_fewer event events batch in
    let rest = none_fewer event events batches in
    omega (arith, before, now, first, rest)

-- an event of one of the controls counts at least once
counts_more : (event : Event) (events : List Event) (batches : List GivenBatch) (place : ℕ) (batch : GivenBatch) → slice_get batches place ≡ Some batch → batch.control ≡ event.control
    → suc (told_by events batches) ≤ told_by (event ∷ events) batches
counts_more event events [] place batch is same = absurd (cc is)
counts_more event events (first ∷ batches) zero batch is same =
    let here : batch ≡ first = cc in
    let before = sum_by-cons (told_of events) first batches in
    let now = sum_by-cons (told_of (event ∷ events)) first batches in
    let more = one_more event events first (subst (λ (b : GivenBatch). b.control ≡ event.control) here same) in
    let rest = none_fewer event events batches in
    omega (arith, before, now, more, rest)
counts_more event events (first ∷ batches) (suc place) batch is same =
    let before = sum_by-cons (told_of events) first batches in
    let now = sum_by-cons (told_of (event ∷ events)) first batches in
    let one = no_fewer event events first in
    let rest = counts_more event events batches place batch is same in
    omega (arith, before, now, one, rest)

all_counted : (batches : List GivenBatch) (s : State) (events : List Event) (edits : List Edit) → AreResults batches s events edits → length events ≤ told_by events batches
all_counted batches s [] edits is = omega arith
all_counted batches s (event ∷ events) edits (words, next, first, rest, line, result, more, is) =
    let others = all_counted batches next events rest more in
    let one = counts_more event events batches line.given.0 line.batch line.given.1 line.control in
    omega (arith, others, one)

-- ---- a control has no more events than commands
through_by : (b : Bool) (commands : List Command) (events : List Event) (force : Bool) → (IsThrough force commands events → length events ≤ length commands)
    → GoesOn b (IsThrough force commands events) events → length events ≤ length commands
through_by true commands events force rest goes = rest goes
through_by false commands events force rest goes = let none = ap length goes in omega (arith, none)

through_short : (force : Bool) (commands : List Command) (events : List Event) → IsThrough force commands events → length events ≤ length commands
through_short force [] events is = let none = ap length is in omega (arith, none)
through_short force (command ∷ commands) [] is = absurd is
through_short force (command ∷ commands) (event ∷ events) is =
    let rest = through_by (force || is_accepted event.kind) commands events force (λ more. through_short force commands events more) is.1 in
    omega (arith, rest)

told_short : (events : List Event) (batches : List GivenBatch) → Each (λ (batch : GivenBatch). IsThrough batch.force batch.commands (events_of batch.control events)) batches → told_by events batches ≤ commands_in batches
unfolding told_of
told_short events [] each = omega arith
told_short events (batch ∷ batches) each =
    let told = sum_by-cons (told_of events) batch batches in
    let commands = sum_by-cons (λ (b : GivenBatch). length b.commands) batch batches in
    let first : told_of events batch ≤ length batch.commands = through_short batch.force batch.commands (events_of batch.control events) each.0 in
    let rest = told_short events batches each.1 in
    omega (arith, told, commands, first, rest)

-- ---- the edits of a round
one_at_most : (b : Bool) → (if b then 1 else 0) ≤ 1
one_at_most true = omega arith
one_at_most false = omega arith

edits_short : (batches : List GivenBatch) (s : State) (events : List Event) (edits : List Edit) → AreResults batches s events edits → length edits ≤ length events
edits_short batches s [] edits is = let none = ap length is in omega (arith, none)
edits_short batches s (event ∷ events) edits (words, next, first, rest, line, result, more, is) =
    let whole : length edits ≡ length first + length rest = ap length is ∙ length-append first rest in
    let own = result_counted s words event.kind next first result in
    let one = one_at_most (is_accepted event.kind) in
    let others = edits_short batches next events rest more in
    omega (arith, whole, own, one, others)

pub events_short : (batches : List GivenBatch) (s : State) (events : List Event) (edits : List Edit) → AreInOrder batches events → AreResults batches s events edits → length events ≤ commands_in batches
events_short batches s events edits order results =
    let each : Each (λ (batch : GivenBatch). IsThrough batch.force batch.commands (events_of batch.control events)) batches =
    each_from (λ (batch : GivenBatch). IsThrough batch.force batch.commands (events_of batch.control events)) batches (λ place batch is. order batch (place, is)) in
    let counted = all_counted batches s events edits results in
    let told = told_short events batches each in
    omega (arith, counted, told)

round_short : (batches : List GivenBatch) (s : State) (events : List Event) (edits : List Edit) → AreInOrder batches events → AreResults batches s events edits → length edits ≤ commands_in batches
round_short batches s events edits order results =
    let fewer = edits_short batches s events edits results in
    let all = events_short batches s events edits order results in
    omega (arith, fewer, all)

-- ---- rounds
abbrev pub round_commands : GivenRound → ℕ
round_commands round = commands_in round.batches

rounds_short : (workers : ℕ) (rounds : List GivenRound) (before : List Edit) (earlier : List Outcome) (its : List RoundRecord) (journal : List Edit) → AreRounds workers rounds before earlier its journal
    → length journal ≤ length before + sum_by round_commands rounds
rounds_short workers [] before earlier [] journal are = let same = ap length are in omega (arith, same)
rounds_short workers [] before earlier (it ∷ its) journal are = absurd are
rounds_short workers (round ∷ rounds) before earlier [] journal are = absurd are
rounds_short workers (round ∷ rounds) before earlier (it ∷ its) journal (edits, one, more) =
    let rest = rounds_short workers rounds (before ++ edits) (earlier ++ it.outcomes) its journal more in
    let here = round_short round.batches (state_from no_state before) it.events edits one.order one.results in
    let both = length-append before edits in
    let sum = sum_by-cons round_commands round rounds in
    omega (arith, rest, here, both, sum)

-- ---- the commands of a job's files
count_cons : (bytes : List ℕ) (files : List (List ℕ)) → command_count (bytes ∷ files) ≡ length (commands_of bytes) + command_count files
count_cons bytes files = sum_by-cons (λ (b : List ℕ). length (commands_of b)) bytes files

given_short : (names : List BatchName) (files : List (List ℕ)) → commands_in (given_batches names files) + command_count (drop (length names) files) ≤ command_count files
given_short [] files = omega arith
given_short (name ∷ names) [] = omega arith
given_short (name ∷ names) (bytes ∷ files) =
    let first : GivenBatch = record { control = name.control; force = name.force; commands = commands_of bytes } in
    let here = sum_by-cons (λ (b : GivenBatch). length b.commands) first (given_batches names files) in
    let count = count_cons bytes files in
    let rest = given_short names files in
    omega (arith, here, count, rest)

pub files_short : (rounds : List Round) (files : List (List ℕ)) (captures : List Capture) → sum_by round_commands (rounds_from rounds files captures) ≤ command_count files
files_short [] files captures = omega arith
files_short (round ∷ rounds) files captures =
    let left : List (List ℕ) = drop (length round.batches) files in
    let others : List GivenRound = rounds_from rounds left (drop (capture_count round.capture) captures) in
    let own : GivenRound = record { batches = given_batches round.batches files; arrivals = given_arrivals round.capture captures } in
    let rest = files_short rounds left (drop (capture_count round.capture) captures) in
    let here = given_short round.batches files in
    let sum : sum_by round_commands (own ∷ others) ≡ commands_in (given_batches round.batches files) + sum_by round_commands others =
    sum_by-cons round_commands own others in
    omega (arith, rest, here, sum)

-- so the journal's points are at most as many as a run has commands
pub journal_few : (loaded : LoadedJob) (run : RunRecord) (journal : List Edit) → IsLoaded loaded → IsRunWith loaded run journal → length journal ≤ 262144
journal_few loaded run journal is ran =
    let most = rounds_short loaded.job.workers (given_rounds loaded) [] [] run.rounds journal ran.rounds in
    let all = files_short loaded.job.rounds loaded.batches loaded.captures in
    let few : command_count loaded.batches ≤ 262144 = is.commands in
    omega (arith, most, all, few)

-- and numbers of 64 bits
pub journal_short : (loaded : LoadedJob) (run : RunRecord) (journal : List Edit) → IsLoaded loaded → IsRunWith loaded run journal → length journal < 2 ^ 64
journal_short loaded run journal is ran = let few = journal_few loaded run journal is ran in omega (arith, few)
