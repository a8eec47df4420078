-- The events of a round are no more than its commands.
use Rattle.std.proofs.Common.{◌≡◌, ◌∙◌, ℕ, suc, ◌+◌, ◌≤◌, Bool, true, false, List, [], ◌∷◌, length, length-append, ap, arith}
use Rattle.std.specs.Prelude.{◌||◌, if◌then◌else◌}
use Rattle.std.proofs.lemmas.List.Sums.{sum_by-cons}
use Rattle.filter_state.specs.declared.edit.Edit.{Edit}
use Rattle.filter_state.specs.States.{no_state}
use Rattle.filter_state.specs.Journals.{state_from}
use Rattle.batch_run.specs.Commands.{Command, commands_of}
use Rattle.run_report.specs.declared.events.Event.{Event}
use Rattle.run_report.specs.Counts.{is_accepted, accepted_count}
use Rattle.lawful_runs.specs.Events.{GoesOn, IsThrough, events_of}
use Rattle.lawful_runs.proofs.Results.{results_counted}
use Rattle.round_terms.specs.Files.{RoundFile, given_of, batches_of, commands_in_all}
use Rattle.round_terms.proofs.Counting.{given_at, sum_most, each_counted}
use Rattle.job_rounds.specs.OfOneRound.Rounds.{AreEvents}

one_or_none : (b : Bool) (n m : ℕ) → n ≤ m → (if b then 1 else 0) + n ≤ suc m
one_or_none true n m less = omega (arith, less)
one_or_none false n m less = omega (arith, less)

accepted_most : (events : List Event) → accepted_count events ≤ length events
accepted_most [] = omega arith
accepted_most (event ∷ events) =
    let counts : accepted_count (event ∷ events) ≡ (if is_accepted event.kind then 1 else 0) + accepted_count events =
    sum_by-cons (λ (e : Event). if is_accepted e.kind then 1 else 0) event events in
    let more = one_or_none (is_accepted event.kind) (accepted_count events) (length events) (accepted_most events) in
    omega (arith, counts, more)

goes_by : (b : Bool) (commands : List Command) (events : List Event) (force : Bool) → (IsThrough force commands events → length events ≤ length commands)
    → GoesOn b (IsThrough force commands events) events → length events ≤ length commands
goes_by true commands events force rest goes = rest goes
goes_by false commands events force rest goes = let none = ap length goes in omega (arith, none)

no_more : (force : Bool) (commands : List Command) (events : List Event) → IsThrough force commands events → length events ≤ length commands
no_more force [] events is = let none = ap length is in omega (arith, none)
no_more force (command ∷ commands) [] is = absurd is
no_more force (command ∷ commands) (event ∷ events) is =
    let rest = goes_by (force || is_accepted event.kind) commands events force (λ more. no_more force commands events more) is.1 in
    omega (arith, rest)

-- so the journal has grown by as many edits as were accepted, and these are no more than the commands
pub record IsGrown (files : List RoundFile) (before journal : List Edit) (events : List Event) : Type 0 where
  pub count : length journal ≡ length before + accepted_count events
  pub few : accepted_count events ≤ commands_in_all files

pub grown : (files : List RoundFile) (before journal : List Edit) (events : List Event) → AreEvents files before journal events → IsGrown files before journal events
grown files before journal events are =
    let edits = results_counted (batches_of files) (state_from no_state before) events are.edits are.results in
    let long = ap length are.journal_is ∙ length-append before are.edits in
    let told = each_counted files (state_from no_state before) events are.edits are.results in
    let most = sum_most (λ (f : RoundFile). length (commands_of f.bytes)) (λ (f : RoundFile). length (events_of f.control events)) files
    (λ at f is. no_more f.force (commands_of f.bytes) (events_of f.control events) (are.order (given_of f) (at, given_at files at f is))) in
    let accepted = accepted_most events in
    record {
      count = omega (arith, edits, long);
      few = omega (arith, told, most, accepted);
    }
