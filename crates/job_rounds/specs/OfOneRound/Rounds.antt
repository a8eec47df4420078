-- A round of a job on threads (this project's own).
use Rattle.std.specs.Prelude.{◌≡◌, ℕ, ◌+◌, ◌≤◌, List, ◌++◌, length}
use Rattle.filter_state.specs.declared.edit.Edit.{Edit}
use Rattle.filter_state.specs.States.{no_state}
use Rattle.filter_state.specs.Journals.{state_from}
use Rattle.lawful_runs.specs.Events.{AreInOrder, AreResults}
use Rattle.round_terms.specs.TheConstants.{COMMANDS_MAX}
use Rattle.round_terms.specs.Event.{Event}
use Rattle.round_terms.specs.LoadedJob.{LoadedJob}
use Rattle.round_terms.specs.Given.{IsLoaded}
use Rattle.round_terms.specs.Files.{RoundFile, files_of, batches_of, commands_in_all}
use Rattle.round_terms.specs.Coming.{IsThroughAll}
use Rattle.job_rounds.specs.OfRoundState.Rounds.{StoreName}

-- a round of a loaded job that has room for all its lines: in the journal, and at the ear
pub record IsRoundWithRoom (job : LoadedJob) (number before spare : ℕ) : Type 0 where
  pub loaded : IsLoaded job
  pub first : 1 ≤ number
  pub last : number ≤ length job.job.rounds
  pub few : before + commands_in_all (files_of job number) ≤ COMMANDS_MAX
  pub enough : commands_in_all (files_of job number) ≤ spare

-- THE ROUND THAT IS NAMED: a call has its store, its job and its number
pub record IsNamedRound (store : StoreName) (job : LoadedJob) (number before spare : ℕ)
    (store_now : StoreName) (job_now : LoadedJob) (number_now : ℕ) : Type 0 where
  pub store_is : store_now ≡ store
  pub job_is : job_now ≡ job
  pub number_is : number_now ≡ number
  pub round : IsRoundWithRoom job_now number_now before spare

-- the first controls have no line left
abbrev pub AreThrough : List RoundFile → ℕ → List Event → Type 0
AreThrough files most events =
    (control : ℕ) → 1 ≤ control → control ≤ most → IsThroughAll files control events

-- THE EVENTS OF A ROUND that is over: an interleaving of its controls' lines, each with its result on the
-- state before it; and the journal is the one before the round with the accepted edits behind it
pub record AreEvents (files : List RoundFile) (before journal : List Edit)
    (events : List Event) : Type 0 where
  pub edits : List Edit
  pub journal_is : journal ≡ before ++ edits
  pub results : AreResults (batches_of files) (state_from no_state before) events edits
  pub order : AreInOrder (batches_of files) events
