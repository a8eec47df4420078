-- What is known of a control whose turns are taken under a lock (this project's own). Which state lay under the
-- lock isn't known, but that it was one of the round.
use Rattle.std.specs.Prelude.{ℕ, ◌⊎◌, List, Option}
use Rattle.tc_base.specs.declared.ear.EventName.{EventName}
use Rattle.filter_state.specs.declared.edit.Edit.{Edit}
use Rattle.round_terms.specs.LoadedJob.{LoadedJob}
use Rattle.round_terms.specs.Files.{files_of}
use Rattle.round_terms.specs.Coming.{IsThroughAll}
use Rattle.round_terms.specs.Hearing.{EarView}
use Rattle.job_rounds.specs.declared.round_state.turned.Turned.{Turned}
use Rattle.job_rounds.specs.declared.round_state.turned.Turned.TheVariants.{Applied, Over}
use Rattle.job_rounds.specs.OfRoundState.Rounds.{StoreName, Underway, IsRoundOf}
use Rattle.job_rounds.specs.OfRoundState.Turns.{IsTurned, IsLineNumber}

-- the control took a turn in a state of the round, and that became of it
pub record HasTurned {E : Type 0} (name : E → ℕ) (heard : E → Option (List EventName)) (spare : E → ℕ)
    (store : StoreName) (job : LoadedJob) (number : ℕ) (before : List Edit) (ear : EarView) (control : ℕ)
    (answer : Turned) : Type 0 where
  pub old : Underway E
  pub new : Underway E
  pub was : IsRoundOf name heard spare store job number before ear old
  pub stands : IsRoundOf name heard spare store job number before ear new
  pub turned : IsTurned name heard spare (files_of job number) number control old new answer

-- the control's next line was met, or it had none left
abbrev pub HasMet : {E : Type 0} → (E → ℕ) → (E → Option (List EventName)) → (E → ℕ) → StoreName → LoadedJob → ℕ
    → List Edit → EarView → ℕ → Type 0
HasMet name heard spare store job number before ear control =
    HasTurned name heard spare store job number before ear control Applied
    ⊎ HasTurned name heard spare store job number before ear control Over

-- in a state of the round this was the control's next line
pub record HadLine {E : Type 0} (name : E → ℕ) (heard : E → Option (List EventName)) (spare : E → ℕ)
    (store : StoreName) (job : LoadedJob) (number : ℕ) (before : List Edit) (ear : EarView) (control line : ℕ)
    : Type 0 where
  pub state : Underway E
  pub was : IsRoundOf name heard spare store job number before ear state
  pub next : IsLineNumber (files_of job number) state.places control line

-- in a state of the round the control had no line left
pub record WasThrough {E : Type 0} (name : E → ℕ) (heard : E → Option (List EventName)) (spare : E → ℕ)
    (store : StoreName) (job : LoadedJob) (number : ℕ) (before : List Edit) (ear : EarView) (control : ℕ)
    : Type 0 where
  pub state : Underway E
  pub was : IsRoundOf name heard spare store job number before ear state
  pub through : IsThroughAll (files_of job number) control state.events
