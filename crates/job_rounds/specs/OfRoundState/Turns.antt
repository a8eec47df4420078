-- What a turn of a control comes to (this project's own).
use Rattle.std.specs.Prelude.{◌≡◌, ℕ, Bool, ◌||◌, List, [], ◌∷◌, ◌++◌, length, Option}
use Rattle.tc_base.specs.declared.ear.EventName.{EventName}
use Rattle.tc_words.specs.Lines.{words_of}
use Rattle.filter_state.specs.declared.edit.Edit.{Edit}
use Rattle.filter_lists.specs.Edits.{Stays}
use Rattle.tc_batch.specs.Grammar.{Gives}
use Rattle.round_terms.specs.EventKind.{EventKind}
use Rattle.round_terms.specs.Counts.{is_accepted}
use Rattle.round_terms.specs.declared.place.Place.{Place}
use Rattle.round_terms.specs.Files.{RoundFile}
use Rattle.round_terms.specs.Hearing.{HeardIf}
use Rattle.round_terms.specs.Underway.{made_behind, IsMet}
use Rattle.round_terms.specs.Turns.{IsLineFor, moved_on}
use Rattle.desk_needs.specs.declared.pool.Pool.{Pool}
use Rattle.shared_hook.specs.Views.{DeskView, journal}
use Rattle.shared_hook.specs.Applied.{IsHeld}
use Rattle.job_rounds.specs.declared.round_state.turned.Turned.{Turned}
use Rattle.job_rounds.specs.declared.round_state.turned.Turned.TheVariants as turns
use Rattle.job_rounds.specs.OfRoundState.Rounds.{Underway}

-- a control's next line has that number
abbrev pub IsLineNumber : List RoundFile → List Place → ℕ → ℕ → Type 0
IsLineNumber files places control line = (text : List ℕ) × (next : ℕ) × (force : Bool)
    × IsLineFor files places control text line next force

-- ---- the desk at a line that isn't met
-- an edit of the line is held, as a desk says it
abbrev pub IsHeldFor : DeskView → DeskView → List (List ℕ) → Pool → (reader pin needed free : ℕ) → Type 0
IsHeldFor old new words pool reader pin needed free = (edit : Edit) × Gives words edit
    × IsHeld old new edit pool reader pin needed free

-- memory was refused; the desk's journal and pools are as they were, and of its lists only the room may be
-- more
pub record IsUntouched (old new : DeskView) : Type 0 where
  pub place : new.place ≡ old.place
  pub lists : Stays old.lists new.lists
  pub free : new.free ≡ old.free
  pub left : new.left ≡ old.left

abbrev pub IsNotMet : DeskView → DeskView → List (List ℕ) → Turned → Type 0
IsNotMet old new words turns.Applied = ⊥
IsNotMet old new words turns.Over = ⊥
IsNotMet old new words (turns.Held pool reader pin needed free) =
    IsHeldFor old new words pool reader pin needed free
IsNotMet old new words (turns.NoMemory memory) = IsUntouched old new

-- ---- the state behind a turn
-- the control's next line was met
pub record IsOneMore {E : Type 0} (name : E → ℕ) (heard : E → Option (List EventName)) (spare : E → ℕ)
    (files : List RoundFile) (round control : ℕ) (old new : Underway E) : Type 0 where
  pub text : List ℕ
  pub line : ℕ
  pub next : ℕ
  pub force : Bool
  pub kind : EventKind
  pub own_line : IsLineFor files old.places control text line next force
  pub met : IsMet (journal old.desk) (journal new.desk) (words_of text) kind
  pub events : new.events ≡ old.events ++ record { control = control; line = line; kind = kind } ∷ []
  pub places : new.places ≡ moved_on old.places control line next (force || is_accepted kind)
  pub made : new.made ≡ old.made ++ made_behind (journal old.desk) (journal new.desk)
  pub told : HeardIf (is_accepted kind) name heard spare old.ear new.ear (record {
    number = length (journal new.desk);
    round = round;
    control = control;
    line = line;
  })

-- the control's next line wasn't met, for that reason, and all but the desk is as it was
pub record IsLeft {E : Type 0} (files : List RoundFile) (control : ℕ) (old new : Underway E)
    (turned : Turned) : Type 0 where
  pub text : List ℕ
  pub line : ℕ
  pub next : ℕ
  pub force : Bool
  pub own_line : IsLineFor files old.places control text line next force
  pub not_met : IsNotMet old.desk new.desk (words_of text) turned
  pub journal_is : journal new.desk ≡ journal old.desk
  pub rest : new ≡ record old { desk = new.desk }

-- A TURN of a control
abbrev pub IsTurned : {E : Type 0} → (E → ℕ) → (E → Option (List EventName)) → (E → ℕ) → List RoundFile
    → (round control : ℕ) → Underway E → Underway E → Turned → Type 0
IsTurned name heard spare files round control old new turns.Applied =
    IsOneMore name heard spare files round control old new
IsTurned name heard spare files round control old new turns.Over = new ≡ old
IsTurned name heard spare files round control old new (turns.Held pool reader pin needed free) =
    IsLeft files control old new (turns.Held pool reader pin needed free)
IsTurned name heard spare files round control old new (turns.NoMemory memory) =
    IsLeft files control old new (turns.NoMemory memory)
