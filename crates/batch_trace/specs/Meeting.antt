-- What is known of the accepted edits of a batch while its lines are met (this project's own).
use Rattle.std.specs.Prelude.{◌≡◌, ℕ, ◌⊎◌, ◌≤◌, Bool, true, false, List, [], ◌∷◌, ◌++◌, length, Ok, Err}
use Rattle.std.specs.Prelude.{if◌then◌else◌}
use Rattle.tc_base.specs.declared.hook.Hook.{Hook}
use Rattle.filter_state.specs.declared.edit.Edit.{Edit}
use Rattle.filter_state.specs.declared.refusal.Done.{Done}
use Rattle.filter_state.specs.declared.refusal.Refusal.{Refusal}
use Rattle.filter_state.specs.States.{State, no_state}
use Rattle.filter_state.specs.Steps.{step}
use Rattle.filter_state.specs.Journals.{state_from}
use Rattle.filter_lists.specs.Spells.{Spells}
use Rattle.tc_batch.specs.Grammar.{Gives}
use Rattle.tc_batch.specs.FirstBad.{IsFirstBad}
use Rattle.batch_run.specs.declared.limit.TheConstants.{COMMANDS_MAX}
use Rattle.lawful_runs.specs.Lawful.{made_by}
use Rattle.state_past.specs.Remembering.{Remembers}
use Rattle.filter_origins.specs.declared.brought.Brought.{Brought}
use Rattle.filter_origins.specs.declared.origins.Origins.{Origins}
use Rattle.filter_origins.specs.Entries.{Entry, edits_of, entries_of}
use Rattle.filter_origins.specs.Knows.{Knows}
use Rattle.batch_trace.specs.declared.accepted.Accepted.{Accepted}
use Rattle.journal_names.specs.Decided.{decided_line}
use Rattle.batch_trace.specs.Accepted.{entry_of}
use Rattle.batch_trace.specs.Traced.{is_standing}

abbrev pub entries_in : Accepted → List Entry
entries_in accepted = entries_of accepted.places.items accepted.journal.items

-- the past, the lists and the names of actions are those of the edits, each of which has its place
pub record AreKept (accepted : Accepted) : Type 0 where
  pub each : length accepted.places.items ≡ length accepted.journal.items
  pub remembers : Remembers accepted.past accepted.journal.items
  pub spells : Spells accepted.lists (state_from no_state accepted.journal.items)
  pub made_is : accepted.made.items ≡ made_by no_state accepted.journal.items

-- and the origins too
pub record IsTraced (accepted : Accepted) (origins : Origins) : Type 0 where
  pub kept : AreKept accepted
  pub few : length accepted.journal.items ≤ COMMANDS_MAX
  pub knows : Knows origins (entries_in accepted)

-- what is told of a filter at the end, where it stands at the hook
abbrev pub shown_standing : Hook → (ℕ → ℕ) → Brought → List ℕ
shown_standing hook times brought =
    if is_standing hook brought then decided_line (times brought.by.edit) brought else []

-- the state behind the edits
abbrev pub state_behind : List Entry → State
state_behind entries = state_from no_state (edits_of entries)

-- an edit was accepted behind the others, or it was refused and they stay
abbrev pub IsTaken : List Entry → List Entry → Edit → ℕ → Bool → Type 0
IsTaken old new edit line true = (next : State) × (done : Done)
    × (step (state_behind old) edit ≡ Ok (next, done)) × (new ≡ old ++ (entry_of line edit ∷ []))
IsTaken old new edit line false =
    (refusal : Refusal) × (step (state_behind old) edit ≡ Err refusal) × (new ≡ old)

-- a line was met: its edit was taken so, or it gives none
abbrev pub IsMet : List Entry → List Entry → List (List ℕ) → ℕ → Bool → Type 0
IsMet old new words line goes_on = ((edit : Edit) × Gives words edit × IsTaken old new edit line goes_on)
    ⊎ ((word : ℕ) × IsFirstBad words word × (goes_on ≡ false) × (new ≡ old))
