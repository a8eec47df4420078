-- What the steps of showing speak of (this project's own).
use Rattle.std.specs.Prelude.{ℕ, Bool, List, [], ◌∷◌, Option, Some, None}
use Rattle.std.specs.List.{flat_map}
use Rattle.act_kinds.specs.declared.params.Params.{Params}
use Rattle.act_registry.specs.declared.entry.Entry.{Entry}
use Rattle.action_plan.specs.Entries.{action_of, actions_of}
use Rattle.filter_state.specs.States.{State, no_state}
use Rattle.tc_report.specs.Show.{action_before}

-- entries in the order in which they are shown
abbrev pub entry_before : Entry Params → Entry Params → Bool
entry_before a b = action_before (action_of a) (action_of b)

-- a state of whose actions alone the line of a filter speaks
abbrev pub naming : List (Entry Params) → State
naming entries = record no_state { actions = actions_of entries }

-- what is put for a slot, which may be empty
abbrev pub slot_shown : {X : Type 0} → (X → List ℕ) → Option X → List ℕ
slot_shown f None = []
slot_shown f (Some x) = f x

-- words that stand behind others in a line, each with a space before it
abbrev pub spaced_words : List (List ℕ) → List ℕ
spaced_words words = flat_map (λ (word : List ℕ). 32 ∷ word) words
