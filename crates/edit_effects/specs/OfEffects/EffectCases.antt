-- Two small filters, and what an edit makes of them, which can be followed by hand.
use Rattle.std.specs.Prelude.{ℕ, List, [], ◌∷◌, ◌++◌, Some}
use Rattle.filter_state.specs.declared.edit.Edit.{Edit}
use Rattle.filter_state.specs.declared.edit.Edit.TheVariants as edits
use Rattle.filter_state.specs.States.{State, no_state}
use Rattle.filter_state.specs.Journals.{state_from}
use Rattle.walk_rules.specs.Questions.{Head}
use Rattle.state_laws.specs.Cases.{ip, drop, filter_of, on_address}
use Rattle.edit_effects.specs.OfEffects.Parts.{Filter}

-- the filters 1 and 2 of one mask, for the addresses 1 and 2, each with an action of its own
abbrev pub two_filters : List Edit
two_filters = edits.HookAdd ∷ on_address 1 ∷ on_address 2 ∷ []

abbrev pub two_and : Edit → State
two_and edit = state_from no_state (two_filters ++ edit ∷ [])

-- filter 1 gets this mask and key
abbrev pub replaced_by : ℕ → ℕ → Edit
replaced_by mask key = edits.FilterReplace (filter_of ip (Some 10) (Some 1) mask key (drop ∷ []))

-- a filter with a key of one word and one action
abbrev pub filter_with : ℕ → ℕ → ℕ → Filter
filter_with handle key serial = record { handle = handle; key = key ∷ []; actions = serial ∷ [] }

-- the table of the two, with these masks
abbrev pub table_with : List ℕ → List Head
table_with masks = record { serial = 1; chain = 0; pref = 10; protocol = ip; masks = masks } ∷ []
