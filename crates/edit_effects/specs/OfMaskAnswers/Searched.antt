-- What a search of a mask's filters for a key finds (this project's own).
use Rattle.std.specs.Prelude.{◌≡◌, ◌≢◌, ℕ, Bool, true, false, List, slice_get, Some}
use Rattle.edit_effects.specs.OfEffects.Parts.{Filter}
use Rattle.walk_rules.specs.Questions.{Answer, told_no_filter, told_actions}

-- a filter stands in the list
abbrev pub IsThere : List Filter → Filter → Type 0
IsThere filters f = (place : ℕ) × (slice_get filters place ≡ Some f)

-- one has the key, and these are its actions; or none has it
abbrev pub IsSearched : List Filter → List ℕ → Bool → List ℕ → Type 0
IsSearched filters key true actions =
    (f : Filter) × IsThere filters f × (f.key ≡ key) × (actions ≡ f.actions)
IsSearched filters key false actions = (f : Filter) (place : ℕ) → slice_get filters place ≡ Some f
    → f.key ≢ key

-- the answer of a walk's look-up
abbrev pub searched_told : Bool → List ℕ → Answer
searched_told true actions = told_actions actions
searched_told false actions = told_no_filter
