-- What an edit changes, and what it leaves (this project's own). The first state is the one before the edit.
use Rattle.std.specs.Prelude.{◌≡◌, ◌≢◌, ◌⊎◌, ℕ, ◌<◌, List, map, Some, None, if◌then◌else◌}
use Rattle.tc_base.specs.declared.hook.Hook.{Hook}
use Rattle.act_kinds.specs.declared.params.Params.{Params}
use Rattle.filter_state.specs.States.{State}
use Rattle.walk_rules.specs.Heads.{heads_on}
use Rattle.edit_effects.specs.OfEffects.Parts.{Filter, filters_of, words_of, params_at, is_handle}

-- ---- tables, masks and filters
-- the tables of both hooks and the words of all masks stay
pub record KeepsTables (s t : State) : Type 0 where
  pub heads : (hook : Hook) → heads_on hook t ≡ heads_on hook s
  pub words : (mask : ℕ) → words_of t mask ≡ words_of s mask

-- so do all filters
pub record KeepsFilters (s t : State) : Type 0 where
  pub tables : KeepsTables s t
  pub filters : (mask : ℕ) → filters_of t mask ≡ filters_of s mask

-- the filters of one mask alone are others
pub record ChangesMask (mask : ℕ) (after : List Filter) (s t : State) : Type 0 where
  pub tables : KeepsTables s t
  pub filters : filters_of t mask ≡ after
  pub others : (other : ℕ) → other ≢ mask → filters_of t other ≡ filters_of s other

-- a mask is as it was
pub record KeepsMask (mask : ℕ) (s t : State) : Type 0 where
  pub words : words_of t mask ≡ words_of s mask
  pub filters : filters_of t mask ≡ filters_of s mask

-- a mask has these words and filters
pub record HasMask (mask : ℕ) (words : List ℕ) (filters : List Filter) (t : State) : Type 0 where
  pub words_are : words_of t mask ≡ words
  pub filters_are : filters_of t mask ≡ filters

-- the tables of one hook change, or their masks: those of the other hook stay, and all masks but these
pub record ChangesHook (hook : Hook) (IsConcerned : ℕ → Type 0) (s t : State) : Type 0 where
  pub heads : (other : Hook) → other ≢ hook → heads_on other t ≡ heads_on other s
  pub others : (mask : ℕ) → (IsConcerned mask → ⊥) → KeepsMask mask s t

-- ---- actions
-- what is live afterwards was live before with these parameters, or has a serial that was given to none
-- before
pub record KeepsActions (s t : State) : Type 0 where
  pub stays : (serial : ℕ) (params : Params) → params_at s serial ≡ Some params
      → (params_at t serial ≡ Some params) ⊎ (params_at t serial ≡ None)
  pub comes : (serial : ℕ) → params_at s serial ≡ None → (params_at t serial ≢ None) → s.actions_made < serial

-- none goes
abbrev pub LosesNoAction : State → State → Type 0
LosesNoAction s t = (serial : ℕ) → params_at s serial ≢ None → params_at t serial ≢ None

-- none comes
abbrev pub MakesNoAction : State → State → Type 0
MakesNoAction s t = (serial : ℕ) → params_at s serial ≡ None → params_at t serial ≡ None

-- the parameters of one action are these
pub record ChangesAction (serial : ℕ) (params : Params) (s t : State) : Type 0 where
  pub here : params_at t serial ≡ Some params
  pub others : (other : ℕ) → other ≢ serial → params_at t other ≡ params_at s other

-- ---- lists of filters
-- the filter of a handle with other actions, in its place
abbrev pub with_actions : ℕ → List ℕ → List Filter → List Filter
with_actions handle serials filters =
    map (λ (f : Filter). if is_handle handle f then record f { actions = serials } else f) filters
