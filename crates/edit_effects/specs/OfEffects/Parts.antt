-- What a state has of one mask and of one action (this project's own).
use Rattle.std.specs.Prelude.{◌≡◌, ℕ, ◌==◌, Bool, not, List, [], map, filter, Option, Some, None, IsTrue}
use Rattle.std.specs.List.{list_any}
use Rattle.std.specs.Option.{option_map}
use Rattle.act_kinds.specs.declared.params.Params.{Params}
use Rattle.filter_state.specs.States.{Row, Action, State}
use Rattle.filter_state.specs.Actions.{has_serial}
use Rattle.filter_state.specs.Tables.{first_where}
use Rattle.filter_state.specs.Order.{of_mask}

-- a filter, apart from its table and mask
pub record Filter : Type 0 where
  pub handle : ℕ
  pub key : List ℕ
  pub actions : List ℕ

abbrev pub filter_of : Row → Filter
filter_of row = record { handle = row.handle; key = row.key; actions = row.actions }

-- a mask stands where a row has its serial
abbrev pub Stands : State → ℕ → Type 0
Stands s mask = IsTrue (list_any (of_mask mask) s.rows)

-- the filters of a mask, as they were accepted
abbrev pub filters_of : State → ℕ → List Filter
filters_of s mask = map filter_of (filter (of_mask mask) s.rows)

-- the words of a mask; no words where it doesn't stand
abbrev pub words_in : Option Row → List ℕ
words_in None = []
words_in (Some row) = row.mask

abbrev pub words_of : State → ℕ → List ℕ
words_of s mask = words_in (first_where (of_mask mask) s.rows)

-- the parameters of a live action
abbrev pub params_at : State → ℕ → Option Params
params_at s serial =
    option_map (λ (action : Action). action.params) (first_where (has_serial serial) s.actions)

-- ---- lists of filters
abbrev pub is_handle : ℕ → Filter → Bool
is_handle handle f = f.handle == handle

-- without the filter of a handle
abbrev pub without : ℕ → List Filter → List Filter
without handle filters = filter (λ (f : Filter). not (is_handle handle f)) filters
