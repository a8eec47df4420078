-- By which lines filters and actions were brought (this project's own).
use Rattle.std.specs.Prelude.{ℕ, zero, suc, ◌&&◌, nat_le, Bool, List, [], ◌∷◌, ◌++◌, length, slice_get}
use Rattle.std.specs.Prelude.{Option, Some, None, if◌then◌else◌}
use Rattle.std.specs.List.{list_any}
use Rattle.std.specs.Option.{option_and_then}
use Rattle.filter_state.specs.declared.edit.Edit.{Edit}
use Rattle.filter_state.specs.States.{Row, State}
use Rattle.filter_state.specs.Journals.{state_at}
use Rattle.filter_state.specs.Tables.{in_table, has_handle}
use Rattle.state_past_laws.specs.OfChanges.Going.{rows_going}
use Rattle.edit_lines.specs.declared.line.Line.{Line}
use Rattle.edit_lines.specs.declared.line.Origin.{Origin}
use Rattle.filter_origins.specs.declared.brought.Brought.{Brought}
use Rattle.filter_origins.specs.Entries.{Entry, edits_of, line_at}
use Rattle.filter_origins.specs.Brought.{row_after, brought_filter, brought_action}

-- ---- of what answers
abbrev pub with_line : Option Row → Option Line → Option Origin
with_line (Some row) (Some by) = Some (record { handle = row.handle; by = by })
with_line row by = None

-- the handle of the filter that the edit of a number put, and its line
abbrev pub origin_by : List Entry → ℕ → Option Origin
origin_by entries zero = None
origin_by entries (suc place) = with_line (row_after (edits_of entries) place) (line_at entries (suc place))

-- THE ORIGIN OF A FILTER that answers at a point, by its mask and key
abbrev pub origin_at : List Entry → ℕ → ℕ → List ℕ → Option Origin
origin_at entries point mask key =
    option_and_then (origin_by entries) (brought_filter (edits_of entries) point mask key)

-- THE LINE OF AN ACTION as it is at a point
abbrev pub maker_at : List Entry → ℕ → ℕ → Option Line
maker_at entries point serial =
    option_and_then (line_at entries) (brought_action (edits_of entries) point serial)

-- ---- of all filters that were brought
-- of the same hook, chain, pref and handle
abbrev pub is_filter : Row → Row → Bool
is_filter row other = in_table row.hook row.chain row.pref other && has_handle row.handle other

abbrev pub rows_going_in : State → Option Edit → List Row
rows_going_in s None = []
rows_going_in s (Some edit) = rows_going s edit

-- the edit behind so many others takes the filter away, or replaces it
abbrev pub goes_after : List Edit → ℕ → Row → Bool
goes_after journal place row =
    list_any (is_filter row) (rows_going_in (state_at place journal) (slice_get journal place))

abbrev pub or_later : Option ℕ → Option ℕ → Option ℕ
or_later (Some point) later = Some point
or_later None later = later

-- THE EDIT THAT TOOK A FILTER, or replaced it, which the edit of a number brought: the first behind that
-- one, up to a point
abbrev pub gone_by : List Edit → ℕ → Row → ℕ → Option ℕ
gone_by journal number row zero = None
gone_by journal number row (suc place) = or_later (gone_by journal number row place)
    (if nat_le number place && goes_after journal place row then Some (suc place) else None)

abbrev pub brought_row : Option Line → Option Row → (Row → Option ℕ) → List Brought
brought_row (Some by) (Some row) gone = record {
  by = by;
  hook = row.hook;
  chain = row.chain;
  pref = row.pref;
  protocol = row.protocol;
  handle = row.handle;
  gone = gone row;
} ∷ []
brought_row by row gone = []

-- those that the first so many edits brought, in their order, by which edit each went
abbrev pub brought_among : List Entry → (ℕ → Row → Option ℕ) → ℕ → List Brought
brought_among entries gone zero = []
brought_among entries gone (suc place) = brought_among entries gone place
    ++ brought_row (line_at entries (suc place)) (row_after (edits_of entries) place) (gone (suc place))

-- ALL FILTERS THAT WERE BROUGHT, in the order of the edits that brought them
abbrev pub brought_of : List Entry → List Brought
brought_of entries = brought_among entries
    (λ number row. gone_by (edits_of entries) number row (length entries)) (length entries)
