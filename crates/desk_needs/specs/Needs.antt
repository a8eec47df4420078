-- What an edit needs of each pool (this project's own). `s` is the state before the edit, and `t` the one
-- after it.
use Rattle.std.specs.Prelude.{ℕ, ◌+◌, ◌-◌, ◌%◌, ◌==◌, ◌&&◌, not, nat_lt, Bool, true, false, List, [], ◌∷◌}
use Rattle.std.specs.Prelude.{length, map, filter, Option, Some, None, if◌then◌else◌}
use Rattle.std.specs.Str.{bytes_eq}
use Rattle.tc_base.specs.declared.hook.Hook.{Hook}
use Rattle.flow_mask.specs.Hashes.{hash_of}
use Rattle.flow_mask.specs.Sizes.{size_of}
use Rattle.filter_state.specs.declared.edit.Edit.{Edit}
use Rattle.filter_state.specs.declared.edit.Edit.TheVariants as edits
use Rattle.filter_state.specs.declared.edit.FilterLine.{FilterLine}
use Rattle.filter_state.specs.States.{Row, State}
use Rattle.filter_state.specs.Actions.{is_live}
use Rattle.filter_state.specs.Order.{of_mask}
use Rattle.filter_state.specs.Tables.{hook_eq, filter_row}
use Rattle.filter_state.specs.Steps.{step}
use Rattle.filter_state.specs.Journals.{state_after}
use Rattle.std.specs.Option.{unwrap_or}
use Rattle.desk_needs.specs.declared.needs.Needs.{Needs}
use Rattle.desk_needs.specs.declared.pool.Pool.{Pool}
use Rattle.desk_needs.specs.declared.pool.Pool.TheVariants as pools
use Rattle.desk_needs.specs.Live.{count_of, rows_of}

abbrev pub nothing : Needs
nothing = record { blocks = 0; rows = 0; masks = 0; actions = 0; head = None }

-- how many actions the edit makes
abbrev pub made : State → State → ℕ
made s t = t.actions_made - s.actions_made

-- ---- filters of a mask
-- the filters behind the one of a handle
abbrev pub behind : ℕ → List Row → List Row
behind handle [] = []
behind handle (row ∷ rows) = if row.handle == handle then rows else behind handle rows

abbrev pub same_bucket : ℕ → List ℕ → Row → Bool
same_bucket size key row = hash_of row.key % size == hash_of key % size

-- how many later filters of its mask are in the bucket of a filter: their blocks are written anew where it goes
-- or another one takes its place
abbrev pub later : State → Row → ℕ
later s row = length (filter (same_bucket (size_of (count_of s row.mask_serial)) row.key)
    (behind row.handle (filter (of_mask row.mask_serial) s.rows)))

-- a mask of which the number of filters asks for another number of buckets is laid anew: a block for each
-- filter and one for its record, and all rows
abbrev pub is_refitted : State → State → ℕ → Bool
is_refitted s t mask = not (size_of (count_of t mask) == size_of (count_of s mask))

abbrev pub refit_blocks : State → State → ℕ → ℕ
refit_blocks s t mask = if is_refitted s t mask then count_of t mask + 1 else 0

abbrev pub refit_rows : State → State → ℕ → ℕ
refit_rows s t mask = if is_refitted s t mask then rows_of t mask else 0

-- ---- filters that come
-- the mask of the filter that came last
abbrev pub last_mask : List Row → ℕ
last_mask [] = 0
last_mask (row ∷ []) = row.mask_serial
last_mask (row ∷ next ∷ rows) = last_mask (next ∷ rows)

-- into a mask that stands, or with a new one, whose serial wasn't given before
abbrev pub added : State → State → Hook → ℕ → Needs
added s t hook mask = if nat_lt s.masks_made mask
    then record { blocks = made s t + 2; rows = 1; masks = 1; actions = made s t; head = Some hook }
    else record {
      blocks = made s t + 1 + refit_blocks s t mask;
      rows = refit_rows s t mask;
      masks = 0;
      actions = made s t;
      head = None;
    }

-- ---- filters that are replaced
-- with the same mask and key, in its place
abbrev pub exchanged : State → State → Row → Needs
exchanged s t row = record { blocks = made s t + later s row + 1; rows = 0; masks = 0; actions = made s t; head = None }

-- with another mask or key: the masks concerned are the one to which the filter goes, and its own where it
-- still stands; each is laid anew at another slot
abbrev pub concerned : State → ℕ → ℕ → List ℕ
concerned t to from = if (to == from) then to ∷ [] else if count_of t from == 0 then to ∷ [] else to ∷ from ∷ []

abbrev pub laid_blocks : State → List ℕ → ℕ
laid_blocks t [] = 0
laid_blocks t (mask ∷ masks) = count_of t mask + 1 + laid_blocks t masks

abbrev pub laid_rows : State → List ℕ → ℕ
laid_rows t [] = 0
laid_rows t (mask ∷ masks) = rows_of t mask + laid_rows t masks

abbrev pub moved : State → State → Row → Needs
moved s t row =
    let masks : List ℕ = concerned t (last_mask t.rows) row.mask_serial in
    record {
      blocks = made s t + laid_blocks t masks;
      rows = laid_rows t masks;
      masks = length masks;
      actions = made s t;
      head = Some row.hook;
    }

-- a filter that isn't there is added
abbrev pub replaced : State → State → FilterLine → Option Row → Needs
replaced s t line None = added s t line.hook (last_mask t.rows)
replaced s t line (Some row) =
    if bytes_eq row.mask line.mask.words && bytes_eq row.key line.key.words
    then exchanged s t row else moved s t row

-- ---- filters that go
-- and leave their mask, or take it with them
abbrev pub deleted : State → State → Hook → Option Row → Needs
deleted s t hook None = nothing
deleted s t hook (Some row) = if count_of t row.mask_serial == 0 then record nothing { head = Some hook }
    else record nothing {
      blocks = later s row + refit_blocks s t row.mask_serial;
      rows = refit_rows s t row.mask_serial;
    }

-- ---- edits
abbrev pub needs_from : State → State → Edit → Needs
needs_from s t edits.HookAdd = nothing
needs_from s t edits.HookDel = nothing
needs_from s t (edits.FilterAdd line) = added s t line.hook (last_mask t.rows)
needs_from s t (edits.FilterReplace line) = replaced s t line
    (filter_row line.hook line.chain (unwrap_or line.pref 0) (unwrap_or line.handle 0) s.rows)
needs_from s t (edits.FilterDel hook protocol chain pref (Some handle)) =
    deleted s t hook (filter_row hook chain pref handle s.rows)
needs_from s t (edits.FilterDel hook protocol chain pref None) = record nothing { head = Some hook }
needs_from s t (edits.ActionAdd line) = record nothing { blocks = 1; actions = 1 }
needs_from s t (edits.ActionChange line) = record nothing { blocks = 1; actions = made s t }
needs_from s t (edits.ActionDel kind index) = nothing

-- of an edit that the state accepts
abbrev pub needs_of : State → Edit → Needs
needs_of s y = needs_from s (state_after s (step s y)) y

abbrev pub head_needed : Option Hook → Hook → ℕ
head_needed None hook = 0
head_needed (Some changed) hook = if hook_eq changed hook then 1 else 0

-- WHAT AN EDIT NEEDS of a pool
abbrev pub needed_of : State → Edit → Pool → ℕ
needed_of s y pools.Blocks = (needs_of s y).blocks
needed_of s y pools.Rows = (needs_of s y).rows
needed_of s y pools.MaskRoots = (needs_of s y).masks
needed_of s y pools.ActionRoots = (needs_of s y).actions
needed_of s y (pools.Head hook) = head_needed (needs_of s y).head hook
