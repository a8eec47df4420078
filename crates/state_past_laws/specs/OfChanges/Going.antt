-- Which filters an edit takes away, and which one comes (this project's own).
use Rattle.std.specs.Prelude.{◌≡◌, ◌⊎◌, List, [], Option, Some, None, filter}
use Rattle.std.specs.Option.{unwrap_or}
use Rattle.filter_state.specs.declared.edit.Edit.{Edit}
use Rattle.filter_state.specs.declared.edit.Edit.TheVariants as edits
use Rattle.filter_state.specs.declared.edit.FilterLine.{FilterLine}
use Rattle.filter_state.specs.declared.refusal.Done.{Done}
use Rattle.filter_state.specs.declared.refusal.Done.TheVariants as dones
use Rattle.filter_state.specs.States.{Row, State}
use Rattle.filter_state.specs.Tables.{in_table, filter_row}
use Rattle.state_past_laws.specs.OfChanges.Among.{Has, listed}

-- the rows that an edit takes away or replaces
abbrev pub rows_going : State → Edit → List Row
rows_going s (edits.FilterReplace line) =
    listed (filter_row line.hook line.chain (unwrap_or line.pref 0) (unwrap_or line.handle 0) s.rows)
rows_going s (edits.FilterDel hook protocol chain pref (Some handle)) =
    listed (filter_row hook chain pref handle s.rows)
rows_going s (edits.FilterDel hook protocol chain pref None) = filter (in_table hook chain pref) s.rows
rows_going s edit = []

-- the line of an edit that puts a filter
abbrev pub line_in : Edit → Option FilterLine
line_in (edits.FilterAdd line) = Some line
line_in (edits.FilterReplace line) = Some line
line_in edit = None

-- the row of a line that was accepted with that answer
pub record IsComing (line : FilterLine) (done : Done) (row : Row) : Type 0 where
  pub answer : done ≡ dones.Filter row.pref row.handle row.actions
  pub hook : row.hook ≡ line.hook
  pub chain : row.chain ≡ line.chain
  pub mask : row.mask ≡ line.mask.words
  pub key : row.key ≡ line.key.words

abbrev pub Comes : Option FilterLine → Done → Option Row → Type 0
Comes (Some line) done (Some row) = IsComing line done row
Comes (Some line) done None = ⊥
Comes None done (Some row) = ⊥
Comes None done None = Unit {0}

-- HOW ROWS GO ON: some go, all others stay, and one may come. One that comes where another goes is of the
-- same table; and both are of one mask where the masks have the same words.
pub record GoesOn (rows others going : List Row) (come : Option Row) : Type 0 where
  pub there : (row : Row) → Has row going → Has row rows
  pub stays : (row : Row) → Has row rows → Has row going ⊎ Has row others
  pub back : (row : Row) → Has row others → (come ≡ Some row) ⊎ (Has row rows × (Has row going → ⊥))
  pub comes : (row : Row) → come ≡ Some row → Has row others
  pub one_table : (row gone : Row) → come ≡ Some row → Has gone going
      → (row.hook ≡ gone.hook) × (row.chain ≡ gone.chain) × (row.pref ≡ gone.pref)
  pub same_words : (row gone : Row) → come ≡ Some row → Has gone going
      → row.mask_serial ≡ gone.mask_serial → row.mask ≡ gone.mask
  pub one_mask : (row gone : Row) → come ≡ Some row → Has gone going
      → row.mask ≡ gone.mask → row.mask_serial ≡ gone.mask_serial
