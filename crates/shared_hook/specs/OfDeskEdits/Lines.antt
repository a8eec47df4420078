-- The mask of a line, against the lists after its edit (this project's own).
use Rattle.std.specs.Prelude.{◌≡◌, ℕ, List, Some}
use Rattle.filter_state.specs.declared.edit.FilterLine.{FilterLine}
use Rattle.filter_state.specs.declared.refusal.Done.{Done}
use Rattle.filter_state.specs.declared.refusal.Done.TheVariants as dones
use Rattle.filter_state.specs.States.{Row, State}
use Rattle.filter_state.specs.Tables.{mask_row}
use Rattle.hook_lists.specs.declared.kept.Kept.{Kept}
use Rattle.filter_lists.specs.Spells.{Spells}

-- the lists have a mask with the line's words in the table of the line, whose pref is that of the answer;
-- this is its serial
pub record IsLineMask (lists : Kept) (line : FilterLine) (done : Done) (serial : ℕ) : Type 0 where
  pub state : State
  pub pref : ℕ
  pub handle : ℕ
  pub serials : List ℕ
  pub row : Row
  pub spells : Spells lists state
  pub answered : done ≡ dones.Filter pref handle serials
  pub there : mask_row line.hook line.chain pref line.mask.words state.rows ≡ Some row
  pub serial_is : row.mask_serial ≡ serial
