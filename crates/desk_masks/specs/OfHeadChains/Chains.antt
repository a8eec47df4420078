-- The tables of a hook as a chain of blocks, in the law's terms (this project's own).
use Rattle.std.specs.Prelude.{◌≡◌, ℕ, ◌<◌, ◌≤◌, ◌^◌, List, [], length, slice_get, Some}
use Rattle.visit_room.specs.declared.limits.TheConstants.{HEAD_MASKS}
use Rattle.visit_room.specs.declared.names.MaskName.{MaskName}
use Rattle.block_codec.specs.declared.table.StoredTable.{StoredTable}
use Rattle.block_codec.specs.Tables.{IsStorableTable, FitsProtocol}
use Rattle.hook_law.specs.Records.{StatedTable, stated_table}
use Rattle.hook_store_law.specs.Stated.{TableNames}
use Rattle.hook_store_law.specs.Blocks.{table_record}

-- a stored table as a state has it: with the serials of its masks, and no slots
abbrev pub stated_of : StoredTable → StatedTable TableNames
stated_of table = stated_table (table_record table)

-- the numbers of a stored table have room in a block
pub record FitsTable (table : StoredTable) : Type 0 where
  pub storable : IsStorableTable table
  pub serial : table.serial < 2 ^ 32
  pub protocol : FitsProtocol table.protocol
  pub few : length table.masks ≤ HEAD_MASKS

-- one of the tables has that mask, with that slot
pub record IsNamedIn (tables : List StoredTable) (mask slot : ℕ) : Type 0 where
  pub place : ℕ
  pub among : ℕ
  pub table : StoredTable
  pub name : MaskName
  pub there : slice_get tables place ≡ Some table
  pub has : slice_get table.masks among ≡ Some name
  pub serial_is : name.serial ≡ mask
  pub slot_is : name.slot ≡ slot
