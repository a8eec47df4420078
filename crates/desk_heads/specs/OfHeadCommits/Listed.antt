-- Where a mask stands among tables (this project's own).
use Rattle.std.specs.Prelude.{◌≡◌, ℕ, List, slice_get, Some}
use Rattle.hook_law.specs.Records.{StatedTable}
use Rattle.hook_store_law.specs.Stated.{TableNames}

-- one of the tables has the mask
pub record HasSerial (tables : List (StatedTable TableNames)) (m : ℕ) : Type 0 where
  pub place : ℕ
  pub among : ℕ
  pub table : StatedTable TableNames
  pub there : slice_get tables place ≡ Some table
  pub has : slice_get table.masks among ≡ Some m
