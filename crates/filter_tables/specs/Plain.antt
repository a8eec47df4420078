-- What contracts see of tables: each a list of masks, and each of these a list of filters. How much room
-- there is stands apart.
use Rattle.std.specs.Prelude.{ℕ, List}
use Rattle.tc_base.specs.declared.hook.Proto.{Proto}
use Rattle.filter_index.specs.declared.filter.Filter.{Filter}

-- a mask with its filters, in the order in which they were accepted
pub record PlainMask : Type 0 where
  pub serial : ℕ
  pub mask : List ℕ
  pub filters : List Filter

-- a table with its masks, in the order in which they were made
pub record PlainTable : Type 0 where
  pub serial : ℕ
  pub chain : ℕ
  pub pref : ℕ
  pub protocol : Proto
  pub masks : List PlainMask
