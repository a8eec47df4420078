-- A mask with its filters, as contracts see it (this project's own).
use Rattle.std.specs.Prelude.{ℕ}
use Rattle.flow_fields.specs.declared.key.Key.{Key}
use Rattle.filter_index.specs.Listed.{FilterRoom}

pub record SievedMask : Type 0 where
  pub serial : ℕ
  pub mask : Key 14
  pub filters : FilterRoom
