use Rattle.std.proofs.Common.{◌≡◌, map, take}
use Rattle.std.specs.Prelude.{All}
use Rattle.block_codec.specs.declared.table.StoredTable.{StoredTable}
use Rattle.desk_masks.specs.OfHeadChains.Chains.{stated_of}
use Rattle.desk_heads.specs.Slots.{AreInSlots, FitsNumbers}
use Rattle.desk_heads.proofs.Told.{told}
use Rattle.desk_heads.proofs.telling.tell_tables.Given as goal

abbrev pub invariant-loop-place : goal.invariant-loop-place
invariant-loop-place l = record {
  stated : map stated_of l.into ≡ told (take l.place l.tables);
  slots : All (λ (table : StoredTable). AreInSlots l.old l.built table.masks) l.into;
  numbers : All FitsNumbers l.into;
}
