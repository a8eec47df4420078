use Rattle.std.proofs.Common.{◌≡◌, [], ◌∷◌, ◌++◌, take}
use Rattle.miniq_pair.proofs.Putting.{told_with}
use Rattle.miniq_pair.proofs.reading.push_table.Given as goal

abbrev pub invariant-loop-mask : goal.invariant-loop-mask
invariant-loop-mask l = record {
  told : l.into.tables ≡ l.fn.into.tables ++ told_with l.table (take l.mask-index l.table.masks) ∷ [];
}
