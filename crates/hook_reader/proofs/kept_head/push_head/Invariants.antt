use Rattle.std.proofs.Common.{◌≡◌, [], ◌∷◌, ◌++◌, take}
use Rattle.hook_reader.proofs.Copies.{with_masks}
use Rattle.hook_reader.proofs.kept_head.push_head.Given as goal

abbrev pub invariant-loop-mask : goal.invariant-loop-mask
invariant-loop-mask l = record {
  told : l.into.tables ≡ l.fn.into.tables ++ with_masks l.head (take l.mask-index l.head.masks) ∷ [];
}
