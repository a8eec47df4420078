use Rattle.std.proofs.Common.{◌≡◌, length, take}
use Rattle.hook_reader.proofs.same_heads.are_same_masks.Given as goal

abbrev pub invariant-loop-name : goal.invariant-loop-name
invariant-loop-name l = take (length l.yielded) l.names ≡ take (length l.yielded) l.others
