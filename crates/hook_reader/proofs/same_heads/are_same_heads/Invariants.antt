use Rattle.std.proofs.Common.{◌≡◌, length, take}
use Rattle.hook_reader.proofs.same_heads.are_same_heads.Given as goal

abbrev pub invariant-loop-head : goal.invariant-loop-head
invariant-loop-head l = take (length l.yielded) l.heads ≡ take (length l.yielded) l.others
