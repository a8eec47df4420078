use Rattle.std.proofs.Common.{◌≡◌, take}
use Rattle.hook_reader.proofs.kept_head.copy_heads.Given as goal

abbrev pub invariant-loop-place : goal.invariant-loop-place
invariant-loop-place l = record {
  told : l.into.tables ≡ take l.place l.from.tables;
}
