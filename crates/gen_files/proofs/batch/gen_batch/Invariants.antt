use Rattle.std.proofs.Common.{◌≡◌}
use Rattle.gen_files.specs.Generated.{batch_text}
use Rattle.gen_files.proofs.batch.gen_batch.Given as goal

abbrev pub invariant-loop-index : goal.invariant-loop-index
invariant-loop-index l = l.out.items ≡ batch_text l.index
