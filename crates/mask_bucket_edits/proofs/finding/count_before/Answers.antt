use Rattle.std.proofs.Common.{arith}
use Rattle.std.proofs.lemmas.Option.{slice_get_within}
use Rattle.mask_bucket_edits.proofs.finding.count_before.Goals as goal

pub returns-clause-none : goal.returns-clause-none
returns-clause-none c = λ _ place b e has. c.loop-count.invariant place b (let within = slice_get_within c.args.blocks.now place b e in let over = c.loop-count-test.false in omega arith) e has
