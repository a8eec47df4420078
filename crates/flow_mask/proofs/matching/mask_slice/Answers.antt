use Rattle.std.proofs.Common.{arith, sym}
use Rattle.flow_mask.proofs.Ands.{each_and_is}
use Rattle.flow_mask.proofs.matching.mask_slice.Goals as goal

pub returns : goal.returns
returns c = sym (each_and_is c.args.words.now c.args.mask.now c.loop-i.words (omega arith) (omega arith) (λ k here. sym (c.loop-i.invariant.done k (omega arith))))
