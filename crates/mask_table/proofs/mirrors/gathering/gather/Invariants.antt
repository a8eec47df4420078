use Rattle.std.proofs.Common.{◌-◌, length}
use Rattle.mask_table.proofs.OfMirrors.Spelling.{IsAhead}
use Rattle.mask_table.proofs.mirrors.gathering.gather.Given as goal

abbrev pub invariant-loop-number : goal.invariant-loop-number
invariant-loop-number l = IsAhead l.next l.start l.number l.initial.chain l.chain

abbrev pub decreases-loop-number : goal.decreases-loop-number
decreases-loop-number l = 16386 - length l.chain
