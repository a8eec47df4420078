use Rattle.std.proofs.Common.{◌≡◌, take}
use Rattle.tc_base.specs.Pieces.{joined}
use Rattle.tc_base.proofs.pieces.Pieces.joined.Given as goal

abbrev pub invariant-loop-index : goal.invariant-loop-index
invariant-loop-index l = l.bytes.items ≡ joined (take l.index l.self.pieces)
