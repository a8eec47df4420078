use Rattle.std.proofs.Common.{take}
use Rattle.std.specs.Io.Buffered.{writer_contents}
use Rattle.std.specs.Io.KnownBytes.{Appends}
use Rattle.tc_base.specs.Pieces.{joined}
use Rattle.tc_base.proofs.file_shelf.write_pieces.Given as goal

abbrev pub invariant-loop-index : goal.invariant-loop-index
invariant-loop-index g l =
    Appends (g.F.Write.contents l.fn.file) (writer_contents g.F.Write.contents l.out) (joined (take l.index l.pieces.pieces))
