use Rattle.std.specs.List.{All}
use Rattle.tc_base.specs.Disk.{Asked, IsMere}
use Rattle.tc_base.proofs.drafts.beside.Given as goal

abbrev pub invariant-loop-number : goal.invariant-loop-number
invariant-loop-number g l = Asked (g.D.Disk.asked l.fn.disk) (g.D.Disk.asked l.disk) (All IsMere)
