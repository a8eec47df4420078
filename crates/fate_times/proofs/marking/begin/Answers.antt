use Rattle.std.proofs.Common.{arith, ◌-◌}
use Rattle.std.specs.Prelude.{vec_len}
use Rattle.fate_times.proofs.OneByOne.{filled}
use Rattle.fate_times.proofs.marking.begin.Goals as goal

pub returns : goal.returns
returns c = filled c.args.fates.now c.resize.new.self.items c.clear.new.self.items c.len.result
    (c.len.result - vec_len c.clear.new.self) c.len.ensures c.clear.ensures.items
    (omega (arith, c.clear.ensures.len)) c.in_ok-resize.ensures.items
