use Rattle.std.proofs.Common.{refl}
use Rattle.flow_dissect.proofs.Puts.{put}
use Rattle.flow_dissect.proofs.transport.put_ports.Goals as goal

-- src/transport.rt:15:1
pub returns-clause-values : goal.returns-clause-values
returns-clause-values c =
    put _ _ _ 9 _ _ c.set-2.ensures.values (put _ _ _ 8 _ _ c.set.ensures.values refl c.u16_at.ensures) c.u16_at-2.ensures

-- src/transport.rt:15:1
pub returns-clause-tidy : goal.returns-clause-tidy
returns-clause-tidy c = λ tidy. c.set-2.ensures.tidy (c.set.ensures.tidy tidy)
