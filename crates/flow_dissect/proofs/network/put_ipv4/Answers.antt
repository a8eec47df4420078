use Rattle.std.proofs.Common.{refl}
use Rattle.flow_dissect.proofs.Puts.{put}
use Rattle.flow_dissect.proofs.network.put_ipv4.Goals as goal

-- src/network.rt:64:1
pub returns-clause-values : goal.returns-clause-values
returns-clause-values c =
    put _ _ _ 7 _ _ c.set-5.ensures.values
    (put _ _ _ 6 _ _ c.set-4.ensures.values
    (put _ _ _ 5 _ _ c.set-3.ensures.values
    (put _ _ _ 15 _ _ c.set-2.ensures.values c.set.ensures.values refl) refl) c.u32_at.ensures) c.u32_at-2.ensures

-- src/network.rt:64:1
pub returns-clause-tidy : goal.returns-clause-tidy
returns-clause-tidy c = λ tidy. c.set-5.ensures.tidy (c.set-4.ensures.tidy (c.set-3.ensures.tidy (c.set-2.ensures.tidy (c.set.ensures.tidy tidy))))
