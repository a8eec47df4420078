use Rattle.std.proofs.Common.{refl}
use Rattle.flow_dissect.proofs.Puts.{put}
use Rattle.flow_dissect.proofs.network.put_ipv6_addresses.Goals as goal

-- src/network.rt:78:1
pub returns-clause-values : goal.returns-clause-values
returns-clause-values c =
    put _ _ _ 19 _ _ c.set-4.ensures.values
    (put _ _ _ 18 _ _ c.set-3.ensures.values
    (put _ _ _ 17 _ _ c.set-2.ensures.values
    (put _ _ _ 16 _ _ c.set.ensures.values refl c.u64_at.ensures) c.u64_at-2.ensures) c.u64_at-3.ensures) c.u64_at-4.ensures

-- src/network.rt:78:1
pub returns-clause-tidy : goal.returns-clause-tidy
returns-clause-tidy c = λ tidy. c.set-4.ensures.tidy (c.set-3.ensures.tidy (c.set-2.ensures.tidy (c.set.ensures.tidy tidy)))
