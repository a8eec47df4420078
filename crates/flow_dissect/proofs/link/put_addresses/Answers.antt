use Rattle.std.proofs.Common.{refl}
use Rattle.flow_dissect.proofs.Puts.{put}
use Rattle.flow_dissect.proofs.link.put_addresses.Goals as goal

-- src/link.rt:60:1
pub returns-clause-values : goal.returns-clause-values
returns-clause-values c =
    put _ _ _ 1 _ _ c.set-2.ensures.values (put _ _ _ 0 _ _ c.set.ensures.values refl c.u48_at.ensures.value) c.u48_at-2.ensures.value

-- src/link.rt:60:1
pub returns-clause-tidy : goal.returns-clause-tidy
returns-clause-tidy c = λ tidy. c.set-2.ensures.tidy (c.set.ensures.tidy tidy)
