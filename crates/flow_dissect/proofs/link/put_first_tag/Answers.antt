use Rattle.std.proofs.Common.{◌%◌, ◌/◌, refl, ap}
use Rattle.flow_dissect.proofs.Puts.{put}
use Rattle.flow_dissect.proofs.link.put_first_tag.Goals as goal

-- src/link.rt:71:1
pub returns-clause-values : goal.returns-clause-values
returns-clause-values c =
    let control = c.u16_at-control.ensures in
    put _ _ _ 4 _ _ c.set-3.ensures.values
    (put _ _ _ 3 _ _ c.set-2.ensures.values
    (put _ _ _ 2 _ _ c.set.ensures.values refl (ap (λ n. n % 4096) control)) (ap (λ n. n / 8192) control)) c.u16_at.ensures

-- src/link.rt:71:1
pub returns-clause-tidy : goal.returns-clause-tidy
returns-clause-tidy c = λ tidy. c.set-3.ensures.tidy (c.set-2.ensures.tidy (c.set.ensures.tidy tidy))
