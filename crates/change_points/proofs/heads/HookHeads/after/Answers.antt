use Rattle.std.proofs.Common.{subst}
use Rattle.state_past.specs.NextChange.{IsNextChange}
use Rattle.change_points.specs.Heads.{Heads, told_at}
use Rattle.change_points.proofs.Changing.{next_is}
use Rattle.change_points.proofs.heads.HookHeads.after.Goals as goal

pub returns : goal.returns
returns c =
    let heads = c.self.inside in
    subst (λ (it : Heads). IsNextChange (told_at it) c.args.point c.after.result) c.self.view_is
    (next_is heads.before heads.point c.args.point c.after.result heads.past c.self.invariant
    c.after.ensures.next c.after.ensures.steady)
