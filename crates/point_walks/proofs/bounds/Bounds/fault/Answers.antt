use Rattle.std.proofs.Common.{◌∙◌, false, get_or, sym}
use Rattle.point_walks.proofs.Faulty.{not_less, some_points, outside}
use Rattle.point_walks.proofs.bounds.Bounds.fault.Goals as goal

pub bounds-points-0 : goal.bounds-points-0
bounds-points-0 c = some_points c.args.self c.args.points.now c.requires

pub returns-else-any_above : goal.returns-else-any_above
returns-else-any_above c =
    let up = c.if-first-self.false in
    outside c.args.self c.args.points.now false false (not_less (get_or c.args.points.now 0 0) c.args.self.floor up) (sym c.any_above.ensures ∙ c.if-any_above.false) c.requires
