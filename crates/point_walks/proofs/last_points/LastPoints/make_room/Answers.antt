use Rattle.std.proofs.Common.{◌∙◌, ap, arith, ◌++◌, ◌+◌, ◌-◌}
use Rattle.std.specs.Prelude.{replicate, vec_len}
use Rattle.std.proofs.lemmas.List.{take_all}
use Rattle.point_walks.specs.Lasts.{last_of}
use Rattle.point_walks.proofs.Lasts.{never, grown}
use Rattle.point_walks.proofs.last_points.LastPoints.make_room.Goals as goal

pub returns-in_ok-resize-clause-same : goal.returns-in_ok-resize-clause-same
returns-in_ok-resize-clause-same c = λ other.
    let items = c.self.inside.places.items in
    let k = c.args.serial + 1 - vec_len c.self.inside.places in
    grown c.self.inside.walk items c.resize.new.self.items k other
    (c.in_ok-resize.ensures.items ∙ ap (λ xs. xs ++ replicate k never) (take_all (c.args.serial + 1) items (omega (arith, c.self.inside.places.ok.0, c.len.ensures, c.if-len-places.true))))
    ∙ ap (λ l. last_of l other) c.self.view_is
