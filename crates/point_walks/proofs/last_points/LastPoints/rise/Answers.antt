use Rattle.std.proofs.Common.{◌∙◌, ap, arith, length}
use Rattle.std.proofs.lemmas.List.{length-map}
use Rattle.std.specs.Prelude.{◌==◌, if◌then◌else◌}
use Rattle.point_walks.specs.Lasts.{in_walk, last_of}
use Rattle.point_walks.proofs.Lasts.{set_one}
use Rattle.point_walks.proofs.last_points.LastPoints.rise.Goals as goal

pub returns-clause-set : goal.returns-clause-set
returns-clause-set c = λ ok other.
    set_one c.self.inside.walk c.args.point c.self.inside.places.items c.args.serial other
    (let room = c.in_ok-make_room.ensures.room in let len = ap length c.self.view_is in let same = length-map c.self.inside.places.items (in_walk c.self.inside.walk) in omega (arith, room, len, same))
    ∙ ap (λ n. if other == c.args.serial then c.args.point else n) (ap (λ l. last_of l other) c.self.view_is ∙ c.in_ok-make_room.ensures.same other)
