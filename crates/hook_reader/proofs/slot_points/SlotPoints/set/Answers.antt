use Rattle.std.proofs.lemmas.List.{map-set}
use Rattle.std.proofs.Common.{◌∙◌, ℕ, cond, List, slice_set, ap, refl}
use Rattle.std.proofs.lemmas.Bool.{eq-eqb}
use Rattle.hook_reader.specs.Marks.{point_in, points_in}
use Rattle.hook_reader.proofs.slot_points.SlotPoints.set.Goals as goal

pub returns : goal.returns
returns c = let walk = c.self.inside.walk in
    map-set (point_in walk) c.self.inside.marks.items c.args.slot (record { walk = walk; point = c.args.point })
    ∙ ap (λ (n : ℕ). slice_set (points_in walk c.self.inside.marks.items) c.args.slot n) (ap (λ t. cond t c.args.point 0) (eq-eqb walk walk refl))
    ∙ ap (λ (ps : List ℕ). slice_set ps c.args.slot c.args.point) c.self.view_is
