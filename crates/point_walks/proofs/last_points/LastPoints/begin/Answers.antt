use Rattle.std.proofs.Common.{sym, subst, ◌≤◌}
use Rattle.std.specs.List.{All}
use Rattle.std.proofs.lemmas.List.Elements.{All-nil}
use Rattle.point_walks.proofs.Lasts.{forgotten}
use Rattle.point_walks.proofs.last_points.LastPoints.begin.Goals.{then-self, else-self}
use Rattle.point_walks.proofs.last_points.LastPoints.begin.Goals as goal

pub returns : goal.returns
returns c = λ serial. forgotten c.if-self.self-inside.walk c.if-self.self-inside.places.items serial (elim c.if-self.branch [
  | then-self w ↦ subst (λ i. All (λ place. place.walk ≤ i.walk) i.places.items) (sym w.self-inside-is) (subst (All (λ place. place.walk ≤ 0)) (sym w.clear.ensures.items) (All-nil (λ place. place.walk ≤ 0)))
  | else-self w ↦ subst (λ i. All (λ place. place.walk ≤ i.walk) i.places.items) (sym w.self-inside-is) c.self.invariant
])
