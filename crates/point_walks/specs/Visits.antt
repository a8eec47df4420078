-- The visits of a walk at given points, and which walks are lawful there (this project's own).
use Rattle.std.specs.Prelude.{◌≡◌, ℕ, ◌==◌, Bool, false, List, [], ◌∷◌, Option, Some, None}
use Rattle.tc_base.specs.declared.hook.Hook.{Hook}
use Rattle.walk_rules.specs.Questions.{Question, heads_of, filter_of, params_of, Answer}
use Rattle.walk_rules.specs.Steps.{Standing, begun, question_of, after}
use Rattle.walk_rules.specs.OfPoints.Points.{Visit, AreLawfulPoints}
use Rattle.point_walks.specs.declared.at_points.Thing.{Thing}
use Rattle.point_walks.specs.declared.at_points.Thing.TheVariants as things
use Rattle.point_walks.specs.declared.bounds.Bounds.{Bounds}
use Rattle.point_walks.specs.Over.{Answering, answered_at, stands_after}

-- ---- the visits that a walk makes at these points
abbrev pub visit_more : Option Question → Option Answer → ℕ → (Answer → List Visit) → List Visit
visit_more None answer point more = []
visit_more (Some question) None point more = []
visit_more (Some question) (Some answer) point more =
    record { question = question; point = point } ∷ more answer

abbrev pub visits_over : Answering → Standing → List ℕ → List Visit
visits_over answers st [] = []
visits_over answers st (point ∷ points) =
    visit_more (question_of st) (answered_at answers point (question_of st)) point
    (λ (answer : Answer). visits_over answers (after st answer) points)

-- A WALK AT THESE POINTS comes to an end with the last of them, and they are lawful within the bounds
pub record IsWalkAt (answers : Answering) (hook : Hook) (bytes : List ℕ) (bounds : Bounds) (points : List ℕ)
    (end : Standing) : Type 0 where
  pub stands : stands_after answers (begun hook bytes) points ≡ Some end
  pub over : question_of end ≡ None
  pub lawful : AreLawfulPoints bounds.floor bounds.ceiling (visits_over answers (begun hook bytes) points)

-- ---- what a visit asks for
abbrev pub thing_of : Question → Thing
thing_of (heads_of hook) = things.Tables
thing_of (filter_of table mask values) = things.Mask mask
thing_of (params_of serial) = things.Action serial

-- one mask, or one action
abbrev pub is_same : Thing → Thing → Bool
is_same (things.Mask one) (things.Mask other) = one == other
is_same (things.Action one) (things.Action other) = one == other
is_same one other = false
