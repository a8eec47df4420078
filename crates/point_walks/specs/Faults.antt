-- Why no walk has given points (this project's own).
use Rattle.std.specs.Prelude.{◌≡◌, ◌⊎◌, ◌≤◌, ◌<◌, ℕ, nat_lt, List, [], ◌∷◌, length, take, get_or}
use Rattle.std.specs.Prelude.{Option, Some, None, if◌then◌else◌}
use Rattle.std.specs.List.{slice_get, list_any}
use Rattle.tc_base.specs.declared.hook.Hook.{Hook}
use Rattle.walk_rules.specs.Questions.{Question}
use Rattle.walk_rules.specs.Steps.{Standing, begun, question_of}
use Rattle.walk_rules.specs.OfPoints.Points.{Visit, IsSameThing}
use Rattle.point_walks.specs.declared.at_points.Thing.{Thing}
use Rattle.point_walks.specs.declared.bounds.Bounds.{Bounds}
use Rattle.point_walks.specs.declared.fault.PointFault.{PointFault}
use Rattle.point_walks.specs.declared.fault.PointFault.TheVariants as faults
use Rattle.point_walks.specs.Over.{Answering, stands_after}
use Rattle.point_walks.specs.Visits.{thing_of, visits_over}

-- what is wrong with points before any walk: the first is below the floor, or else one is above the ceiling, or
-- else one is below the first
abbrev pub bounds_fault : Bounds → List ℕ → Option PointFault
bounds_fault bounds [] = None
bounds_fault bounds (first ∷ points) =
    if nat_lt first bounds.floor then Some faults.Floor
    else if list_any (λ (point : ℕ). nat_lt bounds.ceiling point) (first ∷ points) then Some faults.Late
    else if list_any (λ (point : ℕ). nat_lt point first) (first ∷ points) then Some faults.Early
    else None

-- behind so many points the walk asks for what has no answer at the next one
pub record AsksInVain (answers : Answering) (first : Standing) (points : List ℕ) (thing : Thing)
    : Type 0 where
  pub count : ℕ
  pub stand : Standing
  pub question : Question
  pub less : count < length points
  pub stands : stands_after answers first (take count points) ≡ Some stand
  pub asks : question_of stand ≡ Some question
  pub its : thing ≡ thing_of question
  pub none : answers (get_or points count 0) question ≡ None

-- a later visit of a mask or an action has an earlier point
pub record Falls (visits : List Visit) : Type 0 where
  pub early : ℕ
  pub late : ℕ
  pub one : Visit
  pub other : Visit
  pub order : early ≤ late
  pub first : slice_get visits early ≡ Some one
  pub second : slice_get visits late ≡ Some other
  pub same : IsSameThing one.question other.question
  pub fall : other.point < one.point

-- the walk is over before the last of these points
pub record EndsEarly (answers : Answering) (first : Standing) (points : List ℕ) : Type 0 where
  pub count : ℕ
  pub stand : Standing
  pub less : count < length points
  pub stands : stands_after answers first (take count points) ≡ Some stand
  pub over : question_of stand ≡ None

-- it still asks behind all of them
pub record StillAsks (answers : Answering) (first : Standing) (points : List ℕ) : Type 0 where
  pub stand : Standing
  pub question : Question
  pub stands : stands_after answers first points ≡ Some stand
  pub asks : question_of stand ≡ Some question

-- no visit falls, up to where the walk can't go on
abbrev pub IsSteady : Answering → Standing → List ℕ → Type 0
IsSteady answers first points = Falls (visits_over answers first points) → ⊥

-- what is wrong with points that are within their bounds
abbrev pub IsWalkFault : Answering → Standing → List ℕ → PointFault → Type 0
IsWalkFault answers first points faults.Falling = Falls (visits_over answers first points)
IsWalkFault answers first points (faults.Gone thing) =
    IsSteady answers first points × AsksInVain answers first points thing
IsWalkFault answers first points faults.TooMany =
    IsSteady answers first points × EndsEarly answers first points
IsWalkFault answers first points faults.TooFew =
    IsSteady answers first points × StillAsks answers first points
IsWalkFault answers first points fault = ⊥

-- THE FAULT of points that no walk has: there is one (`one_fault`)
abbrev pub IsFault : Answering → Hook → List ℕ → Bounds → List ℕ → PointFault → Type 0
IsFault answers hook bytes bounds points fault = (bounds_fault bounds points ≡ Some fault)
    ⊎ ((bounds_fault bounds points ≡ None) × IsWalkFault answers (begun hook bytes) points fault)
