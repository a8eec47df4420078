-- How far a search has come: the turns of the way that it follows, and what the program keeps of them.
use Rattle.std.specs.Prelude.{◌≡◌, ℕ, suc, ◌≤◌, List, [], ◌∷◌, ◌++◌, map, Option, Some, None}
use Rattle.tc_base.specs.declared.hook.Hook.{Hook}
use Rattle.walk_rules.specs.declared.limits.TheConstants.{VISITS_MAX}
use Rattle.walk_rules.specs.Questions.{Question, Answer}
use Rattle.walk_rules.specs.Steps.{Standing, begun, question_of}
use Rattle.walk_rules.specs.Walks.{Outcome, outcome_of}
use Rattle.point_walks.specs.Over.{Answering}
use Rattle.point_walks.specs.Visits.{thing_of}
use Rattle.walk_fate_laws.specs.Firsts.{First}
use Rattle.walk_fate_laws.specs.Ways.{Way}
use Rattle.walk_fate_laws.specs.Walks.{walk_game}
use Rattle.walk_fate_laws.specs.Turns.{Turn, standing_behind, bounds_behind, ways_left, ways_still}
use Rattle.fate_search.specs.declared.least_points.LeastPoints.{LeastPoints}
use Rattle.fate_search.specs.declared.branch_points.Branch.{Branch}
use Rattle.fate_search.specs.Branches.{picked_to}
use Rattle.fate_search.specs.LeastPoints.{least_of}

-- whose ways are looked for
pub record Sought : Type 0 where
  pub answers : Answering
  pub hook : Hook
  pub bytes : List ℕ
  pub before : ℕ
  pub ceiling : ℕ

abbrev pub WalkTurn : Type 0
WalkTurn = Turn Standing Question Answer

abbrev pub WalkWay : Type 0
WalkWay = Way Standing Answer

-- ---- behind some turns, of which the last comes first
abbrev pub standing_at : Sought → List WalkTurn → Standing
standing_at s [] = begun s.hook s.bytes
standing_at s (turn ∷ turns) = standing_behind (walk_game s.answers) turn turn.branch

abbrev pub bounds_at : Sought → List WalkTurn → Question → ℕ
bounds_at s [] = λ question. s.before
bounds_at s (turn ∷ turns) = bounds_behind (walk_game s.answers) turn turn.branch

abbrev pub depth_at : List WalkTurn → ℕ
depth_at [] = VISITS_MAX
depth_at (turn ∷ turns) = turn.depth

-- a turn that is made behind others
pub record IsPlaced (s : Sought) (turn : WalkTurn) (turns : List WalkTurn) : Type 0 where
  pub asks : question_of turn.before ≡ Some turn.question
  pub before : turn.before ≡ standing_at s turns
  pub low : turn.low ≡ bounds_at s turns
  pub depth : suc turn.depth ≡ depth_at turns

-- its branch points from a point on
abbrev pub branches_on : Sought → WalkTurn → ℕ → List (First ℕ Answer)
branches_on s turn from = picked_to (λ at. s.answers at turn.question) (turn.low turn.question) from s.ceiling

-- it goes on by an answer, and what else there is comes behind that
pub record IsTurn (s : Sought) (turn : WalkTurn) (turns : List WalkTurn) : Type 0 where
  pub placed : IsPlaced s turn turns
  pub answered : s.answers turn.branch.item turn.question ≡ Some turn.branch.key
  pub least : turn.low turn.question ≤ turn.branch.item
  pub most : turn.branch.item ≤ s.ceiling
  pub others : turn.others ≡ branches_on s turn (suc turn.branch.item)

abbrev pub AreTurns : Sought → List WalkTurn → Type 0
AreTurns s [] = Unit {0}
AreTurns s (turn ∷ turns) = IsTurn s turn turns × AreTurns s turns

-- ---- what is kept of them: of each its point and that of its next branch, the last behind the others
abbrev pub first_item : List (First ℕ Answer) → Option ℕ
first_item [] = None
first_item (branch ∷ branches) = Some branch.item

abbrev pub kept_turn : WalkTurn → Branch
kept_turn turn = record { point = turn.branch.item; next = first_item turn.others }

abbrev pub path_of : List WalkTurn → List Branch
path_of [] = []
path_of (turn ∷ turns) = path_of turns ++ (kept_turn turn ∷ [])

abbrev pub points_of : List Branch → List ℕ
points_of path = map (λ (branch : Branch). branch.point) path

-- ---- the ways that are left
-- those through the turns; or, where a point is given, those by the branches from there on
abbrev pub AreThrough : Sought → List WalkTurn → Option ℕ → List WalkWay → Type 0
AreThrough s turns None ways =
    ways ≡ ways_still (walk_game s.answers) s.ceiling turns (depth_at turns) (standing_at s turns) (bounds_at s turns)
AreThrough s turns (Some from) ways = (turn : WalkTurn) × IsPlaced s turn turns
    × (turn.low turn.question ≤ from) × (turn.others ≡ branches_on s turn from)
    × (first_item turn.others ≡ Some from)
    × (ways ≡ ways_left (walk_game s.answers) s.ceiling (turn ∷ turns))

-- WHAT IS STILL TO COME, by what the program keeps
pub record AreToCome (s : Sought) (path : List Branch) (from : Option ℕ) (ways : List WalkWay) : Type 0 where
  pub turns : List WalkTurn
  pub kept : path ≡ path_of turns
  pub are : AreTurns s turns
  pub through : AreThrough s turns from ways

-- what is left behind a way
pub record AreBehind (s : Sought) (path : List Branch) (ways : List WalkWay) : Type 0 where
  pub turns : List WalkTurn
  pub kept : path ≡ path_of turns
  pub are : AreTurns s turns
  pub left : ways ≡ ways_left (walk_game s.answers) s.ceiling turns

-- where a walk through these turns stands, under which bounds
pub record IsThrough (s : Sought) (turns : List WalkTurn) (path : List Branch) (st : Standing)
    (least : LeastPoints) : Type 0 where
  pub kept : path ≡ path_of turns
  pub are : AreTurns s turns
  pub stands : st ≡ standing_at s turns
  pub bounds : (question : Question) → least_of least (thing_of question) ≡ bounds_at s turns question

-- the way that was come to is the first of those that were to come
pub record IsCome (s : Sought) (path : List Branch) (st : Standing) (ways : List WalkWay) : Type 0 where
  pub way : WalkWay
  pub rest : List WalkWay
  pub are : ways ≡ way ∷ rest
  pub points : way.points ≡ points_of path
  pub end : way.end ≡ st
  pub outcome : Outcome
  pub ends : outcome_of st ≡ Some outcome
  pub behind : AreBehind s path rest
