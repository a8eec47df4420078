-- One step of a search, and one way (this project's own).
use Rattle.std.specs.Prelude.{◌≡◌, ℕ, ◌≤◌, max, Bool, true, false, List, [], ◌∷◌, ◌++◌, Option, Some, None}
use Rattle.std.specs.Prelude.{if◌then◌else◌}
use Rattle.walk_rules.specs.Questions.{Question, Answer}
use Rattle.walk_rules.specs.Steps.{Standing, question_of, after}
use Rattle.walk_steps.specs.declared.walk.Progress.{Progress}
use Rattle.walk_steps.specs.Walking.{progress_of}
use Rattle.point_walks.specs.Over.{Answering}
use Rattle.point_walks.specs.declared.at_points.Thing.{Thing}
use Rattle.point_walks.specs.Visits.{thing_of}
use Rattle.fate_search.specs.declared.branch_points.Branch.{Branch}
use Rattle.fate_search.specs.declared.least_points.LeastPoints.{LeastPoints}
use Rattle.fate_search.specs.declared.searching.Packet.{Packet}
use Rattle.fate_search.specs.declared.searching.Searching.{Searching}
use Rattle.fate_search.specs.Branches.{IsNextFirst}
use Rattle.fate_search.specs.LeastPoints.{least_of, binds}
use Rattle.fate_search.specs.Taken.{start_from, IsStart, Took}
use Rattle.fate_search.specs.Paths.{Sought, WalkTurn, WalkWay, AreTurns, path_of, points_of, AreBehind, IsCome}
use Rattle.fate_search.specs.Turned.{points_to}

abbrev pub sought_by : {A : Type 0} → Answering → Packet A → Sought
sought_by answers packet = record {
  answers = answers;
  hook = packet.hook;
  bytes = packet.bytes.now;
  before = packet.before;
  ceiling = packet.ceiling;
}

-- ---- along a path
-- a way has come through these turns
pub record IsGone (s : Sought) (turns : List WalkTurn) (path : List Branch) : Type 0 where
  pub kept : path ≡ path_of turns
  pub are : AreTurns s turns

-- what a visit for a thing at a point makes of the bounds
abbrev pub AreRaised : Thing → ℕ → LeastPoints → LeastPoints → Type 0
AreRaised thing point bounds raised = (other : Thing) → least_of raised other
    ≡ (if binds thing other then max point (least_of bounds other) else least_of bounds other)

-- a walk asks, and is answered at that point, which isn't below its bound
pub record IsOn (answers : Answering) (point : ℕ) (st : Standing) (bounds : LeastPoints) : Type 0 where
  pub question : Question
  pub answer : Answer
  pub asks : question_of st ≡ Some question
  pub is : answers point question ≡ Some answer
  pub least : least_of bounds (thing_of question) ≤ point

-- it went on by the answer, and its bounds were raised
pub record IsVisited (answers : Answering) (point : ℕ) (st now : Standing) (bounds raised : LeastPoints)
    (progress : Progress) : Type 0 where
  pub question : Question
  pub answer : Answer
  pub asks : question_of st ≡ Some question
  pub is : answers point question ≡ Some answer
  pub goes : now ≡ after st answer
  pub raises : AreRaised (thing_of question) point bounds raised
  pub going : progress ≡ progress_of now

-- ---- a further visit
-- a walk asks, and goes on from its bound or from a branch point
pub record AsksFrom (answers : Answering) (from : Option ℕ) (st : Standing) (bounds : LeastPoints) : Type 0 where
  pub question : Question
  pub asks : question_of st ≡ Some question
  pub start : IsStart (λ at. answers at question) (least_of bounds (thing_of question)) from

-- it went on by a branch, which is now the last of the path
pub record WentBy (answers : Answering) (from : Option ℕ) (ceiling : ℕ) (old new : Searching)
    (progress : Progress) : Type 0 where
  pub question : Question
  pub answer : Answer
  pub branch : Branch
  pub asks : question_of old.walk.standing ≡ Some question
  pub took : Took answers (least_of old.bounds (thing_of question)) from ceiling question answer branch.point
      (Some branch)
  pub goes : new.walk.standing ≡ after old.walk.standing answer
  pub raises : AreRaised (thing_of question) branch.point old.bounds new.bounds
  pub path : new.path.items ≡ old.path.items ++ (branch ∷ [])
  pub going : progress ≡ progress_of new.walk.standing

-- its question has no branch
pub record IsStuck (answers : Answering) (from : Option ℕ) (ceiling : ℕ) (old new : Searching) : Type 0 where
  pub question : Question
  pub asks : question_of old.walk.standing ≡ Some question
  pub none : IsNextFirst (λ at. answers at question) (least_of old.bounds (thing_of question))
      (start_from (least_of old.bounds (thing_of question)) from) ceiling None
  pub path : new.path.items ≡ old.path.items

abbrev pub WentOn : Answering → Option ℕ → ℕ → Searching → Searching → Option Progress → Type 0
WentOn answers from ceiling old new None = IsStuck answers from ceiling old new
WentOn answers from ceiling old new (Some progress) = WentBy answers from ceiling old new progress

-- ---- a whole way
-- it came to its end; or no way goes on there
abbrev pub IsComeOrStuck : Sought → List Branch → Standing → List WalkWay → Bool → Type 0
IsComeOrStuck s path st ways true = IsCome s path st ways
IsComeOrStuck s path st ways false = AreBehind s path ways

pub record HasCome (s : Sought) (old : List Branch) (from : Option ℕ) (path : List Branch) (st : Standing)
    (ways : List WalkWay) (is_end : Bool) : Type 0 where
  pub more : List ℕ
  pub longer : points_of path ≡ points_to old from ++ more
  pub come : IsComeOrStuck s path st ways is_end
