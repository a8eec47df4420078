-- Which points the visits of a walk may have (this project's own). A point names a state: the one after so
-- many edits of the journal.
use Rattle.std.specs.Prelude.{◌≡◌, ℕ, ◌≤◌, List, [], ◌∷◌, ◌++◌, slice_get, Some}
use Rattle.filter_state.specs.States.{State}
use Rattle.walk_rules.specs.Questions.{Question, filter_of, params_of, Answer}
use Rattle.walk_rules.specs.Answers.{answer_of}

-- what a visit asked, and the point at which it was answered
pub record Visit : Type 0 where
  pub question : Question
  pub point : ℕ

-- a visit is answered by the state of its point, at which the visited thing stood, and is put behind the
-- visits before it
abbrev pub IsVisited : (ℕ → State) → List Visit → Question → Answer → ℕ → List Visit → Type 0
IsVisited states before question answer point now = (answer_of (states point) question ≡ Some answer)
    × (now ≡ before ++ (record { question = question; point = point } ∷ []))

-- two questions of one mask, or of one action
abbrev pub IsSameThing : Question → Question → Type 0
IsSameThing (filter_of table mask values) (filter_of table' mask' values') = mask ≡ mask'
IsSameThing (params_of serial) (params_of serial') = serial ≡ serial'
IsSameThing one other = ⊥

-- THE POINTS OF A WALK: the head's is at least the floor; none is below the head's or above the ceiling; and
-- for one mask or one action they never fall
pub record AreLawfulPoints (floor ceiling : ℕ) (visits : List Visit) : Type 0 where
  pub head : (first : Visit) → slice_get visits 0 ≡ Some first → floor ≤ first.point
  pub above_head : (place : ℕ) (first visit : Visit) → slice_get visits 0 ≡ Some first
      → slice_get visits place ≡ Some visit → first.point ≤ visit.point
  pub below : (place : ℕ) (visit : Visit) → slice_get visits place ≡ Some visit → visit.point ≤ ceiling
  pub never_fall : (early late : ℕ) (one other : Visit) → early ≤ late → slice_get visits early ≡ Some one
      → slice_get visits late ≡ Some other
      → IsSameThing one.question other.question → one.point ≤ other.point
