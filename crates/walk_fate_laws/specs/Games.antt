-- Walks whose visits are answered at points, for any standings, questions and answers (this project's own).
use Rattle.std.specs.Prelude.{◌≡◌, ℕ, ◌≤◌, max, Bool, true, List, [], ◌∷◌, Option, Some, None}
use Rattle.std.specs.Prelude.{if◌then◌else◌}

-- what a walk asks and where it goes on; what is answered at a point; whether a visit of one question bounds
-- the points of another from then on; and whether two answers are the same
pub record Game (S Q A : Type 0) : Type 0 where
  pub question : S → Option Q
  pub after : S → A → S
  pub answer : ℕ → Q → Option A
  pub touches : Q → Q → Bool
  pub same : A → A → Bool

-- the test of answers says which are one
pub record IsExact {S Q A : Type 0} (g : Game S Q A) : Type 0 where
  pub same : (one other : A) → g.same one other ≡ true → one ≡ other
  pub itself : (one : A) → g.same one one ≡ true

-- the bounds behind a visit: the least point that each question may be answered at from then on
abbrev pub raised : {S Q A : Type 0} → Game S Q A → (Q → ℕ) → Q → ℕ → Q → ℕ
raised g low question point other =
    if g.touches question other then max point (low other) else low other

-- FROM THERE, A WALK makes a visit at each of these points, gets these answers, and ends there
abbrev pub IsWalkFrom : {S Q A : Type 0} → Game S Q A → ℕ → S → (Q → ℕ) → List ℕ → List A → S → Type 0
IsWalkFrom g ceiling st low [] answers end = (g.question st ≡ None) × (answers ≡ []) × (end ≡ st)
IsWalkFrom {Q = Q} {A = A} g ceiling st low (point ∷ points) answers end =
    (question : Q) × (answer : A) × (rest : List A)
    × (g.question st ≡ Some question) × (low question ≤ point) × (point ≤ ceiling)
    × (g.answer point question ≡ Some answer) × (answers ≡ answer ∷ rest)
    × IsWalkFrom g ceiling (g.after st answer) (raised g low question point) points rest end

-- no bound is higher than the other's
abbrev pub IsNoHigher : {Q : Type 0} → (Q → ℕ) → (Q → ℕ) → Type 0
IsNoHigher low high = (question : _) → low question ≤ high question
