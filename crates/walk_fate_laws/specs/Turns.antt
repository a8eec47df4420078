-- The ways one by one: how far one was followed, and what is left behind it (this project's own).
use Rattle.std.specs.Prelude.{ℕ, List, [], ◌∷◌, ◌++◌, map}
use Rattle.walk_fate_laws.specs.Firsts.{First}
use Rattle.walk_fate_laws.specs.Games.{Game, raised}
use Rattle.walk_fate_laws.specs.Ways.{Way, put_before, ways_through, ways_from}

-- a visit of a way that is followed: where it was made, under which bounds and with how many visits left
-- behind it, by which answer the way goes on, and the question's other answers, which come later
pub record Turn (S Q A : Type 0) : Type 0 where
  pub depth : ℕ
  pub before : S
  pub low : Q → ℕ
  pub question : Q
  pub branch : First ℕ A
  pub others : List (First ℕ A)

-- where it leads to, and the bounds there
abbrev pub standing_behind : {S Q A : Type 0} → Game S Q A → Turn S Q A → First ℕ A → S
standing_behind g turn branch = g.after turn.before branch.key

abbrev pub bounds_behind : {S Q A : Type 0} → Game S Q A → Turn S Q A → First ℕ A → Q → ℕ
bounds_behind g turn branch = raised g turn.low turn.question branch.item

-- the ways that go on by an answer, from the turn on
abbrev pub ways_behind : {S Q A : Type 0} → Game S Q A → ℕ → Turn S Q A → First ℕ A → List (Way S A)
ways_behind g ceiling turn branch =
    ways_from g ceiling turn.depth (standing_behind g turn branch) (bounds_behind g turn branch)

-- a way with all turns before it, of which the last comes first
abbrev pub whole_way : {S Q A : Type 0} → List (Turn S Q A) → Way S A → Way S A
whole_way [] way = way
whole_way (turn ∷ turns) way = whole_way turns (put_before turn.branch way)

-- WHAT IS LEFT behind the ways through these turns: at each, from the last on, the ways by its other answers
abbrev pub ways_left : {S Q A : Type 0} → Game S Q A → ℕ → List (Turn S Q A) → List (Way S A)
ways_left g ceiling [] = []
ways_left g ceiling (turn ∷ turns) =
    map (whole_way turns) (ways_through (ways_behind g ceiling turn) turn.others) ++ ways_left g ceiling turns

-- all ways through these turns and what is left behind them
abbrev pub ways_still : {S Q A : Type 0} → Game S Q A → ℕ → List (Turn S Q A) → ℕ → S → (Q → ℕ)
    → List (Way S A)
ways_still g ceiling turns depth st low =
    map (whole_way turns) (ways_from g ceiling depth st low) ++ ways_left g ceiling turns
