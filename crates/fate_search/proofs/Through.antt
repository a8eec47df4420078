-- How a way goes on: by a branch of its question, or back where there is none.
use Rattle.std.proofs.Common.{◌≡◌, ◌∙◌, ℕ, suc, ◌-◌, ◌≤◌, max, List, ◌∷◌}
use Rattle.std.proofs.Common.{◌++◌, map, Option, Some, None, refl, sym, ap, subst, arith}
use Rattle.walk_rules.specs.Questions.{Question, heads_of, filter_of, params_of, Answer}
use Rattle.walk_rules.specs.Steps.{Standing, question_of, after}
use Rattle.point_walks.specs.Visits.{thing_of}
use Rattle.walk_fate_laws.specs.Firsts.{First}
use Rattle.walk_fate_laws.specs.Games.{Game, raised}
use Rattle.walk_fate_laws.specs.Ways.{branches, ways_through, ways_by, ways_from}
use Rattle.walk_fate_laws.specs.Walks.{touches, walk_game}
use Rattle.walk_fate_laws.specs.Turns.{Turn, ways_behind, whole_way, ways_left, ways_still}
use Rattle.walk_fate_laws.proofs.Turning.{turns_on, drops_back}
use Rattle.fate_search.specs.declared.branch_points.Branch.{Branch}
use Rattle.fate_search.specs.Branches.{IsNextFirst, picked_to}
use Rattle.fate_search.specs.LeastPoints.{binds}
use Rattle.fate_search.specs.Taken.{start_from}
use Rattle.fate_search.specs.Paths.{Sought, WalkTurn, WalkWay, standing_at, bounds_at, depth_at, IsPlaced, branches_on, IsTurn}
use Rattle.fate_search.specs.Paths.{AreTurns, kept_turn, AreThrough}
use Rattle.fate_search.proofs.Picking.{branches_picked}
use Rattle.fate_search.proofs.Nexts.{none_to, next_to, next_item}
use Rattle.fate_search.proofs.Standing.{depth_left}

-- ---- the bounds of things are those of questions
pub binds_touches : (question other : Question) → binds (thing_of question) (thing_of other) ≡ touches question other
binds_touches (heads_of hook) other = refl
binds_touches (filter_of table mask values) other = refl
binds_touches (params_of serial) other = refl

-- ---- all ways behind a question are those by its branches
asked_ways : {S Q A : Type 0} (g : Game S Q A) (ceiling : ℕ) (turns : List (Turn S Q A)) (turn : Turn S Q A)
    → g.question turn.before ≡ Some turn.question → turn.others ≡ branches g ceiling turn.low turn.question
    → ways_still g ceiling turns (suc turn.depth) turn.before turn.low ≡ ways_left g ceiling (turn ∷ turns)
unfolding ways_from
asked_ways {S = S} {Q = Q} {A = A} g ceiling turns turn asks are =
    ap (λ (o : Option Q). map (whole_way turns) (ways_by turn.before o (λ q.
    ways_through (λ branch. ways_from g ceiling turn.depth (g.after turn.before branch.key)
    (raised g turn.low q branch.item)) (branches g ceiling turn.low q))) ++ ways_left g ceiling turns) asks
    ∙ ap (λ (all : List (First ℕ A)). map (whole_way turns) (ways_through (ways_behind g ceiling turn) all)
    ++ ways_left g ceiling turns) (sym are)

-- a question whose branches from a point on are what is still to come
pub record IsTurning (s : Sought) (turns : List WalkTurn) (question : Question) (low start : ℕ)
    (ways : List WalkWay) : Type 0 where
  pub turn : WalkTurn
  pub placed : IsPlaced s turn turns
  pub asks : question ≡ turn.question
  pub bound : low ≡ turn.low turn.question
  pub least : low ≤ start
  pub others : turn.others ≡ branches_on s turn start
  pub left : ways ≡ ways_left (walk_game s.answers) s.ceiling (turn ∷ turns)

pub one_question : (o : Option Question) (one other : Question) → o ≡ Some one → o ≡ Some other → one ≡ other
one_question o one other first second = cc

pub turning_of : (s : Sought) (turns : List WalkTurn) (question : Question) (from : Option ℕ)
    (ways : List WalkWay) → AreTurns s turns → question_of (standing_at s turns) ≡ Some question
    → AreThrough s turns from ways
    → IsTurning s turns question (bounds_at s turns question) (start_from (bounds_at s turns question) from) ways
turning_of s turns question None ways are asks through =
    let low = bounds_at s turns in let deep = depth_left s turns question are asks in
    let turn : WalkTurn = record {
      depth = depth_at turns - 1;
      before = standing_at s turns;
      low = low;
      question = question;
      branch = record { item = 0; key = Answer.told_no_filter };
      others = picked_to (λ at. s.answers at question) (low question) (low question) s.ceiling;
    } in
    record {
      turn = turn;
      placed = record { asks = asks; before = refl; low = refl; depth = sym deep };
      asks = refl;
      bound = refl;
      least = omega arith;
      others = refl;
      left = through
          ∙ ap (λ (n : ℕ). ways_still (walk_game s.answers) s.ceiling turns n (standing_at s turns) low) deep
          ∙ asked_ways (walk_game s.answers) s.ceiling turns turn asks
          (sym (branches_picked s.answers s.ceiling low question));
    }
turning_of s turns question (Some from) ways are asks through =
    let turn = through.0 in let placed = through.1 in
    let same = one_question (question_of (standing_at s turns)) question turn.question asks
    (ap question_of (sym placed.before) ∙ placed.asks) in
    let bound : bounds_at s turns question ≡ turn.low turn.question =
    ap (bounds_at s turns) same ∙ ap (λ (low : Question → ℕ). low turn.question) (sym placed.low) in
    let least = through.2 in
    let start : max (bounds_at s turns question) from ≡ from = omega (arith, bound, least) in
    record {
      turn = turn;
      placed = placed;
      asks = same;
      bound = bound;
      least = omega (arith, bound, least);
      others = through.3 ∙ ap (branches_on s turn) (sym start);
      left = through.5;
    }

-- ---- a branch is taken
pub record IsTaken (s : Sought) (turns : List WalkTurn) (question : Question) (answer : Answer)
    (branch : Branch) (ways : List WalkWay) : Type 0 where
  pub turn : WalkTurn
  pub is : IsTurn s turn turns
  pub kept : kept_turn turn ≡ branch
  pub still : AreThrough s (turn ∷ turns) None ways
  pub stands : after (standing_at s turns) answer ≡ standing_at s (turn ∷ turns)
  pub bounds : (other : Question) → raised (walk_game s.answers) (bounds_at s turns) question branch.point other
      ≡ bounds_at s (turn ∷ turns) other

moved : (P : Question → ℕ → Type 0) (question now : Question) (low least : ℕ) → question ≡ now → low ≡ least
    → P question low → P now least
moved P question now low least one other is =
    subst (λ (q : Question). P q least) one (subst (P question) other is)

pub taken : (s : Sought) (turns : List WalkTurn) (question : Question) (answer : Answer) (low start : ℕ)
    (branch : Branch) (ways : List WalkWay) → IsTurning s turns question low start ways
    → s.answers branch.point question ≡ Some answer
    → IsNextFirst (λ at. s.answers at question) low start s.ceiling (Some branch.point)
    → IsNextFirst (λ at. s.answers at question) low (suc branch.point) s.ceiling branch.next
    → IsTaken s turns question answer branch ways
taken s turns question answer low start branch ways it is first next =
    let turn = it.turn in let told = λ (at : ℕ). s.answers at turn.question in
    let least = turn.low turn.question in
    let answered = moved (λ (q : Question) (n : ℕ). s.answers branch.point q ≡ Some answer) question turn.question
    low least it.asks it.bound is in
    let here = moved (λ (q : Question) (n : ℕ). IsNextFirst (λ at. s.answers at q) n start s.ceiling
    (Some branch.point)) question turn.question low least it.asks it.bound first in
    let later = moved (λ (q : Question) (n : ℕ). IsNextFirst (λ at. s.answers at q) n (suc branch.point) s.ceiling
    branch.next) question turn.question low least it.asks it.bound next in
    let others = picked_to told least (suc branch.point) s.ceiling in
    let by : First ℕ Answer = record { item = branch.point; key = answer } in
    let now : WalkTurn = record turn { branch = by; others = others } in
    let above = it.least in let bound = it.bound in let behind = here.0 in
    record {
      turn = now;
      is = record {
        placed = record {
          asks = it.placed.asks;
          before = it.placed.before;
          low = it.placed.low;
          depth = it.placed.depth;
        };
        answered = answered;
        least = omega (arith, above, bound, behind);
        most = here.1;
        others = refl;
      };
      kept = ap (λ (o : Option ℕ). record { point = branch.point; next = o })
          (next_item told least (suc branch.point) s.ceiling branch.next later);
      still = it.left ∙ turns_on (walk_game s.answers) s.ceiling turns turn by others
          (it.others ∙ next_to told least start s.ceiling branch.point answer here answered);
      stands = ap (λ (st : Standing). after st answer) (sym it.placed.before);
      bounds = λ other. ap (λ (low : Question → ℕ). raised (walk_game s.answers) low question branch.point other)
          (sym it.placed.low)
          ∙ ap (λ (q : Question). raised (walk_game s.answers) turn.low q branch.point other) it.asks;
    }

-- ---- there is none
pub left_behind : (s : Sought) (turns : List WalkTurn) (question : Question) (low start : ℕ)
    (ways : List WalkWay) → IsTurning s turns question low start ways
    → IsNextFirst (λ at. s.answers at question) low start s.ceiling None
    → ways ≡ ways_left (walk_game s.answers) s.ceiling turns
left_behind s turns question low start ways it none =
    let turn = it.turn in let least = turn.low turn.question in
    let here = moved (λ (q : Question) (n : ℕ). IsNextFirst (λ at. s.answers at q) n start s.ceiling None)
    question turn.question low least it.asks it.bound none in
    it.left ∙ drops_back (walk_game s.answers) s.ceiling turns turn
    (it.others ∙ none_to (λ at. s.answers at turn.question) least start s.ceiling here)
