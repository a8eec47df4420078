-- Along a path that was gone before.
use Rattle.std.proofs.Common.{◌≡◌, ◌∙◌, ℕ, suc, ◌+◌, ◌<◌, List, [], ◌∷◌, ◌++◌, Option, Some, refl, sym, ap}
use Rattle.std.proofs.Common.{subst, append_assoc, length, take, drop, get_or, arith}
use Rattle.std.proofs.Math.Seq.{drop-cons}
use Rattle.walk_rules.specs.Questions.{Question}
use Rattle.walk_rules.specs.Steps.{Standing, question_of, after}
use Rattle.walk_steps.specs.declared.walk.Progress.{Progress}
use Rattle.walk_fate_laws.specs.Games.{raised}
use Rattle.walk_fate_laws.specs.Walks.{walk_game}
use Rattle.point_walks.specs.Visits.{thing_of}
use Rattle.fate_search.specs.declared.branch_points.Branch.{Branch}
use Rattle.fate_search.specs.declared.least_points.LeastPoints.{LeastPoints}
use Rattle.fate_search.specs.LeastPoints.{least_of}
use Rattle.fate_search.specs.Paths.{Sought, WalkTurn, bounds_at, IsTurn, AreTurns, kept_turn, path_of}
use Rattle.fate_search.specs.Paths.{IsThrough}
use Rattle.fate_search.specs.Searched.{IsGone, IsOn, IsVisited}
use Rattle.fate_search.proofs.Following.{bounds_raised}

-- from some turns on the path leads to others
abbrev pub LeadsTo : Sought → List WalkTurn → List WalkTurn → List Branch → Type 0
LeadsTo s final turns [] = final ≡ turns
LeadsTo s final turns (branch ∷ path) = (turn : WalkTurn) × IsTurn s turn turns × (branch ≡ kept_turn turn)
    × LeadsTo s final (turn ∷ turns) path

from_start : (s : Sought) (final turns : List WalkTurn) (rest : List Branch) → AreTurns s turns
    → LeadsTo s final turns rest → LeadsTo s final [] (path_of turns ++ rest)
from_start s final [] rest are leads = leads
from_start s final (turn ∷ turns) rest are leads =
    subst (LeadsTo s final []) (sym (append_assoc (path_of turns) (kept_turn turn ∷ []) rest))
    (from_start s final turns (kept_turn turn ∷ rest) are.1 (turn, are.0, refl, leads))

nothing_behind : (xs : List Branch) → xs ++ [] ≡ xs
nothing_behind [] = refl
nothing_behind (x ∷ xs) = ap (λ (ys : List Branch). x ∷ ys) (nothing_behind xs)

pub leads_there : (s : Sought) (turns : List WalkTurn) (path : List Branch) → IsGone s turns path
    → LeadsTo s turns [] path
leads_there s turns path gone =
    subst (LeadsTo s turns []) (nothing_behind (path_of turns) ∙ sym gone.kept)
    (from_start s turns turns [] gone.are refl)

-- a walk that is on such a path
pub record IsAlong (s : Sought) (final : List WalkTurn) (gone rest : List Branch) (st : Standing)
    (least : LeastPoints) : Type 0 where
  pub turns : List WalkTurn
  pub through : IsThrough s turns gone st least
  pub leads : LeadsTo s final turns rest

pub next_on : (s : Sought) (final : List WalkTurn) (gone rest : List Branch) (branch : Branch) (st : Standing)
    (least : LeastPoints) → IsAlong s final gone (branch ∷ rest) st least → IsOn s.answers branch.point st least
next_on s final gone rest branch st least it =
    let turn = it.leads.0 in let is = it.leads.1 in
    let point : turn.branch.item ≡ branch.point = sym (ap (λ (b : Branch). b.point) it.leads.2) in
    let bound : least_of least (thing_of turn.question) ≡ turn.low turn.question =
    it.through.bounds turn.question ∙ sym (ap (λ (low : Question → ℕ). low turn.question) is.placed.low) in
    let above = is.least in
    record {
      question = turn.question;
      answer = turn.branch.key;
      asks = ap question_of (it.through.stands ∙ sym is.placed.before) ∙ is.placed.asks;
      is = subst (λ (n : ℕ). s.answers n turn.question ≡ Some turn.branch.key) point is.answered;
      least = omega (arith, point, bound, above);
    }

same_some : {X : Type 0} (o : Option X) (one other : X) → o ≡ Some one → o ≡ Some other → one ≡ other
same_some o one other first second = cc

pub one_further : (s : Sought) (final : List WalkTurn) (gone now rest : List Branch) (branch : Branch)
    (st after_it : Standing) (least higher : LeastPoints) (progress : Progress)
    → IsAlong s final gone (branch ∷ rest) st least → now ≡ gone ++ (branch ∷ [])
    → IsVisited s.answers branch.point st after_it least higher progress → IsAlong s final now rest after_it higher
one_further s final gone now rest branch st after_it least higher progress it path went =
    let turns = it.turns in let turn = it.leads.0 in let is = it.leads.1 in
    let point : branch.point ≡ turn.branch.item = ap (λ (b : Branch). b.point) it.leads.2 in
    let same : went.question ≡ turn.question =
    same_some (question_of st) went.question turn.question went.asks
    (ap question_of (it.through.stands ∙ sym is.placed.before) ∙ is.placed.asks) in
    let answer : went.answer ≡ turn.branch.key =
    same_some (s.answers branch.point went.question) went.answer turn.branch.key went.is
    (ap (s.answers branch.point) same ∙ ap (λ (n : ℕ). s.answers n turn.question) point ∙ is.answered) in
    record {
      turns = turn ∷ turns;
      through = record {
        kept = path ∙ ap (λ (xs : List Branch). xs ++ (branch ∷ [])) it.through.kept
            ∙ ap (λ (b : Branch). path_of turns ++ (b ∷ [])) it.leads.2;
        are = (is, it.through.are);
        stands = went.goes ∙ ap (after st) answer
            ∙ ap (λ (x : Standing). after x turn.branch.key) (it.through.stands ∙ sym is.placed.before);
        bounds = λ other. bounds_raised s turns went.question branch.point least higher it.through.bounds
            went.raises other
            ∙ ap (λ (q : Question). raised (walk_game s.answers) (bounds_at s turns) q branch.point other) same
            ∙ ap (λ (n : ℕ). raised (walk_game s.answers) (bounds_at s turns) turn.question n other) point
            ∙ ap (λ (low : Question → ℕ). raised (walk_game s.answers) low turn.question turn.branch.item other)
            (sym is.placed.low);
      };
      leads = it.leads.3;
    }

-- ---- by index
pub next_at : (path : List Branch) (place : ℕ) (d : Branch) → place < length path
    → drop place path ≡ get_or path place d ∷ drop (place + 1) path
next_at path place d less =
    let next : suc place ≡ place + 1 = omega arith in
    drop-cons path place d less ∙ ap (λ (n : ℕ). get_or path place d ∷ drop n path) next

pub on_at : (s : Sought) (final : List WalkTurn) (path : List Branch) (place : ℕ) (d : Branch) (st : Standing)
    (least : LeastPoints) → place < length path
    → IsAlong s final (take place path) (drop place path) st least
    → IsAlong s final (take place path) (get_or path place d ∷ drop (place + 1) path) st least
on_at s final path place d st least less it =
    subst (λ (rest : List Branch). IsAlong s final (take place path) rest st least) (next_at path place d less) it
