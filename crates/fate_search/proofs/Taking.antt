-- What a visit at a branch point is answered.
use Rattle.std.proofs.Common.{◌≡◌, ◌∙◌, ℕ, ◌≤◌, max, Bool, true, false, ◌&&◌, not, Option, Some, None}
use Rattle.std.proofs.Common.{is_some, refl, sym, ap, subst, arith}
use Rattle.std.specs.Prelude.{if◌then◌else◌, option_map}
use Rattle.std.specs.Option.{unwrap_or}
use Rattle.walk_rules.specs.Questions.{Question, Answer}
use Rattle.walk_rules.specs.Steps.{Standing, question_of}
use Rattle.point_walks.specs.Over.{Answering}
use Rattle.point_walks.specs.Visits.{thing_of}
use Rattle.fate_search.specs.declared.least_points.LeastPoints.{LeastPoints}
use Rattle.fate_search.specs.LeastPoints.{least_of}
use Rattle.fate_search.specs.Searched.{AsksFrom}
use Rattle.fate_search.proofs.Through.{one_question}
use Rattle.fate_search.specs.declared.branch_points.Branch.{Branch}
use Rattle.fate_search.specs.Branches.{is_given, is_first, IsNextFirst}
use Rattle.fate_search.specs.Taken.{start_from, IsStart, IsBranch, Took}
use Rattle.fate_search.proofs.Nexts.{first_answered}
use Rattle.fate_search.proofs.Giving.{first_at_bound}

pub some_if : {X : Type 0} (o : Option X) (b : Bool) (x : X) → o ≡ (if b then Some x else None) → is_some o ≡ b
some_if o true x is = ap is_some is
some_if o false x is = ap is_some is

pub some_mapped : {X Y : Type 0} (f : X → Y) (o : Option Y) (p : Option X) → o ≡ option_map f p → is_some o ≡ is_some p
some_mapped f o None is = ap is_some is
some_mapped f o (Some x) is = ap is_some is

only_some : (o : Option Answer) (b : Bool) → (is_some o && b) ≡ true → is_some o ≡ true
only_some None b is = absurd (cc is)
only_some (Some answer) b is = refl

pub least_start : (low : ℕ) (from : Option ℕ) → low ≤ start_from low from
least_start low None = omega arith
least_start low (Some from) = omega arith

-- where a question is asked first, an answer is the first of its kind
pub start_is : (told : ℕ → Option Answer) (low : ℕ) (from : Option ℕ) (b : Bool) → IsStart told low from
    → is_some (told (start_from low from)) ≡ b → b ≡ is_first told low (start_from low from)
start_is told low None b start is = sym is ∙ sym (first_at_bound told low)
start_is told low (Some from) b start is =
    let least = start.0 in let same : from ≡ max low from = omega (arith, least) in
    let first = ap (is_first told low) (sym same) ∙ start.1 in
    sym is ∙ only_some (told (max low from)) (not (is_given told low (max low from))) first ∙ sym first

-- the answer at a branch point
pub given_if : {X : Type 0} (o : Option X) (b : Bool) (x : X) → o ≡ (if b then Some x else None) → is_some o ≡ true
    → o ≡ Some x
given_if o true x at is = at
given_if o false x at is = absurd (cc (is, ap is_some at))

pub given_by : {X Y : Type 0} (o : Option X) (f : Y → X) (r : Option Y) (default : Y) → o ≡ option_map f r
    → is_some o ≡ true → o ≡ Some (f (unwrap_or r default))
given_by o f (Some y) default at is = at
given_by o f None default at is = absurd (cc (is, ap is_some at))

pub took_at : (answers : Answering) (low : ℕ) (from : Option ℕ) (ceiling : ℕ) (question : Question) (answer : Answer)
    (point : ℕ) (branch : Branch)
    → IsBranch (λ at. answers at question) low (start_from low from) ceiling (Some branch) → branch.point ≡ point
    → (is_some (answers point question) ≡ true → answers point question ≡ Some answer)
    → Took answers low from ceiling question answer point (Some branch)
took_at answers low from ceiling question answer point branch is same at =
    let has = first_answered (λ at. answers at question) low branch.point is.0.2 in
    (same, at (ap (λ (n : ℕ). is_some (answers n question)) (sym same) ∙ ap is_some has.is), is)

pub took : (answers : Answering) (low : ℕ) (from : Option ℕ) (ceiling : ℕ) (question : Question) (answer : Answer)
    (point : ℕ) (branch : Option Branch) (b : Branch) → branch ≡ Some b
    → IsBranch (λ at. answers at question) low (start_from low from) ceiling branch → b.point ≡ point
    → (is_some (answers point question) ≡ true → answers point question ≡ Some answer)
    → Took answers low from ceiling question answer point branch
took answers low from ceiling question answer point branch b some is same at =
    subst (λ (o : Option Branch). Took answers low from ceiling question answer point o) (sym some)
    (took_at answers low from ceiling question answer point b
    (subst (λ (o : Option Branch). IsBranch (λ at. answers at question) low (start_from low from) ceiling o) some is)
    same at)

-- ---- what a visit makes of it
module _ (answers : Answering) (low least : ℕ) (from : Option ℕ) (ceiling : ℕ) (question : Question) (answer : Answer)
    (point start : ℕ) (branch : Option Branch) (b : Bool) (bound : least ≡ low) (there : start ≡ start_from least from)
    (is : is_some (answers start question) ≡ b) where
  abbrev told : ℕ → Option Answer
  told = λ (at : ℕ). answers at question

  abbrev ByFirst : Type 0
  ByFirst = b ≡ is_first told least start → IsBranch told least start ceiling branch

  branch_is : ByFirst → IsStart told low from → IsBranch told low (start_from low from) ceiling branch
  branch_is by given =
      let same : start ≡ start_from low from = there ∙ ap (λ (n : ℕ). start_from n from) bound in
      let first : b ≡ is_first told least start =
      start_is told low from b given (ap (λ (n : ℕ). is_some (answers n question)) (sym same) ∙ is)
      ∙ ap (λ (n : ℕ). is_first told n (start_from low from)) (sym bound) ∙ ap (is_first told least) (sym same) in
      subst (λ (n : ℕ). IsBranch told n (start_from low from) ceiling branch) bound
      (subst (λ (n : ℕ). IsBranch told least n ceiling branch) same (by first))

  pub one_taken : ByFirst → (one : Branch) → branch ≡ Some one → one.point ≡ point
      → (is_some (answers point question) ≡ true → answers point question ≡ Some answer) → IsStart told low from
      → Took answers low from ceiling question answer point branch
  one_taken by one some same at given =
      took answers low from ceiling question answer point branch one some (branch_is by given) same at

-- ---- at the branch that was taken
pub took_there : (answers : Answering) (low : ℕ) (from : Option ℕ) (ceiling : ℕ) (question : Question)
    (answer : Answer) (point : ℕ) (now : Option Branch) (branch : Branch) → now ≡ Some branch
    → Took answers low from ceiling question answer point now
    → Took answers low from ceiling question answer branch.point (Some branch)
took_there answers low from ceiling question answer point now branch some is =
    let took : Took answers low from ceiling question answer point (Some branch) =
    subst (λ (o : Option Branch). Took answers low from ceiling question answer point o) some is in
    subst (λ (n : ℕ). Took answers low from ceiling question answer n (Some branch)) (sym took.0) took

pub took_above : (answers : Answering) (low : ℕ) (from : Option ℕ) (ceiling : ℕ) (question : Question)
    (answer : Answer) (point : ℕ) (branch : Branch)
    → Took answers low from ceiling question answer point (Some branch) → low ≤ branch.point
took_above answers low from ceiling question answer point branch took =
    let above = took.2.0.0 in let least = least_start low from in omega (arith, above, least)

-- the question that a walk asks is the one that it was asked
pub asked_once : (answers : Answering) (bounds : LeastPoints) (from : Option ℕ) (st : Standing)
    (question : Question) (it : AsksFrom answers from st bounds) → question_of st ≡ Some question
    → IsStart (λ at. answers at question) (least_of bounds (thing_of question)) from
asked_once answers bounds from st question it asks =
    let same : it.question ≡ question = one_question (question_of st) it.question question it.asks asks in
    subst (λ (q : Question). IsStart (λ at. answers at q) (least_of bounds (thing_of q)) from) same it.start
