-- All walks by the least point of each distinct answer (this project's own).
use Rattle.std.specs.Prelude.{ℕ, zero, suc, ◌+◌, ◌-◌, Bool, List, [], ◌∷◌, map, Option, Some, None}
use Rattle.std.specs.Prelude.{if◌then◌else◌}
use Rattle.std.specs.List.{flat_map, range_with_len}
use Rattle.walk_fate_laws.specs.Firsts.{First, firsts}
use Rattle.walk_fate_laws.specs.Order.{EachBefore, IsEarlier}
use Rattle.walk_fate_laws.specs.Games.{Game, raised}

-- a walk to its end
pub record Way (S A : Type 0) : Type 0 where
  pub points : List ℕ
  pub answers : List A
  pub end : S

-- a question's distinct answers, each with the least point that gives it
abbrev pub branches : {S Q A : Type 0} → Game S Q A → ℕ → (Q → ℕ) → Q → List (First ℕ A)
branches g ceiling low question = firsts g.same (λ point. g.answer point question) []
    (range_with_len (low question) ((ceiling + 1) - low question))

abbrev pub put_before : {S A : Type 0} → First ℕ A → Way S A → Way S A
put_before branch way = record {
  points = branch.item ∷ way.points;
  answers = branch.key ∷ way.answers;
  end = way.end;
}

-- the ways that go on behind each of these answers
abbrev pub ways_through : {S A : Type 0} → (First ℕ A → List (Way S A)) → List (First ℕ A) → List (Way S A)
ways_through more all = flat_map (λ branch. map (put_before branch) (more branch)) all

abbrev pub ways_by : {S Q A : Type 0} → S → Option Q → (Q → List (Way S A)) → List (Way S A)
ways_by st None more = record { points = []; answers = []; end = st } ∷ []
ways_by st (Some question) more = more question

-- ALL WAYS from there, with so many visits at most, in the order of their points
unfoldable pub ways_from : {S Q A : Type 0} → Game S Q A → ℕ → ℕ → S → (Q → ℕ) → List (Way S A)
ways_from g ceiling zero st low = ways_by st (g.question st) (λ question. [])
ways_from g ceiling (suc depth) st low = ways_by st (g.question st) (λ question. ways_through
    (λ branch. ways_from g ceiling depth (g.after st branch.key) (raised g low question branch.item))
    (branches g ceiling low question))

-- each way is earlier than those behind it
abbrev pub AreRising : {S A : Type 0} → List (Way S A) → Type 0
AreRising {S = S} {A = A} ways = EachBefore (λ (one other : Way S A). IsEarlier one.points other.points) ways

-- the first way with such an end
abbrev pub first_way : {S A : Type 0} → (S → Bool) → List (Way S A) → Option (Way S A)
first_way test [] = None
first_way test (way ∷ ways) = if test way.end then Some way else first_way test ways
