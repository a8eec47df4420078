-- The ways one by one.
use Rattle.std.proofs.Common.{◌≡◌, ◌∙◌, ℕ, zero, suc, List, [], ◌∷◌, ◌++◌, map, Option}
use Rattle.std.proofs.Common.{Some, None, refl, ap, append_assoc}
use Rattle.walk_fate_laws.specs.Firsts.{First}
use Rattle.walk_fate_laws.specs.Games.{Game, raised}
use Rattle.walk_fate_laws.specs.Ways.{Way, branches, put_before, ways_through, ways_by, ways_from}
use Rattle.walk_fate_laws.specs.Turns.{Turn, ways_behind, whole_way, ways_left, ways_still}
use Rattle.walk_fate_laws.proofs.Searching.{ways_on}

map_joined : {X Y : Type 0} (f : X → Y) (xs ys : List X) → map f (xs ++ ys) ≡ map f xs ++ map f ys
map_joined f [] ys = refl
map_joined f (x ∷ xs) ys = ap (λ (rest : List _). f x ∷ rest) (map_joined f xs ys)

map_twice : {X Y Z : Type 0} (f : Y → Z) (h : X → Y) (xs : List X)
    → map f (map h xs) ≡ map (λ (x : X). f (h x)) xs
map_twice f h [] = refl
map_twice f h (x ∷ xs) = ap (λ (rest : List _). f (h x) ∷ rest) (map_twice f h xs)

module _ {S Q A : Type 0} (g : Game S Q A) (ceiling : ℕ) where
  abbrev turned : Turn S Q A → First ℕ A → List (First ℕ A) → Turn S Q A
  turned turn branch others = record turn { branch = branch; others = others }

  -- the first of some answers is taken, and the others are left
  one_taken : (turn : Turn S Q A) (turns : List (Turn S Q A)) (branch : First ℕ A) (others : List (First ℕ A))
      → map (whole_way turns) (ways_through (ways_behind g ceiling turn) (branch ∷ others))
      ++ ways_left g ceiling turns
      ≡ map (whole_way (turned turn branch others ∷ turns)) (ways_behind g ceiling turn branch)
      ++ ways_left g ceiling (turned turn branch others ∷ turns)
  one_taken turn turns branch others =
      let here = ways_behind g ceiling turn branch in
      let later = ways_through (ways_behind g ceiling turn) others in
      ap (λ (ws : List (Way S A)). ws ++ ways_left g ceiling turns)
      (map_joined (whole_way turns) (map (put_before branch) here) later
      ∙ ap (λ (ws : List (Way S A)). ws ++ map (whole_way turns) later)
      (map_twice (whole_way turns) (put_before branch) here))
      ∙ append_assoc (map (λ (way : Way S A). whole_way turns (put_before branch way)) here)
      (map (whole_way turns) later) (ways_left g ceiling turns)

  asked_ways : (depth : ℕ) (st : S) (low : Q → ℕ) (question : Q) → g.question st ≡ Some question
      → ways_from g ceiling (suc depth) st low ≡ ways_on g ceiling depth st low question
  unfolding ways_from
  asked_ways depth st low question is =
      ap (λ (o : Option Q). ways_by st o (λ q. ways_on g ceiling depth st low q)) is

  pub goes_down : (turns : List (Turn S Q A)) (turn : Turn S Q A)
      → g.question turn.before ≡ Some turn.question
      → branches g ceiling turn.low turn.question ≡ turn.branch ∷ turn.others
      → ways_still g ceiling turns (suc turn.depth) turn.before turn.low
      ≡ ways_still g ceiling (turn ∷ turns) turn.depth (g.after turn.before turn.branch.key)
      (raised g turn.low turn.question turn.branch.item)
  goes_down turns turn asks are =
      ap (λ (ws : List (Way S A)). map (whole_way turns) ws ++ ways_left g ceiling turns)
      (asked_ways turn.depth turn.before turn.low turn.question asks
      ∙ ap (ways_through (ways_behind g ceiling turn)) are)
      ∙ one_taken turn turns turn.branch turn.others

  pub ends_here : (turns : List (Turn S Q A)) (depth : ℕ) (st : S) (low : Q → ℕ) → g.question st ≡ None
      → ways_still g ceiling turns depth st low
      ≡ whole_way turns (record { points = []; answers = []; end = st }) ∷ ways_left g ceiling turns
  unfolding ways_from
  ends_here turns zero st low is =
      ap (λ (o : Option Q). map (whole_way turns) (ways_by st o (λ q. [])) ++ ways_left g ceiling turns) is
  ends_here turns (suc depth) st low is =
      ap (λ (o : Option Q). map (whole_way turns) (ways_by st o (λ q. ways_on g ceiling depth st low q))
      ++ ways_left g ceiling turns) is

  pub turns_on : (turns : List (Turn S Q A)) (turn : Turn S Q A) (branch : First ℕ A)
      (others : List (First ℕ A)) → turn.others ≡ branch ∷ others → ways_left g ceiling (turn ∷ turns)
      ≡ ways_still g ceiling (record turn { branch = branch; others = others } ∷ turns) turn.depth
      (g.after turn.before branch.key) (raised g turn.low turn.question branch.item)
  turns_on turns turn branch others are =
      ap (λ (bs : List (First ℕ A)). map (whole_way turns) (ways_through (ways_behind g ceiling turn) bs)
      ++ ways_left g ceiling turns) are
      ∙ one_taken turn turns branch others

  pub drops_back : (turns : List (Turn S Q A)) (turn : Turn S Q A) → turn.others ≡ []
      → ways_left g ceiling (turn ∷ turns) ≡ ways_left g ceiling turns
  drops_back turns turn are =
      ap (λ (bs : List (First ℕ A)). map (whole_way turns) (ways_through (ways_behind g ceiling turn) bs)
      ++ ways_left g ceiling turns) are
