-- Back from a way to the last visit with a further branch.
use Rattle.std.proofs.Common.{◌≡◌, ◌∙◌, ℕ, suc, ◌<◌, ◌≤◌, List, [], ◌∷◌, ◌++◌, length}
use Rattle.std.proofs.Common.{Option, Some, None, is_some, true, false, refl, sym, ap, subst, arith}
use Rattle.walk_rules.specs.declared.limits.TheConstants.{VISITS_MAX}
use Rattle.walk_rules.specs.Questions.{Answer}
use Rattle.walk_fate_laws.specs.Firsts.{First}
use Rattle.walk_fate_laws.specs.Walks.{walk_game}
use Rattle.walk_fate_laws.specs.Turns.{ways_left}
use Rattle.walk_fate_laws.proofs.Turning.{drops_back}
use Rattle.fate_search.specs.declared.branch_points.Branch.{Branch}
use Rattle.fate_search.specs.Paths.{Sought, WalkTurn, WalkWay, IsTurn, AreTurns, first_item, kept_turn}
use Rattle.fate_search.specs.Paths.{path_of, AreToCome, AreBehind}
use Rattle.fate_search.specs.Turned.{IsTurnedBack}
use Rattle.fate_search.proofs.Nexts.{item_to}
use Rattle.fate_search.proofs.Standing.{turns_fit, path_length}

-- ---- the last of a path
pub record IsLast (xs : List Branch) (x : Branch) (ys : List Branch) (y : Branch) : Type 0 where
  pub front : xs ≡ ys
  pub last : x ≡ y

none_behind : (xs : List Branch) (x : Branch) → xs ++ (x ∷ []) ≡ [] → ⊥
none_behind [] x is = cc is
none_behind (y ∷ ys) x is = cc is

pub last_of : (xs ys : List Branch) (x y : Branch) → xs ++ (x ∷ []) ≡ ys ++ (y ∷ []) → IsLast xs x ys y
last_of [] [] x y is = let same : x ≡ y = cc is in record { front = refl; last = same }
last_of [] (b ∷ ys) x y is = let rest : ys ++ (y ∷ []) ≡ [] = cc is in absurd (none_behind ys y rest)
last_of (a ∷ xs) [] x y is = let rest : xs ++ (x ∷ []) ≡ [] = cc is in absurd (none_behind xs x rest)
last_of (a ∷ xs) (b ∷ ys) x y is =
    let first : a ≡ b = cc is in let rest : xs ++ (x ∷ []) ≡ ys ++ (y ∷ []) = cc is in
    let more = last_of xs ys x y rest in
    record { front = ap (λ (zs : List Branch). a ∷ zs) more.front ∙ ap (λ (z : Branch). z ∷ ys) first; last = more.last }

-- ---- the last turn
pub record IsBehindLast (s : Sought) (path : List Branch) (branch : Branch) (ways : List WalkWay) : Type 0 where
  pub turn : WalkTurn
  pub turns : List WalkTurn
  pub kept : path ≡ path_of turns
  pub last : branch ≡ kept_turn turn
  pub is : IsTurn s turn turns
  pub are : AreTurns s turns
  pub left : ways ≡ ways_left (walk_game s.answers) s.ceiling (turn ∷ turns)

pub behind_last : (s : Sought) (path : List Branch) (branch : Branch) (ways : List WalkWay)
    → AreBehind s (path ++ (branch ∷ [])) ways → IsBehindLast s path branch ways
behind_last s path branch ways it = by_turns it.turns it.kept it.are it.left
  where
    by_turns : (turns : List WalkTurn) → path ++ (branch ∷ []) ≡ path_of turns → AreTurns s turns
        → ways ≡ ways_left (walk_game s.answers) s.ceiling turns → IsBehindLast s path branch ways
    by_turns [] kept are left = absurd (none_behind path branch kept)
    by_turns (turn ∷ turns) kept are left =
        let same = last_of path (path_of turns) branch (kept_turn turn) kept in
        record {
          turn = turn;
          turns = turns;
          kept = same.front;
          last = same.last;
          is = are.0;
          are = are.1;
          left = left;
        }

no_first : (all : List (First ℕ Answer)) → first_item all ≡ None → all ≡ []
no_first [] is = refl
no_first (one ∷ all) is = absurd (cc is)

-- it has no further branch
pub dropped : (s : Sought) (path : List Branch) (branch : Branch) (ways : List WalkWay)
    → AreBehind s (path ++ (branch ∷ [])) ways → branch.next ≡ None → AreBehind s path ways
dropped s path branch ways behind none =
    let it = behind_last s path branch ways behind in
    let nothing = no_first it.turn.others (sym (ap (λ (b : Branch). b.next) it.last) ∙ none) in
    record {
      turns = it.turns;
      kept = it.kept;
      are = it.are;
      left = it.left ∙ drops_back (walk_game s.answers) s.ceiling it.turns it.turn nothing;
    }

-- it has one
pub turned : (s : Sought) (path : List Branch) (branch : Branch) (ways : List WalkWay) (next : ℕ)
    → AreBehind s (path ++ (branch ∷ [])) ways → branch.next ≡ Some next → AreToCome s path (Some next) ways
turned s path branch ways next behind is =
    let it = behind_last s path branch ways behind in let turn = it.turn in
    let told = λ (at : ℕ). s.answers at turn.question in let low = turn.low turn.question in
    let first : first_item turn.others ≡ Some next = sym (ap (λ (b : Branch). b.next) it.last) ∙ is in
    let item = item_to told low (suc turn.branch.item) s.ceiling next (ap first_item (sym it.is.others) ∙ first) in
    let above = item.above in let least = it.is.least in
    record {
      turns = it.turns;
      kept = it.kept;
      are = it.are;
      through = (turn, it.is.placed, omega (arith, above, least), it.is.others ∙ item.same, first, it.left);
    }

-- nothing is left
pub all_gone : (s : Sought) (ways : List WalkWay) → AreBehind s [] ways → ways ≡ []
all_gone s ways it = by_turns it.turns it.kept it.left
  where
    by_turns : (turns : List WalkTurn) → [] ≡ path_of turns
        → ways ≡ ways_left (walk_game s.answers) s.ceiling turns → ways ≡ []
    by_turns [] kept left = left
    by_turns (turn ∷ turns) kept left = absurd (none_behind (path_of turns) (kept_turn turn) (sym kept))

-- the next branch is higher, and stands at one of the places of a way
pub record IsNextHigher (s : Sought) (path : List Branch) (branch : Branch) (next : ℕ) : Type 0 where
  pub higher : branch.point < next
  pub few : length path < VISITS_MAX

pub next_higher : (s : Sought) (path : List Branch) (branch : Branch) (ways : List WalkWay) (next : ℕ)
    → AreBehind s (path ++ (branch ∷ [])) ways → branch.next ≡ Some next → IsNextHigher s path branch next
next_higher s path branch ways next behind is =
    let it = behind_last s path branch ways behind in let turn = it.turn in
    let told = λ (at : ℕ). s.answers at turn.question in let low = turn.low turn.question in
    let first : first_item turn.others ≡ Some next = sym (ap (λ (b : Branch). b.next) it.last) ∙ is in
    let item = item_to told low (suc turn.branch.item) s.ceiling next (ap first_item (sym it.is.others) ∙ first) in
    let above = item.above in let point = ap (λ (b : Branch). b.point) it.last in
    let many = path_length it.turns in let same = ap (λ (p : List Branch). length p) it.kept in
    let fit = turns_fit s (turn ∷ it.turns) (it.is, it.are) in
    record { higher = omega (arith, above, point); few = omega (arith, many, same, fit) }

-- no point of a way is above the ceiling
abbrev pub AreMost : ℕ → List Branch → Type 0
AreMost ceiling [] = Unit {0}
AreMost ceiling (branch ∷ path) = (branch.point ≤ ceiling) × AreMost ceiling path

most_joined : (ceiling : ℕ) (path : List Branch) (branch : Branch) → AreMost ceiling path
    → branch.point ≤ ceiling → AreMost ceiling (path ++ (branch ∷ []))
most_joined ceiling [] branch are most = (most, tt)
most_joined ceiling (one ∷ path) branch are most = (are.0, most_joined ceiling path branch are.1 most)

turns_most : (s : Sought) (turns : List WalkTurn) → AreTurns s turns → AreMost s.ceiling (path_of turns)
turns_most s [] are = tt
turns_most s (turn ∷ turns) are =
    most_joined s.ceiling (path_of turns) (kept_turn turn) (turns_most s turns are.1) are.0.most

pub path_most : (s : Sought) (path : List Branch) (ways : List WalkWay) → AreBehind s path ways
    → AreMost s.ceiling path
path_most s path ways it = subst (AreMost s.ceiling) (sym it.kept) (turns_most s it.turns it.are)

-- ---- the same, by whether it has one
has_none : (o : Option ℕ) → is_some o ≡ false → o ≡ None
has_none None is = refl
has_none (Some next) is = absurd (cc is)

pub turned_back : (s : Sought) (path : List Branch) (branch : Branch) (ways : List WalkWay)
    → AreBehind s (path ++ (branch ∷ [])) ways → is_some branch.next ≡ true
    → IsTurnedBack s path branch.next ways
turned_back s path branch ways behind has = by_next branch.next refl has
  where
    by_next : (o : Option ℕ) → branch.next ≡ o → is_some o ≡ true → IsTurnedBack s path o ways
    by_next None is some = absurd (cc some)
    by_next (Some next) is some = turned s path branch ways next behind is

pub dropped_back : (s : Sought) (path : List Branch) (branch : Branch) (ways : List WalkWay)
    → AreBehind s (path ++ (branch ∷ [])) ways → is_some branch.next ≡ false → AreBehind s path ways
dropped_back s path branch ways behind none = dropped s path branch ways behind (has_none branch.next none)

pub none_left : (path : List Branch) → (0 < length path → ⊥) → path ≡ []
none_left [] none = refl
none_left (branch ∷ path) none = absurd (none (omega arith))
