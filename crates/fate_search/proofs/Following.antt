-- Where a search stands between two visits.
use Rattle.std.proofs.Common.{◌≡◌, ◌∙◌, ℕ, suc, ◌-◌, ◌<◌, max, Bool, true, false, List, [], ◌∷◌, ◌++◌}
use Rattle.std.proofs.Common.{Option, Some, None, inl, inr, refl, sym, ap, subst, append_assoc, arith}
use Rattle.std.specs.Prelude.{if◌then◌else◌}
use Rattle.std.proofs.lemmas.Bool.{cases_lt}
use Rattle.walk_rules.specs.declared.limits.TheConstants.{VISITS_MAX}
use Rattle.walk_rules.specs.Questions.{Question, Answer}
use Rattle.walk_rules.proofs.Agreeing.{one_more}
use Rattle.walk_rules.specs.Steps.{Standing, question_of, after}
use Rattle.walk_steps.specs.declared.walk.Progress.{Progress}
use Rattle.walk_steps.specs.declared.walk.Progress.TheVariants as progresses
use Rattle.walk_steps.specs.Walking.{progress_at, progress_of}
use Rattle.point_walks.specs.Over.{Answering}
use Rattle.point_walks.specs.Visits.{thing_of}
use Rattle.walk_fate_laws.specs.Games.{raised}
use Rattle.walk_fate_laws.specs.Ways.{put_before}
use Rattle.walk_fate_laws.specs.Walks.{touches, walk_game}
use Rattle.walk_fate_laws.specs.Turns.{whole_way, ways_left}
use Rattle.walk_fate_laws.proofs.Turning.{ends_here}
use Rattle.fate_search.specs.declared.branch_points.Branch.{Branch}
use Rattle.fate_search.specs.declared.least_points.LeastPoints.{LeastPoints}
use Rattle.fate_search.specs.declared.searching.Searching.{Searching}
use Rattle.fate_search.specs.Branches.{is_first, IsNextFirst}
use Rattle.fate_search.specs.LeastPoints.{least_of}
use Rattle.fate_search.specs.Taken.{start_from, IsStart}
use Rattle.fate_search.specs.Paths.{Sought, WalkTurn, WalkWay, standing_at, bounds_at, depth_at, first_item, kept_turn}
use Rattle.fate_search.specs.Paths.{path_of, points_of, AreThrough, AreToCome, AreBehind, IsThrough, IsCome}
use Rattle.fate_search.specs.Searched.{AreRaised, AsksFrom, WentBy, IsStuck, WentOn, HasCome}
use Rattle.fate_search.specs.Turned.{points_to}
use Rattle.fate_search.proofs.Nexts.{item_to}
use Rattle.fate_search.proofs.Standing.{HasOutcome, visits_left, has_outcome, points_joined}
use Rattle.fate_search.proofs.Through.{binds_touches, turning_of, taken, left_behind}

-- on a path, with these ways still to come
pub record IsAt (s : Sought) (from : Option ℕ) (path : List Branch) (st : Standing) (least : LeastPoints)
    (ways : List WalkWay) : Type 0 where
  pub turns : List WalkTurn
  pub through : IsThrough s turns path st least
  pub still : AreThrough s turns from ways

same_question : (o : Option Question) (one other : Question) → o ≡ Some one → o ≡ Some other → one ≡ other
same_question o one other first second = cc

-- a branch that is given is one of its question's
start_given : (s : Sought) (turns : List WalkTurn) (from : Option ℕ) (ways : List WalkWay) (question : Question)
    → question_of (standing_at s turns) ≡ Some question → AreThrough s turns from ways
    → IsStart (λ at. s.answers at question) (bounds_at s turns question) from
start_given s turns None ways question asks through = tt
start_given s turns (Some from) ways question asks through =
    let turn = through.0 in let placed = through.1 in
    let same = same_question (question_of (standing_at s turns)) turn.question question
    (ap question_of (sym placed.before) ∙ placed.asks) asks in
    let bound : turn.low turn.question ≡ bounds_at s turns question =
    ap turn.low same ∙ ap (λ (low : Question → ℕ). low question) placed.low in
    let it = item_to (λ at. s.answers at turn.question) (turn.low turn.question) from s.ceiling from
    (ap first_item (sym through.3) ∙ through.4) in
    let least = through.2 in (
      omega (arith, bound, least),
      subst (λ (q : Question). is_first (λ at. s.answers at q) (bounds_at s turns question) from ≡ true) same
          (subst (λ (n : ℕ). is_first (λ at. s.answers at turn.question) n from ≡ true) bound it.first),
    )

-- a walk that goes on asks from there
pub asks_from : (s : Sought) (from : Option ℕ) (path : List Branch) (st : Standing) (least : LeastPoints)
    (ways : List WalkWay) (question : Question) → IsAt s from path st least ways
    → question_of st ≡ Some question → AsksFrom s.answers from st least
asks_from s from path st least ways question it asks = record {
  question = question;
  asks = asks;
  start = subst (λ (n : ℕ). IsStart (λ at. s.answers at question) n from) (sym (it.through.bounds question))
      (start_given s it.turns from ways question (ap question_of (sym it.through.stands) ∙ asks) it.still);
}

-- where a point is given the walk asks
pub given_asks : (s : Sought) (from : ℕ) (path : List Branch) (st : Standing) (least : LeastPoints)
    (ways : List WalkWay) → IsAt s (Some from) path st least ways → question_of st ≡ None → ⊥
given_asks s from path st least ways it none =
    let placed = it.still.1 in
    let asks = ap question_of (it.through.stands ∙ sym placed.before) ∙ placed.asks in
    cc (none, asks)

-- ---- one visit further
pub bounds_raised : (s : Sought) (turns : List WalkTurn) (question : Question) (point : ℕ) (bounds after_it : LeastPoints)
    → ((other : Question) → least_of bounds (thing_of other) ≡ bounds_at s turns other)
    → AreRaised (thing_of question) point bounds after_it → (other : Question)
    → least_of after_it (thing_of other)
    ≡ raised (walk_game s.answers) (bounds_at s turns) question point other
bounds_raised s turns question point bounds after_it are raises other =
    raises (thing_of other)
    ∙ ap (λ (b : Bool). if b then max point (least_of bounds (thing_of other)) else least_of bounds (thing_of other))
    (binds_touches question other)
    ∙ ap (λ (n : ℕ). if touches question other then max point n else n) (are other)

pub went_on : (s : Sought) (from : Option ℕ) (old now : Searching) (progress : Progress) (ways : List WalkWay)
    → IsAt s from old.path.items old.walk.standing old.bounds ways
    → WentBy s.answers from s.ceiling old now progress
    → IsAt s None now.path.items now.walk.standing now.bounds ways
went_on s from old now progress ways it went =
    let turns = it.turns in let question = went.question in let low = bounds_at s turns question in
    let asks = ap question_of (sym it.through.stands) ∙ went.asks in
    let bound = it.through.bounds question in
    let turning = turning_of s turns question from ways it.through.are asks it.still in
    let first = subst (λ (n : ℕ). IsNextFirst (λ at. s.answers at question) n (start_from n from) s.ceiling
    (Some went.branch.point)) bound went.took.2.0 in
    let next = subst (λ (n : ℕ). IsNextFirst (λ at. s.answers at question) n (suc went.branch.point) s.ceiling
    went.branch.next) bound went.took.2.1 in
    let one = taken s turns question went.answer low (start_from low from) went.branch ways turning went.took.1
    first next in
    record {
      turns = one.turn ∷ turns;
      through = record {
        kept = went.path ∙ ap (λ (path : List Branch). path ++ (went.branch ∷ [])) it.through.kept
            ∙ ap (λ (branch : Branch). path_of turns ++ (branch ∷ [])) (sym one.kept);
        are = (one.is, it.through.are);
        stands = went.goes ∙ ap (λ (st : Standing). after st went.answer) it.through.stands ∙ one.stands;
        bounds = λ other. bounds_raised s turns question went.branch.point old.bounds now.bounds
            it.through.bounds went.raises other ∙ one.bounds other;
      };
      still = one.still;
    }

-- ---- back
pub stuck : (s : Sought) (from : Option ℕ) (old now : Searching) (ways : List WalkWay)
    → IsAt s from old.path.items old.walk.standing old.bounds ways → IsStuck s.answers from s.ceiling old now
    → AreBehind s now.path.items ways
stuck s from old now ways it none =
    let turns = it.turns in let question = none.question in let low = bounds_at s turns question in
    let asks = ap question_of (sym it.through.stands) ∙ none.asks in
    let bound = it.through.bounds question in
    let turning = turning_of s turns question from ways it.through.are asks it.still in
    record {
      turns = turns;
      kept = none.path ∙ it.through.kept;
      are = it.through.are;
      left = left_behind s turns question low (start_from low from) ways turning
          (subst (λ (n : ℕ). IsNextFirst (λ at. s.answers at question) n (start_from n from) s.ceiling None) bound
          none.none);
    }

-- ---- the end
whole_points : (turns : List WalkTurn) (way : WalkWay)
    → (whole_way turns way).points ≡ points_of (path_of turns) ++ way.points
whole_points [] way = refl
whole_points (turn ∷ turns) way =
    let rest = points_of (path_of turns) in
    whole_points turns (put_before turn.branch way)
    ∙ sym (ap (λ (ps : List ℕ). ps ++ way.points) (points_joined (path_of turns) (kept_turn turn ∷ []))
    ∙ append_assoc rest (turn.branch.item ∷ []) way.points)

whole_end : (turns : List WalkTurn) (way : WalkWay) → (whole_way turns way).end ≡ way.end
whole_end [] way = refl
whole_end (turn ∷ turns) way = whole_end turns (put_before turn.branch way)

nothing_behind : (xs : List ℕ) → xs ++ [] ≡ xs
nothing_behind [] = refl
nothing_behind (x ∷ xs) = ap (λ (ys : List ℕ). x ∷ ys) (nothing_behind xs)

pub came : (s : Sought) (path : List Branch) (st : Standing) (least : LeastPoints) (ways : List WalkWay)
    → IsAt s None path st least ways → question_of st ≡ None → IsCome s path st ways
came s path st least ways it none =
    let turns = it.turns in let over = ap question_of (sym it.through.stands) ∙ none in
    let here : WalkWay = record { points = []; answers = []; end = standing_at s turns } in
    let has = has_outcome s turns it.through.are over in
    let same = subst HasOutcome (sym it.through.stands) has in
    record {
      way = whole_way turns here;
      rest = ways_left (walk_game s.answers) s.ceiling turns;
      are = it.still ∙ ends_here (walk_game s.answers) s.ceiling turns (depth_at turns) (standing_at s turns)
          (bounds_at s turns) over;
      points = whole_points turns here ∙ nothing_behind (points_of (path_of turns))
          ∙ ap points_of (sym it.through.kept);
      end = whole_end turns here ∙ sym it.through.stands;
      outcome = same.outcome;
      ends = same.ends;
      behind = record { turns = turns; kept = it.through.kept; are = it.through.are; left = refl };
    }

-- ---- a branch that is given is the one that is taken
not_both : (b : Bool) → b ≡ true → b ≡ false → ⊥
not_both b one other = absurd (cc (one, other))

pub given_taken : (told : ℕ → Option Answer) (low from ceiling point : ℕ) → IsStart told low (Some from)
    → IsNextFirst told low (start_from low (Some from)) ceiling (Some point) → point ≡ from
given_taken told low from ceiling point start next =
    let least = start.0 in let above = next.0 in
    elim (cases_lt from point) [
      | inl before ↦ absurd (not_both (is_first told low from) start.1
          (next.3 from (omega (arith, least)) before))
      | inr behind ↦ omega (arith, least, above, behind)
    ]

-- where a point is given there is a branch
pub never_stuck : (s : Sought) (from : ℕ) (old now : Searching) (ways : List WalkWay)
    → IsAt s (Some from) old.path.items old.walk.standing old.bounds ways
    → IsStuck s.answers (Some from) s.ceiling old now → ⊥
never_stuck s from old now ways it none =
    let turns = it.turns in let question = none.question in let turn = it.still.0 in
    let asks = ap question_of (sym it.through.stands) ∙ none.asks in
    let start = start_given s turns (Some from) ways question asks it.still in
    let low = bounds_at s turns question in
    let most = (item_to (λ at. s.answers at turn.question) (turn.low turn.question) from s.ceiling from
    (ap first_item (sym it.still.3) ∙ it.still.4)).below in
    let least = start.0 in
    let nothing = subst (λ (n : ℕ). IsNextFirst (λ at. s.answers at question) n (start_from n (Some from)) s.ceiling
    None) (it.through.bounds question) none.none in
    not_both (is_first (λ at. s.answers at question) low from) start.1
    (nothing from (omega (arith, least)) most)

-- ---- how the points grow
pub record IsLonger (path : List Branch) (from : Option ℕ) (start : List ℕ) : Type 0 where
  pub more : List ℕ
  pub are : points_to path from ≡ start ++ more

pub not_longer : (path : List Branch) (from : Option ℕ) → IsLonger path from (points_to path from)
not_longer path from = record { more = []; are = sym (nothing_behind (points_to path from)) }

pub longer_still : (s : Sought) (from : Option ℕ) (old now : Searching) (progress : Progress) (ways : List WalkWay)
    (start : List ℕ) → IsAt s from old.path.items old.walk.standing old.bounds ways
    → WentBy s.answers from s.ceiling old now progress → IsLonger old.path.items from start
    → IsLonger now.path.items None start
longer_still s None old now progress ways start it went longer =
    let point = went.branch.point in
    record {
      more = longer.more ++ (point ∷ []);
      are = ap points_of went.path ∙ points_joined old.path.items (went.branch ∷ [])
          ∙ ap (λ (ps : List ℕ). ps ++ (point ∷ [])) longer.are ∙ append_assoc start longer.more (point ∷ []);
    }
longer_still s (Some from) old now progress ways start it went longer =
    let turns = it.turns in let question = went.question in
    let asks = ap question_of (sym it.through.stands) ∙ went.asks in
    let given = subst (λ (n : ℕ). IsStart (λ at. s.answers at question) n (Some from))
    (sym (it.through.bounds question)) (start_given s turns (Some from) ways question asks it.still) in
    let same = given_taken (λ at. s.answers at question) (least_of old.bounds (thing_of question)) from s.ceiling
    went.branch.point given went.took.2.0 in
    record {
      more = longer.more;
      are = ap points_of went.path ∙ points_joined old.path.items (went.branch ∷ [])
          ∙ ap (λ (n : ℕ). points_of old.path.items ++ (n ∷ [])) same ∙ longer.are;
    }

-- ---- a whole way
pub has_stuck : (s : Sought) (start : List Branch) (given from : Option ℕ) (old now : Searching)
    (ways : List WalkWay) → IsAt s from old.path.items old.walk.standing old.bounds ways
    → IsStuck s.answers from s.ceiling old now → IsLonger old.path.items from (points_to start given)
    → HasCome s start given now.path.items now.walk.standing ways false
has_stuck s start given None old now ways it none longer = record {
  more = longer.more;
  longer = ap points_of none.path ∙ longer.are;
  come = stuck s None old now ways it none;
}
has_stuck s start given (Some from) old now ways it none longer = absurd (never_stuck s from old now ways it none)

pub has_come : (s : Sought) (start : List Branch) (given from : Option ℕ) (path : List Branch) (st : Standing)
    (least : LeastPoints) (ways : List WalkWay) → IsAt s from path st least ways → question_of st ≡ None
    → IsLonger path from (points_to start given) → HasCome s start given path st ways true
has_come s start given None path st least ways it none longer = record {
  more = longer.more;
  longer = longer.are;
  come = came s path st least ways it none;
}
has_come s start given (Some from) path st least ways it none longer =
    absurd (given_asks s from path st least ways it none)

-- ---- from visit to visit
pub at_start : (s : Sought) (path : List Branch) (from : Option ℕ) (st : Standing) (least : LeastPoints)
    (ways : List WalkWay) (come : AreToCome s path from ways) → IsThrough s come.turns path st least
    → IsAt s from path st least ways
at_start s path from st least ways come through =
    record { turns = come.turns; through = through; still = come.through }

pub went_by : (answers : Answering) (from : Option ℕ) (ceiling : ℕ) (old now : Searching) (o : Option Progress)
    (progress : Progress) → o ≡ Some progress → WentOn answers from ceiling old now o
    → WentBy answers from ceiling old now progress
went_by answers from ceiling old now o progress is went = subst (WentOn answers from ceiling old now) is went

pub is_stuck : (answers : Answering) (from : Option ℕ) (ceiling : ℕ) (old now : Searching) (o : Option Progress)
    → o ≡ None → WentOn answers from ceiling old now o → IsStuck answers from ceiling old now
is_stuck answers from ceiling old now o is went = subst (WentOn answers from ceiling old now) is went

pub visits_fall : (answers : Answering) (from : Option ℕ) (ceiling : ℕ) (old now : Searching) (progress : Progress)
    → WentBy answers from ceiling old now progress
    → VISITS_MAX - now.walk.standing.visits < VISITS_MAX - old.walk.standing.visits
visits_fall answers from ceiling old now progress went =
    let more = ap (λ (st : Standing). st.visits) went.goes ∙ one_more old.walk.standing went.answer in
    let left = visits_left old.walk.standing went.question went.asks in omega (arith, more, left)

pub asks_nothing : (st : Standing) (progress : Progress) → progress ≡ progress_of st
    → (progress ≡ progresses.Going → ⊥) → question_of st ≡ None
asks_nothing st progress is none = by_question (question_of st) refl
  where
    by_question : (o : Option Question) → question_of st ≡ o → o ≡ None
    by_question None asks = refl
    by_question (Some question) asks = absurd (none (is ∙ ap progress_at asks))
