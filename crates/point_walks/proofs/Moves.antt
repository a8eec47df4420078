-- One visit more.
use Rattle.std.proofs.Common.{◌≡◌, ◌∙◌, ℕ, ◌+◌, ◌<◌, ◌≤◌, true, false, List, [], ◌∷◌, ◌++◌, length, take, get_or, Option, Some, None, refl, sym, ap, arith}
use Rattle.std.specs.Prelude.{◌==◌, drop}
use Rattle.std.specs.Option.{option_and_then}
use Rattle.std.proofs.lemmas.Bool.Decides.{nat_tests}
use Rattle.std.proofs.lemmas.List.{take_more, take_all, take-append-drop}
use Rattle.filter_state.proofs.Pairs.{each_of}
use Rattle.filter_state.specs.Sound.{Each}
use Rattle.visit_room.specs.declared.names.MaskName.{MaskName}
use Rattle.visit_room.specs.declared.names.ActionName.{ActionName}
use Rattle.visit_room.specs.declared.table_head.TableHead.{TableHead}
use Rattle.walk_rules.specs.Questions.{Question, Answer}
use Rattle.walk_rules.specs.Steps.{Standing, question_of, after}
use Rattle.walk_steps.specs.Told.{MasksKnown}
use Rattle.walk_steps.specs.declared.walk.Progress.TheVariants as progresses
use Rattle.walk_steps.specs.Walking.{IsOnWay, progress_at, progress_of}
use Rattle.point_walks.specs.Over.{Answering, answered_at, moved_by, one_visit, stands_after}

-- ---- lists of points
then_none : (o : Option Standing) (f : Standing → Option Standing) → o ≡ None → option_and_then f o ≡ None
then_none o f is = ap (option_and_then f) is

pub stands_append : (answers : Answering) (st : Standing) (xs ys : List ℕ) → stands_after answers st (xs ++ ys) ≡ option_and_then (λ next. stands_after answers next ys) (stands_after answers st xs)
stands_append answers st [] ys = refl
stands_append answers st (x ∷ xs) ys = by_visit answers xs ys (one_visit answers x st) (λ next. stands_append answers next xs ys)
  where
    by_visit : (answers : Answering) (xs ys : List ℕ) (o : Option Standing) → ((next : Standing) → stands_after answers next (xs ++ ys) ≡ option_and_then (λ last. stands_after answers last ys) (stands_after answers next xs))
        → option_and_then (λ next. stands_after answers next (xs ++ ys)) o ≡ option_and_then (λ next. stands_after answers next ys) (option_and_then (λ next. stands_after answers next xs) o)
    by_visit answers xs ys None rest = refl
    by_visit answers xs ys (Some next) rest = rest next

-- ---- one visit
pub visit_is : (answers : Answering) (point : ℕ) (st : Standing) (question : Question) (o : Option Answer) → question_of st ≡ Some question → answers point question ≡ o → one_visit answers point st ≡ moved_by st o
visit_is answers point st question o asks is = ap (λ (q : Option Question). moved_by st (answered_at answers point q)) asks ∙ ap (moved_by st) is

pub stands_more : (answers : Answering) (first st : Standing) (points : List ℕ) (place : ℕ) (d : ℕ) (o : Option Standing) → place < length points → stands_after answers first (take place points) ≡ Some st
    → one_visit answers (get_or points place d) st ≡ o → stands_after answers first (take (place + 1) points) ≡ option_and_then (λ next. Some next) o
stands_more answers first st points place d o within so_far is =
    ap (stands_after answers first) (take_more points place d within)
    ∙ stands_append answers first (take place points) (get_or points place d ∷ [])
    ∙ ap (option_and_then (λ next. stands_after answers next (get_or points place d ∷ []))) so_far
    ∙ ap (option_and_then (λ next. Some next)) is

-- where a visit isn't answered the walk stands nowhere, whatever points follow
none_behind : (answers : Answering) (first : Standing) (xs ys : List ℕ) → stands_after answers first xs ≡ None → stands_after answers first (xs ++ ys) ≡ None
none_behind answers first xs ys none = stands_append answers first xs ys ∙ then_none (stands_after answers first xs) (λ next. stands_after answers next ys) none

-- ---- whether it goes on
pub is_over : (st : Standing) → progresses.Ended ≡ progress_of st → question_of st ≡ None
is_over st is = by_question (question_of st) is
  where
    by_question : (o : Option Question) → progresses.Ended ≡ progress_at o → o ≡ None
    by_question None is = refl
    by_question (Some question) is = absurd (cc is)

pub is_going : (st : Standing) → progresses.Going ≡ progress_of st → IsOnWay st
is_going st is = by_question (question_of st) refl is
  where
    by_question : (o : Option Question) → question_of st ≡ o → progresses.Going ≡ progress_at o → IsOnWay st
    by_question None same is = absurd (cc is)
    by_question (Some question) same is = (question, same)

pub knows_all : (heads : List TableHead) → MasksKnown (λ (table : ℕ) (mask : MaskName). Unit {0}) heads
knows_all heads = each_of (λ (head : TableHead). Each (λ (mask : MaskName). Unit {0}) head.masks) (λ head. each_of (λ (mask : MaskName). Unit {0}) (λ mask. tt) head.masks) heads

-- ---- the loop
pub went_on : (answers : Answering) (first st next : Standing) (points : List ℕ) (place d : ℕ) (question : Question) (answer : Answer) → place < length points → stands_after answers first (take place points) ≡ Some st
    → question_of st ≡ Some question → answers (get_or points place d) question ≡ Some answer → next ≡ after st answer → stands_after answers first (take (place + 1) points) ≡ Some next
went_on answers first st next points place d question answer within so_far asks is goes =
    stands_more answers first st points place d (Some (after st answer)) within so_far (visit_is answers (get_or points place d) st question (Some answer) asks is)
    ∙ ap (λ (s : Standing). Some s) (sym goes)

pub nothing_after : (answers : Answering) (first : Standing) (points : List ℕ) (k : ℕ) → stands_after answers first (take k points) ≡ None → stands_after answers first points ≡ None
nothing_after answers first points k none = ap (stands_after answers first) (sym (take-append-drop k points)) ∙ none_behind answers first (take k points) (drop k points) none

never_both : (o : Option Standing) (st : Standing) → o ≡ None → o ≡ Some st → ⊥
never_both o st none some = cc (sym none ∙ some)

pub got_stuck : (answers : Answering) (first st other : Standing) (points : List ℕ) (place d : ℕ) → place < length points → stands_after answers first (take place points) ≡ Some st
    → answered_at answers (get_or points place d) (question_of st) ≡ None → stands_after answers first points ≡ Some other → ⊥
got_stuck answers first st other points place d within so_far none some =
    never_both (stands_after answers first points) other
    (nothing_after answers first points (place + 1) (stands_more answers first st points place d None within so_far (ap (moved_by st) none))) some

pub ended_early : (answers : Answering) (first st other : Standing) (points : List ℕ) (k : ℕ) → k < length points → stands_after answers first (take k points) ≡ Some st → question_of st ≡ None
    → stands_after answers first points ≡ Some other → ⊥
ended_early answers first st other points k within so_far over some =
    let unasked : one_visit answers (get_or points k 0) st ≡ None = ap (λ (q : Option Question). moved_by st (answered_at answers (get_or points k 0) q)) over in
    never_both (stands_after answers first points) other (nothing_after answers first points (k + 1) (stands_more answers first st points k 0 None within so_far unasked)) some

pub all_taken : (answers : Answering) (first st : Standing) (points : List ℕ) (k : ℕ) → length points ≤ k → stands_after answers first (take k points) ≡ Some st → stands_after answers first points ≡ Some st
all_taken answers first st points k all so_far = ap (stands_after answers first) (sym (take_all k points all)) ∙ so_far

pub still_going : (answers : Answering) (first st other : Standing) (points : List ℕ) (k : ℕ) → length points ≤ k → stands_after answers first (take k points) ≡ Some st → IsOnWay st
    → stands_after answers first points ≡ Some other → question_of other ≡ None → ⊥
still_going answers first st other points k all so_far (question, asks) some over =
    let same : ◌≡◌ {A = Option Standing} (Some st) (Some other) = sym (all_taken answers first st points k all so_far) ∙ some in
    let one : st ≡ other = cc same in
    let both : ◌≡◌ {A = Option Question} (Some question) None = sym asks ∙ ap question_of one ∙ over in
    cc both

pub is_length : (a b : ℕ) → (a == b) ≡ true → b ≤ a
is_length a b is = grind (arith, nat_tests, is)

pub not_length : (a b : ℕ) → (a == b) ≡ false → a ≤ b → a < b
not_length a b is within = grind (arith, nat_tests, is, within)

pub knows_actions : (actions : List ActionName) → Each (λ (action : ActionName). Unit {0}) actions
knows_actions actions = each_of (λ (action : ActionName). Unit {0}) (λ action. tt) actions
