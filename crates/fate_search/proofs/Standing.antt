-- Where a way stands behind some turns: how many visits are left there, and that it ends with an outcome.
use Rattle.std.proofs.Common.{◌≡◌, ◌∙◌, ◌⊎◌, ℕ, suc, ◌+◌, ◌-◌, ◌≤◌, nat_lt, ◌==◌, Bool, true, false, cond, List}
use Rattle.std.proofs.Common.{[], ◌∷◌, ◌++◌, length, Some, None, inl, inr, refl, sym, ap, subst, arith}
use Rattle.std.specs.Prelude.{if◌then◌else◌}
use Rattle.std.proofs.lemmas.Bool.Decides.{nat_tests}
use Rattle.frame_edit.specs.Tags.{ether_type_of}
use Rattle.walk_rules.specs.declared.limits.TheConstants.{VISITS_MAX}
use Rattle.walk_rules.specs.declared.verdict.Verdict.TheVariants as verdicts
use Rattle.walk_rules.specs.Questions.{Question, heads_of, Answer, told_heads, told_no_filter, told_actions}
use Rattle.walk_rules.specs.Questions.{told_params}
use Rattle.walk_rules.specs.Steps.{Place, at_head, Standing, question_of}
use Rattle.walk_rules.specs.Steps.{after_at, after}
use Rattle.walk_rules.specs.Walks.{Outcome, outcome_with, outcome_of}
use Rattle.walk_rules.proofs.Agreeing.{asked_at, one_more}
use Rattle.walk_fate_laws.proofs.Underway.{IsUnderway, stop_behind, goes_on, ends_so}
use Rattle.fate_search.specs.declared.branch_points.Branch.{Branch}
use Rattle.fate_search.specs.Paths.{Sought, WalkTurn, standing_at, depth_at, AreTurns, kept_turn, path_of, points_of}

-- ---- visits
pub visits_at : (s : Sought) (turns : List WalkTurn) → AreTurns s turns
    → (standing_at s turns).visits ≡ length turns
visits_at s [] are = refl
visits_at s (turn ∷ turns) are =
    let before = ap (λ (st : Standing). st.visits) are.0.placed.before in let rest = visits_at s turns are.1 in
    let next : turn.before.visits + 1 ≡ suc (length turns) = omega (arith, before, rest) in
    one_more turn.before turn.branch.key ∙ next

pub turns_fit : (s : Sought) (turns : List WalkTurn) → AreTurns s turns
    → depth_at turns + length turns ≡ VISITS_MAX
turns_fit s [] are = omega arith
turns_fit s (turn ∷ turns) are =
    let rest = turns_fit s turns are.1 in let deep = are.0.placed.depth in omega (arith, rest, deep)

less_of : (n : ℕ) → nat_lt n VISITS_MAX ≡ true → n + 1 ≤ VISITS_MAX
less_of n less = grind (arith, nat_tests, less)

pub visits_left : (st : Standing) (question : Question) → question_of st ≡ Some question
    → st.visits + 1 ≤ VISITS_MAX
visits_left st question asks = less_of st.visits (asked_at st question asks).0

pub depth_left : (s : Sought) (turns : List WalkTurn) (question : Question) → AreTurns s turns
    → question_of (standing_at s turns) ≡ Some question → depth_at turns ≡ suc (depth_at turns - 1)
depth_left s turns question are asks =
    let less = visits_left (standing_at s turns) question asks in let many = visits_at s turns are in
    let fit = turns_fit s turns are in omega (arith, less, many, fit)

-- ---- before the head's answer, or behind it
abbrev pub IsUsual : Standing → Type 0
IsUsual st = IsUnderway st ⊎ ((st.place ≡ at_head) × (st.visits ≤ VISITS_MAX))

head_answered : (st : Standing) (answer : Answer) → (after_at st at_head answer).visits ≤ VISITS_MAX
    → IsUsual (after_at st at_head answer)
head_answered st (told_heads heads) few =
    inl (record { place = stop_behind 0 (ether_type_of st.frame.bytes) heads; few = few })
head_answered st told_no_filter few = inr (refl, few)
head_answered st (told_actions actions) few = inr (refl, few)
head_answered st (told_params params) few = inr (refl, few)

still_usual : (st : Standing) (question : Question) (answer : Answer) → IsUsual st
    → question_of st ≡ Some question → IsUsual (after st answer)
still_usual st question answer usual asks = elim usual [
  | inl underway ↦ inl (goes_on st question answer underway asks)
  | inr head ↦ (let left = visits_left st question asks in let more = one_more st answer in
      let few : (after st answer).visits ≤ VISITS_MAX = omega (arith, left, more) in
      let same : after_at st at_head answer ≡ after st answer = ap (λ (p : Place). after_at st p answer) (sym head.0) in
      subst IsUsual same (head_answered st answer (subst (λ (now : Standing). now.visits ≤ VISITS_MAX) (sym same) few)))
]

pub usual_at : (s : Sought) (turns : List WalkTurn) → AreTurns s turns → IsUsual (standing_at s turns)
usual_at s [] are = inr (refl, omega arith)
usual_at s (turn ∷ turns) are =
    still_usual turn.before turn.question turn.branch.key
    (subst IsUsual (sym are.0.placed.before) (usual_at s turns are.1)) are.0.placed.asks

spent : (n : ℕ) → nat_lt n VISITS_MAX ≡ false → n ≤ VISITS_MAX → (n == VISITS_MAX) ≡ true
spent n reached within = grind (arith, nat_tests, reached, within)

none_asked : (b : Bool) (question : Question) → cond b (Some question) None ≡ None → b ≡ false
none_asked true question none = absurd (cc none)
none_asked false question none = refl

pub record HasOutcome (st : Standing) : Type 0 where
  pub outcome : Outcome
  pub ends : outcome_of st ≡ Some outcome

dropped : (b : Bool) (outcome : Outcome) → b ≡ true → (if b then Some outcome else None) ≡ Some outcome
dropped true outcome is = refl
dropped false outcome is = absurd (cc is)

at_head_still : (st : Standing) → st.visits ≤ VISITS_MAX
    → cond (nat_lt st.visits VISITS_MAX) (Some (heads_of st.hook)) None ≡ None
    → (if st.visits == VISITS_MAX then Some (outcome_with verdicts.Drop st) else None)
    ≡ Some (outcome_with verdicts.Drop st)
at_head_still st few none =
    dropped (st.visits == VISITS_MAX) (outcome_with verdicts.Drop st)
    (spent st.visits (none_asked (nat_lt st.visits VISITS_MAX) (heads_of st.hook) none) few)

head_outcome : (st : Standing) (place : Place) → place ≡ at_head → st.place ≡ place → st.visits ≤ VISITS_MAX
    → question_of st ≡ None → HasOutcome st
head_outcome st place head is few none =
    let now : Standing = record st { place = at_head } in
    let same : now ≡ st = ap (λ (p : Place). record st { place = p }) (sym head ∙ sym is) in
    subst HasOutcome same (record {
      outcome = outcome_with verdicts.Drop now;
      ends = at_head_still now few (ap question_of same ∙ none);
    })

-- A WAY ENDS with an outcome
pub has_outcome : (s : Sought) (turns : List WalkTurn) → AreTurns s turns
    → question_of (standing_at s turns) ≡ None → HasOutcome (standing_at s turns)
has_outcome s turns are none = elim (usual_at s turns are) [
  | inl underway ↦ (let it = ends_so (standing_at s turns) underway none in record { outcome = it.0; ends = it.1 })
  | inr head ↦ head_outcome (standing_at s turns) (standing_at s turns).place head.0 refl head.1 none
]

-- ---- what is kept of a way
pub points_joined : (one other : List Branch) → points_of (one ++ other) ≡ points_of one ++ points_of other
points_joined [] other = refl
points_joined (branch ∷ one) other = ap (λ (ps : List ℕ). branch.point ∷ ps) (points_joined one other)

pub length_joined : {X : Type 0} (xs ys : List X) → length (xs ++ ys) ≡ length xs + length ys
length_joined [] ys = omega arith
length_joined (x ∷ xs) ys = let more = length_joined xs ys in omega (arith, more)

pub path_length : (turns : List WalkTurn) → length (path_of turns) ≡ length turns
path_length [] = refl
path_length (turn ∷ turns) =
    let more = path_length turns in let all = length_joined (path_of turns) (kept_turn turn ∷ []) in omega (arith, more, all)
