-- The steps of a walk over a change's answers are those over its states.
use Rattle.std.proofs.Common.{◌≡◌, ◌∙◌, ℕ, zero, suc, ◌≤◌, List, ◌∷◌, Option, Some, None, refl, sym, ap, arith}
use Rattle.std.specs.Prelude.{get_or}
use Rattle.tc_base.specs.declared.hook.Hook.{Hook}
use Rattle.frame_edit.specs.Tags.{ether_type_of}
use Rattle.filter_state.specs.Journals.{state_at}
use Rattle.walk_rules.specs.declared.limits.TheConstants.{VISITS_MAX}
use Rattle.walk_rules.specs.Questions.{Head, Question, heads_of, filter_of, params_of, Answer, told_heads}
use Rattle.walk_rules.specs.Heads.{heads_on}
use Rattle.walk_rules.specs.Steps.{Standing, begun, question_of, after}
use Rattle.point_walks.specs.Over.{Answering, answered_at}
use Rattle.filter_origins.specs.Entries.{edits_of}
use Rattle.trace_lines.specs.Steps.{Step, step_by, steps_of}
use Rattle.walk_fate_laws.proofs.Underway.{IsUnderway, goes_on, IsNoHead, no_head, stop_behind}
use Rattle.change_lines.specs.Passed.{HookChange, answer_in}
use Rattle.change_lines.proofs.Passed.{as_states}
use Rattle.change_fates.specs.Told.{ChangeAt, hook_change, answers_in, steps_at}

-- what was asked, where there is an answer
record WasAsked (answers : Answering) (point : ℕ) (o : Option Question) (answer : Answer) : Type 0 where
  question : Question
  asks : o ≡ Some question

was_asked : (answers : Answering) (point : ℕ) (o : Option Question) (answer : Answer) → answered_at answers point o ≡ Some answer → WasAsked answers point o answer
was_asked answers point None answer is = absurd (cc is)
was_asked answers point (Some question) answer is = record { question = question; asks = refl }

same_answered : (one other : Answering) (point : ℕ) (o : Option Question) → ((question : Question) → o ≡ Some question → one point question ≡ other point question) → answered_at one point o ≡ answered_at other point o
same_answered one other point None alike = refl
same_answered one other point (Some question) alike = alike question refl

steps_more : (st : Standing) (point : ℕ) (a : Option Answer) (one other : Standing → List Step) → ((answer : Answer) → a ≡ Some answer → one (after st answer) ≡ other (after st answer)) → step_by st point a one ≡ step_by st point a other
steps_more st point None one other rest = refl
steps_more st point (Some answer) one other rest = ap (λ (ss : List Step). record { before = st; answer = answer; point = point } ∷ ss) (rest answer refl)

module _ (one other : Answering) (points : ℕ → ℕ) (alike : (point : ℕ) (question : Question) → IsNoHead question → one point question ≡ other point question) where
  steps_from : (more : ℕ) (st : Standing) → IsUnderway st → steps_of one points more st ≡ steps_of other points more st
  unfolding steps_of
  steps_from zero st underway = refl
  steps_from (suc more) st underway =
      let point = points st.visits in
      ap (λ (a : Option Answer). step_by st point a (steps_of one points more))
      (same_answered one other point (question_of st) (λ question asks. alike point question (no_head st question underway asks)))
      ∙ steps_more st point (answered_at other point (question_of st)) (steps_of one points more) (steps_of other points more)
      (λ answer is. let it = was_asked other point (question_of st) answer is in steps_from more (after st answer) (goes_on st it.question answer underway it.asks))

  same_steps : (hook : Hook) (bytes : List ℕ) (heads : List Head) → one (points 0) (heads_of hook) ≡ Some (told_heads heads) → other (points 0) (heads_of hook) ≡ Some (told_heads heads) → (many : ℕ)
      → steps_of one points many (begun hook bytes) ≡ steps_of other points many (begun hook bytes)
  unfolding steps_of
  same_steps hook bytes heads here there zero = refl
  same_steps hook bytes heads here there (suc more) =
      let told : Answer = told_heads heads in
      ap (λ (a : Option Answer). step_by (begun hook bytes) (points 0) a (steps_of one points more)) here
      ∙ ap (λ (ss : List Step). record { before = begun hook bytes; answer = told; point = points 0 } ∷ ss)
      (steps_from more (after (begun hook bytes) told) (record { place = stop_behind 0 (ether_type_of bytes) heads; few = omega arith }))
      ∙ sym (ap (λ (a : Option Answer). step_by (begun hook bytes) (points 0) a (steps_of other points more)) there)

no_heads : (change : ChangeAt) (point : ℕ) (question : Question) → IsNoHead question → answer_in (hook_change change) point question ≡ answers_in change point question
no_heads change point (heads_of hook) none = absurd none
no_heads change point (filter_of table mask values) none = refl
no_heads change point (params_of serial) none = refl

-- the first point isn't before the change
pub steps_told : (change : ChangeAt) (by : HookChange) (hook : Hook) (bytes points : List ℕ) → by ≡ hook_change change → hook ≡ change.hook → change.before ≤ get_or points 0 0
    → steps_of (answer_in by) (λ visit. get_or points visit 0) VISITS_MAX (begun hook bytes) ≡ steps_at change bytes points
steps_told change by hook bytes points is at_hook since =
    let at : HookChange = hook_change change in
    ap (λ (b : HookChange). steps_of (answer_in b) (λ visit. get_or points visit 0) VISITS_MAX (begun hook bytes)) is
    ∙ ap (λ (h : Hook). steps_of (answer_in at) (λ visit. get_or points visit 0) VISITS_MAX (begun h bytes)) at_hook
    ∙ same_steps (answer_in at) (answers_in change) (λ visit. get_or points visit 0) (no_heads change) change.hook bytes (heads_on change.hook (state_at (get_or points 0 0) (edits_of change.entries)))
    (as_states at (get_or points 0 0) since) refl VISITS_MAX
