-- The steps of a walk whose tables are told by lists that stand at its first point.
use Rattle.std.proofs.Common.{◌≡◌, ◌∙◌, ℕ, zero, suc, nat_lt, List, ◌∷◌, Option, Some, None, refl, sym, ap}
use Rattle.std.specs.Prelude.{get_or}
use Rattle.tc_base.specs.declared.hook.Hook.{Hook}
use Rattle.filter_state.specs.declared.edit.Edit.{Edit}
use Rattle.filter_state.specs.Journals.{state_at}
use Rattle.hook_lists.specs.declared.kept.Kept.{Kept}
use Rattle.hook_lists.specs.States.{AreKept}
use Rattle.filter_lists.specs.Spells.{Spells}
use Rattle.walk_rules.specs.declared.limits.TheConstants.{VISITS_MAX}
use Rattle.walk_rules.specs.Questions.{Answer, told_heads}
use Rattle.walk_rules.specs.Heads.{heads_on}
use Rattle.walk_rules.specs.Steps.{Standing, begun, question_at, question_of, after}
use Rattle.point_walks.specs.Over.{Answering, answered_at}
use Rattle.classify_walk.proofs.StillHeads.{heads_answered}
use Rattle.batch_trace.specs.Passed.{Answerer, answer_by}
use Rattle.report_check.specs.Passed.{answers_of, AgreesFrom}
use Rattle.report_check.proofs.Passed.{Headless, headless, stop_headless, same_cond, same_at}
use Rattle.batch_trace.specs.Passed.{Entry, edits_of}
use Rattle.trace_lines.specs.Steps.{Step, step_by, steps_of}
use Rattle.report_trace.specs.Traced.{steps_at}

module _ (answers : Answering) (journal : List Edit) (hook : Hook) (points : ℕ → ℕ) (agrees : AgreesFrom answers journal hook (points 0)) where
  steps_more : (st : Standing) (point : ℕ) (a : Option Answer) (one other : Standing → List Step) → ((answer : Answer) → one (after st answer) ≡ other (after st answer)) → step_by st point a one ≡ step_by st point a other
  steps_more st point None one other rest = refl
  steps_more st point (Some answer) one other rest = ap (λ (ss : List Step). record { before = st; answer = answer; point = point } ∷ ss) (rest answer)

  steps_from : (more : ℕ) (st : Standing) → Headless st.place → steps_of answers points more st ≡ steps_of (answers_of journal) points more st
  unfolding steps_of
  steps_from zero st is = refl
  steps_from (suc more) st is =
      ap (λ (a : Option Answer). step_by st (points st.visits) a (steps_of answers points more))
      (same_cond answers journal hook (points 0) agrees (nat_lt st.visits VISITS_MAX) (question_at st st.place) (points st.visits) (same_at answers journal hook (points 0) agrees st st.place (points st.visits) is))
      ∙ steps_more st (points st.visits) (answered_at (answers_of journal) (points st.visits) (question_of st)) (steps_of answers points more) (steps_of (answers_of journal) points more)
      (λ answer. steps_from more (after st answer) (headless st st.place answer is))

  same_steps : (bytes : List ℕ) (many : ℕ) → steps_of answers points many (begun hook bytes) ≡ steps_of (answers_of journal) points many (begun hook bytes)
  unfolding steps_of
  same_steps bytes zero = refl
  same_steps bytes (suc more) =
      let heads : Answer = told_heads (heads_on hook (state_at (points 0) journal)) in
      ap (λ (a : Option Answer). step_by (begun hook bytes) (points 0) a (steps_of answers points more)) agrees.head
      ∙ ap (λ (ss : List Step). record { before = begun hook bytes; answer = heads; point = points 0 } ∷ ss) (steps_from more (after (begun hook bytes) heads) (stop_headless 0 _ (heads_on hook (state_at (points 0) journal))))

pub steps_told : (by : Answerer) (entries : List Entry) (lists : Kept) (points : List ℕ) (hook : Hook) (bytes : List ℕ) → by ≡ record { journal = edits_of entries; lists = lists } → AreKept lists → Spells lists (state_at (get_or points 0 0) (edits_of entries))
    → steps_of (answer_by by) (λ visit. get_or points visit 0) VISITS_MAX (begun hook bytes) ≡ steps_at entries hook bytes points
steps_told by entries lists points hook bytes is kept spells =
    let journal : List Edit = edits_of entries in
    ap (λ (a : Answerer). steps_of (answer_by a) (λ visit. get_or points visit 0) VISITS_MAX (begun hook bytes)) is
    ∙ same_steps (answer_by (record { journal = journal; lists = lists })) journal hook (λ visit. get_or points visit 0) (record {
      head = sym (heads_answered lists hook (state_at (get_or points 0 0) journal) kept spells);
      filters = λ point table mask values. refl;
      params = λ point serial. refl;
    }) bytes VISITS_MAX
