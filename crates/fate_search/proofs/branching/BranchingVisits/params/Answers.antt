use Rattle.std.proofs.Common.{◌∙◌, Some, refl, sym, ap}
use Rattle.act_kinds.specs.declared.params.Params.{Params}
use Rattle.point_walks.specs.declared.at_points.Thing.TheVariants as things
use Rattle.walk_rules.specs.Questions.{params_of, told_params}
use Rattle.fate_search.specs.LeastPoints.{least_of}
use Rattle.fate_search.proofs.Taking.{some_mapped, given_by, one_taken}
use Rattle.fate_search.proofs.branching.BranchingVisits.params.Goals as goal

pub returns-then-branch-start-clause-told : goal.returns-then-branch-start-clause-told
returns-then-branch-start-clause-told g c = (
  refl,
  refl,
  one_taken (g.A.PointAnswers.answer c.args.self.now.answers.now)
      (least_of c.args.self.now.bounds.now (things.Action c.args.action.serial)) c.least-least.result c.args.self.now.from
      c.args.self.now.ceiling (params_of c.args.action.serial) (told_params c.unwrap_or.result) c.start_at-start.result
      c.start_at-start.result c.branch_from-self.result c.is_some.result c.least-least.ensures c.start_at-start.ensures
      (some_mapped told_params _ c.params-params.result c.params-params.ensures.answer ∙ sym c.is_some.ensures)
      c.branch_from-self.ensures c.in-Some.branch c.in-Some.is c.if-branch-start.true
      (λ some. given_by _ told_params c.params-params.result _ c.params-params.ensures.answer some
      ∙ ap (λ (p : Params). Some (told_params p)) (sym c.unwrap_or.ensures)),
)

pub returns-clause-told : goal.returns-clause-told
returns-clause-told g c = (
  refl,
  refl,
  one_taken (g.A.PointAnswers.answer c.args.self.now.answers.now)
      (least_of c.args.self.now.bounds.now (things.Action c.args.action.serial)) c.least-least.result c.args.self.now.from
      c.args.self.now.ceiling (params_of c.args.action.serial) (told_params c.unwrap_or-2.result) c.in-Some.branch.point
      c.start_at-start.result c.branch_from-self.result c.is_some.result c.least-least.ensures c.start_at-start.ensures
      (some_mapped told_params _ c.params-params.result c.params-params.ensures.answer ∙ sym c.is_some.ensures)
      c.branch_from-self.ensures c.in-Some.branch c.in-Some.is refl
      (λ some. given_by _ told_params c.params-params-2.result _ c.params-params-2.ensures.answer some
      ∙ ap (λ (p : Params). Some (told_params p)) (sym c.unwrap_or-2.ensures)),
)
