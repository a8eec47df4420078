use Rattle.std.proofs.Common.{refl}
use Rattle.point_walks.specs.declared.at_points.Thing.TheVariants as things
use Rattle.point_walks.proofs.Moves.{knows_all}
use Rattle.walk_rules.specs.Questions.{heads_of, told_heads}
use Rattle.walk_steps.specs.Told.{heads_told}
use Rattle.fate_search.specs.LeastPoints.{least_of}
use Rattle.fate_search.proofs.Taking.{some_if, given_if, one_taken}
use Rattle.fate_search.proofs.branching.BranchingVisits.head.Goals as goal

pub returns-then-branch-start-clause-told : goal.returns-then-branch-start-clause-told
returns-then-branch-start-clause-told g c = (
  refl,
  refl,
  one_taken (g.A.PointAnswers.answer c.args.self.now.answers.now) (least_of c.args.self.now.bounds.now things.Tables)
      c.least-least.result c.args.self.now.from c.args.self.now.ceiling (heads_of c.args.hook)
      (told_heads (heads_told c.head-is_answered.new.into.tables)) c.start_at-start.result c.start_at-start.result
      c.branch_from-self.result c.head-is_answered.result c.least-least.ensures c.start_at-start.ensures
      (some_if _ c.head-is_answered.result _ c.head-is_answered.ensures) c.branch_from-self.ensures c.in-Some.branch
      c.in-Some.is c.if-branch-start.true (given_if _ c.head-is_answered.result _ c.head-is_answered.ensures),
)

pub returns-then-branch-start-clause-masks : goal.returns-then-branch-start-clause-masks
returns-then-branch-start-clause-masks g c = knows_all c.head-is_answered.new.into.tables

pub returns-clause-told : goal.returns-clause-told
returns-clause-told g c = (
  refl,
  refl,
  one_taken (g.A.PointAnswers.answer c.args.self.now.answers.now) (least_of c.args.self.now.bounds.now things.Tables)
      c.least-least.result c.args.self.now.from c.args.self.now.ceiling (heads_of c.args.hook)
      (told_heads (heads_told c.head.new.into.tables)) c.in-Some.branch.point c.start_at-start.result
      c.branch_from-self.result c.head-is_answered.result c.least-least.ensures c.start_at-start.ensures
      (some_if _ c.head-is_answered.result _ c.head-is_answered.ensures) c.branch_from-self.ensures c.in-Some.branch
      c.in-Some.is refl (given_if _ c.head.result _ c.head.ensures),
)

pub returns-clause-masks : goal.returns-clause-masks
returns-clause-masks g c = knows_all c.head.new.into.tables
