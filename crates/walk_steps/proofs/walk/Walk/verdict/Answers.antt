use Rattle.std.proofs.Common.{◌≡◌, subst}
use Rattle.std.specs.Option.{IfSome}
use Rattle.walk_rules.specs.declared.verdict.Verdict.TheVariants as verdicts
use Rattle.walk_rules.specs.Walks.{outcome_of}
use Rattle.walk_steps.specs.Standings.{standing_of}
use Rattle.walk_steps.specs.Walking.{Walking}
use Rattle.walk_steps.proofs.Going.{is_dropped}
use Rattle.walk_steps.proofs.walk.Walk.verdict.Goals as goal

pub returns-in_default : goal.returns-in_default
returns-in_default c =
    let course = c.self.inside.course in
    let P : Walking → Type 0 = λ walk. IfSome (outcome_of walk.standing) (λ outcome. verdicts.Drop ≡ outcome.verdict) in
    subst P c.self.view_is (is_dropped course.heads.tables course.hit course.stage (standing_of course) c.self.invariant.stop c.in_default.not-Over)
