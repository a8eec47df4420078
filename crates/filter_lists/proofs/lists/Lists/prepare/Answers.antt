use Rattle.std.proofs.Common.{sym, subst}
use Rattle.filter_lists.specs.Spells.{Spells}
use Rattle.filter_lists.proofs.Stepping.{all_prepared, all_refused}
use Rattle.filter_lists.proofs.lists.Lists.prepare.Goals as goal

pub returns-in-Ok-clause-prepared : goal.returns-in-Ok-clause-prepared
returns-in-Ok-clause-prepared c = λ s spells.
    all_prepared {P = Unit {0}} tt c.self.inside.kept c.plan_for.new.kept c.in-Ok.plan c.args.edit.now s c.self.invariant
    (subst (λ k. Spells k s) (sym c.self.view_is) spells) c.in-Ok.ensures.planned

pub returns-in-Err-clause-prepared : goal.returns-in-Err-clause-prepared
returns-in-Err-clause-prepared c = λ s spells.
    all_refused (Unit {0}) c.self.inside.kept c.plan_for.new.kept c.in-Err.refusal c.args.edit.now s c.self.invariant
    (subst (λ k. Spells k s) (sym c.self.view_is) spells) c.in-Err.ensures.planned
