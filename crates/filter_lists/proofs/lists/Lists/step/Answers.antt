use Rattle.std.proofs.Common.{sym, subst}
use Rattle.filter_state.specs.Steps.{step}
use Rattle.filter_lists.specs.Spells.{Spells}
use Rattle.filter_lists.specs.Edits.{IsStepped}
use Rattle.filter_lists.proofs.Stepping.{kept_at_once, stepped_at_once}
use Rattle.filter_lists.proofs.lists.Lists.step.Goals as goal

pub invariant_of-self : goal.invariant_of-self
invariant_of-self c = kept_at_once c.self.inside.kept c.apply.new.kept c.apply.result c.args.edit.now c.self.invariant c.requires.line c.apply.ensures

pub returns : goal.returns
returns c = λ s spells.
    subst (λ k. IsStepped k c.apply.new.kept c.apply.result (step s c.args.edit.now)) c.self.view_is
    (stepped_at_once c.self.inside.kept c.apply.new.kept c.apply.result c.args.edit.now s c.self.invariant (subst (λ k. Spells k s) (sym c.self.view_is) spells) c.apply.ensures)
