use Rattle.std.proofs.Common.{sym, subst}
use Rattle.filter_lists.specs.Plans.{IsPlanned}
use Rattle.hook_lists.specs.States.{state_of}
use Rattle.filter_lists.specs.OfReplacing.Replacements.{IsFound}
use Rattle.filter_lists.proofs.Families.{is_add, is_replace}
use Rattle.filter_lists.proofs.preparing.plan_replace.Goals as goal

pub returns-in-Some-clause-planned : goal.returns-in-Some-clause-planned
returns-in-Some-clause-planned c =
    let s = state_of c.args.kept.now in
    let found = subst (IsFound c.args.kept.now c.args.line.now) c.in-Some.is c.find_old.ensures in
    subst (λ st. IsPlanned c.plan_replacement.new.kept c.plan_replacement.result st) (sym (is_replace s c.args.line.now _ found.5))
    (c.plan_replacement.ensures.planned _ found.5)

pub returns-in-None-clause-planned : goal.returns-in-None-clause-planned
returns-in-None-clause-planned c =
    let s = state_of c.args.kept.now in
    let none = subst (IsFound c.args.kept.now c.args.line.now) c.in-None.is c.find_old.ensures in
    subst (λ st. IsPlanned c.plan_add.new.kept c.plan_add.result st) (sym (is_add s c.args.line.now none)) c.plan_add.ensures.planned
