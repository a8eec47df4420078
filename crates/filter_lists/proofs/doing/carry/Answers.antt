use Rattle.std.proofs.Common.{subst, true, false, Ok}
use Rattle.filter_lists.specs.Plans.{Leads}
use Rattle.filter_lists.proofs.Registries.{hook_done}
use Rattle.filter_lists.proofs.doing.carry.Goals as goal

pub returns-in-HookAdd : goal.returns-in-HookAdd
returns-in-HookAdd c = λ next said leads.
    hook_done c.args.kept.now true next said _ c.requires.kept (subst (λ p. Leads c.args.kept.now p (Ok (next, said))) c.in-HookAdd.is leads)

pub returns-in-HookDel : goal.returns-in-HookDel
returns-in-HookDel c = λ next said leads.
    hook_done c.args.kept.now false next said _ c.requires.kept (subst (λ p. Leads c.args.kept.now p (Ok (next, said))) c.in-HookDel.is leads)

pub returns-in-MakeAction : goal.returns-in-MakeAction
returns-in-MakeAction c = λ next said leads. c.make_action.ensures next said (subst (λ p. Leads c.args.kept.now p (Ok (next, said))) c.in-MakeAction.is leads)

pub returns-in-ChangeAction : goal.returns-in-ChangeAction
returns-in-ChangeAction c = λ next said leads. c.change_action.ensures next said (subst (λ p. Leads c.args.kept.now p (Ok (next, said))) c.in-ChangeAction.is leads)

pub returns-in-DelAction : goal.returns-in-DelAction
returns-in-DelAction c = λ next said leads. c.del_action.ensures next said (subst (λ p. Leads c.args.kept.now p (Ok (next, said))) c.in-DelAction.is leads)
