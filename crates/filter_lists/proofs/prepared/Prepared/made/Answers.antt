use Rattle.std.proofs.Common.{sym, ap, ◌∙◌}
use Rattle.filter_lists.proofs.Counted.{makes, makes_none, told}
use Rattle.filter_lists.proofs.prepared.Prepared.made.Goals as goal

pub returns-in-Add : goal.returns-in-Add
returns-in-Add c = told c.self.inside.lists.value c.self.inside.edit.value c.args.self.now c.self.inside.plan c.made.result c.self.view_is c.self.invariant (ap makes c.in-Add.is ∙ sym c.made.ensures.made)

pub returns-in-Replace : goal.returns-in-Replace
returns-in-Replace c = told c.self.inside.lists.value c.self.inside.edit.value c.args.self.now c.self.inside.plan c.made-in-Replace.result c.self.view_is c.self.invariant (ap makes c.in-Replace.is ∙ sym c.made-in-Replace.ensures.made)

pub returns-in-MakeAction : goal.returns-in-MakeAction
returns-in-MakeAction c = told c.self.inside.lists.value c.self.inside.edit.value c.args.self.now c.self.inside.plan 1 c.self.view_is c.self.invariant (ap makes c.in-MakeAction.is)

pub returns-in-HookAdd : goal.returns-in-HookAdd
returns-in-HookAdd c = told c.self.inside.lists.value c.self.inside.edit.value c.args.self.now c.self.inside.plan 0 c.self.view_is c.self.invariant (makes_none c.self.inside.plan c.in-HookAdd.is)

pub returns-in-HookAdd-2 : goal.returns-in-HookAdd-2
returns-in-HookAdd-2 c = told c.self.inside.lists.value c.self.inside.edit.value c.args.self.now c.self.inside.plan 0 c.self.view_is c.self.invariant (makes_none c.self.inside.plan c.in-HookAdd.is)

pub returns-in-HookAdd-3 : goal.returns-in-HookAdd-3
returns-in-HookAdd-3 c = told c.self.inside.lists.value c.self.inside.edit.value c.args.self.now c.self.inside.plan 0 c.self.view_is c.self.invariant (makes_none c.self.inside.plan c.in-HookAdd.is)

pub returns-in-HookAdd-4 : goal.returns-in-HookAdd-4
returns-in-HookAdd-4 c = told c.self.inside.lists.value c.self.inside.edit.value c.args.self.now c.self.inside.plan 0 c.self.view_is c.self.invariant (makes_none c.self.inside.plan c.in-HookAdd.is)

pub returns-in-HookAdd-5 : goal.returns-in-HookAdd-5
returns-in-HookAdd-5 c = told c.self.inside.lists.value c.self.inside.edit.value c.args.self.now c.self.inside.plan 0 c.self.view_is c.self.invariant (makes_none c.self.inside.plan c.in-HookAdd.is)
