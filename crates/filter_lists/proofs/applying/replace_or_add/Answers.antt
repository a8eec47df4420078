use Rattle.std.proofs.Common.{sym, subst}
use Rattle.hook_lists.specs.States.{state_of}
use Rattle.hook_lists.specs.Done.{IsDoneAtOnce}
use Rattle.filter_lists.specs.OfReplacing.Replacements.{IsFound}
use Rattle.filter_lists.proofs.Families.{is_add, is_replace}
use Rattle.filter_lists.proofs.applying.replace_or_add.Goals as goal

pub returns-in-Some : goal.returns-in-Some
returns-in-Some c =
    let s = state_of c.args.kept.now in
    let found = subst (IsFound c.args.kept.now c.args.line.now) c.in-Some.is c.find_old.ensures in
    subst (IsDoneAtOnce c.args.kept.now c.replace_at_once.new.kept c.replace_at_once.result) (sym (is_replace s c.args.line.now _ found.5))
    (c.replace_at_once.ensures _ found.5)

pub returns-in-None : goal.returns-in-None
returns-in-None c =
    let s = state_of c.args.kept.now in
    let none = subst (IsFound c.args.kept.now c.args.line.now) c.in-None.is c.find_old.ensures in
    subst (IsDoneAtOnce c.args.kept.now c.add_at_once.new.kept c.add_at_once.result) (sym (is_add s c.args.line.now none)) c.add_at_once.ensures
