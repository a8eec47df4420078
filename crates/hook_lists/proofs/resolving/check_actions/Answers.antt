use Rattle.std.proofs.Common.{length, sym, ap, arith}
use Rattle.hook_lists.proofs.Limits.{too_many, too_many_made, few_enough}
use Rattle.hook_lists.proofs.resolving.check_actions.Goals as goal

pub returns-then-entries-more-gt-ACTIONS_MAX : goal.returns-then-entries-more-gt-ACTIONS_MAX
returns-then-entries-more-gt-ACTIONS_MAX c =
    let live = ap length c.entries.ensures.entries in
    sym (too_many c.args.kept.now.actions c.args.plan.now (omega arith))

pub returns-then-made-more-gt-MADE_MAX : goal.returns-then-made-more-gt-MADE_MAX
returns-then-made-more-gt-MADE_MAX c =
    let live = ap length c.entries.ensures.entries in
    sym (too_many_made c.args.kept.now.actions c.args.plan.now (omega arith) (omega arith))

pub returns : goal.returns
returns c =
    let live = ap length c.entries.ensures.entries in
    sym (few_enough c.args.kept.now.actions c.args.plan.now (omega arith) (omega arith))
