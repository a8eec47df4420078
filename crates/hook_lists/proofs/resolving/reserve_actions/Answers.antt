use Rattle.std.proofs.Common.{◌≡◌, ◌≤◌, length, sym, ap, subst, arith}
use Rattle.action_plan.specs.Entries.{actions_of}
use Rattle.action_plan.specs.Plans.{made_of, AreFit}
use Rattle.action_plan.proofs.Carried.{made_is}
use Rattle.hook_lists.proofs.Limits.{are_few, on_ok}
use Rattle.hook_lists.proofs.resolving.reserve_actions.Goals as goal

pub returns-clause-fits : goal.returns-clause-fits
returns-clause-fits c =
    let plan = c.args.plan.now in
    let old = c.args.kept.now.actions in
    let new = c.reserve.new.self in
    let same : made_of new ≡ made_of old = made_is (made_of old) new (ap actions_of c.reserve.ensures.entries) c.reserve.ensures.made in
    let few = are_few old plan c.requires.full in
    let live = ap length c.reserve.ensures.entries in
    on_ok (c.made.result ≤ new.spare) _ c.reserve.result
    (λ room. record {
      fit = subst (λ m. AreFit m plan) (sym same) c.requires.fit;
      room = omega (arith, room, c.made.ensures.made);
      few = omega arith;
      in_run = omega arith;
    }) c.reserve.ensures.room
