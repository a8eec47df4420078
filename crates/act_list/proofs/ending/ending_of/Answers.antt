use Rattle.std.proofs.Common.{◌<◌, length, refl, ◌∙◌, arith}
use Rattle.act_list.proofs.Runs.{steps-on}
use Rattle.act_list.proofs.ending.ending_of.Goals as goal

pub loop-ending-init : goal.loop-ending-init
loop-ending-init c = rw c.start-run.ensures (refl, refl, refl)

pub loop-ending-preserved : goal.loop-ending-preserved
loop-ending-preserved c =
    let before = c.loop-ending.invariant in
    let at = c.at.ensures in
    let within : c.loop-ending.run.at < length c.args.controls.now = omega (arith, at.within, before.1) in
    let now = steps-on _ c.loop-ending.run _ _ _ _ before.0 before.1 at.same within c.next.ensures.told c.next.ensures.moved c.in_default.is in
    (now.0, now.1, now.2 ∙ before.2)
