use Rattle.std.proofs.Common.{◌∙◌, drop, arith, ◌+◌}
use Rattle.std.proofs.lemmas.List.{drop_more}
use Rattle.action_plan.proofs.Unbound.{next_bound, next_same}
use Rattle.action_plan.proofs.unbinding.unbind_all.Goals as goal

pub loop-serial-preserved : goal.loop-serial-preserved
loop-serial-preserved c =
    let i = c.loop-serial.serial-index in
    let serials = c.args.serials.now in
    let es = c.loop-serial.registry.entries in
    let front = drop_more serials i 0 c.loop-serial-test.true in
    record {
      bound = next_bound _ (drop (i + 1) serials) (drop i serials) es c.unbind.new.self.entries front c.loop-serial.invariant.bound c.unbind.ensures.entries;
      same = next_same _ (drop (i + 1) serials) (drop i serials) es c.unbind.new.self.entries _ front c.loop-serial.invariant.same c.unbind.ensures.entries;
      made = c.unbind.ensures.made ∙ c.loop-serial.invariant.made;
      spare = omega (arith, c.unbind.ensures.spare, c.loop-serial.invariant.spare);
    }
