use Rattle.std.proofs.Common.{get_or, arith, ap, length, drop, ◌+◌}
use Rattle.std.proofs.lemmas.List.{drop_more}
use Rattle.action_plan.specs.Plans.{made_of, carried_one, made_by}
use Rattle.action_plan.proofs.Carried.{no_part, made_is, next_fit, next_fits, next_same, references_next, references_here, one_more_entry}
use Rattle.action_plan.proofs.Counts.{one_made}
use Rattle.action_plan.proofs.carrying.carry_out.Goals as goal

pub carry_out_one-requires : goal.carry_out_one-requires
carry_out_one-requires c =
    let i = c.loop-part.part-index in
    let parts = c.args.parts.now in
    let rest = drop (i + 1) parts in
    let old = c.loop-part.registry in
    let front = drop_more parts i no_part c.loop-part-test.true in
    let p = get_or parts i no_part in
    let counted = ap made_by front in
    record {
      fits = next_fits (made_of old) p (drop i parts) rest front c.loop-part.invariant.fit;
      room = omega (arith, c.loop-part.invariant.room, counted);
      few = omega (arith, c.loop-part.invariant.few, counted);
      in_run = omega (arith, c.loop-part.invariant.in_run, counted);
      references = references_here (made_of old).actions p (drop i parts) rest front c.loop-part.invariant.references;
    }

pub loop-part-preserved : goal.loop-part-preserved
loop-part-preserved c =
    let i = c.loop-part.part-index in
    let parts = c.args.parts.now in
    let rest = drop (i + 1) parts in
    let old = c.loop-part.registry in
    let new = c.carry_out_one.new.registry in
    let front = drop_more parts i no_part c.loop-part-test.true in
    let p = get_or parts i no_part in
    let is = made_is (carried_one (made_of old) p) new c.carry_out_one.ensures.actions c.carry_out_one.ensures.made in
    let counted = ap made_by front in
    record {
      short = omega (arith, c.loop-part.invariant.short, ap length front);
      fit = next_fit (made_of old) p (drop i parts) rest new front is c.loop-part.invariant.fit;
      same = next_same (made_of old) _ p (drop i parts) rest new front is c.loop-part.invariant.same;
      room = omega (arith, c.carry_out_one.ensures.spare, c.loop-part.invariant.room, counted);
      few = omega (arith, one_more_entry old new p c.carry_out_one.ensures.actions, c.loop-part.invariant.few, counted);
      in_run = omega (arith, c.carry_out_one.ensures.made, one_made (made_of old) p p.params, c.loop-part.invariant.in_run, counted);
      references = references_next (made_of old) p (drop i parts) rest new front (omega (arith, c.loop-part.invariant.short, ap length front)) is c.loop-part.invariant.references;
    }
