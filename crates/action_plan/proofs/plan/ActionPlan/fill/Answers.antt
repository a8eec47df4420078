use Rattle.std.proofs.Common.{get_or, subst, drop, ◌+◌}
use Rattle.std.proofs.lemmas.List.{drop_more}
use Rattle.filter_state.specs.Lines.{AreFilterActions}
use Rattle.action_plan.specs.Plans.{made_of}
use Rattle.action_plan.proofs.Planning.{no_line, refused_told, next_resolved, one_more_part}
use Rattle.action_plan.proofs.plan.ActionPlan.fill.Goals as goal

pub returns-in-Err : goal.returns-in-Err
returns-in-Err c =
    let i = c.loop-line.line-index in
    let lines = c.args.lines.now in
    let front = drop_more lines i no_line c.loop-line-test.true in
    refused_told (made_of c.args.registry.now) c.loop-line.self c.add.new.self (get_or lines i no_line) (drop i lines) (drop (i + 1) lines) _ c.in-Err.refusal front c.in-Err.ensures.told c.loop-line.invariant.same

pub loop-line-preserved : goal.loop-line-preserved
loop-line-preserved c =
    let i = c.loop-line.line-index in
    let lines = c.args.lines.now in
    let front = drop_more lines i no_line c.loop-line-test.true in
    record {
      fit = c.in-Ok.ensures.fit;
      same = next_resolved (made_of c.args.registry.now) c.loop-line.self c.add.new.self (get_or lines i no_line) (drop i lines) (drop (i + 1) lines) _ front c.in-Ok.ensures.told c.loop-line.invariant.same;
      so_many = one_more_part c.loop-line.self c.add.new.self _ i c.in-Ok.ensures.told c.loop-line.invariant.so_many;
      lines = (subst AreFilterActions front c.loop-line.invariant.lines).1;
    }
