use Rattle.std.proofs.Common.{◌∙◌, sym, arith}
use Rattle.fate_search.proofs.Giving.{none_to_change, none_at_all}
use Rattle.fate_search.proofs.branch_points.first_branch.Goals as goal

pub returns-in-None : goal.returns-in-None
returns-in-None g c =
    let told = g.Q.Asked.told c.args.asked.now in let at = c.loop-at.at in let inv = c.loop-at.invariant in
    let above = inv.above in let least = c.requires in
    none_at_all told c.args.low c.args.from at c.args.ceiling (omega (arith, above, least)) inv.none
    (sym c.is_branch.ensures ∙ c.if-is_branch.false) c.in-None.ensures

pub loop-at-preserved : goal.loop-at-preserved
loop-at-preserved g c =
    let told = g.Q.Asked.told c.args.asked.now in let at = c.loop-at.at in let inv = c.loop-at.invariant in
    let above = inv.above in let least = c.requires in let later = c.in-Some.ensures.other.0 in
    record {
      above = omega (arith, above, later);
      none = none_to_change told c.args.low c.args.from at c.in-Some.later (omega (arith, above, least)) inv.none
          (sym c.is_branch.ensures ∙ c.if-is_branch.false) c.in-Some.ensures;
    }
