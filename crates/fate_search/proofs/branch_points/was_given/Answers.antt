use Rattle.std.proofs.Common.{◌∙◌, true, false, sym}
use Rattle.fate_search.proofs.Giving.{given_by, not_given, none_same_ever, none_same_within, held_same}
use Rattle.fate_search.proofs.branch_points.was_given.Goals as goal

pub returns-then-is_same : goal.returns-then-is_same
returns-then-is_same g c =
    let told = g.Q.Asked.told c.args.asked.now in let at = c.loop-at.at in let inv = c.loop-at.invariant in
    sym (given_by told c.args.low c.args.point at inv.least c.loop-at-test.true
    (held_same told c.args.low (told c.args.point) (told at) _ _ true c.requires inv.held (sym c.if-is_same.true ∙ c.is_same.ensures.same)))

pub returns-in-None : goal.returns-in-None
returns-in-None g c =
    let told = g.Q.Asked.told c.args.asked.now in let at = c.loop-at.at in let inv = c.loop-at.invariant in
    sym (not_given told c.args.low c.args.point
    (none_same_ever told c.args.low (told c.args.point) at c.args.point inv.none
    (held_same told c.args.low (told c.args.point) (told at) _ _ false c.requires inv.held (sym c.if-is_same.false ∙ c.is_same.ensures.same))
    c.in-None.ensures))

pub returns : goal.returns
returns g c =
    let told = g.Q.Asked.told c.args.asked.now in let at = c.loop-at.at in let inv = c.loop-at.invariant in
    sym (not_given told c.args.low c.args.point
    (none_same_within told c.args.low (told c.args.point) at c.args.point inv.none c.loop-at-test.false))
