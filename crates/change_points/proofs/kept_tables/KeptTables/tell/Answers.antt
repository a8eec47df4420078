use Rattle.std.proofs.Common.{◌≡◌, ◌≤◌, ◌∙◌, length, sym, ap, arith}
use Rattle.std.proofs.lemmas.List.{length-map, length-take-le}
use Rattle.visit_room.specs.declared.limits.TheConstants.{HEAD_TABLES}
use Rattle.walk_steps.specs.Told.{head_told}
use Rattle.change_points.proofs.kept_tables.KeptTables.tell.Goals as goal

pub tell-requires : goal.tell-requires
tell-requires c =
    let kept = c.deref-table-items.result.now in
    let own : length kept ≡ length c.self.inside.tables.items = ap length c.deref-table-items.ensures.value in
    let seen : length kept ≡ length c.args.self.now =
    ap length (c.deref-table-items.ensures.value ∙ c.self.view_is) in
    let few : length c.self.inside.tables.items ≤ HEAD_TABLES = c.self.invariant in
    let here = c.loop-table-test.true in
    let count : length c.loop-table.into.tables ≡ c.loop-table.table-index =
    sym (length-map c.loop-table.into.tables head_told) ∙ ap length c.loop-table.invariant
    ∙ length-take-le c.loop-table.table-index c.args.self.now (omega (arith, here, seen)) in
    omega (arith, count, own, few, here)
