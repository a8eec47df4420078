use Rattle.std.proofs.Common.{◌≡◌, ◌∙◌, ◌++◌, ◌∷◌, [], take, length, sym, ap, arith}
use Rattle.std.specs.Prelude.{map}
use Rattle.std.proofs.lemmas.List.{take_more, length-map}
use Rattle.visit_room.specs.Heads.{last_masks}
use Rattle.walk_steps.specs.Told.{heads_told}
use Rattle.filter_tables.specs.SeenMask.{plain_mask}
use Rattle.head_laws.specs.Heads.{serials_of}
use Rattle.classify_walk.specs.Heads.{with_masks_behind}
use Rattle.classify_walk.proofs.Telling.{last_pushed, table_told, told_count}
use Rattle.classify_walk.proofs.Limits.{tables_fit, masks_fit}
use Rattle.classify_walk.proofs.heads.tell_anew.Goals as goal

pub push-requires : goal.push-requires
push-requires c =
    let few = tables_fit c.args.lists.now c.args.hook c.tables-tables.result.now c.tables-tables.ensures.kept c.tables-tables.ensures.tables in
    let count = told_count c.tables-tables.result.now c.loop-place.place c.loop-place.into.tables (omega (arith, c.loop-place-test.true)) c.loop-place.invariant in
    omega (arith, few, count, c.loop-place-test.true)

pub tell_masks-requires-clause-table : goal.tell_masks-requires-clause-table
tell_masks-requires-clause-table c =
    let few = tables_fit c.args.lists.now c.args.hook c.tables-tables.result.now c.tables-tables.ensures.kept c.tables-tables.ensures.tables in
    omega (arith, few, c.loop-place-test.true)

pub tell_masks-requires-clause-few : goal.tell_masks-requires-clause-few
tell_masks-requires-clause-few c =
    let few = masks_fit c.args.lists.now c.args.hook c.tables-tables.result.now c.loop-place.place c.index-tables-place.result c.tables-tables.ensures.kept c.tables-tables.ensures.tables
    c.loop-place-test.true c.index-tables-place.is in
    let count : length (map plain_mask c.as_slice.result.now) ≡ length c.as_slice.result.now = length-map c.as_slice.result.now plain_mask in
    omega (arith, few, count, ap length c.as_slice.ensures)

pub tell_masks-requires-clause-bare : goal.tell_masks-requires-clause-bare
tell_masks-requires-clause-bare c =
    let t = c.index-tables-place.result in
    ap last_masks c.push.ensures.tables ∙ last_pushed c.loop-place.into.tables t.serial t.chain t.pref t.protocol

pub loop-place-preserved : goal.loop-place-preserved
loop-place-preserved c =
    let tables = c.tables-tables.result.now in
    let place = c.loop-place.place in
    let t = c.index-tables-place.result in
    table_told tables place t c.loop-place.into.tables c.push.new.self.tables c.tell_masks.new.into.tables
    (take_more tables place t c.loop-place-test.true ∙ ap (λ u. take place tables ++ (u ∷ [])) (sym c.index-tables-place.is)) c.push.ensures.tables
    (c.tell_masks.ensures ∙ ap (λ ms. with_masks_behind (serials_of ms) (heads_told c.push.new.self.tables)) c.as_slice.ensures) c.loop-place.invariant
