use Rattle.std.proofs.Common.{◌≡◌, ap, sym, ◌∙◌, arith}
use Rattle.std.specs.Prelude.{map}
use Rattle.filter_tables.specs.declared.filter_table.FilterTable.{FilterTable}
use Rattle.filter_tables.specs.Places.{item_at}
use Rattle.filter_tables.specs.Room.{filters_spare}
use Rattle.filter_tables.specs.Seen.{plain_table}
use Rattle.filter_tables.specs.SeenSpare.{table_spare}
use Rattle.filter_tables.specs.Changes.{moved, in_masks}
use Rattle.filter_tables.proofs.TableChanges.{within_items, item_here, changed_here, rising_set, filters_here}
use Rattle.filter_tables.proofs.filter_tables.FilterTables.move_within.Goals as goal

pub move_within-requires-clause-from : goal.move_within-requires-clause-from
move_within-requires-clause-from c =
    let list : map plain_table c.self.inside.items.items ≡ c.args.self.now.tables = ap (λ v. v.tables) c.self.view_is in
    let here = item_here plain_table c.self.inside.items.items c.args.self.now.tables c.args.table c.index_mut.result.now list c.requires.table c.index_mut.ensures.value in
    c.requires.from (plain_table c.index_mut.result.now) here

pub move_within-requires-clause-within : goal.move_within-requires-clause-within
move_within-requires-clause-within c =
    let list : map plain_table c.self.inside.items.items ≡ c.args.self.now.tables = ap (λ v. v.tables) c.self.view_is in
    let here = item_here plain_table c.self.inside.items.items c.args.self.now.tables c.args.table c.index_mut.result.now list c.requires.table c.index_mut.ensures.value in
    c.requires.within (plain_table c.index_mut.result.now) here

pub move_within-requires-clause-room : goal.move_within-requires-clause-room
move_within-requires-clause-room c =
    let list : map plain_table c.self.inside.items.items ≡ c.args.self.now.tables = ap (λ v. v.tables) c.self.view_is in
    let here = filters_here table_spare c.self.inside.items.items c.args.table c.args.to c.index_mut.result.now (within_items plain_table c.self.inside.items.items c.args.self.now.tables c.args.table list c.requires.table) c.index_mut.ensures.value in
    omega (arith, here, ap (λ v. filters_spare v.spares c.args.table c.args.to) c.self.view_is, c.requires.room)

pub move_within-requires-clause-key : goal.move_within-requires-clause-key
move_within-requires-clause-key c =
    let list : map plain_table c.self.inside.items.items ≡ c.args.self.now.tables = ap (λ v. v.tables) c.self.view_is in
    let here = item_here plain_table c.self.inside.items.items c.args.self.now.tables c.args.table c.index_mut.result.now list c.requires.table c.index_mut.ensures.value in
    c.requires.key (plain_table c.index_mut.result.now) here

pub returns-clause-old : goal.returns-clause-old
returns-clause-old c = λ t e m there.
    let list : map plain_table c.self.inside.items.items ≡ c.args.self.now.tables = ap (λ v. v.tables) c.self.view_is in
    let here = item_here plain_table c.self.inside.items.items c.args.self.now.tables c.args.table c.index_mut.result.now list c.requires.table c.index_mut.ensures.value in
    let same : t ≡ (plain_table c.index_mut.result.now) = cc in
    c.move_within.ensures.old m (ap (λ u. item_at u.masks c.args.from) (sym same) ∙ there)

pub invariant_of-self : goal.invariant_of-self
invariant_of-self c =
    let list : map plain_table c.self.inside.items.items ≡ c.args.self.now.tables = ap (λ v. v.tables) c.self.view_is in
    let t = c.index_mut.result.now in
    let now : FilterTable = record t { masks = c.move_within.new.self } in
    let same : plain_table now ≡ in_masks (moved c.args.from c.args.to c.args.filter) (plain_table t) = ap (λ ms. record (plain_table t) { masks = ms }) c.move_within.ensures.masks in
    rising_set plain_table (moved c.args.from c.args.to c.args.filter) c.self.inside.items.items c.args.self.now.tables c.args.table t now c.self.invariant list c.requires.table c.index_mut.ensures.value same

pub returns-clause-tables : goal.returns-clause-tables
returns-clause-tables c =
    let list : map plain_table c.self.inside.items.items ≡ c.args.self.now.tables = ap (λ v. v.tables) c.self.view_is in
    let t = c.index_mut.result.now in
    let now : FilterTable = record t { masks = c.move_within.new.self } in
    let same : plain_table now ≡ in_masks (moved c.args.from c.args.to c.args.filter) (plain_table t) = ap (λ ms. record (plain_table t) { masks = ms }) c.move_within.ensures.masks in
    changed_here plain_table (in_masks (moved c.args.from c.args.to c.args.filter)) c.self.inside.items.items c.args.self.now.tables c.args.table t now list c.requires.table c.index_mut.ensures.value same
