use Rattle.std.proofs.Common.{◌≡◌, ap, arith}
use Rattle.std.specs.Prelude.{map}
use Rattle.filter_tables.specs.declared.filter_table.FilterTable.{FilterTable}
use Rattle.filter_tables.specs.Places.{change_at}
use Rattle.filter_tables.specs.Room.{filters_spare}
use Rattle.filter_tables.specs.Seen.{plain_table}
use Rattle.filter_tables.specs.SeenSpare.{table_spare}
use Rattle.filter_tables.specs.Changes.{more_filter, in_masks}
use Rattle.filter_tables.proofs.TableChanges.{within_items, item_here, changed_here, rising_set, filters_here}
use Rattle.filter_tables.proofs.filter_tables.FilterTables.put.Goals as goal

pub put-requires-clause-room : goal.put-requires-clause-room
put-requires-clause-room c =
    let list : map plain_table c.self.inside.items.items ≡ c.args.self.now.tables = ap (λ v. v.tables) c.self.view_is in
    let here = filters_here table_spare c.self.inside.items.items c.args.table c.args.mask c.index_mut.result.now (within_items plain_table c.self.inside.items.items c.args.self.now.tables c.args.table list c.requires.table) c.index_mut.ensures.value in
    omega (arith, here, ap (λ v. filters_spare v.spares c.args.table c.args.mask) c.self.view_is, c.requires.room)

pub put-requires-clause-within : goal.put-requires-clause-within
put-requires-clause-within c =
    let list : map plain_table c.self.inside.items.items ≡ c.args.self.now.tables = ap (λ v. v.tables) c.self.view_is in
    let here = item_here plain_table c.self.inside.items.items c.args.self.now.tables c.args.table c.index_mut.result.now list c.requires.table c.index_mut.ensures.value in
    c.requires.within (plain_table c.index_mut.result.now) here

pub put-requires-clause-handle : goal.put-requires-clause-handle
put-requires-clause-handle c =
    let list : map plain_table c.self.inside.items.items ≡ c.args.self.now.tables = ap (λ v. v.tables) c.self.view_is in
    let here = item_here plain_table c.self.inside.items.items c.args.self.now.tables c.args.table c.index_mut.result.now list c.requires.table c.index_mut.ensures.value in
    c.requires.handle (plain_table c.index_mut.result.now) here

pub put-requires-clause-key : goal.put-requires-clause-key
put-requires-clause-key c =
    let list : map plain_table c.self.inside.items.items ≡ c.args.self.now.tables = ap (λ v. v.tables) c.self.view_is in
    let here = item_here plain_table c.self.inside.items.items c.args.self.now.tables c.args.table c.index_mut.result.now list c.requires.table c.index_mut.ensures.value in
    c.requires.key (plain_table c.index_mut.result.now) here

pub invariant_of-self : goal.invariant_of-self
invariant_of-self c =
    let list : map plain_table c.self.inside.items.items ≡ c.args.self.now.tables = ap (λ v. v.tables) c.self.view_is in
    let t = c.index_mut.result.now in
    let now : FilterTable = record t { masks = c.put.new.self } in
    let same : plain_table now ≡ in_masks (change_at c.args.mask (more_filter c.args.filter)) (plain_table t) = ap (λ ms. record (plain_table t) { masks = ms }) c.put.ensures in
    rising_set plain_table (change_at c.args.mask (more_filter c.args.filter)) c.self.inside.items.items c.args.self.now.tables c.args.table t now c.self.invariant list c.requires.table c.index_mut.ensures.value same

pub returns : goal.returns
returns c =
    let list : map plain_table c.self.inside.items.items ≡ c.args.self.now.tables = ap (λ v. v.tables) c.self.view_is in
    let t = c.index_mut.result.now in
    let now : FilterTable = record t { masks = c.put.new.self } in
    let same : plain_table now ≡ in_masks (change_at c.args.mask (more_filter c.args.filter)) (plain_table t) = ap (λ ms. record (plain_table t) { masks = ms }) c.put.ensures in
    changed_here plain_table (in_masks (change_at c.args.mask (more_filter c.args.filter))) c.self.inside.items.items c.args.self.now.tables c.args.table t now list c.requires.table c.index_mut.ensures.value same
