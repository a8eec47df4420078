use Rattle.std.proofs.Common.{◌≡◌, ap, ◌∙◌}
use Rattle.std.specs.Prelude.{map}
use Rattle.filter_tables.specs.declared.filter_table.FilterTable.{FilterTable}
use Rattle.filter_tables.specs.Seen.{plain_table}
use Rattle.filter_tables.specs.SeenSpare.{table_spare}
use Rattle.filter_tables.proofs.Places.{map_kept}
use Rattle.filter_tables.proofs.TableChanges.{within_items, rising_kept, masks_set}
use Rattle.filter_tables.proofs.filter_tables.FilterTables.reserve_mask.Goals as goal

pub invariant_of-self : goal.invariant_of-self
invariant_of-self c =
    let t = c.index_mut.result.now in
    let now : FilterTable = record t { masks = c.reserve.new.self } in
    let same : plain_table now ≡ plain_table t = ap (λ ms. record (plain_table t) { masks = ms }) c.reserve.ensures.masks in
    rising_kept plain_table c.self.inside.items.items c.args.table t now c.self.invariant c.index_mut.ensures.value same

pub returns-clause-tables : goal.returns-clause-tables
returns-clause-tables c =
    let t = c.index_mut.result.now in
    let now : FilterTable = record t { masks = c.reserve.new.self } in
    let same : plain_table now ≡ plain_table t = ap (λ ms. record (plain_table t) { masks = ms }) c.reserve.ensures.masks in
    map_kept plain_table c.self.inside.items.items c.args.table t now c.index_mut.ensures.value same ∙ ap (λ v. v.tables) c.self.view_is

pub returns-clause-room : goal.returns-clause-room
returns-clause-room c =
    let list : map plain_table c.self.inside.items.items ≡ c.args.self.now.tables = ap (λ v. v.tables) c.self.view_is in
    let within = within_items plain_table c.self.inside.items.items c.args.self.now.tables c.args.table list c.requires in
    let now : FilterTable = record c.index_mut.result.now { masks = c.reserve.new.self } in
    rw (masks_set table_spare c.self.inside.items.items c.args.table now within) c.reserve.ensures.room
