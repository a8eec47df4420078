use Rattle.std.proofs.Common.{◌≡◌, ap, sym, ◌∙◌}
use Rattle.std.specs.Prelude.{map}
use Rattle.filter_tables.specs.declared.filter_table.FilterTable.{FilterTable}
use Rattle.filter_tables.specs.Places.{item_at}
use Rattle.filter_tables.specs.Seen.{plain_table}
use Rattle.filter_tables.specs.Changes.{taken, in_masks}
use Rattle.filter_tables.proofs.TableChanges.{item_here, changed_here, rising_set}
use Rattle.filter_tables.proofs.filter_tables.FilterTables.take_from.Goals as goal

pub take-requires : goal.take-requires
take-requires c =
    let list : map plain_table c.self.inside.items.items ≡ c.args.self.now.tables = ap (λ v. v.tables) c.self.view_is in
    let here = item_here plain_table c.self.inside.items.items c.args.self.now.tables c.args.table c.index_mut.result.now list c.requires.table c.index_mut.ensures.value in
    c.requires.handle (plain_table c.index_mut.result.now) here

pub returns-clause-taken : goal.returns-clause-taken
returns-clause-taken c = λ t e m there.
    let list : map plain_table c.self.inside.items.items ≡ c.args.self.now.tables = ap (λ v. v.tables) c.self.view_is in
    let here = item_here plain_table c.self.inside.items.items c.args.self.now.tables c.args.table c.index_mut.result.now list c.requires.table c.index_mut.ensures.value in
    let same : t ≡ (plain_table c.index_mut.result.now) = cc in
    c.take.ensures.taken m (ap (λ u. item_at u.masks c.args.mask) (sym same) ∙ there)

pub invariant_of-self : goal.invariant_of-self
invariant_of-self c =
    let list : map plain_table c.self.inside.items.items ≡ c.args.self.now.tables = ap (λ v. v.tables) c.self.view_is in
    let t = c.index_mut.result.now in
    let now : FilterTable = record t { masks = c.take.new.self } in
    let same : plain_table now ≡ in_masks (taken c.args.mask c.args.handle) (plain_table t) = ap (λ ms. record (plain_table t) { masks = ms }) c.take.ensures.masks in
    rising_set plain_table (taken c.args.mask c.args.handle) c.self.inside.items.items c.args.self.now.tables c.args.table t now c.self.invariant list c.requires.table c.index_mut.ensures.value same

pub returns-clause-tables : goal.returns-clause-tables
returns-clause-tables c =
    let list : map plain_table c.self.inside.items.items ≡ c.args.self.now.tables = ap (λ v. v.tables) c.self.view_is in
    let t = c.index_mut.result.now in
    let now : FilterTable = record t { masks = c.take.new.self } in
    let same : plain_table now ≡ in_masks (taken c.args.mask c.args.handle) (plain_table t) = ap (λ ms. record (plain_table t) { masks = ms }) c.take.ensures.masks in
    changed_here plain_table (in_masks (taken c.args.mask c.args.handle)) c.self.inside.items.items c.args.self.now.tables c.args.table t now list c.requires.table c.index_mut.ensures.value same
