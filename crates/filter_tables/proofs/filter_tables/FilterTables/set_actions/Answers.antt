use Rattle.std.proofs.Common.{◌≡◌, ap, sym, ◌∙◌}
use Rattle.std.specs.Prelude.{map}
use Rattle.filter_tables.specs.declared.filter_table.FilterTable.{FilterTable}
use Rattle.filter_tables.specs.Places.{change_at, item_at}
use Rattle.filter_tables.specs.Seen.{plain_table}
use Rattle.filter_tables.specs.Changes.{other_actions, in_masks}
use Rattle.filter_tables.proofs.TableChanges.{item_here, changed_here, rising_set}
use Rattle.filter_tables.proofs.filter_tables.FilterTables.set_actions.Goals as goal

pub set_actions-requires : goal.set_actions-requires
set_actions-requires c =
    let list : map plain_table c.self.inside.items.items ≡ c.args.self.now.tables = ap (λ v. v.tables) c.self.view_is in
    let here = item_here plain_table c.self.inside.items.items c.args.self.now.tables c.args.table c.index_mut.result.now list c.requires.table c.index_mut.ensures.value in
    c.requires.handle (plain_table c.index_mut.result.now) here

pub returns-clause-old : goal.returns-clause-old
returns-clause-old c = λ t e m there.
    let list : map plain_table c.self.inside.items.items ≡ c.args.self.now.tables = ap (λ v. v.tables) c.self.view_is in
    let here = item_here plain_table c.self.inside.items.items c.args.self.now.tables c.args.table c.index_mut.result.now list c.requires.table c.index_mut.ensures.value in
    let same : t ≡ (plain_table c.index_mut.result.now) = cc in
    c.set_actions.ensures.old m (ap (λ u. item_at u.masks c.args.mask) (sym same) ∙ there)

pub invariant_of-self : goal.invariant_of-self
invariant_of-self c =
    let list : map plain_table c.self.inside.items.items ≡ c.args.self.now.tables = ap (λ v. v.tables) c.self.view_is in
    let t = c.index_mut.result.now in
    let now : FilterTable = record t { masks = c.set_actions.new.self } in
    let same : plain_table now ≡ in_masks (change_at c.args.mask (other_actions c.args.handle c.args.actions)) (plain_table t) = ap (λ ms. record (plain_table t) { masks = ms }) c.set_actions.ensures.masks in
    rising_set plain_table (change_at c.args.mask (other_actions c.args.handle c.args.actions)) c.self.inside.items.items c.args.self.now.tables c.args.table t now c.self.invariant list c.requires.table c.index_mut.ensures.value same

pub returns-clause-tables : goal.returns-clause-tables
returns-clause-tables c =
    let list : map plain_table c.self.inside.items.items ≡ c.args.self.now.tables = ap (λ v. v.tables) c.self.view_is in
    let t = c.index_mut.result.now in
    let now : FilterTable = record t { masks = c.set_actions.new.self } in
    let same : plain_table now ≡ in_masks (change_at c.args.mask (other_actions c.args.handle c.args.actions)) (plain_table t) = ap (λ ms. record (plain_table t) { masks = ms }) c.set_actions.ensures.masks in
    changed_here plain_table (in_masks (change_at c.args.mask (other_actions c.args.handle c.args.actions))) c.self.inside.items.items c.args.self.now.tables c.args.table t now list c.requires.table c.index_mut.ensures.value same
