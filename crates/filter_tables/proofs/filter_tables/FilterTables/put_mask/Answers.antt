use Rattle.std.proofs.Common.{◌≡◌, [], ◌∷◌, ◌++◌, ap, arith}
use Rattle.std.specs.Prelude.{map}
use Rattle.filter_tables.specs.declared.filter_table.FilterTable.{FilterTable}
use Rattle.filter_tables.specs.Room.{masks_spare}
use Rattle.filter_tables.specs.Seen.{plain_table}
use Rattle.filter_tables.specs.SeenSpare.{table_spare}
use Rattle.filter_tables.specs.Changes.{new_mask, in_masks}
use Rattle.filter_tables.proofs.TableChanges.{within_items, item_here, changed_here, rising_set, masks_here}
use Rattle.filter_tables.proofs.filter_tables.FilterTables.put_mask.Goals as goal

pub put_mask-requires-clause-room : goal.put_mask-requires-clause-room
put_mask-requires-clause-room c =
    let list : map plain_table c.self.inside.items.items ≡ c.args.self.now.tables = ap (λ v. v.tables) c.self.view_is in
    let here = masks_here table_spare c.self.inside.items.items c.args.table c.index_mut.result.now (within_items plain_table c.self.inside.items.items c.args.self.now.tables c.args.table list c.requires.table) c.index_mut.ensures.value in
    omega (arith, here, ap (λ v. masks_spare v.spares c.args.table) c.self.view_is, c.requires.room)

pub put_mask-requires-clause-handle : goal.put_mask-requires-clause-handle
put_mask-requires-clause-handle c =
    let list : map plain_table c.self.inside.items.items ≡ c.args.self.now.tables = ap (λ v. v.tables) c.self.view_is in
    let here = item_here plain_table c.self.inside.items.items c.args.self.now.tables c.args.table c.index_mut.result.now list c.requires.table c.index_mut.ensures.value in
    c.requires.handle (plain_table c.index_mut.result.now) here

pub invariant_of-self : goal.invariant_of-self
invariant_of-self c =
    let list : map plain_table c.self.inside.items.items ≡ c.args.self.now.tables = ap (λ v. v.tables) c.self.view_is in
    let t = c.index_mut.result.now in
    let now : FilterTable = record t { masks = c.put_mask.new.self } in
    let same : plain_table now ≡ in_masks (λ masks. masks ++ (new_mask c.args.serial c.args.mask.words c.args.filter ∷ [])) (plain_table t) = ap (λ ms. record (plain_table t) { masks = ms }) c.put_mask.ensures in
    rising_set plain_table (λ masks. masks ++ (new_mask c.args.serial c.args.mask.words c.args.filter ∷ [])) c.self.inside.items.items c.args.self.now.tables c.args.table t now c.self.invariant list c.requires.table c.index_mut.ensures.value same

pub returns : goal.returns
returns c =
    let list : map plain_table c.self.inside.items.items ≡ c.args.self.now.tables = ap (λ v. v.tables) c.self.view_is in
    let t = c.index_mut.result.now in
    let now : FilterTable = record t { masks = c.put_mask.new.self } in
    let same : plain_table now ≡ in_masks (λ masks. masks ++ (new_mask c.args.serial c.args.mask.words c.args.filter ∷ [])) (plain_table t) = ap (λ ms. record (plain_table t) { masks = ms }) c.put_mask.ensures in
    changed_here plain_table (in_masks (λ masks. masks ++ (new_mask c.args.serial c.args.mask.words c.args.filter ∷ []))) c.self.inside.items.items c.args.self.now.tables c.args.table t now list c.requires.table c.index_mut.ensures.value same
