use Rattle.std.proofs.Common.{◌≡◌, ap, sym, ◌∙◌, subst}
use Rattle.std.specs.Prelude.{map}
use Rattle.filter_tables.specs.Places.{without_at}
use Rattle.filter_tables.specs.Room.{AreRising}
use Rattle.filter_tables.specs.Seen.{plain_table}
use Rattle.filter_tables.proofs.Places.{map_removed}
use Rattle.filter_tables.proofs.TableOrder.{rising_without}
use Rattle.filter_tables.proofs.TableChanges.{item_here}
use Rattle.filter_tables.proofs.filter_tables.FilterTables.remove.Goals as goal

pub invariant_of-self : goal.invariant_of-self
invariant_of-self c =
    rw c.remove.ensures.items
    (subst AreRising (sym (map_removed plain_table c.self.inside.items.items c.args.table))
    (rising_without c.args.table (map plain_table c.self.inside.items.items) c.self.invariant))

pub returns-clause-table : goal.returns-clause-table
returns-clause-table c =
    let list : map plain_table c.self.inside.items.items ≡ c.args.self.now.tables = ap (λ v. v.tables) c.self.view_is in
    item_here plain_table c.self.inside.items.items c.args.self.now.tables c.args.table c.remove.result list c.requires c.remove.ensures.value

pub returns-clause-tables : goal.returns-clause-tables
returns-clause-tables c =
    rw c.remove.ensures.items (map_removed plain_table c.self.inside.items.items c.args.table ∙ ap (λ v. without_at c.args.table v.tables) c.self.view_is)
