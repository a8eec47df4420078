use Rattle.std.proofs.Common.{◌≡◌, ◌∙◌, ◌<◌, List, length, slice_get, Some, sym, ap, subst}
use Rattle.block_codec.specs.declared.table.StoredTable.{StoredTable}
use Rattle.desk_parts.proofs.OfFinding.Standing.{within_tables, within_masks, stands_there}
use Rattle.desk_parts.proofs.finding.slots.slot_at.Goals as goal

pub stored_at-stored-requires : goal.stored_at-stored-requires
stored_at-stored-requires c = let l = c.requires.whole in let x = c.requires.there in
    subst (λ (ts : List StoredTable). c.args.table < length ts) (sym c.as_slice.ensures)
    (within_tables _ _ l.kept.low l.kept.keeps.law c.args._hook c.args.tables.now c.requires.tables c.args._ledger.now.lists c.requires.kept l.spells c.args.table c.args.mask x.0 x.1 x.2 x.3)

pub name_at-requires : goal.name_at-requires
name_at-requires c = let l = c.requires.whole in let x = c.requires.there in
    within_masks _ _ l.kept.low l.kept.keeps.law c.args._hook c.args.tables.now c.requires.tables c.args._ledger.now.lists c.requires.kept l.spells c.args.table c.args.mask x.0 x.1 x.2 x.3
    c.stored_at-stored.result.now (sym (ap (λ (ts : List StoredTable). slice_get ts c.args.table) c.as_slice.ensures) ∙ c.stored_at-stored.ensures)

pub returns : goal.returns
returns c = λ t m here inside. let l = c.requires.whole in
    stands_there _ _ l.kept.low l.kept.keeps.law c.args._hook c.args.tables.now c.requires.tables c.args._ledger.now.lists c.requires.kept l.spells c.args.table c.args.mask t m here inside
    c.stored_at-stored.result.now (sym (ap (λ (ts : List StoredTable). slice_get ts c.args.table) c.as_slice.ensures) ∙ c.stored_at-stored.ensures) c.name_at.result c.name_at.ensures
