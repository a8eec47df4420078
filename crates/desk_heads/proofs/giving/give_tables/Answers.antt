use Rattle.std.proofs.Common.{◌∙◌, ℕ, ◌+◌, ◌<◌, List, [], ◌∷◌, ◌++◌, sym, subst}
use Rattle.tc_base.specs.declared.hook.Hook.{Hook}
use Rattle.pin_store.specs.Sheets.{base_of}
use Rattle.pin_store.specs.Calls.{seen_by, sheet_of, IsUnnamed}
use Rattle.block_codec.specs.declared.table.StoredTable.{StoredTable}
use Rattle.miniq_pair.specs.Pairs.{first_block_of, other_place, swap_commit}
use Rattle.hook_law.specs.Records.{StatedTable}
use Rattle.hook_store_law.specs.Stated.{TableNames}
use Rattle.hook_store_law.specs.OfEdits.Premises.{next}
use Rattle.desk_heads.specs.OfHeadCommits.Listed.{HasSerial}
use Rattle.desk_heads.specs.OfHeadCommits.Built.{IsGiven}
use Rattle.desk_masks.specs.Tables.{HasTables}
use Rattle.desk_heads.specs.Slots.{HasSlotIn}
use Rattle.desk_heads.proofs.Tables.{tables_swapped}
use Rattle.desk_heads.proofs.TablesGiven.{lists_are, slot_known, told_given, swap_lawful}
use Rattle.desk_heads.proofs.giving.give_tables.Goals as goal

pub tell_tables-requires-clause-known : goal.tell_tables-requires-clause-known
tell_tables-requires-clause-known g c = λ kept m has.
    let seat = c.args.writer.now.place in let h = seen_by seat in let y = g.E.EditName.edit in let r = c.requires in
    subst (λ (ts : List StoredTable). (slot : ℕ) × HasSlotIn ts c.args.built.now m slot) (sym c.as_slice.ensures)
    (slot_known h (base_of (sheet_of seat)) y c.args.hook c.args.built.now c.args.heads.now c.args.heads.now.pair.two r.lawful r.gives r.tables m
    (subst (λ (ts : List (StatedTable TableNames)). HasSerial ts m) (lists_are c.args.lists.now (next h y) c.args.hook kept r.lists) has))

pub swap-requires-clause-few : goal.swap-requires-clause-few
swap-requires-clause-few g c = let seat = c.args.writer.now.place in let h = seen_by seat in let b = base_of (sheet_of seat) in let y = g.E.EditName.edit in let r = c.requires in let tables = c.tell_tables.new.into in
    let given = told_given h b y c.args.hook c.args.built.now c.args.heads.now c.args.heads.now.pair.two r.lawful r.gives r.tables c.args.lists.now c.as_slice.result.now tables c.tell_tables.ensures.kept r.lists c.as_slice.ensures
    c.tell_tables.ensures.stated c.tell_tables.ensures.slots c.tell_tables.ensures.numbers in
    given.few

pub swap-requires-clause-storable : goal.swap-requires-clause-storable
swap-requires-clause-storable g c = let seat = c.args.writer.now.place in let h = seen_by seat in let b = base_of (sheet_of seat) in let y = g.E.EditName.edit in let r = c.requires in let tables = c.tell_tables.new.into in
    let given = told_given h b y c.args.hook c.args.built.now c.args.heads.now c.args.heads.now.pair.two r.lawful r.gives r.tables c.args.lists.now c.as_slice.result.now tables c.tell_tables.ensures.kept r.lists c.as_slice.ensures
    c.tell_tables.ensures.stated c.tell_tables.ensures.slots c.tell_tables.ensures.numbers in
    λ k d less. (given.fit k d less).storable

pub swap-requires-clause-lawful : goal.swap-requires-clause-lawful
swap-requires-clause-lawful g c = let seat = c.args.writer.now.place in let h = seen_by seat in let b = base_of (sheet_of seat) in let y = g.E.EditName.edit in let r = c.requires in let tables = c.tell_tables.new.into in
    let given = told_given h b y c.args.hook c.args.built.now c.args.heads.now c.args.heads.now.pair.two r.lawful r.gives r.tables c.args.lists.now c.as_slice.result.now tables c.tell_tables.ensures.kept r.lists c.as_slice.ensures
    c.tell_tables.ensures.stated c.tell_tables.ensures.slots c.tell_tables.ensures.numbers in
    swap_lawful h b y c.args.hook c.args.built.now c.args.heads.now c.args.heads.now.pair.two r.lawful r.gives r.tables tables c.args.heads.now.pair.hook c.args.number given r.tables.of_hook r.number

pub swap-requires-clause-idle : goal.swap-requires-clause-idle
swap-requires-clause-idle g c = subst (λ (k : Hook). (at : ℕ) → at < 256 → IsUnnamed (base_of (sheet_of c.args.writer.now.place)) (seen_by c.args.writer.now.place) (first_block_of k (other_place c.args.heads.now.pair.active) + at))
    (sym c.requires.tables.of_hook) c.requires.idle

pub returns-clause-seen : goal.returns-clause-seen
returns-clause-seen g c = let seat = c.args.writer.now.place in
    c.swap.ensures.seen ∙ (λ t. seen_by seat ++ swap_commit (c.requires.tables.of_hook t) (other_place c.args.heads.now.pair.active) (sym c.swap-2.ensures.x_after t) c.args.number g.E.EditName.edit ∷ [])

pub returns-clause-tables : goal.returns-clause-tables
returns-clause-tables g c = let seat = c.args.writer.now.place in let h = seen_by seat in let b = base_of (sheet_of seat) in let y = g.E.EditName.edit in let r = c.requires in let tables = c.tell_tables.new.into in
    let given = told_given h b y c.args.hook c.args.built.now c.args.heads.now c.args.heads.now.pair.two r.lawful r.gives r.tables c.args.lists.now c.as_slice.result.now tables c.tell_tables.ensures.kept r.lists c.as_slice.ensures
    c.tell_tables.ensures.stated c.tell_tables.ensures.slots c.tell_tables.ensures.numbers in
    let seen = c.swap.ensures.seen ∙ (λ t. h ++ swap_commit (r.tables.of_hook t) (other_place c.args.heads.now.pair.active) tables c.args.number y ∷ []) in
    subst (HasTables c.args.hook (record { pair = c.swap.new.self; tables = c.swap-2.new.x })) (sym seen)
    (tables_swapped c.args.hook (record { pair = c.swap.new.self; tables = c.swap-2.new.x }) h (other_place c.args.heads.now.pair.active) tables c.args.number y (c.swap.ensures.hook ∙ r.tables.of_hook) c.swap.ensures.active c.swap-2.ensures.x_after given.fit given.few)

pub returns-clause-given : goal.returns-clause-given
returns-clause-given g c = let seat = c.args.writer.now.place in let h = seen_by seat in let b = base_of (sheet_of seat) in let y = g.E.EditName.edit in let r = c.requires in let tables = c.tell_tables.new.into in
    let given = told_given h b y c.args.hook c.args.built.now c.args.heads.now c.args.heads.now.pair.two r.lawful r.gives r.tables c.args.lists.now c.as_slice.result.now tables c.tell_tables.ensures.kept r.lists c.as_slice.ensures
    c.tell_tables.ensures.stated c.tell_tables.ensures.slots c.tell_tables.ensures.numbers in
    subst (IsGiven h b y c.args.hook c.args.built.now) (sym c.swap-2.ensures.x_after) given
