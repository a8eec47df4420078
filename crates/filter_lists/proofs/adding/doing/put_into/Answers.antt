use Rattle.std.proofs.Common.{◌≡◌, ◌∙◌, false, ap, sym, subst}
use Rattle.std.specs.List.{list_any}
use Rattle.filter_tables.specs.Changes.{any_handle, is_table, with_table}
use Rattle.filter_lists.specs.OfAdding.Seats.{seated}
use Rattle.filter_lists.proofs.OfReplacing.Seeking.{item_within}
use Rattle.filter_lists.proofs.OpenSeats.{found_same, open_table, open_mask, open_handle, open_key}
use Rattle.filter_lists.proofs.adding.doing.put_into.Goals as goal

pub put-requires-clause-table : goal.put-requires-clause-table
put-requires-clause-table c = open_table c.args.tables.now c.args.arrival _ _ (rw c.in-InMask.is at c.requires.seat)

pub put-requires-clause-room : goal.put-requires-clause-room
put-requires-clause-room c = (rw c.in-InMask.is at c.requires.seat).6

pub put-requires-clause-within : goal.put-requires-clause-within
put-requires-clause-within c = open_mask c.args.tables.now c.args.arrival _ _ (rw c.in-InMask.is at c.requires.seat)

pub put-requires-clause-handle : goal.put-requires-clause-handle
put-requires-clause-handle c = open_handle c.args.tables.now c.args.arrival _ _ (rw c.in-InMask.is at c.requires.seat)

pub put-requires-clause-key : goal.put-requires-clause-key
put-requires-clause-key c = open_key c.args.tables.now c.args.arrival _ _ (rw c.in-InMask.is at c.requires.seat)

pub put_mask-requires-clause-table : goal.put_mask-requires-clause-table
put_mask-requires-clause-table c = let open_ = rw c.in-NewMask.is at c.requires.seat in item_within _ _ _ open_.1

pub put_mask-requires-clause-room : goal.put_mask-requires-clause-room
put_mask-requires-clause-room c = (rw c.in-NewMask.is at c.requires.seat).4

pub put_mask-requires-clause-handle : goal.put_mask-requires-clause-handle
put_mask-requires-clause-handle c =
    let open_ = rw c.in-NewMask.is at c.requires.seat in
    found_same c.args.tables.now.tables c.in-NewMask.table open_.0 (λ t. any_handle c.args.arrival.filter.handle t.masks ≡ false) open_.1 open_.2

pub insert-requires-clause-new : goal.insert-requires-clause-new
insert-requires-clause-new c =
    let open_ = rw c.in-NewTable.is at c.requires.seat in
    subst (λ t. list_any (is_table t.chain t.pref) c.args.tables.now.tables ≡ false) (sym c.new_table.ensures) open_.0

pub returns-in-InMask : goal.returns-in-InMask
returns-in-InMask c = c.put.ensures ∙ ap (λ s. seated c.args.arrival s c.args.tables.now.tables) (sym c.in-InMask.is)

pub returns-in-NewMask : goal.returns-in-NewMask
returns-in-NewMask c = c.put_mask.ensures ∙ ap (λ s. seated c.args.arrival s c.args.tables.now.tables) (sym c.in-NewMask.is)

pub returns-in-NewTable : goal.returns-in-NewTable
returns-in-NewTable c =
    let tables = c.args.tables.now.tables in
    c.insert.ensures ∙ ap (λ t. with_table t tables) c.new_table.ensures ∙ ap (λ s. seated c.args.arrival s tables) (sym c.in-NewTable.is)
