use Rattle.std.proofs.Common.{arith}
use Rattle.filter_tables.specs.SeenMask.{plain_mask}
use Rattle.filter_tables.specs.SeenRoom.{filter_room}
use Rattle.filter_tables.specs.Changes.{more_filter}
use Rattle.filter_tables.proofs.Places.{map_changed, item_read}
use Rattle.filter_tables.proofs.Spares.{spare_read}
use Rattle.filter_tables.proofs.mask_edits.put_at.Goals as goal

pub put-requires-clause-room : goal.put-requires-clause-room
put-requires-clause-room c =
    let e = spare_read filter_room c.args.lists.now.items c.args.at c.index_mut.result.now c.requires.within c.index_mut.ensures.value in
    omega (arith, e, c.requires.room)

pub put-requires-clause-handle : goal.put-requires-clause-handle
put-requires-clause-handle c =
    c.requires.handle (plain_mask c.index_mut.result.now)
    (item_read plain_mask c.args.lists.now.items c.args.at c.index_mut.result.now c.requires.within c.index_mut.ensures.value)

pub put-requires-clause-key : goal.put-requires-clause-key
put-requires-clause-key c =
    c.requires.key (plain_mask c.index_mut.result.now)
    (item_read plain_mask c.args.lists.now.items c.args.at c.index_mut.result.now c.requires.within c.index_mut.ensures.value)

pub returns-clause-masks : goal.returns-clause-masks
returns-clause-masks c =
    map_changed plain_mask (more_filter c.args.filter) c.args.lists.now.items c.args.at c.index_mut.result.now c.put.new.self c.requires.within
    c.index_mut.ensures.value c.put.ensures.mask
