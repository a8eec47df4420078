use Rattle.std.proofs.Common.{◌≡◌, arith}
use Rattle.filter_tables.specs.SeenMask.{plain_mask}
use Rattle.filter_tables.specs.SeenRoom.{filter_room}
use Rattle.filter_tables.specs.Changes.{has_handle_in, less_filter}
use Rattle.filter_tables.proofs.Places.{map_changed, item_read, place_within, place_passes}
use Rattle.filter_tables.proofs.Spares.{spare_more}
use Rattle.filter_tables.proofs.mask_edits.take_at.Goals as goal

pub index_mut-requires : goal.index_mut-requires
index_mut-requires c =
    let within = place_within plain_mask (has_handle_in c.args.handle) c.args.lists.now.items c.args.at c.requires in
    omega (arith, within, c.args.lists.now.ok.0)

pub take-requires : goal.take-requires
take-requires c = place_passes plain_mask (has_handle_in c.args.handle) c.args.lists.now.items c.args.at c.index_mut.result.now c.requires c.index_mut.ensures.value

pub returns-clause-taken : goal.returns-clause-taken
returns-clause-taken c = λ m e.
    let within = place_within plain_mask (has_handle_in c.args.handle) c.args.lists.now.items c.args.at c.requires in
    let here = item_read plain_mask c.args.lists.now.items c.args.at c.index_mut.result.now within c.index_mut.ensures.value in
    let same : m ≡ plain_mask c.index_mut.result.now = cc in
    rw same c.take.ensures.taken

pub returns-clause-masks : goal.returns-clause-masks
returns-clause-masks c =
    let within = place_within plain_mask (has_handle_in c.args.handle) c.args.lists.now.items c.args.at c.requires in
    map_changed plain_mask (less_filter c.args.handle) c.args.lists.now.items c.args.at c.index_mut.result.now c.take.new.self within c.index_mut.ensures.value c.take.ensures.mask

pub returns-clause-spares : goal.returns-clause-spares
returns-clause-spares c = spare_more filter_room c.args.lists.now.items c.args.at c.index_mut.result.now c.take.new.self c.index_mut.ensures.value c.take.ensures.spare
