use Rattle.std.proofs.Common.{◌≡◌, arith}
use Rattle.filter_tables.specs.SeenMask.{plain_mask}
use Rattle.filter_tables.specs.Changes.{has_handle_in, other_actions}
use Rattle.filter_tables.proofs.Places.{map_changed, item_read, place_within, place_passes}
use Rattle.filter_tables.proofs.mask_edits.act_at.Goals as goal

pub index_mut-requires : goal.index_mut-requires
index_mut-requires c =
    let within = place_within plain_mask (has_handle_in c.args.handle) c.args.lists.now.items c.args.at c.requires in
    omega (arith, within, c.args.lists.now.ok.0)

pub set_actions-requires : goal.set_actions-requires
set_actions-requires c = place_passes plain_mask (has_handle_in c.args.handle) c.args.lists.now.items c.args.at c.index_mut.result.now c.requires c.index_mut.ensures.value

pub returns-clause-old : goal.returns-clause-old
returns-clause-old c = λ m e.
    let within = place_within plain_mask (has_handle_in c.args.handle) c.args.lists.now.items c.args.at c.requires in
    let here = item_read plain_mask c.args.lists.now.items c.args.at c.index_mut.result.now within c.index_mut.ensures.value in
    let same : m ≡ plain_mask c.index_mut.result.now = cc in
    rw same c.set_actions.ensures.old

pub returns-clause-masks : goal.returns-clause-masks
returns-clause-masks c =
    let within = place_within plain_mask (has_handle_in c.args.handle) c.args.lists.now.items c.args.at c.requires in
    map_changed plain_mask (other_actions c.args.handle c.args.actions) c.args.lists.now.items c.args.at c.index_mut.result.now c.set_actions.new.self within c.index_mut.ensures.value c.set_actions.ensures.mask
