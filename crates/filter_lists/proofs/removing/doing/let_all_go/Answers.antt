use Rattle.std.proofs.Common.{drop, map, ◌+◌, ◌∙◌, ap}
use Rattle.filter_index.specs.Listed.{FilterRoom, those_there}
use Rattle.filter_tables.specs.SeenMask.{plain_mask}
use Rattle.filter_lists.specs.OfRemoving.Leaving.{filters_in}
use Rattle.filter_lists.proofs.OfRemoving.Going.{going_last, going_on, going_bound}
use Rattle.filter_lists.proofs.OfRemoving.Fronts.{mask_there, masks_over}
use Rattle.filter_lists.proofs.removing.doing.let_all_go.Goals as goal

pub let_mask_go-requires-clause-bound : goal.let_mask_go-requires-clause-bound
let_mask_go-requires-clause-bound c =
    let masks = c.args.masks.now in
    let i = c.loop-mask.mask-index in
    let own = those_there c.slots.result.now in
    going_bound (filters_in (map plain_mask masks)) (filters_in (map plain_mask (drop i masks))) own (filters_in (map plain_mask (drop (i + 1) masks))) c.args.kept.now c.loop-mask.kept
    (mask_there masks i c.mask-item.result own c.loop-mask-test.true c.mask-item.is (c.slots.ensures.filters ∙ ap (λ (room : FilterRoom). room.filters) c.filters.ensures)) c.loop-mask.invariant

pub loop-mask-preserved : goal.loop-mask-preserved
loop-mask-preserved c =
    let masks = c.args.masks.now in
    let i = c.loop-mask.mask-index in
    let own = those_there c.slots.result.now in
    going_on (filters_in (map plain_mask masks)) (filters_in (map plain_mask (drop i masks))) own (filters_in (map plain_mask (drop (i + 1) masks))) c.args.kept.now c.loop-mask.kept
    c.let_mask_go.new.kept (mask_there masks i c.mask-item.result own c.loop-mask-test.true c.mask-item.is (c.slots.ensures.filters ∙ ap (λ (room : FilterRoom). room.filters) c.filters.ensures)) c.loop-mask.invariant c.let_mask_go.ensures

pub returns : goal.returns
returns c =
    let masks = c.args.masks.now in
    let i = c.loop-mask.mask-index in
    going_last (filters_in (map plain_mask masks)) (filters_in (map plain_mask (drop i masks))) c.args.kept.now c.loop-mask.kept (masks_over masks i c.loop-mask-test.false)
    c.loop-mask.invariant
