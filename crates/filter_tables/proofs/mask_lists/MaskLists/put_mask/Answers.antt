use Rattle.std.proofs.Common.{[], ◌∷◌, ◌++◌, ap, ◌∙◌}
use Rattle.std.specs.Prelude.{map}
use Rattle.filter_tables.specs.SeenMask.{plain_mask}
use Rattle.filter_tables.specs.Changes.{any_handle, new_mask}
use Rattle.filter_tables.proofs.HandleCounts.{count_new}
use Rattle.filter_tables.proofs.Moves.{none_times, more_handles}
use Rattle.filter_tables.proofs.mask_lists.MaskLists.put_mask.Goals as goal

pub put_handle-requires-clause-new : goal.put_handle-requires-clause-new
put_handle-requires-clause-new c =
    none_times (map plain_mask c.self.inside.items.items) c.self.inside.handles.items c.self.invariant c.args.filter.handle
    (ap (λ v. any_handle c.args.filter.handle v.masks) c.self.view_is ∙ c.requires.handle)

pub invariant_of-self : goal.invariant_of-self
invariant_of-self c =
    let masks = map plain_mask c.self.inside.items.items in
    rw c.push_mask.ensures.masks
    (more_handles masks c.self.inside.handles.items c.self.invariant c.args.filter.handle c.put_handle.new.handles.items
    (masks ++ new_mask c.args.serial c.args.mask.words c.args.filter ∷ []) c.requires.from_one c.put_handle.ensures.rising c.put_handle.ensures.counts
    (λ test. count_new test c.args.serial c.args.mask.words c.args.filter masks))
