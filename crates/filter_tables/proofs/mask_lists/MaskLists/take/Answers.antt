use Rattle.std.proofs.Common.{◌≡◌, Some, ap, ◌∙◌, arith}
use Rattle.std.specs.Prelude.{map}
use Rattle.filter_tables.specs.Places.{place_where}
use Rattle.filter_tables.specs.SeenMask.{plain_mask}
use Rattle.filter_tables.specs.Changes.{has_handle_in}
use Rattle.filter_tables.proofs.Places.{place_within}
use Rattle.filter_tables.proofs.Moves.{some_times, taken_handles}
use Rattle.filter_tables.proofs.mask_lists.MaskLists.take.Goals as goal

pub drop_handle-requires-clause-there : goal.drop_handle-requires-clause-there
drop_handle-requires-clause-there c =
    let found : place_where (has_handle_in c.args.handle) (map plain_mask c.self.inside.items.items) ≡ Some c.args.mask = ap (λ v. place_where (has_handle_in c.args.handle) v.masks) c.self.view_is ∙ c.requires in
    some_times (map plain_mask c.self.inside.items.items) c.self.inside.handles.items c.self.invariant c.args.mask c.args.handle found

pub sweep-requires : goal.sweep-requires
sweep-requires c =
    let found : place_where (has_handle_in c.args.handle) (map plain_mask c.self.inside.items.items) ≡ Some c.args.mask = ap (λ v. place_where (has_handle_in c.args.handle) v.masks) c.self.view_is ∙ c.requires in
    let within = place_within plain_mask (has_handle_in c.args.handle) c.self.inside.items.items c.args.mask found in
    omega (arith, within, c.take_at-filter.ensures.len)

pub invariant_of-self : goal.invariant_of-self
invariant_of-self c =
    let found : place_where (has_handle_in c.args.handle) (map plain_mask c.self.inside.items.items) ≡ Some c.args.mask = ap (λ v. place_where (has_handle_in c.args.handle) v.masks) c.self.view_is ∙ c.requires in
    rw (c.sweep.ensures, c.take_at-filter.ensures.masks)
    (taken_handles (map plain_mask c.self.inside.items.items) c.self.inside.handles.items c.self.invariant c.args.handle c.args.mask found
    c.drop_handle.new.handles.items c.drop_handle.ensures.rising c.drop_handle.ensures.counts)
