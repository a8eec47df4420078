use Rattle.std.proofs.Common.{◌≡◌, Some, ap, ◌∙◌, arith}
use Rattle.std.specs.Prelude.{map}
use Rattle.filter_tables.specs.Places.{place_where}
use Rattle.filter_tables.specs.SeenMask.{plain_mask}
use Rattle.filter_tables.specs.Changes.{has_handle_in}
use Rattle.filter_tables.proofs.Places.{place_within}
use Rattle.filter_tables.proofs.Moves.{moved_out_handles}
use Rattle.filter_tables.proofs.mask_lists.MaskLists.move_out.Goals as goal

pub sweep-requires : goal.sweep-requires
sweep-requires c =
    let found : place_where (has_handle_in c.args.filter.handle) (map plain_mask c.self.inside.items.items) ≡ Some c.args.from = ap (λ v. place_where (has_handle_in c.args.filter.handle) v.masks) c.self.view_is ∙ c.requires.from in
    let within = place_within plain_mask (has_handle_in c.args.filter.handle) c.self.inside.items.items c.args.from found in
    omega (arith, within, c.take_at-old.ensures.len, c.push_mask.ensures.len)

pub invariant_of-self : goal.invariant_of-self
invariant_of-self c =
    let found : place_where (has_handle_in c.args.filter.handle) (map plain_mask c.self.inside.items.items) ≡ Some c.args.from = ap (λ v. place_where (has_handle_in c.args.filter.handle) v.masks) c.self.view_is ∙ c.requires.from in
    rw (c.sweep.ensures, c.push_mask.ensures.masks, c.take_at-old.ensures.masks)
    (moved_out_handles (map plain_mask c.self.inside.items.items) c.self.inside.handles.items c.args.from c.args.serial c.args.mask.words c.args.filter c.self.invariant found)
