use Rattle.std.specs.Prelude.{map}
use Rattle.filter_tables.specs.SeenMask.{plain_mask}
use Rattle.filter_tables.proofs.Moves.{acting_handles}
use Rattle.filter_tables.proofs.mask_lists.MaskLists.set_actions.Goals as goal

pub invariant_of-self : goal.invariant_of-self
invariant_of-self c =
    rw c.act_at.ensures.masks
    (acting_handles (map plain_mask c.self.inside.items.items) c.self.inside.handles.items c.args.mask c.args.handle c.args.actions c.self.invariant)
