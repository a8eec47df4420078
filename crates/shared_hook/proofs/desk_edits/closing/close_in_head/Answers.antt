use Rattle.std.proofs.Common.{refl, ap}
use Rattle.desk_pools.specs.declared.pools.Pools.{Pools}
use Rattle.desk_pools.specs.Steps.{turned}
use Rattle.shared_hook.proofs.OfDeskEdits.Desked.{may_swap, desk_done}
use Rattle.shared_hook.proofs.OfDeskEdits.Closable.{closes_masks}
use Rattle.shared_hook.proofs.desk_edits.closing.close_in_head.Goals as goal

pub close_at-requires-clause-may : goal.close_at-requires-clause-may
close_at-requires-clause-may g c = let a = c.requires.ahead in may_swap c.args.parts.now g.E.EditName.edit a.0 a.1 c.args.parts.now.pools refl refl refl a.1.has.pools c.args.hook c.requires.free

pub close_at-requires-clause-closes : goal.close_at-requires-clause-closes
close_at-requires-clause-closes g c = let a = c.requires.ahead in closes_masks c.args.parts.now g.E.EditName.edit a.0 a.1 c.args.hook c.requires.takes

pub returns-clause-desk : goal.returns-clause-desk
returns-clause-desk g c = let a = c.requires.ahead in let was = c.args.parts.now in let told = c.close_at.ensures in
    desk_done was g.E.EditName.edit a.0 a.1 c.args.hook was.pools (turned c.args.hook was.pools) refl refl c.close_at.new.parts told.swapped told.masks told.sized told.pools
    (ap (λ (q : Pools). q.ingress) told.left.2.others) (ap (λ (q : Pools). q.egress) told.left.2.others) told.rest
