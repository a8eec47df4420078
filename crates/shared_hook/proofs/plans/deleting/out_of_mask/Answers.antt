use Rattle.std.proofs.Common.{◌∙◌, ℕ, List, length, sym, ap, subst, arith}
use Rattle.hook_store_law.specs.OfEdits.Premises.{now}
use Rattle.desk_pools.specs.declared.pools.Pools.{Pools}
use Rattle.desk_actions.specs.OfLedgers.Kept.{commits}
use Rattle.desk_parts.specs.OfLineActions.Gone.{NamesGone}
use Rattle.desk_parts.specs.declared.ways.way.Way.TheVariants as ways
use Rattle.shared_hook.specs.OfDeskEdits.Spent.{needed}
use Rattle.shared_hook.proofs.OfBalance.Removed.{out}
use Rattle.shared_hook.proofs.OfPlans.Enough.{have_free, way_needs, unturned_low, all_done}
use Rattle.shared_hook.proofs.plans.deleting.out_of_mask.Goals as goal

pub handle_of-handle-requires : goal.handle_of-handle-requires
handle_of-handle-requires g c = let w = c.requires.may.planned.is in (w.hook, w.protocol, w.chain, w.pref, w.handle, c.requires.edit ∙ w.is)

pub take_out_of_mask-requires-clause-way : goal.take_out_of_mask-requires-clause-way
take_out_of_mask-requires-clause-way g c = let w = c.requires.may.planned.is in
    (w, sym (c.handle_of-handle.ensures w.hook w.protocol w.chain w.pref w.handle (c.requires.edit ∙ w.is)))

pub take_out_of_mask-requires-clause-enough : goal.take_out_of_mask-requires-clause-enough
take_out_of_mask-requires-clause-enough g c = let way = ways.OutOfMask c.args.slot c.args.count c.args.later in
    have_free c.args.parts.now _ _ c.requires.may.ready.enough (way_needs c.args.parts.now _ _ way _ c.requires.may)

pub returns-clause-done : goal.returns-clause-done
returns-clause-done g c = let was = c.args.parts.now in let now_ = c.take_out_of_mask.new.parts in let y = g.E.EditName.edit in let told = c.take_out_of_mask.ensures in
    let way = ways.OutOfMask c.args.slot c.args.count c.args.later in let may = c.requires.may in let n = needed (commits was.ledger) y way in
    let heads = unturned_low was.pools now_.pools n (ap (λ (p : Pools). p.ingress) told.pools) (ap (λ (p : Pools). p.egress) told.pools) in
    let names = subst (λ (l : List ℕ). NamesGone (now (commits was.ledger)) y l) (sym c.as_slice.ensures.value) may.planned.gone in
    all_done was now_ y c.take_out_of_mask.result n told.desk told.point told.journal told.done told.sheet (way_needs was y _ way _ may)
    (record {
      blocks = (let f = told.left.blocks.free in omega (arith, f));
      rows = (let f = told.rows.free in omega (arith, f));
      masks = (let f = ap (λ (p : Pools). length p.masks.free) told.pools in omega (arith, f));
      actions = (let f = told.left.actions.free in omega (arith, f));
      ingress = heads.0;
      egress = heads.1;
    })
    (λ all. out was.pools now_.pools (commits was.ledger) (commits now_.ledger) _ y _ _ _ all may.ready.accepted names told.journal c.args.slot c.args.count c.args.later may.planned.is told.left told.rows told.pools)
