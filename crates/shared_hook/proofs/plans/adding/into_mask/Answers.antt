use Rattle.std.proofs.Common.{length, sym, ap, subst, arith}
use Rattle.hook_store_law.specs.OfEdits.Premises.{now}
use Rattle.desk_pools.specs.declared.pools.Pools.{Pools}
use Rattle.desk_actions.specs.OfLedgers.Kept.{commits}
use Rattle.desk_parts.specs.declared.ways.way.Way.TheVariants as ways
use Rattle.shared_hook.specs.OfDeskEdits.Spent.{needed}
use Rattle.shared_hook.proofs.OfBalance.Coming.{into}
use Rattle.shared_hook.specs.OfPlans.Plans.{IsOfLine}
use Rattle.shared_hook.proofs.OfPlans.Enough.{of_add, have_free, way_needs, unturned_low, all_done}
use Rattle.shared_hook.proofs.plans.adding.into_mask.Goals as goal

pub put_into_mask-requires-clause-way : goal.put_into_mask-requires-clause-way
put_into_mask-requires-clause-way g c = let w = c.requires.may.planned.is in
    (w, sym (c.line_of-line.ensures w.line (subst (IsOfLine w.line) (sym c.requires.edit) (of_add (now (commits c.args.parts.now.ledger)) w.line _ w.add))))

pub put_into_mask-requires-clause-enough : goal.put_into_mask-requires-clause-enough
put_into_mask-requires-clause-enough g c = let way = ways.IntoMask c.args.slot c.args.count in
    have_free c.args.parts.now _ _ c.requires.may.ready.enough (way_needs c.args.parts.now _ _ way _ c.requires.may)

pub returns-clause-done : goal.returns-clause-done
returns-clause-done g c = let was = c.args.parts.now in let now_ = c.put_into_mask.new.parts in let y = g.E.EditName.edit in let told = c.put_into_mask.ensures in
    let way = ways.IntoMask c.args.slot c.args.count in let may = c.requires.may in let n = needed (commits was.ledger) y way in
    let heads = unturned_low was.pools now_.pools n (ap (λ (p : Pools). p.ingress) told.pools) (ap (λ (p : Pools). p.egress) told.pools) in
    all_done was now_ y c.put_into_mask.result n told.desk told.point told.journal told.done told.sheet (way_needs was y _ way _ may)
    (record {
      blocks = (let f = told.blocks.free in omega (arith, f));
      rows = (let f = told.rows.free in omega (arith, f));
      masks = (let f = ap (λ (p : Pools). length p.masks.free) told.pools in omega (arith, f));
      actions = (let f = told.actions.free in omega (arith, f));
      ingress = heads.0;
      egress = heads.1;
    })
    (λ all. into was.pools now_.pools (commits was.ledger) _ y _ _ all may.ready.accepted c.args.slot c.args.count may.planned.is told.blocks told.rows told.actions told.pools)
