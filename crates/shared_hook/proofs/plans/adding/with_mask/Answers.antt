use Rattle.std.proofs.Common.{◌≡◌, ◌∙◌, refl, true, sym, ap, subst, arith}
use Rattle.tc_base.specs.declared.hook.Hook.{Hook}
use Rattle.filter_state.specs.declared.edit.FilterLine.{FilterLine}
use Rattle.hook_store_law.specs.OfEdits.Premises.{now}
use Rattle.desk_pools.specs.Steps.{turned}
use Rattle.desk_actions.specs.OfLedgers.Kept.{commits}
use Rattle.desk_heads.specs.Handed.{idle_of}
use Rattle.desk_parts.specs.declared.ways.way.Way.TheVariants as ways
use Rattle.shared_hook.specs.OfDeskEdits.Spent.{needed}
use Rattle.shared_hook.proofs.OfBalance.Coming.{with}
use Rattle.shared_hook.specs.OfPlans.Plans.{IsOfLine}
use Rattle.shared_hook.proofs.OfPlans.Enough.{of_add, have_free, masks_free, head_free, way_needs, turned_low, all_done}
use Rattle.shared_hook.proofs.plans.adding.with_mask.Goals as goal

pub put_with_mask-requires-clause-way : goal.put_with_mask-requires-clause-way
put_with_mask-requires-clause-way g c = let it = c.requires.may.1.planned.is in
    let line = c.line_of-line.ensures it.line (subst (IsOfLine it.line) (sym c.requires.edit) (of_add (now (commits c.args.parts.now.ledger)) it.line _ it.add)) in
    (record { line = it.line; add = it.add; on = ap (λ (l : FilterLine). l.hook) line; none = it.none }, sym line)

pub put_with_mask-requires-clause-enough : goal.put_with_mask-requires-clause-enough
put_with_mask-requires-clause-enough g c = let may = c.requires.may in
    have_free c.args.parts.now _ _ may.1.ready.enough (way_needs c.args.parts.now _ _ (ways.WithMask may.0) _ may.1)

pub put_with_mask-requires-clause-heads : goal.put_with_mask-requires-clause-heads
put_with_mask-requires-clause-heads g c = let may = c.requires.may in let was = c.args.parts.now in let it = may.1.planned.is in
    let line = c.line_of-line.ensures it.line (subst (IsOfLine it.line) (sym c.requires.edit) (of_add (now (commits was.ledger)) it.line _ it.add)) in
    let hook : may.0 ≡ c.line_of-line.result.now.hook = it.on ∙ ap (λ (l : FilterLine). l.hook) (sym line) in
    let needs = way_needs was _ _ (ways.WithMask may.0) _ may.1 in
    (masks_free was _ _ may.1.ready.enough needs, subst (λ (hk : Hook). (idle_of hk was.pools).is_free ≡ true) hook (head_free was _ _ may.0 may.1.ready.enough needs refl))

pub returns-clause-done : goal.returns-clause-done
returns-clause-done g c = let was = c.args.parts.now in let now_ = c.put_with_mask.new.parts in let y = g.E.EditName.edit in let told = c.put_with_mask.ensures in
    let may = c.requires.may in let it = may.1.planned.is in let n = needed (commits was.ledger) y (ways.WithMask may.0) in
    let line = c.line_of-line.ensures it.line (subst (IsOfLine it.line) (sym c.requires.edit) (of_add (now (commits was.ledger)) it.line _ it.add)) in
    let hook : c.line_of-line.result.now.hook ≡ may.0 = ap (λ (l : FilterLine). l.hook) line ∙ sym it.on in
    let heads = turned_low may.0 was.pools now_.pools (told.places.0 ∙ ap (λ (hk : Hook). (turned hk was.pools).ingress) hook) (told.places.1 ∙ ap (λ (hk : Hook). (turned hk was.pools).egress) hook) in
    all_done was now_ y c.put_with_mask.result n told.desk told.point told.journal told.done told.sheet (way_needs was y _ (ways.WithMask may.0) _ may.1)
    (record {
      blocks = (let f = told.blocks.free in omega (arith, f));
      rows = (let f = told.rows.free in omega (arith, f));
      masks = (let f = told.masks.free in omega (arith, f));
      actions = (let f = told.actions.free in omega (arith, f));
      ingress = heads.0;
      egress = heads.1;
    })
    (λ all. with was.pools now_.pools (commits was.ledger) _ y _ _ all may.1.ready.accepted may.0 it told.blocks told.rows told.masks told.actions)
