use Rattle.std.proofs.Common.{◌≡◌, ◌∙◌, ℕ, List, length, refl, sym, ap, subst, arith}
use Rattle.tc_base.specs.declared.hook.Hook.{Hook}
use Rattle.tc_base.specs.declared.hook.Hook.TheVariants.{Ingress, Egress}
use Rattle.hook_store_law.specs.OfEdits.Premises.{now}
use Rattle.desk_pools.specs.declared.pools.Pools.{Pools}
use Rattle.desk_pools.specs.Steps.{turned}
use Rattle.desk_actions.specs.OfLedgers.Kept.{commits}
use Rattle.desk_parts.specs.OfLineActions.Gone.{NamesGone}
use Rattle.desk_parts.specs.declared.ways.way.Way.TheVariants as ways
use Rattle.shared_hook.specs.OfDeskEdits.Spent.{needed}
use Rattle.shared_hook.proofs.OfBalance.Removed.{closes}
use Rattle.shared_hook.proofs.OfPlans.Enough.{head_free, way_needs, turned_low, all_done}
use Rattle.shared_hook.proofs.plans.deleting.with_masks.Goals as goal

pub take_masks-requires-clause-free : goal.take_masks-requires-clause-free
take_masks-requires-clause-free g c = head_free c.args.parts.now _ _ c.args.hook c.requires.may.ready.enough (way_needs c.args.parts.now _ _ (ways.Closes c.args.hook) _ c.requires.may) refl

turned_rest : (hook : Hook) (p : Pools) → (length (turned hook p).blocks.free ≡ length p.blocks.free) × (length (turned hook p).rows.free ≡ length p.rows.free)
    × (length (turned hook p).masks.free ≡ length p.masks.free) × (length (turned hook p).actions.free ≡ length p.actions.free)
turned_rest Ingress p = (refl, refl, refl, refl)
turned_rest Egress p = (refl, refl, refl, refl)

pub returns-clause-done : goal.returns-clause-done
returns-clause-done g c = let was = c.args.parts.now in let now_ = c.take_masks.new.parts in let y = g.E.EditName.edit in let told = c.take_masks.ensures in
    let hook = c.args.hook in let may = c.requires.may in let n = needed (commits was.ledger) y (ways.Closes hook) in
    let between = told.left.0 in let left = told.left.3 in let dropped = told.left.4 in let same = turned_rest hook was.pools in
    let names = subst (λ (l : List ℕ). NamesGone (now (commits was.ledger)) y l) (sym c.as_slice.ensures.value) may.planned.gone in
    let heads = turned_low hook was.pools now_.pools (ap (λ (p : Pools). p.ingress) dropped.rest ∙ ap (λ (p : Pools). p.ingress) left.others)
    (ap (λ (p : Pools). p.egress) dropped.rest ∙ ap (λ (p : Pools). p.egress) left.others) in
    all_done was now_ y c.take_masks.result n told.desk told.point told.journal told.done told.sheet (way_needs was y _ (ways.Closes hook) _ may)
    (record {
      blocks = (let f = ap length dropped.free_blocks in let e = left.blocks.free in let s = same.0 in omega (arith, f, e, s));
      rows = (let f = ap (λ (p : Pools). length p.rows.free) dropped.rest in let e = left.rows.free in let s = same.1 in omega (arith, f, e, s));
      masks = (let f = ap (λ (p : Pools). length p.masks.free) dropped.rest in let e = left.masks.free in let s = same.2 in omega (arith, f, e, s));
      actions = (let f = ap length dropped.free_slots in let e = ap (λ (p : Pools). length p.actions.free) left.others in let s = same.3 in omega (arith, f, e, s));
      ingress = heads.0;
      egress = heads.1;
    })
    (λ all. closes was.pools now_.pools (commits was.ledger) (commits now_.ledger) _ y _ _ _ all may.ready.accepted names told.journal between _ _ _ told.left.1 hook may.planned.is told.left.2 left dropped)
