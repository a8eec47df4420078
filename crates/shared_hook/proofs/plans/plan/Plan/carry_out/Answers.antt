use Rattle.std.proofs.Common.{◌≡◌, ◌∙◌, ◌⊎◌, inl, inr, length, refl, sym, ap, subst, arith}
use Rattle.filter_state.specs.declared.action_line.ActionLine.{ActionLine}
use Rattle.filter_state.specs.declared.edit.Edit.{Edit}
use Rattle.filter_state.specs.declared.edit.Edit.TheVariants as edits
use Rattle.filter_state.specs.States.{State}
use Rattle.hook_store_law.specs.OfEdits.Premises.{now}
use Rattle.desk_needs.specs.Needs.{nothing, needs_of}
use Rattle.desk_pools.specs.declared.pools.Pools.{Pools}
use Rattle.desk_actions.specs.Kinds.{IsMaking, IsChanging}
use Rattle.desk_actions.specs.OfLedgers.Kept.{commits}
use Rattle.desk_parts.specs.declared.parts.Parts.{Parts}
use Rattle.shared_hook.proofs.OfBalance.NoFilter.{marked, made, changed_one, deleted_one}
use Rattle.shared_hook.specs.OfPlans.Plans.{IsPlan}
use Rattle.shared_hook.proofs.OfPlans.Enough.{have_free, unturned_low, same_sheet, all_done}
use Rattle.shared_hook.proofs.OfPlans.Needing.{makings_need, changes_need}
use Rattle.shared_hook.proofs.plans.plan.Plan.carry_out.Goals as goal

of_making : (s : State) (line : ActionLine) (y : Edit) → IsMaking s line y → (y ≡ edits.ActionAdd line) ⊎ (y ≡ edits.ActionChange line)
of_making s line y (inl is) = inl is
of_making s line y (inr both) = inr both.0

said_of : (line : ActionLine) (y z : Edit) → z ≡ y → (y ≡ edits.ActionAdd line) ⊎ (y ≡ edits.ActionChange line) → (z ≡ edits.ActionAdd line) ⊎ (z ≡ edits.ActionChange line)
said_of line y z same (inl is) = inl (same ∙ is)
said_of line y z same (inr is) = inr (same ∙ is)

pub make_action-requires-clause-making : goal.make_action-requires-clause-making
make_action-requires-clause-making g c = let p = subst (IsPlan (commits c.args.parts.now.ledger) g.E.EditName.edit) c.in-MakeAction.is c.requires.plan in
    let line = c.action_of.ensures p.0 (said_of p.0 _ _ c.requires.edit (of_making (now (commits c.args.parts.now.ledger)) p.0 _ p.1)) in
    subst (λ (l : ActionLine). IsMaking (now (commits c.args.parts.now.ledger)) l g.E.EditName.edit) (sym line) p.1

pub make_action-requires-clause-enough : goal.make_action-requires-clause-enough
make_action-requires-clause-enough g c = let p = subst (IsPlan (commits c.args.parts.now.ledger) g.E.EditName.edit) c.in-MakeAction.is c.requires.plan in
    let free = have_free c.args.parts.now _ _ c.requires.ready.enough (sym (makings_need _ _ _ _ _ c.requires.ready.accepted p)) in
    let blocks = free.0 in let actions = free.2 in (omega (arith, blocks), omega (arith, actions))

pub change_action-requires-clause-changing : goal.change_action-requires-clause-changing
change_action-requires-clause-changing g c = let p = subst (IsPlan (commits c.args.parts.now.ledger) g.E.EditName.edit) c.in-ChangeAction.is c.requires.plan in
    let line = c.action_of-in-ChangeAction.ensures p.0 (inr (c.requires.edit ∙ p.1.0)) in
    subst (λ (l : ActionLine). IsChanging (now (commits c.args.parts.now.ledger)) l g.E.EditName.edit) (sym line) p.1

pub change_action-requires-clause-enough : goal.change_action-requires-clause-enough
change_action-requires-clause-enough g c = let p = subst (IsPlan (commits c.args.parts.now.ledger) g.E.EditName.edit) c.in-ChangeAction.is c.requires.plan in
    let free = have_free c.args.parts.now _ _ c.requires.ready.enough (sym (changes_need _ _ _ _ _ c.requires.ready.accepted p)) in
    let blocks = free.0 in omega (arith, blocks)

pub returns-in-Mark-clause-done : goal.returns-in-Mark-clause-done
returns-in-Mark-clause-done g c = let was = c.args.parts.now in let now_ = c.mark_edit.new.parts in let y = g.E.EditName.edit in let told = c.mark_edit.ensures in
    let p = subst (IsPlan (commits was.ledger) y) c.in-Mark.is c.requires.plan in let same = ap (λ (q : Parts). q.pools) told.rest in
    let heads = unturned_low was.pools now_.pools (needs_of (now (commits was.ledger)) y) (ap (λ (q : Pools). q.ingress) same) (ap (λ (q : Pools). q.egress) same) in
    all_done was now_ y c.mark_edit.result (needs_of (now (commits was.ledger)) y) told.desk told.point told.journal told.done (same_sheet _ _ told.sheet) refl
    (record {
      blocks = (let f = ap (λ (q : Pools). length q.blocks.free) same in omega (arith, f));
      rows = (let f = ap (λ (q : Pools). length q.rows.free) same in omega (arith, f));
      masks = (let f = ap (λ (q : Pools). length q.masks.free) same in omega (arith, f));
      actions = (let f = ap (λ (q : Pools). length q.actions.free) same in omega (arith, f));
      ingress = heads.0;
      egress = heads.1;
    })
    (λ all. marked was.pools now_.pools (commits was.ledger) _ y _ _ all c.requires.ready.accepted p same)

pub returns-in-MakeAction-clause-done : goal.returns-in-MakeAction-clause-done
returns-in-MakeAction-clause-done g c = let was = c.args.parts.now in let now_ = c.make_action.new.parts in let y = g.E.EditName.edit in let told = c.make_action.ensures in
    let p = subst (IsPlan (commits was.ledger) y) c.in-MakeAction.is c.requires.plan in
    let heads = unturned_low was.pools now_.pools (record nothing { blocks = 1; actions = 1 }) (ap (λ (q : Pools). q.ingress) told.free) (ap (λ (q : Pools). q.egress) told.free) in
    all_done was now_ y c.make_action.result (record nothing { blocks = 1; actions = 1 }) told.desk told.point told.journal told.done told.sheet
    (sym (makings_need _ _ _ _ _ c.requires.ready.accepted p))
    (record {
      blocks = (let f = told.blocks.free in omega (arith, f));
      rows = (let f = ap (λ (q : Pools). length q.rows.free) told.free in omega (arith, f));
      masks = (let f = ap (λ (q : Pools). length q.masks.free) told.free in omega (arith, f));
      actions = (let f = told.actions.free in omega (arith, f));
      ingress = heads.0;
      egress = heads.1;
    })
    (λ all. made was.pools now_.pools (commits was.ledger) _ y _ _ all c.requires.ready.accepted p.0 p.1 told.blocks told.actions told.free)

pub returns-in-ChangeAction-clause-done : goal.returns-in-ChangeAction-clause-done
returns-in-ChangeAction-clause-done g c = let was = c.args.parts.now in let now_ = c.change_action.new.parts in let y = g.E.EditName.edit in let told = c.change_action.ensures in
    let p = subst (IsPlan (commits was.ledger) y) c.in-ChangeAction.is c.requires.plan in
    let heads = unturned_low was.pools now_.pools (record nothing { blocks = 1; actions = 0 }) (ap (λ (q : Pools). q.ingress) told.free) (ap (λ (q : Pools). q.egress) told.free) in
    all_done was now_ y c.change_action.result (record nothing { blocks = 1; actions = 0 }) told.desk told.point told.journal told.done told.sheet
    (sym (changes_need _ _ _ _ _ c.requires.ready.accepted p))
    (record {
      blocks = (let f = told.blocks.free in omega (arith, f));
      rows = (let f = ap (λ (q : Pools). length q.rows.free) told.free in omega (arith, f));
      masks = (let f = ap (λ (q : Pools). length q.masks.free) told.free in omega (arith, f));
      actions = (let f = ap (λ (q : Pools). length q.actions.free) told.free in omega (arith, f));
      ingress = heads.0;
      egress = heads.1;
    })
    (λ all. changed_one was.pools now_.pools (commits was.ledger) _ y _ _ all c.requires.ready.accepted p.0 p.1 told.blocks told.free)

pub returns-in-ActionDel-clause-done : goal.returns-in-ActionDel-clause-done
returns-in-ActionDel-clause-done g c = let was = c.args.parts.now in let now_ = c.delete_action.new.parts in let y = g.E.EditName.edit in let told = c.delete_action.ensures in
    let is = sym c.requires.edit ∙ c.in-ActionDel.is in let n = needs_of (now (commits was.ledger)) y in
    let heads = unturned_low was.pools now_.pools n (ap (λ (q : Pools). q.ingress) told.free) (ap (λ (q : Pools). q.egress) told.free) in
    all_done was now_ y c.delete_action.result n told.desk told.point told.journal told.done (same_sheet _ _ told.sheet) refl
    (record {
      blocks = (let f = told.blocks.free in omega (arith, f));
      rows = (let f = ap (λ (q : Pools). length q.rows.free) told.free in omega (arith, f));
      masks = (let f = ap (λ (q : Pools). length q.masks.free) told.free in omega (arith, f));
      actions = (let f = told.actions.free in omega (arith, f));
      ingress = heads.0;
      egress = heads.1;
    })
    (λ all. deleted_one was.pools now_.pools (commits was.ledger) _ y _ _ all c.requires.ready.accepted c.in-ActionDel.kind c.in-ActionDel.index is told.blocks told.actions told.free)
