use Rattle.std.proofs.Common.{◌≡◌, ◌∙◌, ℕ, List, inr, refl, sym, ap, subst, arith}
use Rattle.tc_base.specs.declared.hook.Hook.{Hook}
use Rattle.filter_state.specs.declared.edit.FilterLine.{FilterLine}
use Rattle.hook_store_law.specs.OfEdits.Premises.{now}
use Rattle.desk_actions.specs.OfLedgers.Kept.{commits}
use Rattle.desk_parts.specs.OfLineActions.Gone.{NamesGone}
use Rattle.desk_parts.specs.declared.ways.way.Way.TheVariants as ways
use Rattle.shared_hook.specs.OfDeskEdits.Spent.{needed}
use Rattle.shared_hook.proofs.OfBalance.Replaced.{to_other_mask}
use Rattle.shared_hook.specs.OfPlans.Plans.{IsOfLine}
use Rattle.shared_hook.proofs.OfPlans.Enough.{have_free, masks_free, head_free, way_needs, turned_low, all_done}
use Rattle.shared_hook.proofs.plans.replacing.with_other_mask.Goals as goal

pub give_other_mask-requires-clause-way : goal.give_other_mask-requires-clause-way
give_other_mask-requires-clause-way g c = let may = c.requires.may in let w = may.1.planned.is in let was = c.args.parts.now in let y = g.E.EditName.edit in
    let line = c.line_of-line.ensures w.line (subst (IsOfLine w.line) (sym c.requires.edit) (inr w.replaces.is)) in
    let hook : may.0 ≡ c.line_of-line.result.now.hook = w.on ∙ ap (λ (l : FilterLine). l.hook) (sym line) in
    (record { line = w.line; row = w.row; replaces = w.replaces; on = ap (λ (l : FilterLine). l.hook) line; other_mask = w.other_mask; mask = w.mask; target = w.target }, sym line)

pub give_other_mask-requires-clause-enough : goal.give_other_mask-requires-clause-enough
give_other_mask-requires-clause-enough g c = let may = c.requires.may in let w = may.1.planned.is in let was = c.args.parts.now in let y = g.E.EditName.edit in
    let line = c.line_of-line.ensures w.line (subst (IsOfLine w.line) (sym c.requires.edit) (inr w.replaces.is)) in
    let hook : may.0 ≡ c.line_of-line.result.now.hook = w.on ∙ ap (λ (l : FilterLine). l.hook) (sym line) in
    let needs = way_needs was y _ (ways.OtherMask may.0 c.args.slot c.args.count c.args.into c.args.others) _ may.1 ∙ ap (λ (hk : Hook). needed (commits was.ledger) y (ways.OtherMask hk c.args.slot c.args.count c.args.into c.args.others)) hook in
    have_free was y _ may.1.ready.enough needs

pub give_other_mask-requires-clause-heads : goal.give_other_mask-requires-clause-heads
give_other_mask-requires-clause-heads g c = let may = c.requires.may in let w = may.1.planned.is in let was = c.args.parts.now in let y = g.E.EditName.edit in
    let line = c.line_of-line.ensures w.line (subst (IsOfLine w.line) (sym c.requires.edit) (inr w.replaces.is)) in
    let hook : may.0 ≡ c.line_of-line.result.now.hook = w.on ∙ ap (λ (l : FilterLine). l.hook) (sym line) in
    let needs = way_needs was y _ (ways.OtherMask may.0 c.args.slot c.args.count c.args.into c.args.others) _ may.1 ∙ ap (λ (hk : Hook). needed (commits was.ledger) y (ways.OtherMask hk c.args.slot c.args.count c.args.into c.args.others)) hook in
    (masks_free was y _ may.1.ready.enough needs, head_free was y _ c.line_of-line.result.now.hook may.1.ready.enough needs refl)

pub returns-clause-done : goal.returns-clause-done
returns-clause-done g c = let may = c.requires.may in let w = may.1.planned.is in let was = c.args.parts.now in let y = g.E.EditName.edit in
    let line = c.line_of-line.ensures w.line (subst (IsOfLine w.line) (sym c.requires.edit) (inr w.replaces.is)) in
    let hook : may.0 ≡ c.line_of-line.result.now.hook = w.on ∙ ap (λ (l : FilterLine). l.hook) (sym line) in
    let needs = way_needs was y _ (ways.OtherMask may.0 c.args.slot c.args.count c.args.into c.args.others) _ may.1 ∙ ap (λ (hk : Hook). needed (commits was.ledger) y (ways.OtherMask hk c.args.slot c.args.count c.args.into c.args.others)) hook in
    let now_ = c.give_other_mask.new.parts in let told = c.give_other_mask.ensures in let at = c.line_of-line.result.now.hook in
    let names = subst (λ (l : List ℕ). NamesGone (now (commits was.ledger)) y l) (sym c.as_slice.ensures.value) may.1.planned.gone in
    let heads = turned_low at was.pools now_.pools told.places.0 told.places.1 in
    all_done was now_ y c.give_other_mask.result (needed (commits was.ledger) y (ways.OtherMask at c.args.slot c.args.count c.args.into c.args.others)) told.desk told.point told.journal told.done told.sheet needs
    (record {
      blocks = (let f = told.left.blocks.free in omega (arith, f));
      rows = (let f = told.rows.free in omega (arith, f));
      masks = (let f = told.masks.free in omega (arith, f));
      actions = (let f = told.left.actions.free in omega (arith, f));
      ingress = heads.0;
      egress = heads.1;
    })
    (λ all. to_other_mask was.pools now_.pools (commits was.ledger) (commits now_.ledger) _ y _ _ _ all may.1.ready.accepted names told.journal at c.args.slot c.args.count c.args.into c.args.others
    (record { line = w.line; row = w.row; replaces = w.replaces; on = ap (λ (l : FilterLine). l.hook) line; other_mask = w.other_mask; mask = w.mask; target = w.target }) told.left told.rows told.masks)
