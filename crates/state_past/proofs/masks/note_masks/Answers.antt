use Rattle.std.proofs.Common.{sym, ap, arith}
use Rattle.filter_state.specs.States.{State}
use Rattle.hook_lists.specs.States.{state_of}
use Rattle.state_laws.proofs.OfOrder.States.{same_state_refl}
use Rattle.state_past.specs.declared.gone_filters.going.GoingFilter.{GoingFilter}
use Rattle.slot_pasts.specs.Serials.{past_at}
use Rattle.state_past.specs.Told.{words_told, words_left, masks_of}
use Rattle.state_past.proofs.Bringing.{numbers, brought_up_to, brought_then, brought_keys, brought_value, map_more, take_whole, has_at}
use Rattle.state_past.proofs.masks.note_masks.Goals as goal

pub loop-filter-preserved : goal.loop-filter-preserved
loop-filter-preserved c = let g = c.filter-item.result in let t : State = state_of c.args.lists.now in let inv = c.loop-filter.invariant in record {
  up_to = brought_up_to c.args.from words_told (λ mask. words_left t g) _ (past_at c.loop-filter.masks) (past_at c.note_mask.new.masks) (c.in_ok-note_mask.ensures t (same_state_refl t));
  brought = λ words s spells left. brought_keys c.args.from words_told numbers words _ _ (past_at c.args.masks.now) (past_at c.note_mask.new.masks)
      (map_more (λ (f : GoingFilter). f.mask) c.args.going.now c.loop-filter.filter-index g (omega (arith, c.loop-filter-test.true)) (sym c.filter-item.is))
      (brought_then c.args.from words_told numbers words _ _ (past_at c.args.masks.now) (past_at c.loop-filter.masks) (past_at c.note_mask.new.masks) (inv.brought words s spells left)
      (brought_value c.args.from words_told (λ mask. words_left s g) words g.mask (past_at c.loop-filter.masks) (past_at c.note_mask.new.masks)
      (left g (has_at c.args.going.now c.loop-filter.filter-index g (omega (arith, c.loop-filter-test.true)) (sym c.filter-item.is))) (c.in_ok-note_mask.ensures s spells)));
}

pub returns-clause-brought : goal.returns-clause-brought
returns-clause-brought c = λ words s spells left. let inv = c.loop-filter.invariant in
    brought_keys c.args.from words_told numbers words _ _ (past_at c.args.masks.now) (past_at c.loop-filter.masks)
    (ap masks_of (take_whole c.args.going.now c.loop-filter.filter-index (omega (arith, c.loop-filter-test.false)))) (inv.brought words s spells left)
