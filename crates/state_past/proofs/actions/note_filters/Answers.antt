use Rattle.std.proofs.Common.{ℕ, List, sym, ap, subst, arith}
use Rattle.edit_effects.specs.OfEffects.Parts.{params_at}
use Rattle.slot_pasts.specs.Pasts.{stood}
use Rattle.state_past_laws.specs.OfChanges.Among.{Has}
use Rattle.state_past_laws.proofs.OfChanges.Among.{has_flat_map}
use Rattle.state_past.specs.declared.gone_filters.going.GoingFilter.{GoingFilter}
use Rattle.slot_pasts.specs.Serials.{past_at}
use Rattle.state_past.specs.Told.{actions_of_all}
use Rattle.state_past.proofs.Bringing.{numbers, brought_then, brought_keys, flat_more, take_whole, has_at, still_live}
use Rattle.state_past.proofs.actions.note_filters.Goals as goal

pub loop-filter-preserved : goal.loop-filter-preserved
loop-filter-preserved c = let inv = c.loop-filter.invariant in let g = c.filter-item.result in let xs = c.args.going.now in let k = c.loop-filter.filter-index in record {
  up_to = c.in_ok-note_lost.ensures.up_to;
  brought = λ s spells live. brought_keys c.args.from stood numbers (params_at s) _ _ (past_at c.args.actions.now) (past_at c.note_lost.new.actions)
      (flat_more (λ (f : GoingFilter). f.actions) xs k g (omega (arith, c.loop-filter-test.true)) (sym c.filter-item.is))
      (brought_then c.args.from stood numbers (params_at s) _ _ (past_at c.args.actions.now) (past_at c.loop-filter.actions) (past_at c.note_lost.new.actions) (inv.brought s spells live)
      (brought_keys c.args.from stood numbers (params_at s) _ _ (past_at c.loop-filter.actions) (past_at c.note_lost.new.actions) c.as_slice.ensures
      (c.in_ok-note_lost.ensures.brought s spells (λ n has. still_live s c.args.from (past_at c.args.actions.now) (past_at c.loop-filter.actions) _ (actions_of_all xs) live (inv.brought s spells live) n
      (has_flat_map (λ (f : GoingFilter). f.actions) xs g n (has_at xs k g (omega (arith, c.loop-filter-test.true)) (sym c.filter-item.is)) (subst (λ (ns : List ℕ). Has n ns) c.as_slice.ensures has))))));
}

pub returns-clause-brought : goal.returns-clause-brought
returns-clause-brought c = λ s spells live. let inv = c.loop-filter.invariant in
    brought_keys c.args.from stood numbers (params_at s) _ _ (past_at c.args.actions.now) (past_at c.loop-filter.actions)
    (ap actions_of_all (take_whole c.args.going.now c.loop-filter.filter-index (omega (arith, c.loop-filter-test.false)))) (inv.brought s spells live)
