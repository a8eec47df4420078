use Rattle.std.proofs.Common.{sym, arith}
use Rattle.edit_effects.specs.OfEffects.Parts.{params_at}
use Rattle.slot_pasts.specs.Pasts.{stood}
use Rattle.slot_pasts.specs.Serials.{past_at}
use Rattle.state_past.proofs.Bringing.{numbers, brought_then, brought_keys, take_more, take_whole, has_get, still_live, one_live}
use Rattle.state_past.proofs.actions.note_lost.Goals as goal

pub loop-serial-preserved : goal.loop-serial-preserved
loop-serial-preserved c = let inv = c.loop-serial.invariant in let xs = c.args.serials.now in let k = c.loop-serial.serial-index in record {
  up_to = c.in_ok-note_one_lost.ensures.up_to;
  brought = λ s spells live. brought_keys c.args.from stood numbers (params_at s) _ _ (past_at c.args.actions.now) (past_at c.note_one_lost.new.actions)
      (sym (take_more xs k _ (omega (arith, c.loop-serial-test.true))))
      (brought_then c.args.from stood numbers (params_at s) _ _ (past_at c.args.actions.now) (past_at c.loop-serial.actions) (past_at c.note_one_lost.new.actions) (inv.brought s spells live)
      (c.in_ok-note_one_lost.ensures.brought s spells (one_live s c.args.from (past_at c.loop-serial.actions) xs _ (has_get xs k _ (omega (arith, c.loop-serial-test.true)))
      (still_live s c.args.from (past_at c.args.actions.now) (past_at c.loop-serial.actions) _ xs live (inv.brought s spells live)))));
}

pub returns-clause-brought : goal.returns-clause-brought
returns-clause-brought c = λ s spells live. let inv = c.loop-serial.invariant in
    brought_keys c.args.from stood numbers (params_at s) _ _ (past_at c.args.actions.now) (past_at c.loop-serial.actions)
    (take_whole c.args.serials.now c.loop-serial.serial-index (omega (arith, c.loop-serial-test.false))) (inv.brought s spells live)
