use Rattle.std.proofs.Common.{◌==◌, sym, eqb-true, eq-eqb}
use Rattle.edit_effects.specs.OfEffects.Parts.{params_at}
use Rattle.slot_pasts.specs.Pasts.{stood}
use Rattle.slot_pasts.specs.Serials.{past_at}
use Rattle.state_past.proofs.Bringing.{on_ok, brought_put}
use Rattle.state_past.proofs.actions.note_action.Goals as goal

pub returns : goal.returns
returns c = λ s spells. on_ok _ _ c.put.result (λ told. brought_put c.args.from stood (params_at s) c.args.serial (λ k. k == c.args.serial) c.params_of-params.result (past_at c.args.actions.now) (past_at c.put.new.self)
    (λ k same. sym (eqb-true k c.args.serial same)) (λ k same. eq-eqb k c.args.serial (sym same)) c.requires told (c.params_of-params.ensures s spells)) c.put.ensures
