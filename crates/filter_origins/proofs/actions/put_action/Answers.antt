use Rattle.std.proofs.Common.{◌==◌, Some, refl, sym, eqb-true, eq-eqb}
use Rattle.slot_pasts.specs.Pasts.{stood}
use Rattle.slot_pasts.specs.Serials.{past_at}
use Rattle.state_past.proofs.Bringing.{on_ok, brought_put}
use Rattle.filter_origins.proofs.actions.put_action.Goals as goal

pub returns : goal.returns
returns c = on_ok _ _ c.put.result (λ told. brought_put c.args.by.edit stood (λ serial. Some c.args.by) c.args.serial (λ k. k == c.args.serial) (Some c.args.by) (past_at c.args.actions.now) (past_at c.put.new.self)
    (λ k same. sym (eqb-true k c.args.serial same)) (λ k same. eq-eqb k c.args.serial (sym same)) c.requires told refl) c.put.ensures
