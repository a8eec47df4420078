use Rattle.std.proofs.Common.{◌∙◌, refl, sym, inl}
use Rattle.filter_state.specs.States.{State}
use Rattle.hook_lists.specs.States.{state_of}
use Rattle.state_laws.proofs.OfOrder.States.{same_state_refl}
use Rattle.edit_effects.specs.OfEffects.Parts.{params_at}
use Rattle.slot_pasts.specs.Pasts.{stood}
use Rattle.slot_pasts.specs.Serials.{past_at}
use Rattle.state_past.proofs.Bringing.{on_ok, brought_up_to, brought_still}
use Rattle.state_past.proofs.actions.note_one_lost.Goals as goal

pub returns-in-Some-clause-brought : goal.returns-in-Some-clause-brought
returns-in-Some-clause-brought c = λ s spells live. brought_still c.args.from stood (params_at s) c.args.serial (past_at c.args.actions.now) c.requires
    (live c.args.serial (inl refl) (λ none. cc (sym c.in-Some.is ∙ c.params_of.ensures s spells ∙ none)))

pub returns-in-None-clause-up_to : goal.returns-in-None-clause-up_to
returns-in-None-clause-up_to c = let t : State = state_of c.args.lists.now in
    on_ok _ _ c.note_action.result (λ brought. brought_up_to c.args.from stood (params_at t) _ (past_at c.args.actions.now) (past_at c.note_action.new.actions) brought) (c.note_action.ensures t (same_state_refl t))

pub returns-in-None-clause-brought : goal.returns-in-None-clause-brought
returns-in-None-clause-brought c = λ s spells live. c.note_action.ensures s spells
