use Rattle.std.proofs.Common.{List, None, refl, sym, subst}
use Rattle.filter_state.specs.States.{State}
use Rattle.hook_lists.specs.States.{state_of}
use Rattle.state_laws.proofs.OfOrder.States.{same_state_refl}
use Rattle.edit_effects.specs.OfEffects.Parts.{words_of, params_at}
use Rattle.slot_pasts.specs.Pasts.{stood}
use Rattle.slot_pasts.specs.Names.{past_of}
use Rattle.slot_pasts.specs.Serials.{past_at}
use Rattle.state_past.specs.declared.gone_filters.going.GoingFilter.{GoingFilter}
use Rattle.state_past.specs.Told.{AreLeft, StayLive, actions_of_all}
use Rattle.state_past.specs.Brought.{Brought}
use Rattle.state_past.specs.Changed.{SlotsChanged, MasksChanged}
use Rattle.state_past.proofs.Bringing.{on_ok, ok_told, numbers, brought_up_to, brought_then, brought_keys}
use Rattle.state_past.proofs.past.StatePast.remember.Goals as goal

pub put_slot-requires : goal.put_slot-requires
put_slot-requires c = brought_up_to c.args.self.now.point stood (λ name. None) _ (past_of c.args.self.now.slots) (past_of c.take_slots.new.slots) c.in_ok-take_slots.ensures

pub put_mask-requires : goal.put_mask-requires
put_mask-requires c = c.in_ok-note_masks.ensures.up_to

pub note_named-requires : goal.note_named-requires
note_named-requires c = c.in_ok-note_filters.ensures.up_to

pub note_made-requires : goal.note_made-requires
note_made-requires c = let t : State = state_of c.args.lists.now in
    brought_up_to c.args.self.now.point stood (params_at t) _ (past_at c.note_filters.new.actions) (past_at c.note_named.new.actions) (c.in_ok-note_named.ensures t (same_state_refl t))

pub returns-clause-slots : goal.returns-clause-slots
returns-clause-slots c = ok_told c.note_made.result (subst (λ (gs : List GoingFilter). SlotsChanged c.args.self.now.point gs c.args.coming.now (past_of c.args.self.now.slots) (past_of c.put_slot.new.slots)) c.as_slice-going.ensures.value
    (past_of c.take_slots.new.slots, c.in_ok-take_slots.ensures, c.in_ok-put_slot.ensures))

pub returns-clause-masks : goal.returns-clause-masks
returns-clause-masks c = λ t spells left. ok_told c.note_made.result (subst (λ (gs : List GoingFilter). MasksChanged t c.args.self.now.point gs c.args.coming.now (past_at c.args.self.now.masks) (past_at c.put_mask.new.masks)) c.as_slice-going.ensures.value
    (past_at c.note_masks.new.masks, c.in_ok-note_masks.ensures.brought (words_of t) t spells (subst (λ (gs : List GoingFilter). AreLeft t gs (words_of t)) (sym c.as_slice-going.ensures.value) left), c.in_ok-put_mask.ensures))

pub returns-clause-actions : goal.returns-clause-actions
returns-clause-actions c = λ t spells live. on_ok _ _ c.note_made.result (λ made. brought_keys c.args.self.now.point stood numbers (params_at t) _ _ (past_at c.args.self.now.actions) (past_at c.note_made.new.actions)
    refl
    (brought_then c.args.self.now.point stood numbers (params_at t) _ _ (past_at c.args.self.now.actions) (past_at c.note_named.new.actions) (past_at c.note_made.new.actions)
    (brought_then c.args.self.now.point stood numbers (params_at t) _ _ (past_at c.args.self.now.actions) (past_at c.note_filters.new.actions) (past_at c.note_named.new.actions) (subst (λ (gs : List GoingFilter). Brought c.args.self.now.point stood (params_at t) (actions_of_all gs) (past_at c.args.self.now.actions) (past_at c.note_filters.new.actions)) c.as_slice-going.ensures.value
    (c.in_ok-note_filters.ensures.brought t spells (subst (λ (gs : List GoingFilter). StayLive t c.args.self.now.point (past_at c.args.self.now.actions) (actions_of_all gs)) (sym c.as_slice-going.ensures.value) live))) (c.in_ok-note_named.ensures t spells))
    made)) (c.note_made.ensures t spells)
