use Rattle.std.proofs.Common.{◌≡◌, ◌∙◌, ◌∷◌, ◌++◌, [], ℕ, suc, ◌+◌, ◌-◌, ◌≤◌, ap, arith}
use Rattle.act_kinds.specs.declared.params.Params.{Params}
use Rattle.act_registry.specs.Kept as registries
use Rattle.filter_state.specs.States.{State}
use Rattle.hook_lists.specs.States.{state_of}
use Rattle.state_laws.proofs.OfOrder.States.{same_state_refl}
use Rattle.edit_effects.specs.OfEffects.Parts.{params_at}
use Rattle.slot_pasts.specs.Pasts.{stood}
use Rattle.slot_pasts.specs.Serials.{past_at}
use Rattle.state_past.specs.Serials.{serials_from}
use Rattle.state_past.proofs.Bringing.{numbers, brought_up_to, brought_then, brought_keys}
use Rattle.state_past.proofs.actions.note_made.Goals as goal

next_serial : (made serial : ℕ) → made ≤ serial → serials_from (made + 1) (serial - made) ++ ((serial + 1) ∷ []) ≡ serials_from (made + 1) (serial + 1 - made)
next_serial made serial least =
    let at : serial + 1 ≡ (made + 1) + (serial - made) = omega (arith, least) in
    let more : suc (serial - made) ≡ serial + 1 - made = omega (arith, least) in
    ap (λ (n : ℕ). serials_from (made + 1) (serial - made) ++ (n ∷ [])) at ∙ ap (serials_from (made + 1)) more

pub loop-serial-preserved : goal.loop-serial-preserved
loop-serial-preserved c = let inv = c.loop-serial.invariant in
    let brought = λ (s : State) (spells : _). brought_keys c.args.from stood numbers (params_at s) _ _ (past_at c.args.actions.now) (past_at c.note_action.new.actions)
    (next_serial c.args.made c.loop-serial.serial inv.least)
    (brought_then c.args.from stood numbers (params_at s) _ _ (past_at c.args.actions.now) (past_at c.loop-serial.actions) (past_at c.note_action.new.actions) (inv.brought s spells) (c.in_ok-note_action.ensures s spells)) in
    let t : State = state_of c.args.lists.now in
    record {
      least = let low = inv.least in omega (arith, low);
      most = let low = inv.least in omega (arith, low, c.loop-serial-test.true);
      up_to = brought_up_to c.args.from stood (params_at t) _ (past_at c.args.actions.now) (past_at c.note_action.new.actions) (brought t (same_state_refl t));
      brought = brought;
    }

pub returns : goal.returns
returns c = λ s spells. let inv = c.loop-serial.invariant in
    let low = inv.least in let high = inv.most in
    let here : c.loop-serial.serial - c.args.made ≡ c.made-last.result - c.args.made = omega (arith, low, high, c.loop-serial-test.false) in
    let all : c.loop-serial.serial - c.args.made ≡ c.args.lists.now.actions.made - c.args.made =
    here ∙ ap (λ (n : ℕ). n - c.args.made) (c.made-last.ensures ∙ ap (λ (r : registries.Kept Params). r.made) c.actions.ensures.actions) in
    brought_keys c.args.from stood numbers (params_at s) _ _ (past_at c.args.actions.now) (past_at c.loop-serial.actions) (ap (serials_from (c.args.made + 1)) all) (inv.brought s spells)
