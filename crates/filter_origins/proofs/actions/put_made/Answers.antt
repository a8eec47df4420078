use Rattle.std.proofs.Common.{◌≡◌, ◌∙◌, ◌∷◌, ◌++◌, [], ℕ, suc, ◌+◌, ◌-◌, ◌≤◌, Some, ap, arith}
use Rattle.slot_pasts.specs.Pasts.{stood}
use Rattle.slot_pasts.specs.Serials.{past_at}
use Rattle.state_past.specs.Serials.{serials_from}
use Rattle.state_past.proofs.Bringing.{numbers, brought_none, brought_up_to, brought_then, brought_keys}
use Rattle.filter_origins.proofs.actions.put_made.Goals as goal

next_serial : (made serial : ℕ) → made ≤ serial → serials_from (made + 1) (serial - made) ++ ((serial + 1) ∷ []) ≡ serials_from (made + 1) (serial + 1 - made)
next_serial made serial least =
    let at : serial + 1 ≡ (made + 1) + (serial - made) = omega (arith, least) in
    let more : suc (serial - made) ≡ serial + 1 - made = omega (arith, least) in
    ap (λ (n : ℕ). serials_from (made + 1) (serial - made) ++ (n ∷ [])) at ∙ ap (serials_from (made + 1)) more

pub put_action-requires : goal.put_action-requires
put_action-requires c = let inv = c.loop-serial.invariant in
    brought_up_to c.args.by.edit stood (λ serial. Some c.args.by) _ (past_at c.args.actions.now) (past_at c.loop-serial.actions) inv.brought

pub loop-serial-init : goal.loop-serial-init
loop-serial-init c =
    let none : 0 ≡ c.args.made - c.args.made = omega arith in
    record {
      least = omega arith;
      most = omega arith;
      brought = brought_keys c.args.by.edit stood numbers (λ serial. Some c.args.by) [] _ (past_at c.args.actions.now) (past_at c.args.actions.now) (ap (serials_from (c.args.made + 1)) none)
          (brought_none c.args.by.edit stood (λ serial. Some c.args.by) (past_at c.args.actions.now) c.requires);
    }

pub loop-serial-preserved : goal.loop-serial-preserved
loop-serial-preserved c = let inv = c.loop-serial.invariant in
    let brought = brought_keys c.args.by.edit stood numbers (λ serial. Some c.args.by) _ _ (past_at c.args.actions.now) (past_at c.put_action.new.actions)
    (next_serial c.args.made c.loop-serial.serial inv.least)
    (brought_then c.args.by.edit stood numbers (λ serial. Some c.args.by) _ _ (past_at c.args.actions.now) (past_at c.loop-serial.actions) (past_at c.put_action.new.actions) inv.brought c.in_ok-put_action.ensures) in
    record {
      least = let low = inv.least in omega (arith, low);
      most = let low = inv.least in omega (arith, low, c.loop-serial-test.true);
      brought = brought;
    }

pub returns : goal.returns
returns c = let inv = c.loop-serial.invariant in
    let low = inv.least in let high = inv.most in
    let here : c.loop-serial.serial - c.args.made ≡ c.args.last - c.args.made = omega (arith, low, high, c.loop-serial-test.false) in
    brought_keys c.args.by.edit stood numbers (λ serial. Some c.args.by) _ _ (past_at c.args.actions.now) (past_at c.loop-serial.actions) (ap (serials_from (c.args.made + 1)) here) inv.brought
