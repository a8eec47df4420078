use Rattle.std.proofs.Common.{sym, arith}
use Rattle.std.specs.Prelude.{nat_eq}
use Rattle.visit_room.specs.declared.names.ActionName.{ActionName}
use Rattle.fate_search.proofs.Alike.{all_same, one_differs, differ}
use Rattle.fate_search.proofs.same_answers.are_same_actions.Goals as goal

pub returns-then-actions-place : goal.returns-then-actions-place
returns-then-actions-place c =
    let long = c.loop-place.invariant.long in
    sym (one_differs nat_eq (λ (name : ActionName). name.serial) c.args.actions.now c.args.others.now c.loop-place.place _ _
    (omega arith) (omega (arith, long)) (differ _ _ c.if-actions-place.true))

pub returns : goal.returns
returns c =
    let most = c.loop-place-test.false in
    sym (all_same nat_eq (λ (name : ActionName). name.serial) c.args.actions.now c.args.others.now c.loop-place.invariant.long
    (λ k d less. c.loop-place.invariant.same k d (omega (arith, less, most))))
