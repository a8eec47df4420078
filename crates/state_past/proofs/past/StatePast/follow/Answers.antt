use Rattle.std.proofs.lemmas.Result.{err_from_is_err_and}
use Rattle.state_past.proofs.Followed.{refused_followed, unremembered, done_followed, remembered, slots_up_to, masks_up_to, actions_up_to}
use Rattle.filter_state.specs.Steps.{step}
use Rattle.state_past.proofs.past.StatePast.follow.Goals as goal

pub returns-in-Err-clause-step : goal.returns-in-Err-clause-step
returns-in-Err-clause-step c = λ s spells. refused_followed c.args.lists.now c.step.new.self c.in-Err.refusal (step s c.args.edit.now) (c.in-Err.ensures s spells)

pub remember-requires-clause-slots : goal.remember-requires-clause-slots
remember-requires-clause-slots c = slots_up_to c.args.self.now c.requires.remembers.0 c.requires.remembers.1

pub remember-requires-clause-masks : goal.remember-requires-clause-masks
remember-requires-clause-masks c = masks_up_to c.args.self.now c.requires.remembers.0 c.requires.remembers.1

pub remember-requires-clause-actions : goal.remember-requires-clause-actions
remember-requires-clause-actions c = actions_up_to c.args.self.now c.requires.remembers.0 c.requires.remembers.1

pub returns-clause-step : goal.returns-clause-step
returns-clause-step c = λ s spells. done_followed c.args.lists.now c.step.new.self c.in-Ok.done (step s c.args.edit.now) (c.in-Ok.ensures s spells)

pub returns-in_err-remember-clause-step : goal.returns-in_err-remember-clause-step
returns-in_err-remember-clause-step c = λ s spells.
    let refused = err_from_is_err_and c.from_residual-in_err-remember.result c.from_residual-in_err-remember.ensures.1 in
    rw (refused.1, refused.2) (unremembered c.args.lists.now c.step.new.self c.in-Ok.done (step s c.args.edit.now) (c.in-Ok.ensures s spells))

pub returns-clause-accepted : goal.returns-clause-accepted
returns-clause-accepted c = λ journal remembers spells.
    remembered c.args.self.now c.remember.new.self c.args.lists.now c.step.new.self c.args.edit.now c.in-Ok.done c.in_ok-before.before c.coming_in-coming.result journal remembers c.in_ok-before.ensures.kept c.requires.line
    spells c.in-Ok.ensures c.in_ok-before.ensures.going c.in_ok-before.ensures.named c.in_ok-before.ensures.made c.coming_in-coming.ensures.row
    c.remember.ensures.point c.in_ok-remember.ensures.slots c.in_ok-remember.ensures.masks c.in_ok-remember.ensures.actions
