use Rattle.filter_lists.proofs.OfAdding.Later.{kept_later}
use Rattle.filter_state.specs.Steps.{step}
use Rattle.hook_lists.specs.States.{state_of}
use Rattle.filter_lists.proofs.Stepping.{leads_to, planned_refused, accepted_done}
use Rattle.filter_lists.proofs.applying.apply_planned.Goals as goal

pub carry-requires-clause-kept : goal.carry-requires-clause-kept
carry-requires-clause-kept c = kept_later c.args.kept.now c.plan_for.new.kept c.plan_for.ensures.roomier c.requires.kept

pub carry-requires-clause-leads : goal.carry-requires-clause-leads
carry-requires-clause-leads c =
    let leads = leads_to c.plan_for.new.kept c.in-Ok.plan (step (state_of c.args.kept.now) c.args.edit.now) c.in-Ok.ensures.planned in
    (leads.next, leads.said, leads.leads)

pub returns-in-Ok : goal.returns-in-Ok
returns-in-Ok c =
    let stepped = step (state_of c.args.kept.now) c.args.edit.now in
    let leads = leads_to c.plan_for.new.kept c.in-Ok.plan stepped c.in-Ok.ensures.planned in
    accepted_done c.args.kept.now c.carry.new.kept c.carry.result leads.said leads.next stepped leads.is (c.carry.ensures leads.next leads.said leads.leads)

pub returns-in-Err : goal.returns-in-Err
returns-in-Err c =
    planned_refused c.args.kept.now c.plan_for.new.kept c.in-Err.refusal (step (state_of c.args.kept.now) c.args.edit.now) c.in-Err.ensures.planned c.plan_for.ensures.roomier
