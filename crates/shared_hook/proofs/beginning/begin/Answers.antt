use Rattle.std.proofs.Common.{◌≡◌, ◌∙◌, Ok, sym, subst, arith}
use Rattle.std.proofs.lemmas.Result.{err_from_is_err_and}
use Rattle.filter_state.specs.Steps.{step}
use Rattle.filter_lists.specs.Spells.{Spells}
use Rattle.hook_lists.specs.declared.kept.Kept.{Kept}
use Rattle.filter_state.specs.declared.edit.Edit.{Edit}
use Rattle.hook_store_law.specs.OfEdits.Premises.{now, next}
use Rattle.desk_actions.specs.OfLedgers.Kept.{commits}
use Rattle.desk_parts.specs.declared.parts.Parts.{Parts}
use Rattle.desk_parts.specs.Desk.{IsDesk}
use Rattle.desk_needs.proofs.OfRoom.Lines.{few_made}
use Rattle.shared_hook.specs.Begun.{IsBegun}
use Rattle.shared_hook.proofs.Beginnings.{roomier_desk, accepted_of, wants_memory}
use Rattle.shared_hook.proofs.beginning.begin.Goals as goal

pub of-requires-clause-accepted : goal.of-requires-clause-accepted
of-requires-clause-accepted c = let was = c.args.parts.now in let told = c.in_ok-prepared.ensures in
    let it = accepted_of c.in_ok-prepared.prepared was c.args.edit.now c.requires.desk c.requires.line (told.prepared (now (commits was.ledger)) c.requires.desk.whole.spells) in (_, it.0, it.1)

pub returns-in-Err-clause-desk : goal.returns-in-Err-clause-desk
returns-in-Err-clause-desk c = subst IsDesk (sym c.in-Err.ensures.same) (roomier_desk c.args.parts.now c.prepare.new.self c.requires.desk c.prepare.ensures.stays)

pub returns-in-Err-clause-refused : goal.returns-in-Err-clause-refused
returns-in-Err-clause-refused c = λ refusal is. let same : c.from.result ≡ refusal = cc is in let told = c.in_ok-prepared.ensures in
    wants_memory c.in_ok-prepared.prepared refusal _ (told.prepared (now (commits c.args.parts.now.ledger)) c.requires.desk.whole.spells) (sym same ∙ c.from.ensures)

pub needs-needs-requires-clause-few : goal.needs-needs-requires-clause-few
needs-needs-requires-clause-few c = let was = c.args.parts.now in let told = c.in_ok-prepared.ensures in
    let it = accepted_of c.in_ok-prepared.prepared was c.args.edit.now c.requires.desk c.requires.line (told.prepared (now (commits was.ledger)) c.requires.desk.whole.spells) in
    let made_is = c.made.ensures (now (commits was.ledger)) _ it.0 (subst (λ (l : Kept). Spells l (now (commits was.ledger))) (sym told.ready.0) (roomier_desk was c.prepare.new.self c.requires.desk c.prepare.ensures.stays).whole.spells)
    (subst (λ (y : Edit). step (now (commits was.ledger)) y ≡ Ok (next (commits was.ledger) c.args.edit.now, it.0)) (sym told.ready.1) it.1.steps) in
    let few = few_made _ _ _ _ c.requires.line it.1.steps in omega (arith, made_is, few)

pub returns-clause-desk : goal.returns-clause-desk
returns-clause-desk c = subst IsDesk (sym c.in-Ok.ensures.same) (roomier_desk c.args.parts.now c.prepare.new.self c.requires.desk c.prepare.ensures.stays)

pub returns-clause-begun : goal.returns-clause-begun
returns-clause-begun c = let was = c.args.parts.now in let told = c.in_ok-prepared.ensures in
    let it = accepted_of c.in_ok-prepared.prepared was c.args.edit.now c.requires.desk c.requires.line (told.prepared (now (commits was.ledger)) c.requires.desk.whole.spells) in
    let made_is = c.made.ensures (now (commits was.ledger)) _ it.0 (subst (λ (l : Kept). Spells l (now (commits was.ledger))) (sym told.ready.0) (roomier_desk was c.prepare.new.self c.requires.desk c.prepare.ensures.stays).whole.spells)
    (subst (λ (y : Edit). step (now (commits was.ledger)) y ≡ Ok (next (commits was.ledger) c.args.edit.now, it.0)) (sym told.ready.1) it.1.steps) in
    subst (λ (p : Parts). IsBegun p c.args.edit.now (record { prepared = c.in_ok-prepared.prepared; plan = c.in-Ok.plan; needs = c.needs-needs.result })) (sym c.in-Ok.ensures.same) (record {
      done = it.0;
      accepted = it.1;
      ready = sym told.ready.0;
      edit = told.ready.1;
      plan = c.in-Ok.ensures.plan;
      needs = c.needs-needs.ensures.needs _ _ _ _ _ it.1 c.in-Ok.ensures.plan (omega (arith, made_is));
    })
