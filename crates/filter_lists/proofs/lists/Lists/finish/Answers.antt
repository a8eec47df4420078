use Rattle.std.proofs.Common.{sym, ap, subst, ◌∙◌}
use Rattle.filter_state.specs.Steps.{step}
use Rattle.filter_lists.specs.Spells.{Spells}
use Rattle.filter_lists.specs.Edits.{IsFinished}
use Rattle.filter_lists.specs.Ready.{Ready}
use Rattle.filter_lists.proofs.Stepping.{leads_here, still_kept, all_finished}
use Rattle.filter_lists.proofs.lists.Lists.finish.Goals as goal

pub carry-requires-clause-leads : goal.carry-requires-clause-leads
carry-requires-clause-leads c =
    let same = c.self.view_is ∙ c.requires ∙ sym (ap (λ (r : Ready). r.lists) c.prepared.view_is) in
    let leads = leads_here c.self.inside.kept c.prepared.inside.lists.value c.prepared.inside.plan c.prepared.inside.edit.value same c.prepared.invariant.1 in
    (leads.next, leads.said, leads.leads)

pub invariant_of-self : goal.invariant_of-self
invariant_of-self c =
    let same = c.self.view_is ∙ c.requires ∙ sym (ap (λ (r : Ready). r.lists) c.prepared.view_is) in
    let edit = c.prepared.inside.edit.value in
    let leads = leads_here c.self.inside.kept c.prepared.inside.lists.value c.prepared.inside.plan edit same c.prepared.invariant.1 in
    still_kept c.self.inside.kept c.carry.new.kept c.carry.result leads.said leads.next edit c.self.invariant c.prepared.invariant.0 leads.is
    (c.carry.ensures leads.next leads.said leads.leads)

pub returns : goal.returns
returns c = λ s spells.
    let same = c.self.view_is ∙ c.requires ∙ sym (ap (λ (r : Ready). r.lists) c.prepared.view_is) in
    let edit = c.prepared.inside.edit.value in
    let leads = leads_here c.self.inside.kept c.prepared.inside.lists.value c.prepared.inside.plan edit same c.prepared.invariant.1 in
    subst (λ e. IsFinished c.carry.new.kept c.carry.result (step s e)) (ap (λ (r : Ready). r.edit) c.prepared.view_is)
    (all_finished c.self.inside.kept c.carry.new.kept c.carry.result leads.said leads.next edit s c.self.invariant
    (subst (λ k. Spells k s) (sym c.self.view_is) spells) leads.is (c.carry.ensures leads.next leads.said leads.leads))
