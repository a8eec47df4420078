use Rattle.std.proofs.Common.{◌∙◌, ◌+◌, ◌++◌, ◌∷◌, [], List, Some, refl, sym, ap, subst, arith}
use Rattle.std.proofs.lemmas.Bool.{false≢true}
use Rattle.filter_state.specs.States.{no_state}
use Rattle.filter_state.specs.Journals.{state_from}
use Rattle.head_laws.proofs.ListedHeads.{heads_listed}
use Rattle.slot_pasts.specs.declared.past.Change.{Change}
use Rattle.slot_pasts.specs.Pasts.{value_at}
use Rattle.state_past_laws.proofs.Longer.{settled, before_it, from_it}
use Rattle.walk_rules.specs.Questions.{Head}
use Rattle.change_points.specs.Heads.{Heads, KnowsHeads}
use Rattle.change_points.specs.Changes.{AreChanges}
use Rattle.change_points.proofs.Changing.{still_kept, more_kept}
use Rattle.change_points.proofs.Knowing.{more_known}
use Rattle.change_points.proofs.heads.HookHeads.note.Goals.{then-not-stood_so+in_ok-tables+in_ok-put, else-not-stood_so}
use Rattle.change_points.proofs.heads.HookHeads.note.Goals as goal

pub invariant_of-self-2 : goal.invariant_of-self-2
invariant_of-self-2 c =
    let own = c.self.inside in
    elim c.if-not-stood_so.branch [
      | then-not-stood_so+in_ok-tables+in_ok-put w ↦
          subst (λ i. AreChanges i.before (own.point + 1) i.past) (sym w.self-inside-is)
          (subst (λ (past : List (Change (List Head))). AreChanges own.before (own.point + 1) past)
          (sym w.in_ok-put.ensures.put)
          (more_kept own.before own.point w.in_ok-tables.tables own.past c.self.invariant
          (λ same. false≢true (sym w.if-not-stood_so.true
          ∙ c.stood_so.ensures.same.1 (same ∙ ap Some w.in_ok-tables.ensures.tables)))))
      | else-not-stood_so w ↦
          subst (λ i. AreChanges i.before (own.point + 1) i.past) (sym w.self-inside-is)
          (still_kept own.before own.point own.past c.self.invariant)
    ]

pub returns-clause-knows : goal.returns-clause-knows
returns-clause-knows c = λ journal edit knows spells.
    let own = c.self.inside in
    let known = subst (λ (heads : Heads). KnowsHeads heads journal) (sym c.self.view_is) knows in
    let listed = heads_listed c.args.lists.now (state_from no_state (journal ++ (edit ∷ []))) own.hook
    c.stood_so.ensures.kept spells in
    elim c.if-not-stood_so.branch [
      | then-not-stood_so+in_ok-tables+in_ok-put w ↦
          subst (λ i. KnowsHeads (record {
            hook = i.hook;
            before = i.before;
            point = own.point + 1;
            past = i.past;
          }) (journal ++ (edit ∷ []))) (sym w.self-inside-is)
          (more_known own.hook own.before own.point own.past w.put.new.self journal edit c.self.invariant.since
          known
          (λ at less. ap (value_at at) w.in_ok-put.ensures.put
          ∙ before_it at (own.point + 1) w.in_ok-tables.tables own.past less)
          (λ at least. ap (value_at at) w.in_ok-put.ensures.put
          ∙ from_it at (own.point + 1) w.in_ok-tables.tables own.past least
          ∙ ap Some (w.in_ok-tables.ensures.tables ∙ listed)))
      | else-not-stood_so w ↦
          subst (λ i. KnowsHeads (record {
            hook = i.hook;
            before = i.before;
            point = own.point + 1;
            past = i.past;
          }) (journal ++ (edit ∷ []))) (sym w.self-inside-is)
          (more_known own.hook own.before own.point own.past own.past journal edit c.self.invariant.since known
          (λ at less. refl)
          (λ at least. settled own.point at own.past c.self.invariant.up_to (omega (arith, least))
          ∙ c.stood_so.ensures.same.0 w.if-not-stood_so.false ∙ ap Some listed))
    ]
