use Rattle.std.proofs.Common.{◌∙◌, ◌++◌, List, refl, ap, subst, arith}
use Rattle.act_kinds.specs.declared.params.Params.{Params}
use Rattle.act_registry.specs.Kept.{Kept as Registered}
use Rattle.hook_lists.specs.declared.kept.Kept.{Kept}
use Rattle.hook_lists.specs.States.{AreKept}
use Rattle.action_plan.specs.Entries.{actions_of}
use Rattle.pin_store.specs.Calls.{seen_by}
use Rattle.round_terms.specs.MadeAction.{MadeAction}
use Rattle.job_rounds.proofs.OfRoundState.Counts.{may_step, IsNamed, few_names, names_behind}
use Rattle.job_rounds.proofs.round_state.meeting.apply_named.Goals as goal

pub try_apply-requires-clause-may : goal.try_apply-requires-clause-may
try_apply-requires-clause-may c = may_step (seen_by c.args.desk.now.place) c.args.desk.now.lists c.lists.ensures.spells c.requires.short

pub push_new_names-requires-clause-room : goal.push_new_names-requires-clause-room
push_new_names-requires-clause-room c =
    let g = seen_by c.args.desk.now.place in
    let h = seen_by c.try_apply.new.self.place in
    let names = actions_of c.entries.result.now in
    let is = c.in-Ok.ensures.applied c.in-Ok.done refl in
    let named : IsNamed c.args.desk.now.lists c.try_apply.new.self.lists c.made-before.result names g h = record {
      kept = subst AreKept c.lists.ensures.lists c.actions.ensures.kept;
      spells = c.lists.ensures.spells;
      after = c.lists-2.ensures.spells;
      count = c.made-before.ensures ∙ ap (λ (r : Registered Params). r.made) c.actions.ensures.actions ∙ ap (λ (k : Kept). k.actions.made) c.lists.ensures.lists;
      names_are = ap actions_of (c.entries.ensures.entries ∙ ap (λ (r : Registered Params). r.entries) c.actions-2.ensures.actions ∙ ap (λ (k : Kept). k.actions.entries) c.lists-2.ensures.lists);
    } in
    let few = few_names c.args.desk.now.lists c.try_apply.new.self.lists c.made-before.result names g h c.args.edit.now c.in-Ok.done named c.requires.line is.steps in
    let room = c.requires.room in
    omega (arith, few, room)

pub returns-clause-named : goal.returns-clause-named
returns-clause-named c =
    let g = seen_by c.args.desk.now.place in
    let h = seen_by c.try_apply.new.self.place in
    let names = actions_of c.entries.result.now in
    let is = c.in-Ok.ensures.applied c.in-Ok.done refl in
    let named : IsNamed c.args.desk.now.lists c.try_apply.new.self.lists c.made-before.result names g h = record {
      kept = subst AreKept c.lists.ensures.lists c.actions.ensures.kept;
      spells = c.lists.ensures.spells;
      after = c.lists-2.ensures.spells;
      count = c.made-before.ensures ∙ ap (λ (r : Registered Params). r.made) c.actions.ensures.actions ∙ ap (λ (k : Kept). k.actions.made) c.lists.ensures.lists;
      names_are = ap actions_of (c.entries.ensures.entries ∙ ap (λ (r : Registered Params). r.entries) c.actions-2.ensures.actions ∙ ap (λ (k : Kept). k.actions.entries) c.lists-2.ensures.lists);
    } in
    c.push_new_names.ensures ∙ ap (λ (more : List MadeAction). c.args.made.now.items ++ more) (names_behind c.args.desk.now.lists c.try_apply.new.self.lists c.made-before.result names g h c.args.edit.now c.in-Ok.done named is.steps is.journal_is)
