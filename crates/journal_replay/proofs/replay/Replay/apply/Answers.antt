use Rattle.std.proofs.Common.{rules, ◌≡◌, ◌∙◌, ◌++◌, ◌∷◌, [], List, refl, sym, ap, subst}
use Rattle.act_kinds.specs.declared.params.Params.{Params}
use Rattle.act_registry.specs.Kept.{Kept as Registered}
use Rattle.action_plan.specs.Entries.{actions_of}
use Rattle.filter_state.specs.declared.edit.Edit.{Edit}
use Rattle.filter_state.specs.States.{no_state}
use Rattle.filter_state.specs.Steps.{step}
use Rattle.filter_state.specs.Journals.{state_from}
use Rattle.filter_lists.specs.Spells.{Spells}
use Rattle.batch_run.specs.Made.{later_names}
use Rattle.lawful_runs.specs.Lawful.{made_by}
use Rattle.state_past.specs.Remembering.{Remembers}
use Rattle.journal_replay.proofs.Meeting.{may_step, followed_ok, followed_err, spells_still, made_more}
use Rattle.journal_replay.proofs.replay.Replay.apply.Goals as goal

pub follow-requires-clause-may : goal.follow-requires-clause-may
follow-requires-clause-may c = may_step c.args.self.now.journal.items c.args.self.now.lists c.requires.kept.spells c.requires.short

pub returns-in-Err-clause-refused : goal.returns-in-Err-clause-refused
returns-in-Err-clause-refused c = λ other.
    let s = state_from no_state c.args.self.now.journal.items in
    (followed_err c.args.self.now.lists c.follow.new.lists c.in-Err.refusal (step s c.args.edit) (c.in-Err.ensures.step s c.requires.kept.spells) other).steps

pub returns-in-Err-clause-stays : goal.returns-in-Err-clause-stays
returns-in-Err-clause-stays c = λ other.
    let s = state_from no_state c.args.self.now.journal.items in
    let it = followed_err c.args.self.now.lists c.follow.new.lists c.in-Err.refusal (step s c.args.edit) (c.in-Err.ensures.step s c.requires.kept.spells) other in (
      record {
        remembers = subst (λ past. Remembers past c.args.self.now.journal.items) (sym (c.in-Err.ensures.refused other)) c.requires.kept.remembers;
        spells = spells_still c.args.self.now.lists c.follow.new.lists s it.stays c.requires.kept.spells;
        made_is = c.requires.kept.made_is;
      },
      refl,
    )

pub returns-in-Ok-push-clause-accepted : goal.returns-in-Ok-push-clause-accepted
returns-in-Ok-push-clause-accepted c =
    let s = state_from no_state c.args.self.now.journal.items in
    let it = followed_ok c.args.self.now.lists c.follow.new.lists c.in-Ok.done (step s c.args.edit) (c.in-Ok.ensures.step s c.requires.kept.spells) in
    let items : c.push.new.self.items ≡ c.args.self.now.journal.items ++ c.args.edit ∷ [] = search rules in
    (it.next, it.steps, items)

pub returns-in-Ok-push-clause-kept : goal.returns-in-Ok-push-clause-kept
returns-in-Ok-push-clause-kept c =
    let journal = c.args.self.now.journal.items in
    let s = state_from no_state journal in
    let it = followed_ok c.args.self.now.lists c.follow.new.lists c.in-Ok.done (step s c.args.edit) (c.in-Ok.ensures.step s c.requires.kept.spells) in
    let items : c.push.new.self.items ≡ journal ++ c.args.edit ∷ [] = search rules in
    let both = c.in-Ok.ensures.accepted journal c.requires.kept.remembers c.requires.kept.spells in
    let names = actions_of c.entries.result.now in
    let logged : c.log_made.new.made.items ≡ c.args.self.now.made.items ++ later_names c.made-before.result names = search rules in
    record {
      remembers = subst (Remembers c.follow.new.self) (sym items) both.0;
      spells = subst (λ (es : List Edit). Spells c.follow.new.lists (state_from no_state es)) (sym items) both.1;
      made_is = made_more journal c.args.edit c.in-Ok.done c.args.self.now.lists c.follow.new.lists c.made-before.result names c.args.self.now.made.items c.log_made.new.made.items c.requires.kept.spells it
          (record {
            count = c.made-before.ensures ∙ ap (λ (r : Registered Params). r.made) c.actions.ensures.actions;
            names_are = ap actions_of (c.entries.ensures.entries ∙ ap (λ (r : Registered Params). r.entries) c.actions-2.ensures.actions);
          })
          c.requires.kept.made_is logged ∙ ap (made_by no_state) (sym items);
    }
