use Rattle.std.proofs.Common.{◌∙◌, refl, ap, arith}
use Rattle.tc_base.specs.Memory.{no_memory}
use Rattle.act_kinds.specs.declared.params.Params.{Params}
use Rattle.act_registry.specs.Kept.{Kept as Registered}
use Rattle.action_plan.specs.Entries.{actions_of}
use Rattle.filter_state.specs.States.{no_state}
use Rattle.filter_state.specs.Steps.{step}
use Rattle.filter_state.specs.Journals.{state_from}
use Rattle.batch_trace.specs.declared.accepted.Accepted.{Accepted}
use Rattle.batch_trace.proofs.Taking.{may_step, followed_ok, followed_err, kept_more, taken_more, IsStill, kept_still, taken_still}
use Rattle.batch_trace.proofs.accepted.Accepted.take.Goals as goal

pub follow-requires-clause-may : goal.follow-requires-clause-may
follow-requires-clause-may c =
    let few = c.requires.few in
    may_step c.args.self.now.journal.items c.args.self.now.lists c.requires.kept.spells (omega (arith, few))

pub returns-in_default : goal.returns-in_default
returns-in_default c =
    let old : Accepted = c.args.self.now in
    let new : Accepted = record { journal = c.args.self.now.journal; places = c.args.self.now.places; past = c.follow.new.self; lists = c.follow.new.lists; made = c.args.self.now.made } in
    let s = state_from no_state old.journal.items in
    let other = c.in_default.not-NoMemory no_memory in
    let still : IsStill old new c.args.edit c.in-Err.refusal = record {
      refused = followed_err old.lists c.follow.new.lists c.in-Err.refusal (step s c.args.edit) (c.in-Err.ensures.step s c.requires.kept.spells) other;
      past = c.in-Err.ensures.refused other;
      journal = refl;
      places = refl;
      made = refl;
    } in
    record {
      kept = kept_still old new c.args.edit c.in-Err.refusal c.requires.kept still;
      taken = taken_still old new c.args.edit c.args.number c.in-Err.refusal c.requires.kept still;
    }

pub returns-clause-kept : goal.returns-clause-kept
returns-clause-kept c =
    let old = c.args.self.now in
    let names = actions_of c.entries.result.now in
    let s = state_from no_state old.journal.items in
    let both = c.in-Ok.ensures.accepted old.journal.items c.requires.kept.remembers c.requires.kept.spells in
    kept_more old (record { journal = c.push.new.self; places = c.push-2.new.self; past = c.follow.new.self; lists = c.follow.new.lists; made = c.log_made.new.made }) c.args.edit c.in-Ok.field-0
    (record { control = 1; line = c.args.number }) c.made-before.result names c.requires.kept
    (record {
      stepped = followed_ok old.lists c.follow.new.lists c.in-Ok.field-0 (step s c.args.edit) (c.in-Ok.ensures.step s c.requires.kept.spells);
      remembers = both.0;
      spells = both.1;
      journal = c.in_ok-push.ensures.items;
      places = c.in_ok-push-2.ensures.items;
      named = record {
        count = c.made-before.ensures ∙ ap (λ (r : Registered Params). r.made) c.actions.ensures.actions;
        names_are = ap actions_of (c.entries.ensures.entries ∙ ap (λ (r : Registered Params). r.entries) c.actions-2.ensures.actions);
      };
      made = c.in_ok-log_made.ensures;
    })

pub returns-clause-taken : goal.returns-clause-taken
returns-clause-taken c =
    let old = c.args.self.now in
    let names = actions_of c.entries.result.now in
    let s = state_from no_state old.journal.items in
    let both = c.in-Ok.ensures.accepted old.journal.items c.requires.kept.remembers c.requires.kept.spells in
    taken_more old (record { journal = c.push.new.self; places = c.push-2.new.self; past = c.follow.new.self; lists = c.follow.new.lists; made = c.log_made.new.made }) c.args.edit c.in-Ok.field-0
    c.args.number c.made-before.result names c.requires.kept
    (record {
      stepped = followed_ok old.lists c.follow.new.lists c.in-Ok.field-0 (step s c.args.edit) (c.in-Ok.ensures.step s c.requires.kept.spells);
      remembers = both.0;
      spells = both.1;
      journal = c.in_ok-push.ensures.items;
      places = c.in_ok-push-2.ensures.items;
      named = record {
        count = c.made-before.ensures ∙ ap (λ (r : Registered Params). r.made) c.actions.ensures.actions;
        names_are = ap actions_of (c.entries.ensures.entries ∙ ap (λ (r : Registered Params). r.entries) c.actions-2.ensures.actions);
      };
      made = c.in_ok-log_made.ensures;
    })
