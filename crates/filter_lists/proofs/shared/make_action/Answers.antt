use Rattle.std.proofs.Common.{ap, ◌∙◌}
use Rattle.act_kinds.specs.Params.{kind_of}
use Rattle.filter_state.specs.declared.refusal.Done.TheVariants as dones
use Rattle.filter_state.specs.Actions.{index_or_free}
use Rattle.action_plan.specs.Entries.{actions_of}
use Rattle.action_plan.proofs.Entries.{same_index}
use Rattle.filter_lists.proofs.Made.{made_accepted}
use Rattle.filter_lists.proofs.Registries.{done_by, made_state}
use Rattle.filter_lists.proofs.shared.make_action.Goals as goal

pub returns : goal.returns
returns c = λ next said leads.
    let old = c.args.kept.now in
    let free = index_or_free c.args.index (kind_of c.args.params) (actions_of old.actions.entries) in
    let serial = ap (λ n. n.0) c.in-Ok.ensures.named in
    let index = same_index (kind_of c.args.params) old.actions.entries c.args.index c.in-Ok.index (ap (λ n. n.1) c.in-Ok.ensures.named) c.in-Ok.ensures.lowest in
    done_by old c.make.new.self next _ _ said _ c.requires.kept (leads.1 ∙ made_accepted old c.args.params c.args.index free leads.0.free)
    (made_state old c.make.new.self c.args.params c.in-Ok.serial c.in-Ok.index free serial index c.in-Ok.ensures.entries c.in-Ok.ensures.made)
    (ap (λ n. dones.ActionMade n c.in-Ok.serial) index ∙ ap (dones.ActionMade free) serial)
