use Rattle.std.proofs.Common.{refl}
use Rattle.filter_lists.proofs.Registries.{done_by, changed_state, change_there}
use Rattle.filter_lists.proofs.shared.change_action.Goals as goal

pub unreachable-requires : goal.unreachable-requires
unreachable-requires c = change_there c.args.kept.now c.args.params c.args.index c.in-Err.field-0 c.requires.leads.2.0 c.in-Err.ensures.refusal

pub returns : goal.returns
returns c = λ next said leads.
    done_by c.args.kept.now c.change.new.self next _ _ said _ c.requires.kept leads.1
    (changed_state c.args.kept.now c.change.new.self c.args.params c.args.index c.in-Ok.ensures.entries c.in-Ok.ensures.made) refl
