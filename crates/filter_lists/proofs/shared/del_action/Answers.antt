use Rattle.std.proofs.Common.{refl}
use Rattle.filter_lists.proofs.Registries.{done_by, gone_state}
use Rattle.filter_lists.proofs.shared.del_action.Goals as goal

pub returns : goal.returns
returns c = λ next said leads.
    done_by c.args.kept.now c.delete.new.self next _ _ said _ c.requires.kept leads.1
    (gone_state c.args.kept.now c.delete.new.self c.args.kind c.args.index c.number.result c.number.ensures c.in-Ok.ensures.entries c.in-Ok.ensures.made) refl
