use Rattle.std.proofs.Common.{◌∙◌, sym, ap}
use Rattle.act_kinds.specs.declared.params.Kind.{Kind}
use Rattle.tc_batch.specs.States.{context_of}
use Rattle.tc_batch.specs.Machine.{on_kind}
use Rattle.tc_batch.proofs.action_steps.after_kind.Goals as goal

pub returns-in-Vlan : goal.returns-in-Vlan
returns-in-Vlan c =
    c.after_vlan.ensures c.args.draft.now ∙ sym (ap (λ (kind : Kind). on_kind (context_of c.args.draft.now c.args.site) kind c.args.word.now) c.in-Vlan.is)
