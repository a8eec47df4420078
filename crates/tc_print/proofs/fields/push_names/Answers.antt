use Rattle.tc_print.proofs.Grown.{names_grow}
use Rattle.tc_print.proofs.fields.push_names.Goals as goal

pub loop-name-preserved : goal.loop-name-preserved
loop-name-preserved c =
    names_grow _ _ _ _ _ c.args.names.now c.loop-name.name-index _ c.loop-name-test.true
    c.loop-name.invariant c.in_ok-push_field.ensures
