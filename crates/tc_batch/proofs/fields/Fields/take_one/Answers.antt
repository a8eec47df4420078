use Rattle.std.proofs.Common.{ℕ, ◌<◌, ◌^◌, ◌∙◌, sym, subst}
use Rattle.flow_fields.specs.Table.{field_at}
use Rattle.tc_batch.proofs.FieldValues.{value_fits}
use Rattle.tc_batch.proofs.fields.Fields.take_one.Goals as goal

pub put-requires-clause-value : goal.put-requires-clause-value
put-requires-clause-value c =
    subst (λ (i : ℕ). c.in-Some.value.0 < 2 ^ (field_at i).width) (sym c.number.ensures.value)
    (value_fits c.args.name c.args.word.now c.in-Some.value.0 c.in-Some.value.1 (sym c.read_field_value.ensures ∙ c.in-Some.is)).0

pub put-requires-clause-mask : goal.put-requires-clause-mask
put-requires-clause-mask c =
    subst (λ (i : ℕ). c.in-Some.value.1 < 2 ^ (field_at i).width) (sym c.number.ensures.value)
    (value_fits c.args.name c.args.word.now c.in-Some.value.0 c.in-Some.value.1 (sym c.read_field_value.ensures ∙ c.in-Some.is)).1
