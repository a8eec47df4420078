use Rattle.std.proofs.Common.{◌≡◌, ◌∙◌, rules, ap, arith, get_or, subst}
use Rattle.flow_fields.specs.Values.{values_of}
use Rattle.trace_lines.specs.Fields.{words_with}
use Rattle.trace_lines.proofs.KeyWords.{IsFilled, filled_none, filled_next, filled_from_values, own_words}
use Rattle.trace_lines.proofs.keys.with_fields_of.Goals as goal

pub loop-field-init : goal.loop-field-init
loop-field-init c = filled_none _ _ (search rules) c.new-to.ensures.tidy

pub loop-field-preserved : goal.loop-field-preserved
loop-field-preserved c =
    filled_next _ c.loop-field.field _ _ _ c.loop-field-test.true (search rules) c.set.ensures.tidy c.set.ensures.values
    c.value.ensures.value c.loop-field.invariant

pub returns : goal.returns
returns c =
    let last : c.loop-field.field ≡ 20 = omega arith in
    let from = values_of c.args.from.now.words in
    let filled = subst (λ n. IsFilled (λ k. get_or from k 0) n c.loop-field.to.words) last c.loop-field.invariant in
    own_words c.loop-field.to.words filled.count filled.tidy
    ∙ ap words_with (filled_from_values c.args.from.now.words c.loop-field.to.words filled)
