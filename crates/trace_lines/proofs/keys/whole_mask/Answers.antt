use Rattle.std.proofs.Common.{◌≡◌, ◌∙◌, rules, ap, arith, subst}
use Rattle.flow_fields.specs.Values.{values_of}
use Rattle.trace_lines.specs.Fields.{whole_at, words_with}
use Rattle.trace_lines.proofs.KeyWords.{IsFilled, filled_none, filled_next, filled_values, own_words}
use Rattle.trace_lines.proofs.keys.whole_mask.Goals as goal

pub loop-field-init : goal.loop-field-init
loop-field-init c = filled_none _ _ (search rules) c.new-mask.ensures.tidy

pub loop-field-preserved : goal.loop-field-preserved
loop-field-preserved c =
    filled_next _ c.loop-field.field _ _ _ c.loop-field-test.true (search rules) c.set.ensures.tidy c.set.ensures.values
    c.whole.ensures.mask c.loop-field.invariant

pub returns : goal.returns
returns c =
    let last : c.loop-field.field ≡ 20 = omega arith in
    let whole = whole_at (values_of c.args.frame.now.words) in
    let filled = subst (λ n. IsFilled whole n c.loop-field.mask.words) last c.loop-field.invariant in
    own_words c.loop-field.mask.words filled.count filled.tidy
    ∙ ap words_with (filled_values whole c.loop-field.mask.words filled)
