use Rattle.std.proofs.Common.{ℕ, ◌<◌, ◌^◌, arith, sym, subst}
use Rattle.tc_batch.proofs.FieldValues.{half_widths}
use Rattle.tc_batch.proofs.fields.Fields.put_prefix.Goals as goal

pub put-requires-clause-value : goal.put-requires-clause-value
put-requires-clause-value c = subst (λ (w : ℕ). c.args.word.high < 2 ^ w) (sym (half_widths c.args.high c.requires.field).0) (omega arith)

pub put-requires-clause-mask : goal.put-requires-clause-mask
put-requires-clause-mask c = subst (λ (w : ℕ). c.mask_halves-masks.result.0 < 2 ^ w) (sym (half_widths c.args.high c.requires.field).0) c.mask_halves-masks.ensures.high

pub put-requires-2-clause-value : goal.put-requires-2-clause-value
put-requires-2-clause-value c = subst (λ (w : ℕ). c.args.word.low < 2 ^ w) (sym (half_widths c.args.high c.requires.field).1) (omega arith)

pub put-requires-2-clause-mask : goal.put-requires-2-clause-mask
put-requires-2-clause-mask c = subst (λ (w : ℕ). c.mask_halves-masks.result.1 < 2 ^ w) (sym (half_widths c.args.high c.requires.field).1) c.mask_halves-masks.ensures.low
