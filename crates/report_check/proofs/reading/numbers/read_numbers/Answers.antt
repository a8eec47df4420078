use Rattle.std.proofs.Common.{◌∷◌, ◌<◌, ◌^◌, ℕ, [], sym, subst}
use Rattle.report_laws.proofs.OfLineCuts.Tails.{numbers_low}
use Rattle.filter_state.specs.Sound.{Each}
use Rattle.filter_state.proofs.Pairs.{each_append}
use Rattle.report_check.proofs.OfReading.Reading.{IsLeft, same_pair, no_pair, next_number, one_more, all_read}
use Rattle.report_check.proofs.reading.numbers.read_numbers.Goals as goal

pub returns-in_default-read_number-clause-read : goal.returns-in_default-read_number-clause-read
returns-in_default-read_number-clause-read c = λ numbers small is.
    let next = next_number c.args.text.now c.loop-number.left.now c.loop-number.into.items c.in-Some.number.now c.loop-number.invariant.left c.in-Some.ensures.some numbers small is in
    absurd (no_pair _ (c.in_default-read_number.ensures.read next.number _ next.few (numbers_low next.rest) next.there))

pub loop-number-preserved : goal.loop-number-preserved
loop-number-preserved c = record {
  small = subst (Each (λ (number : ℕ). number < 2 ^ 32)) (sym c.in_ok-push.ensures.items) (each_append (λ (number : ℕ). number < 2 ^ 32) c.loop-number.into.items (c.in-Some-read_number.number ∷ []) c.loop-number.invariant.small (c.in-Some-read_number.ensures.few, tt));
  left = subst (IsLeft c.args.text.now c.in-Some-read_number.after.now) (sym c.in_ok-push.ensures.items)
      (one_more c.args.text.now c.loop-number.left.now c.loop-number.into.items c.in-Some.number.now c.in-Some-read_number.after.now c.in-Some-read_number.number c.loop-number.invariant.left c.in-Some.ensures.some
      (λ number later few low there. same_pair _ _ _ _ (c.in-Some-read_number.ensures.read number later few low there)));
}

pub returns-clause-read : goal.returns-clause-read
returns-clause-read c = λ numbers small is. all_read c.args.text.now c.loop-number.left.now c.loop-number.into.items c.loop-number.invariant.left c.in_default.ensures.none numbers small is
