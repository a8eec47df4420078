use Rattle.std.proofs.Common.{length, arith, inl, inr}
use Rattle.std.proofs.lemmas.Bool.{cases_lt}
use Rattle.report_check.proofs.Parting.{parts_end}
use Rattle.report_check.proofs.reading.parting.parting.Goals as goal

pub returns : goal.returns
returns c =
    let text = c.args.text.now in
    let other = c.args.other.now in
    let it = parts_end text other c.loop-place.place c.loop-place.word c.loop-place.invariant.so_far in
    let end = c.loop-place-test.false in
    let shared = c.min-shared.ensures in
    elim (cases_lt (length text) (length other)) [
      | inl less ↦ it.0 (omega (arith, end, shared, less))
      | inr most ↦ it.1 (omega (arith, end, shared, most))
    ]
