use Rattle.std.proofs.Common.{◌∙◌, length-set, arith}
use Rattle.std.proofs.lemmas.List.FromFn.{fill_by_all}
use Rattle.block_codec.specs.Reading.{row_in}
use Rattle.block_codec.proofs.Masking.{filled}
use Rattle.block_codec.proofs.mask.rows_in.Goals as goal

pub loop-place-preserved : goal.loop-place-preserved
loop-place-preserved c = let before = c.loop-place.invariant in let low = c.loop-place-test.true in let long = before.long in record {
  long = length-set c.loop-place.rows c.loop-place.place c.row_in.result ∙ long;
  filled = filled (row_in c.args.words.now) c.loop-place.rows c.loop-place.place c.row_in.result (omega arith) c.row_in.ensures before.filled;
}

pub returns : goal.returns
returns c = let last = c.loop-place-test.false in
    fill_by_all (row_in c.args.words.now) c.loop-place.rows 64 0 c.loop-place.invariant.long (λ k low. c.loop-place.invariant.filled k (omega arith))
