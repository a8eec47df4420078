use Rattle.std.proofs.Common.{◌≡◌, ℕ, ◌<◌, get_or, length}
use Rattle.block_codec.specs.Reading.{row_in}
use Rattle.block_codec.proofs.mask.rows_in.Given as goal

abbrev pub invariant-loop-place : goal.invariant-loop-place
invariant-loop-place l = record {
  long : length l.rows ≡ 64;
  filled : (k : ℕ) → k < l.place → get_or l.rows k 0 ≡ row_in l.words k;
}
