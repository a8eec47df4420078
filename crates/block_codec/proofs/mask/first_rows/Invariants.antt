use Rattle.std.proofs.Common.{◌≡◌}
use Rattle.block_codec.specs.Reading.{rows_of}
use Rattle.block_codec.proofs.mask.first_rows.Given as goal

abbrev pub invariant-loop-place : goal.invariant-loop-place
invariant-loop-place l = l.rows ≡ rows_of l.place l.words
