use Rattle.std.proofs.Common.{◌≡◌, ◌+◌, ◌∷◌, ◌++◌, length, map}
use Rattle.std.specs.List.{range_with_len}
use Rattle.block_codec.specs.Masks.{rows_word}
use Rattle.block_codec.proofs.mask.write_mask.Given as goal

abbrev pub invariant-loop-at : goal.invariant-loop-at
invariant-loop-at l = record {
  named : l.named ≡ 2 ∷ l.fn.stored.serial ∷ l.fn.stored.size ∷ (l.fn.stored.mask.words ++ map (rows_word l.fn.stored.rows) (range_with_len 0 l.at));
  long : length l.named ≡ 17 + l.at;
}
