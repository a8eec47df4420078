use Rattle.std.proofs.Common.{◌≡◌, map, take}
use Rattle.block_codec.specs.Names.{mask_in}
use Rattle.block_codec.proofs.table.masks_in.Given as goal

abbrev pub invariant-loop-word : goal.invariant-loop-word
invariant-loop-word l = l.masks ≡ map mask_in (take l.word-index l.words)
