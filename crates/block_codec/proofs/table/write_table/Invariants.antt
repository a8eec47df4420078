use Rattle.std.proofs.Common.{◌≡◌, ◌∷◌, length, map, take}
use Rattle.block_codec.specs.Blocks.{both}
use Rattle.block_codec.specs.Names.{mask_word}
use Rattle.block_codec.specs.Tables.{protocol_number}
use Rattle.block_codec.proofs.table.write_table.Given as goal

abbrev pub invariant-loop-mask : goal.invariant-loop-mask
invariant-loop-mask l = l.named ≡ 3 ∷ both l.fn.stored.serial l.fn.stored.pref ∷ both l.fn.stored.chain (protocol_number l.fn.stored.protocol) ∷ length l.masks ∷ map mask_word (take l.mask-index l.masks)
