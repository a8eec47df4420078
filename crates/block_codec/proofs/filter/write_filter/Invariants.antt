use Rattle.std.proofs.Common.{◌≡◌, ◌∷◌, ◌++◌, length, map, take}
use Rattle.block_codec.specs.Names.{action_word}
use Rattle.block_codec.proofs.filter.write_filter.Given as goal

abbrev pub invariant-loop-action : goal.invariant-loop-action
invariant-loop-action l = l.named ≡ 1 ∷ l.fn.stored.handle ∷ length l.actions ∷ (l.fn.stored.key.words ++ map action_word (take l.action-index l.actions))
