use Rattle.std.proofs.Common.{◌++◌, ◌-◌, length}
use Rattle.change_fates.specs.Texts.{tags_text}
use Rattle.change_fates.proofs.Tagging.{AreLeft}
use Rattle.change_fates.proofs.tags.push_tags.Given as goal

abbrev pub invariant-loop-tag : goal.invariant-loop-tag
invariant-loop-tag l = AreLeft l.bytes l.out.items l.label l.at (l.initial.out.items ++ tags_text l.bytes)

abbrev pub decreases-loop-tag : goal.decreases-loop-tag
decreases-loop-tag l = length l.bytes - l.at
