use Rattle.std.proofs.Common.{◌≡◌, ◌++◌, take}
use Rattle.walk_texts.specs.Texts.{joined}
use Rattle.batch_walk.specs.Texts.{counter_lines}
use Rattle.batch_walk.proofs.closing.push_counters.Given as goal

abbrev pub invariant-loop-action : goal.invariant-loop-action
invariant-loop-action l = l.out.items ≡ l.initial.out.items ++ joined (counter_lines (take l.action-index l.made) l.counts)
