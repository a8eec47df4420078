use Rattle.std.proofs.Common.{◌≡◌, ◌≤◌}
use Rattle.plain_walk.proofs.Looking.{HasMissed}
use Rattle.plain_walk.proofs.lookups.look_up.Given as goal

abbrev pub invariant-loop-place : goal.invariant-loop-place
invariant-loop-place l = record {
  same : l.left ≡ l.fn.left;
  enough : l.place ≤ l.left;
  missed : HasMissed l.key.words l.masks l.place;
}
