use Rattle.std.proofs.Common.{◌≡◌, true, ◌*◌, ◌-◌, ◌<◌, ◌⊎◌}
use Rattle.flow_mask.specs.Sizes.{is_size}
use Rattle.flow_mask.proofs.sizes.size_for.Given as goal

-- half the size was too small
abbrev pub invariant-loop-size : goal.invariant-loop-size
invariant-loop-size l = record {
  known : is_size l.size ≡ true;
  small : (l.size ≡ 16) ⊎ (3 * l.size < 8 * l.filters);
}

abbrev pub decreases-loop-size : goal.decreases-loop-size
decreases-loop-size l = 1024 - l.size
