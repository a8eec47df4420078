use Rattle.std.proofs.Common.{◌≡◌, ℕ, ◌<◌, ◌≤◌, ◌-◌, false, length}
use Rattle.tc_words.proofs.Ipv6Parts.{colons_at}
use Rattle.tc_words.proofs.ipv6_addresses.gap_place.Given as goal

abbrev pub decreases-loop-at : goal.decreases-loop-at
decreases-loop-at l = length l.text - l.at

abbrev pub invariant-loop-at : goal.invariant-loop-at
invariant-loop-at l = record {
  inside : l.at ≤ length l.text;
  before : (k : ℕ) → k < l.at → colons_at l.text k ≡ false;
}
