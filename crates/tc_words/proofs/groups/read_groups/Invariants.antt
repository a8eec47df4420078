use Rattle.std.proofs.Common.{◌≡◌, ◌<◌, ◌+◌, ◌^◌, length, eqb, Some}
use Rattle.std.specs.List.{slice_split}
use Rattle.tc_words.specs.Groups.{groups_value}
use Rattle.tc_words.proofs.GroupLists.{value_after}
use Rattle.tc_words.proofs.groups.read_groups.Given as goal

abbrev pub decreases-loop-group : goal.decreases-loop-group
decreases-loop-group l = length l.rest

abbrev pub invariant-loop-group : goal.invariant-loop-group
invariant-loop-group l = record {
  value : value_after l.least l.most (Some l.number) (slice_split (λ b. eqb b 58) l.rest) ≡ groups_value l.least l.most (slice_split (λ b. eqb b 58) l.text);
  counts : l.count + length (slice_split (λ b. eqb b 58) l.rest) ≡ length (slice_split (λ b. eqb b 58) l.text);
  inside : l.count < l.greatest;
  below : l.number < (16 ^ l.most) ^ l.count;
}
