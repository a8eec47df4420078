use Rattle.desk_needs.proofs.OfLiveCounts.Changes.{none_yet}
use Rattle.desk_needs.proofs.OfLiveCounts.Replaced.{same_mask, other_mask}
use Rattle.desk_needs.proofs.live_counts.filters.counts_of_replaces.Goals as goal

pub returns-clause-same_mask : goal.returns-clause-same_mask
returns-clause-same_mask c = same_mask

pub returns-clause-other_mask : goal.returns-clause-other_mask
returns-clause-other_mask c = λ s t line done row target sound e is. other_mask s t line done row sound e is target

pub returns-clause-new_mask : goal.returns-clause-new_mask
returns-clause-new_mask c = none_yet
