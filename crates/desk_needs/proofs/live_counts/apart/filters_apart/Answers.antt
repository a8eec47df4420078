use Rattle.desk_needs.proofs.OfLiveCounts.NoFilter.{rows_kept, counts_kept}
use Rattle.desk_needs.proofs.live_counts.apart.filters_apart.Goals as goal

pub returns-clause-kept : goal.returns-clause-kept
returns-clause-kept c = rows_kept

pub returns-clause-counts : goal.returns-clause-counts
returns-clause-counts c = counts_kept
