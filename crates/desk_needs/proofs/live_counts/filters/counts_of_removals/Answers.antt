use Rattle.desk_needs.proofs.OfLiveCounts.Removed.{from_mask, last_of_mask, table}
use Rattle.desk_needs.proofs.live_counts.filters.counts_of_removals.Goals as goal

pub returns-clause-from_mask : goal.returns-clause-from_mask
returns-clause-from_mask c = from_mask

pub returns-clause-last_of_mask : goal.returns-clause-last_of_mask
returns-clause-last_of_mask c = λ s t hook protocol chain pref handle done row gone sound e is alone different each every.
    last_of_mask s t gone different each every sound hook protocol chain pref handle done row e is alone

pub returns-clause-table : goal.returns-clause-table
returns-clause-table c = λ s t hook protocol chain pref done gone sound e different each every. table s t gone different each every sound hook protocol chain pref done e
