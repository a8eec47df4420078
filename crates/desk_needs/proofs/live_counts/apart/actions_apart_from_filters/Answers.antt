use Rattle.desk_needs.proofs.OfLiveCounts.NoFilter.{qdisc, added, made_by_change, changed, deleted}
use Rattle.desk_needs.proofs.live_counts.apart.actions_apart_from_filters.Goals as goal

pub returns-clause-qdisc : goal.returns-clause-qdisc
returns-clause-qdisc c = qdisc

pub returns-clause-added : goal.returns-clause-added
returns-clause-added c = added

pub returns-clause-made_by_change : goal.returns-clause-made_by_change
returns-clause-made_by_change c = made_by_change

pub returns-clause-changed : goal.returns-clause-changed
returns-clause-changed c = changed

pub returns-clause-deleted : goal.returns-clause-deleted
returns-clause-deleted c = deleted
