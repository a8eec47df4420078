use Rattle.run_counts.proofs.OfShortWalks.ShortRuns.{few_visited, executed_short, frame_short}
use Rattle.run_counts.proofs.short_walks.walks_are_short.Goals as goal

pub returns-clause-visits : goal.returns-clause-visits
returns-clause-visits c = few_visited

pub returns-clause-executed : goal.returns-clause-executed
returns-clause-executed c = executed_short

pub returns-clause-frame : goal.returns-clause-frame
returns-clause-frame c = frame_short
