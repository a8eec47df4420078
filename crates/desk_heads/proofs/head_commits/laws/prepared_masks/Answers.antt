use Rattle.desk_heads.proofs.OfHeadCommits.Prepared.{prepared_stays}
use Rattle.desk_heads.proofs.head_commits.laws.prepared_masks.Goals as goal

pub returns : goal.returns
returns c = prepared_stays
