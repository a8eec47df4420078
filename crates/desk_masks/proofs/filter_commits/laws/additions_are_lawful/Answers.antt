use Rattle.std.proofs.Common.{refl}
use Rattle.desk_masks.proofs.OfFilterCommits.Rewriting.{rewrite_lawful}
use Rattle.desk_masks.proofs.OfFilterCommits.Adding.{add_rewrites}
use Rattle.desk_masks.proofs.filter_commits.laws.additions_are_lawful.Goals as goal

pub returns : goal.returns
returns c h b y slot blk filter masks shape cells kept a keeps has stands = rewrite_lawful h b _ y a.accepted.low keeps (add_rewrites h b y slot filter a keeps masks shape cells has kept stands blk _ refl)
