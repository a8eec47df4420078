use Rattle.std.proofs.Common.{refl}
use Rattle.desk_masks.proofs.OfFilterCommits.Rewriting.{rewrite_lawful}
use Rattle.desk_masks.proofs.OfFilterCommits.Removing.{remove_rewrites}
use Rattle.desk_masks.proofs.filter_commits.laws.removals_are_lawful.Goals as goal

pub returns : goal.returns
returns c h b y slot handle root front old given masks shape cells kept r keeps has stands at are count =
    rewrite_lawful h b _ y r.accepted.low keeps (remove_rewrites h b y slot handle r keeps masks shape cells has kept stands root front old at given count are _ refl)
