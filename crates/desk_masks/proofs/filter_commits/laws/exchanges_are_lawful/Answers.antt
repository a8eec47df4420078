use Rattle.std.proofs.Common.{refl}
use Rattle.desk_masks.proofs.OfFilterCommits.Rewriting.{rewrite_lawful}
use Rattle.desk_masks.proofs.OfFilterCommits.Exchanging.{exchange_rewrites}
use Rattle.desk_masks.proofs.filter_commits.laws.exchanges_are_lawful.Goals as goal

pub returns : goal.returns
returns c h b y slot root front old filter given masks shape cells kept x keeps has stands at are count =
    rewrite_lawful h b _ y x.accepted.low keeps (exchange_rewrites h b y slot filter x keeps masks shape cells has kept stands root front old at given count are _ refl)
