use Rattle.head_laws.proofs.ListedHeads.{heads_listed}
use Rattle.head_laws.proofs.listed_heads.Goals as goal

pub returns : goal.returns
returns c = heads_listed
