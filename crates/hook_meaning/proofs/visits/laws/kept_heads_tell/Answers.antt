use Rattle.hook_meaning.proofs.OfVisits.Heads.{kept_told}
use Rattle.hook_meaning.proofs.visits.laws.kept_heads_tell.Goals as goal

pub returns : goal.returns
returns c = kept_told
