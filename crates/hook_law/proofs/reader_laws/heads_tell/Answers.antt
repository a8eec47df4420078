use Rattle.hook_law.proofs.Looking.{head_told}
use Rattle.hook_law.proofs.reader_laws.heads_tell.Goals as goal

pub returns : goal.returns
returns g c = head_told g.T.Terms.meaning g.T.Terms.codec
