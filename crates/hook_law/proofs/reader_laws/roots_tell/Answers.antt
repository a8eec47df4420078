use Rattle.hook_law.proofs.Pushing.{told}
use Rattle.hook_law.proofs.reader_laws.roots_tell.Goals as goal

pub returns : goal.returns
returns g c = told g.T.Terms.meaning g.T.Terms.codec
