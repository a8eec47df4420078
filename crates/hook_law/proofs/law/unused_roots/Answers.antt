use Rattle.hook_law.proofs.Standing.{gone_unused, unused_rises, unused_push}
use Rattle.hook_law.proofs.law.unused_roots.Goals as goal

pub returns-clause-gone : goal.returns-clause-gone
returns-clause-gone g c = gone_unused g.T.Terms.meaning g.T.Terms.codec

pub returns-clause-rises : goal.returns-clause-rises
returns-clause-rises g c = unused_rises g.T.Terms.meaning g.T.Terms.codec

pub returns-clause-stays : goal.returns-clause-stays
returns-clause-stays g c = unused_push g.T.Terms.meaning g.T.Terms.codec
