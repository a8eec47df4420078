use Rattle.hook_law.proofs.Acting.{make_keeps, make_comes}
use Rattle.hook_law.proofs.Resting.{make_rests}
use Rattle.hook_law.proofs.edit_laws.action_made.Goals as goal

pub returns-clause-keeps : goal.returns-clause-keeps
returns-clause-keeps g c = make_keeps g.T.Terms.meaning g.T.Terms.codec

pub returns-clause-action_comes : goal.returns-clause-action_comes
returns-clause-action_comes g c = make_comes g.T.Terms.meaning g.T.Terms.codec

pub returns-clause-rests : goal.returns-clause-rests
returns-clause-rests g c = make_rests g.T.Terms.meaning g.T.Terms.codec
