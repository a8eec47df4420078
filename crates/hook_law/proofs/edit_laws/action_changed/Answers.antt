use Rattle.hook_law.proofs.Acting.{change_keeps, change_back}
use Rattle.hook_law.proofs.Resting.{change_rests}
use Rattle.hook_law.proofs.edit_laws.action_changed.Goals as goal

pub returns-clause-keeps : goal.returns-clause-keeps
returns-clause-keeps g c = change_keeps g.T.Terms.meaning g.T.Terms.codec

pub returns-clause-nothing_comes : goal.returns-clause-nothing_comes
returns-clause-nothing_comes g c = change_back g.T.Terms.meaning g.T.Terms.codec

pub returns-clause-rests : goal.returns-clause-rests
returns-clause-rests g c = change_rests g.T.Terms.meaning g.T.Terms.codec
