use Rattle.hook_law.proofs.Marking.{mark_keeps, mark_back}
use Rattle.hook_law.proofs.Resting.{mark_rests}
use Rattle.hook_law.proofs.edit_laws.marker_commit.Goals as goal

pub returns-clause-keeps : goal.returns-clause-keeps
returns-clause-keeps g c = mark_keeps g.T.Terms.meaning g.T.Terms.codec

pub returns-clause-nothing_comes : goal.returns-clause-nothing_comes
returns-clause-nothing_comes g c = mark_back g.T.Terms.meaning g.T.Terms.codec

pub returns-clause-rests : goal.returns-clause-rests
returns-clause-rests g c = mark_rests g.T.Terms.meaning g.T.Terms.codec
