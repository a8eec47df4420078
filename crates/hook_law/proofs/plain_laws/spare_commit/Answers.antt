use Rattle.hook_law.proofs.Sparing.{spare_keeps, spare_back}
use Rattle.hook_law.proofs.Resting.{spare_rests}
use Rattle.hook_law.proofs.plain_laws.spare_commit.Goals as goal

pub returns-clause-keeps : goal.returns-clause-keeps
returns-clause-keeps g c = spare_keeps g.T.Terms.meaning g.T.Terms.codec

pub returns-clause-nothing_comes : goal.returns-clause-nothing_comes
returns-clause-nothing_comes g c = spare_back g.T.Terms.meaning g.T.Terms.codec

pub returns-clause-rests : goal.returns-clause-rests
returns-clause-rests g c = spare_rests g.T.Terms.meaning g.T.Terms.codec
