use Rattle.hook_law.proofs.Whole.{whole_keeps, part_keeps, whole_comes}
use Rattle.hook_law.proofs.Resting.{whole_rests}
use Rattle.hook_law.proofs.plain_laws.resize.Goals as goal

pub returns-clause-keeps : goal.returns-clause-keeps
returns-clause-keeps g c = λ h cs b d low k w. whole_keeps g.T.Terms.meaning g.T.Terms.codec h cs b d w low k

pub returns-clause-begun : goal.returns-clause-begun
returns-clause-begun g c = λ h cs b d n low k w. part_keeps g.T.Terms.meaning g.T.Terms.codec h cs b d w n low k

pub returns-clause-rows_come : goal.returns-clause-rows_come
returns-clause-rows_come g c = λ h cs b d low k w. whole_comes g.T.Terms.meaning g.T.Terms.codec h cs b d w low k

pub returns-clause-rests : goal.returns-clause-rests
returns-clause-rests g c = whole_rests g.T.Terms.meaning g.T.Terms.codec
