use Rattle.std.proofs.Common.{take}
use Rattle.hook_law.proofs.Sparing.{spares_keep, spares_take}
use Rattle.hook_law.proofs.Resting.{spares_rest}
use Rattle.hook_law.proofs.plain_laws.spare_commits.Goals as goal

pub returns-clause-keeps : goal.returns-clause-keeps
returns-clause-keeps g c = λ h cs b low k w. (spares_keep g.T.Terms.meaning g.T.Terms.codec cs h b low k w).keeps

pub returns-clause-begun : goal.returns-clause-begun
returns-clause-begun g c = λ h cs b n low k w. (spares_keep g.T.Terms.meaning g.T.Terms.codec (take n cs) h b low k (spares_take g.T.Terms.meaning g.T.Terms.codec h b cs n w)).keeps

pub returns-clause-nothing_comes : goal.returns-clause-nothing_comes
returns-clause-nothing_comes g c = λ h cs b low k w. (spares_keep g.T.Terms.meaning g.T.Terms.codec cs h b low k w).back

pub returns-clause-unused : goal.returns-clause-unused
returns-clause-unused g c = λ h cs b low k w. (spares_keep g.T.Terms.meaning g.T.Terms.codec cs h b low k w).unused

pub returns-clause-no_edit : goal.returns-clause-no_edit
returns-clause-no_edit g c = λ h cs b low k w. (spares_keep g.T.Terms.meaning g.T.Terms.codec cs h b low k w).edits

pub returns-clause-rests : goal.returns-clause-rests
returns-clause-rests g c = λ h cs. spares_rest g.T.Terms.meaning g.T.Terms.codec cs h
