use Rattle.hook_law.proofs.Lists.{root_of_empty}
use Rattle.hook_law.proofs.Sparing.{spares_keep, empties_spare}
use Rattle.hook_law.proofs.Resting.{spares_rest}
use Rattle.hook_law.proofs.plain_laws.emptied_roots.Goals as goal

pub returns-clause-keeps : goal.returns-clause-keeps
returns-clause-keeps g c = λ h cs b low k w. (spares_keep g.T.Terms.meaning g.T.Terms.codec cs h b low k (empties_spare g.T.Terms.meaning g.T.Terms.codec h cs b w)).keeps

pub returns-clause-nothing_comes : goal.returns-clause-nothing_comes
returns-clause-nothing_comes g c = λ h cs b low k w. (spares_keep g.T.Terms.meaning g.T.Terms.codec cs h b low k (empties_spare g.T.Terms.meaning g.T.Terms.codec h cs b w)).back

pub returns-clause-unused : goal.returns-clause-unused
returns-clause-unused g c = λ h cs b low k w. (spares_keep g.T.Terms.meaning g.T.Terms.codec cs h b low k (empties_spare g.T.Terms.meaning g.T.Terms.codec h cs b w)).unused

pub returns-clause-no_edit : goal.returns-clause-no_edit
returns-clause-no_edit g c = λ h cs b low k w. (spares_keep g.T.Terms.meaning g.T.Terms.codec cs h b low k (empties_spare g.T.Terms.meaning g.T.Terms.codec h cs b w)).edits

pub returns-clause-rests : goal.returns-clause-rests
returns-clause-rests g c = λ h cs b low k w. spares_rest g.T.Terms.meaning g.T.Terms.codec cs h b low k (empties_spare g.T.Terms.meaning g.T.Terms.codec h cs b w)

pub returns-clause-emptied : goal.returns-clause-emptied
returns-clause-emptied g c = λ h cs b w j d. root_of_empty h cs j d (λ i e at. (w i e at).chain)
