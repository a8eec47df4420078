use Rattle.hook_law.proofs.Sparing.{spares_keep}
use Rattle.hook_law.proofs.Preparing.{filled_after, put_after, action_after}
use Rattle.hook_law.proofs.plain_laws.prepared_roots.Goals as goal

pub returns-clause-bucket : goal.returns-clause-bucket
returns-clause-bucket g c = λ h cs b j d mask size i since s low k w own at. filled_after g.T.Terms.meaning g.T.Terms.codec h cs b j d w own (spares_keep g.T.Terms.meaning g.T.Terms.codec cs h b low k w) at mask size i since s

pub returns-clause-thing : goal.returns-clause-thing
returns-clause-thing g c = λ h cs b j d y role low k w own at. put_after g.T.Terms.meaning g.T.Terms.codec h cs b j d w own (spares_keep g.T.Terms.meaning g.T.Terms.codec cs h b low k w) at y role

pub returns-clause-action : goal.returns-clause-action
returns-clause-action g c = λ h cs b j d y a slot low k w own at. action_after g.T.Terms.meaning g.T.Terms.codec h cs b j d w own (spares_keep g.T.Terms.meaning g.T.Terms.codec cs h b low k w) at y a slot
