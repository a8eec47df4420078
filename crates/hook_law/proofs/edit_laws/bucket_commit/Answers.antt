use Rattle.hook_law.proofs.Bucketing.{rewrite_keeps, rewrite_comes}
use Rattle.hook_law.proofs.Resting.{rewrite_rests_others, rewrite_rests}
use Rattle.hook_law.proofs.edit_laws.bucket_commit.Goals as goal

pub returns-clause-keeps : goal.returns-clause-keeps
returns-clause-keeps g c = λ h b d y low kept w. rewrite_keeps g.T.Terms.meaning g.T.Terms.codec h b d y w low kept

pub returns-clause-actions_come : goal.returns-clause-actions_come
returns-clause-actions_come g c = λ h b d y low kept w. rewrite_comes g.T.Terms.meaning g.T.Terms.codec h b d y w low kept

pub returns-clause-others_rest : goal.returns-clause-others_rest
returns-clause-others_rest g c = rewrite_rests_others g.T.Terms.meaning g.T.Terms.codec

pub returns-clause-rests : goal.returns-clause-rests
returns-clause-rests g c = rewrite_rests g.T.Terms.meaning g.T.Terms.codec
