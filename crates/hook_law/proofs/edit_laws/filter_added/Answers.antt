use Rattle.hook_law.proofs.Bucketing.{rewrite_keeps}
use Rattle.hook_law.proofs.Splicing.{added_rewrites}
use Rattle.hook_law.proofs.edit_laws.filter_added.Goals as goal

pub returns-clause-keeps : goal.returns-clause-keeps
returns-clause-keeps g c = λ h b d y low kept w. rewrite_keeps g.T.Terms.meaning g.T.Terms.codec h b d y (added_rewrites g.T.Terms.meaning g.T.Terms.codec h b d y low kept w).0 low kept

pub returns-clause-of_bucket : goal.returns-clause-of_bucket
returns-clause-of_bucket g c = added_rewrites g.T.Terms.meaning g.T.Terms.codec
