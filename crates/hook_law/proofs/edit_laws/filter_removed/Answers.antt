use Rattle.hook_law.proofs.Bucketing.{rewrite_keeps}
use Rattle.hook_law.proofs.Splicing.{removed_rewrites}
use Rattle.hook_law.proofs.edit_laws.filter_removed.Goals as goal

pub returns-clause-keeps : goal.returns-clause-keeps
returns-clause-keeps g c = λ h b d y low kept w. rewrite_keeps g.T.Terms.meaning g.T.Terms.codec h b d y (removed_rewrites g.T.Terms.meaning g.T.Terms.codec h b d y low kept w).0 low kept

pub returns-clause-of_bucket : goal.returns-clause-of_bucket
returns-clause-of_bucket g c = removed_rewrites g.T.Terms.meaning g.T.Terms.codec
