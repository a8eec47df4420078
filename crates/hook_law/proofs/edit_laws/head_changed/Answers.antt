use Rattle.hook_law.proofs.Standing.{present_end}
use Rattle.hook_law.proofs.Heading.{head_keeps, head_comes}
use Rattle.hook_law.proofs.Resting.{head_rests}
use Rattle.hook_law.proofs.edit_laws.head_changed.Goals as goal

pub returns-clause-keeps : goal.returns-clause-keeps
returns-clause-keeps g c = λ h b d y low k w. head_keeps g.T.Terms.meaning g.T.Terms.codec h b d y w low k

pub returns-clause-prepared_come : goal.returns-clause-prepared_come
returns-clause-prepared_come g c = λ h b d y low k w r x. head_comes g.T.Terms.meaning g.T.Terms.codec h b d y w r x (present_end g.T.Terms.meaning g.T.Terms.codec h b low k)

pub returns-clause-rests : goal.returns-clause-rests
returns-clause-rests g c = head_rests g.T.Terms.meaning g.T.Terms.codec
