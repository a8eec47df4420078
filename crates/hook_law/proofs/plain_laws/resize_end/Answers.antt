use Rattle.hook_law.proofs.Standing.{present_end}
use Rattle.hook_law.proofs.Resizing.{resize_keeps, resize_comes}
use Rattle.hook_law.proofs.Resting.{resize_rests}
use Rattle.hook_law.proofs.plain_laws.resize_end.Goals as goal

pub returns-clause-keeps : goal.returns-clause-keeps
returns-clause-keeps g c = λ h b d low k w. resize_keeps g.T.Terms.meaning g.T.Terms.codec h b d w low k

pub returns-clause-rows_come : goal.returns-clause-rows_come
returns-clause-rows_come g c = λ h b d low k w r x. resize_comes g.T.Terms.meaning g.T.Terms.codec h b d w r x (present_end g.T.Terms.meaning g.T.Terms.codec h b low k)

pub returns-clause-rests : goal.returns-clause-rests
returns-clause-rests g c = resize_rests g.T.Terms.meaning g.T.Terms.codec
