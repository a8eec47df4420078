use Rattle.change_fates.proofs.Paging.{on_result, on_piece_front}
use Rattle.change_fates.proofs.foreseeing.put.Goals as goal

pub returns-clause-on : goal.returns-clause-on
returns-clause-on g c = on_result c.write_all.result _ _ _ c.write_all.ensures.all

pub returns-clause-up_to : goal.returns-clause-up_to
returns-clause-up_to g c = λ first whole rest at. on_piece_front first _ _ whole _ rest c.write_all.ensures.up_to at
