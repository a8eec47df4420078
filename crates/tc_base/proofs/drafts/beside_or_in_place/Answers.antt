use Rattle.tc_base.proofs.AskedCalls.{Asked-cuts}
use Rattle.tc_base.proofs.drafts.beside_or_in_place.Goals as goal

pub returns-in-None : goal.returns-in-None
returns-in-None g c =
    Asked-cuts g.D.File.Write.contents _ _ _ _ _ _ c.in-None.is c.in_ok-draft.ensures c.in_place.ensures
