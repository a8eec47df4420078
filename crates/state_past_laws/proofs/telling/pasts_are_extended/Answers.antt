use Rattle.state_past_laws.proofs.Longer.{stays, comes, again}
use Rattle.state_past_laws.proofs.telling.pasts_are_extended.Goals as goal

pub returns-clause-stays : goal.returns-clause-stays
returns-clause-stays g c = λ has read past journal edit tells same. stays journal edit _ _ has read past tells same

pub returns-clause-comes : goal.returns-clause-comes
returns-clause-comes g c = λ has read past journal edit value tells new. comes journal edit _ _ has read past value tells new

pub returns-clause-again : goal.returns-clause-again
returns-clause-again g c = λ has read past journal edit value tells new. again journal edit _ _ has read past value tells new
