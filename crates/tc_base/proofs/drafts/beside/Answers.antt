use Rattle.tc_base.proofs.AskedCalls.{Asked-mere}
use Rattle.tc_base.proofs.drafts.beside.Goals as goal

pub returns-in-Err-3 : goal.returns-in-Err-3
returns-in-Err-3 g c = Asked-mere _ _ _ _ c.loop-number.invariant c.in-Err-3.ensures tt

pub loop-number-preserved : goal.loop-number-preserved
loop-number-preserved g c = Asked-mere _ _ _ _ c.loop-number.invariant c.in-Err.ensures tt
