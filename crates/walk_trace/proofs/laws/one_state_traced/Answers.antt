use Rattle.walk_trace.proofs.Walks.{state_traced}
use Rattle.walk_trace.proofs.laws.one_state_traced.Goals as goal

pub returns : goal.returns
returns c = state_traced
