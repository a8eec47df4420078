use Rattle.round_terms.proofs.Ending.{all_in_order}
use Rattle.round_terms.proofs.laws.rounds_end.Goals as goal

pub returns : goal.returns
returns c = all_in_order
