use Rattle.std.proofs.Common.{refl}
use Rattle.round_terms.proofs.Beginning.{begins}
use Rattle.round_terms.proofs.laws.rounds_begin.Goals as goal

pub returns : goal.returns
returns c = λ files controls before named. begins files controls before before named refl
