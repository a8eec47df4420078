use Rattle.round_terms.proofs.Coming.{come_over, come_not_through}
use Rattle.round_terms.proofs.laws.who_is_through.Goals as goal

pub returns-clause-through : goal.returns-clause-through
returns-clause-through c = come_over

pub returns-clause-not_through : goal.returns-clause-not_through
returns-clause-not_through c = λ force commands left command events. come_not_through force commands events command left
