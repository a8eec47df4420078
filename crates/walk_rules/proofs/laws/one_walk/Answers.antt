use Rattle.std.proofs.Common.{◌≡◌, refl}
use Rattle.walk_rules.specs.Steps.{begun}
use Rattle.walk_rules.specs.Walks.{AnsweredBy}
use Rattle.walk_rules.proofs.Agreeing.{outcomes_agree, same_points, few_points}
use Rattle.walk_rules.proofs.laws.one_walk.Goals as goal

pub returns-clause-outcome : goal.returns-clause-outcome
returns-clause-outcome c = λ states hook bytes points one other.
    outcomes_agree states states points points (begun hook bytes) one other (same_points (λ p q. states p ≡ states q) (λ p. refl) points)

pub returns-clause-few : goal.returns-clause-few
returns-clause-few c = λ states hook bytes points outcome. few_points (AnsweredBy states) hook bytes points tt tt outcome
