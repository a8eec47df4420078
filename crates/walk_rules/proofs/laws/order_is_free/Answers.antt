use Rattle.walk_rules.proofs.OtherOrder.{answers_same, plain_same}
use Rattle.walk_rules.proofs.laws.order_is_free.Goals as goal

pub returns-clause-answer : goal.returns-clause-answer
returns-clause-answer c = answers_same

pub returns-clause-plain : goal.returns-clause-plain
returns-clause-plain c = plain_same
