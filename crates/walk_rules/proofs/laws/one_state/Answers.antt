use Rattle.walk_rules.specs.Walks.{AnsweredBy}
use Rattle.walk_rules.proofs.Stilled.{leads_to_plain, walk_is_plain}
use Rattle.walk_rules.proofs.laws.one_state.Goals as goal

pub returns-clause-some : goal.returns-clause-some
returns-clause-some c = λ s hook bytes sound. leads_to_plain s sound hook bytes

pub returns-clause-plain : goal.returns-clause-plain
returns-clause-plain c = λ s hook bytes points outcome sound.
    walk_is_plain s sound (AnsweredBy (λ point. s)) (λ held. Unit {0}) (λ before now question answer point held told. (told, tt)) hook bytes points tt tt outcome tt
