use Rattle.walk_fate_laws.proofs.Rising.{ways_rise, first_is_least}
use Rattle.walk_fate_laws.proofs.games.first_is_least.Goals as goal

pub returns-clause-rise : goal.returns-clause-rise
returns-clause-rise c = λ start g depth ceiling st low. ways_rise g ceiling depth st low

pub returns-clause-least : goal.returns-clause-least
returns-clause-least c = λ start g exact test depth ceiling st end low points answers walk few passes.
    first_is_least g exact test depth ceiling st end low points answers walk few passes
